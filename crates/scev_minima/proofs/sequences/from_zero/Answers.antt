use Rattle.std.proofs.Common.{get_or, sym, ap, ◌∙◌, subst, length, ◌≤◌}
use Rattle.scev_base.specs.declared.ids.ExprId.{ExprId}
use Rattle.scev_minima.proofs.FromZero.{zero_alone, found_number}
use Rattle.scev_minima.proofs.sequences.from_zero.Goals as goal

pub returns-in_ok-from_slice-in-len1-up : goal.returns-in_ok-from_slice-in-len1-up
returns-in_ok-from_slice-in-len1-up c =
    let read = c.as_slice.result.now in
    let same = c.as_slice.ensures.value in
    let none : ExprId = record { 0 = 0 } in
    let zero = found_number c.number_of.result 0 (sym c.if-eq.ensures) in
    zero_alone c.args.arena.now c.args.w.bits c.args.parts.items none (get_or read 0 none)
    c.in_ok-from_slice-in-len1-up.field-0.items c.len.ensures.arena c.requires
    (subst (λ l. 1 ≤ length l) same c.in-len1-up.len_at_least) (ap (λ l. get_or l 0 none) same)
    c.in_ok-from_slice-in-len1-up.ensures.items (sym c.number_of.ensures ∙ zero)
