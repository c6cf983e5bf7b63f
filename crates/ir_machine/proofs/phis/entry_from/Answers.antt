use Rattle.std.specs.Prelude.{◌≡◌, ℕ, ◌==◌, Bool, cond, nat_lt, List, length, find, Some, None, option_map}
use Rattle.std.specs.List.{position_or_len}
use Rattle.std.proofs.Common.{rules, tests, inl, inr, sym, ap, ◌∙◌}
use Rattle.std.proofs.lemmas.Bool.{eqb-true, ltb-false, cases_Bool}
use Rattle.std.proofs.lemmas.Iterator.{YieldsList-from_slice}
use Rattle.std.proofs.lemmas.Iterator.Search.{position_from_yields_List}
use Rattle.std.proofs.lemmas.List.Folds.{find_at}
use Rattle.std.proofs.lemmas.Option.{none-some, slice_get_past}
use Rattle.scev_base.specs.declared.ids.BlockId.{BlockId}
use Rattle.ir_model.specs.declared.op.PhiEntry.{PhiEntry}
use Rattle.ir_meaning.specs.Step.{entry_from}
use Rattle.ir_machine.proofs.phis.entry_from.Goals as goal

-- what has no first place isn't found
found_nowhere : {X : Type 0} (test : X → Bool) (xs : List X)
    → None ≡ cond (nat_lt (position_or_len test xs) (length xs)) (Some (position_or_len test xs)) None
    → find test xs ≡ None
found_nowhere test xs none =
    let at = position_or_len test xs in
    elim (cases_Bool (nat_lt at (length xs))) [
      | inl within ↦ absurd (none-some at (rw within at none))
      | inr past ↦ find_at test xs ∙ slice_get_past xs at (ltb-false at (length xs) past)
    ]

pub returns-then-eq-clause-found : goal.returns-then-eq-clause-found
returns-then-eq-clause-found c =
    let entry = c.in-Some.entry.now in
    let same : entry.from ≡ c.args.from =
    ap (λ (k : ℕ). record { 0 = k }) (eqb-true entry.from.0 c.args.from.0 (sym c.if-eq.ensures)) in
    let is : entry ≡ record { value = entry.value; from = c.args.from } =
    ap (λ (from : BlockId). record { value = entry.value; from = from }) same in
    let there = c.in-Some.ensures.lookup.3 in
    (c.args.first, there.0, sym (there.1 (record { value = entry.value; from = c.args.from })) ∙ is)

pub returns-in_err-at-clause-none : goal.returns-in_err-at-clause-none
returns-in_err-at-clause-none c =
    let entries = c.args.entries.now in
    let is_for = λ (entry : PhiEntry). entry.from.0 == c.args.from.0 in
    let at = position_from_yields_List is_for _ _ c.position.result c.position.ensures.ran
    (YieldsList-from_slice entries (cc)) (λ x b q k. search (rules, tests)) in
    let none : entry_from c.args.from.0 entries ≡ None =
    ap (option_map (λ (entry : PhiEntry). entry.value))
    (found_nowhere is_for entries (sym c.in_err-at.was ∙ at)) in
    rw c.from_residual.ensures none
