use Rattle.std.proofs.Common.{rules, arith, ◌≡◌, ◌+◌, ◌<◌, ◌==◌, [], ◌∷◌, ◌++◌, length, take, drop, true, false, min}
use Rattle.std.proofs.Common.{sym, ap, ◌∙◌, take-append-drop}
use Rattle.std.specs.List.{list_any}
use Rattle.std.proofs.lemmas.List.{take_more}
use Rattle.std.proofs.lemmas.Bool.{not-true, not-false}
use Rattle.std.proofs.lemmas.Int.{to_z-of_z}
use mir.Syntax.{w128}
use Rattle.scev_base.specs.Residue.{residue}
use Rattle.ir_model.specs.declared.op.Case.{Case}
use Rattle.ir_rules.specs.Types.{width_of}
use Rattle.ir_check.proofs.CasesDiffer.{Fit, seen_more, seen_twice, seen_none}
use Rattle.ir_check.proofs.cases.differ.Goals as goal

pub loop-case-init : goal.loop-case-init
loop-case-init c = rw c.new-seen.ensures.empty (seen_none (width_of c.args.kind.now))

pub loop-case-preserved : goal.loop-case-preserved
loop-case-preserved c =
    let cases = c.args.cases.now in
    let i = c.loop-case.case-index in
    let one = c.case-item.result in
    let w = width_of c.args.kind.now in
    let fit : Fit one = search rules in
    let within : i < length cases = omega arith in
    let step : take (i + 1) cases ≡ take i cases ++ one ∷ [] =
    take_more cases i one within ∙ ap (λ (q : Case). take i cases ++ q ∷ []) (sym c.case-item.is) in
    let low : c.low_bits.result ≡ residue (min w 128) one.number =
    c.low_bits.ensures ∙ ap (residue (min w 128)) (to_z-of_z w128 one.number fit) in
    let new : list_any (λ n. c.low_bits.result == n) c.loop-case.seen.keys ≡ false =
    not-true _ (sym c.in_ok-is_new.ensures.added ∙ c.if-not-is_new.false) in
    rw (step, c.in_ok-is_new.ensures.keys, new)
    (seen_more w (take i cases) c.loop-case.seen.keys one c.low_bits.result c.loop-case.invariant fit low new)

pub returns-then-not-is_new : goal.returns-then-not-is_new
returns-then-not-is_new c =
    let cases = c.args.cases.now in
    let i = c.loop-case.case-index in
    let one = c.case-item.result in
    let w = width_of c.args.kind.now in
    let fit : Fit one = search rules in
    let within : i < length cases = omega arith in
    let step : take (i + 1) cases ≡ take i cases ++ one ∷ [] =
    take_more cases i one within ∙ ap (λ (q : Case). take i cases ++ q ∷ []) (sym c.case-item.is) in
    let low : c.low_bits.result ≡ residue (min w 128) one.number =
    c.low_bits.ensures ∙ ap (residue (min w 128)) (to_z-of_z w128 one.number fit) in
    let known : list_any (λ n. c.low_bits.result == n) c.loop-case.seen.keys ≡ true =
    not-false _ (sym c.in_ok-is_new.ensures.added ∙ c.if-not-is_new.true) in
    rw (← take-append-drop (i + 1) cases, step)
    (sym (seen_twice w (take i cases) (drop (i + 1) cases) c.loop-case.seen.keys one c.low_bits.result
    c.loop-case.invariant fit low known))
