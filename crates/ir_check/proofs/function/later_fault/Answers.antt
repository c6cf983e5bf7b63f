use Rattle.std.proofs.Common.{arith, ◌≡◌, ◌+◌, suc, refl, sym, ◌∙◌}
use Rattle.std.proofs.lemmas.Option.{slice_get-get_or}
use Rattle.ir_rules.specs.Rules.{broken}
use Rattle.ir_check.specs.Function.{later_rules}
use Rattle.ir_check.proofs.LaterRules.{rule_passed}
use Rattle.ir_check.proofs.function.later_fault.Goals as goal

pub loop-rule-preserved : goal.loop-rule-preserved
loop-rule-preserved c =
    let next : c.loop-rule.rule-index + 1 ≡ suc c.loop-rule.rule-index = omega arith in
    let there = slice_get-get_or later_rules c.loop-rule.rule-index _ c.loop-rule-test.true in
    let none = sym c.in_ok-place.ensures ∙ c.in-None.is in
    let passed = rule_passed (broken c.args.callees.now c.args.f.now) later_rules c.loop-rule.rule-index _ there none in
    (refl, rw next (passed ∙ c.loop-rule.invariant.1))
