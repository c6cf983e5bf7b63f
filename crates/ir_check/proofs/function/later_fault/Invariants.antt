use Rattle.std.proofs.Common.{◌≡◌, drop}
use Rattle.ir_rules.specs.Rules.{broken, first_of}
use Rattle.ir_check.specs.Function.{later_rules}
use Rattle.ir_check.proofs.function.later_fault.Given as goal

abbrev pub invariant-loop-rule : goal.invariant-loop-rule
invariant-loop-rule l = (l.rule-items ≡ later_rules)
    × (first_of (broken l.callees l.f) (drop l.rule-index later_rules) ≡ first_of (broken l.callees l.f) later_rules)
