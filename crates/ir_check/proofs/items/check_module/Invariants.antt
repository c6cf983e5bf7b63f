use Rattle.std.proofs.Common.{◌≡◌, drop}
use Rattle.ir_rules.specs.Rules.{items_broken, first_of, item_rules, first_item_broken}
use Rattle.ir_check.proofs.items.check_module.Given as goal

abbrev pub invariant-loop-rule : goal.invariant-loop-rule
invariant-loop-rule l = (l.rule-items ≡ item_rules)
    × (first_of (items_broken l.m) (drop l.rule-index item_rules) ≡ first_item_broken l.m)
