use Rattle.std.proofs.Common.{◌≡◌, take, fold, map}
use Rattle.ir_model.specs.declared.op.Case.{Case}
use Rattle.ir_model.specs.Sites.{UsesBlock}
use Rattle.ir_printer.specs.Counting.{counted}
use Rattle.ir_printer.proofs.walk.walk_cases.Given as goal

abbrev pub invariant-loop-case : goal.invariant-loop-case
invariant-loop-case l = l.numbers
    ≡ fold (counted l.uses) l.initial.numbers (map (λ (c : Case). UsesBlock c.to.0) (take l.case-index l.cases))
