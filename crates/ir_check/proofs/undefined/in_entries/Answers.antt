use Rattle.std.proofs.Common.{rules, sym, ◌∙◌}
use Rattle.ir_model.specs.Sites.{entry_sites}
use Rattle.ir_check.proofs.UndefinedSites.{at_end}
use Rattle.ir_check.proofs.undefined.in_entries.Goals as goal

pub returns : goal.returns
returns c =
    sym (at_end entry_sites c.args.entries.now c.loop-entry.entry-index c.args.scope.now (search rules))
    ∙ c.loop-entry.invariant
