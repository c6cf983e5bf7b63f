use Rattle.std.proofs.Common.{Option, None, get_or, ap, ◌∙◌, unwrap_or}
use Rattle.std.proofs.lemmas.Option.{unwrap_or-slice_get}
use Rattle.scev_base.specs.declared.ids.LoopId.{LoopId}
use Rattle.natural_loops.specs.Table.{TableParts}
use Rattle.natural_loops.proofs.table.LoopTable.innermost.Goals as goal

pub returns-in-None : goal.returns-in-None
returns-in-None c =
    ap (λ (found : Option (Option LoopId)). unwrap_or found None) c.in-None.ensures.value
    ∙ unwrap_or-slice_get c.self.inside.innermost c.args.b.0 None
    ∙ ap (λ (table : TableParts). get_or table.innermost c.args.b.0 None) c.self.view_is
