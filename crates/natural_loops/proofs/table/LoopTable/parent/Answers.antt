use Rattle.std.proofs.Common.{ℕ, List, Option, None, get_or, ap, ◌∙◌, unwrap_or}
use Rattle.std.proofs.lemmas.Option.{unwrap_or-slice_get}
use Rattle.natural_loops.specs.Table.{TableParts}
use Rattle.natural_loops.proofs.table.LoopTable.parent.Goals as goal

pub returns-in-None : goal.returns-in-None
returns-in-None c =
    ap (λ (found : Option (Option ℕ)). unwrap_or found None) c.in-None.ensures.value
    ∙ unwrap_or-slice_get c.self.inside.parents c.args.l.0 None
    ∙ ap (λ (parents : List (Option ℕ)). get_or parents c.args.l.0 None) c.self.invariant.1
    ∙ ap (λ (table : TableParts). get_or table.parents c.args.l.0 None) c.self.view_is
