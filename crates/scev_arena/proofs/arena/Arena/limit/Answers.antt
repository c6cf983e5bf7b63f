use Rattle.std.proofs.Common.{sym, ap, ◌∙◌, subst}
use Rattle.indexmap.specs.IndexMap.{keys}
use Rattle.scev_arena.specs.Limits.{first_limit}
use Rattle.scev_arena.specs.Meaning.{tree_of}
use Rattle.scev_arena.specs.Standing.{IsTreeAt}
use Rattle.scev_arena.proofs.LimitsMeasured.{limit_at}
use Rattle.scev_arena.proofs.arena.Arena.limit.Goals as goal

pub returns : goal.returns
returns c =
    c.limit.ensures
    ∙ limit_at (keys c.self.inside.nodes) c.as_slice.result.now c.args.id c.self.invariant.0
    (c.as_slice.ensures ∙ c.values.ensures.rest ∙ c.self.invariant.1)
    (subst (λ l. IsTreeAt l c.args.id) (sym c.self.view_is) c.requires)
    ∙ ap (λ l. first_limit (tree_of l c.args.id)) c.self.view_is
