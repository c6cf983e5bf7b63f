use Rattle.std.proofs.Common.{◌≡◌, List, Some, Ok, Err, slice_get, IfOk}
use Rattle.std.specs.declared.result.Result.{Result}
use Rattle.scev_base.specs.declared.ids.ExprId.{ExprId}
use Rattle.scev_base.specs.declared.width.Width.{Width}
use Rattle.scev_tree.specs.Tree.{polynomial}
use Rattle.poly_terms.specs.declared.term.Term.{Term}
use Rattle.scev_arena.specs.declared.node.Node.{Node}
use Rattle.scev_arena.specs.declared.node.Node.TheVariants as node
use Rattle.scev_arena.specs.Meaning.{meanings, terms_at}
use Rattle.scev_arena.specs.Standing.{IsArena, IsGrown}
use Rattle.scev_sums.specs.Answers.{IsAt}
use Rattle.scev_sums.proofs.Interned.{interned_tree}
use Rattle.scev_sums.proofs.tested.tree_of_terms.Goals as goal

tree_there : {E : Type 0} (old new : List Node) (w : Width) (terms : List Term) (result : Result ExprId E)
    → IsArena new
    → IfOk result (λ id. slice_get new id.0 ≡ Some (node.Tree w terms))
    → IfOk result (λ id. IsGrown old (node.Tree w terms) new id)
    → IfOk result (λ id. IsAt new w.bits id (polynomial w.bits (terms_at (meanings old) terms)))
tree_there old new w terms (Ok id) arena there grown = interned_tree old new w terms id arena there grown
tree_there old new w terms (Err error) arena there grown = tt

pub returns-clause-tree : goal.returns-clause-tree
returns-clause-tree c =
    tree_there c.args.arena.now c.intern.new.self c.args.w c.args.terms c.intern.result
    c.intern.ensures.arena c.intern.ensures.place c.intern.ensures.grows
