use Rattle.std.proofs.Common.{◌≡◌, ℕ, ◌==◌, List, [], ◌∷◌, length, refl, sym, ap, ◌∙◌}
use Rattle.scev_tree.specs.Tree.{polynomial, width_of}
use Rattle.poly_terms.specs.declared.term.Term.{Term}
use Rattle.scev_arena.specs.Meaning.{Meant, meanings, terms_at, tree_of}
use Rattle.scev_forms.specs.Gather.{is_zero}
use Rattle.scev_sums.proofs.Held.{tree_read}
use Rattle.scev_sums.proofs.Ones.{not_none}
use Rattle.scev_sums.proofs.parts.is_zero.Goals as goal

no_terms_told : (meant : List Meant) (w : ℕ) (terms : List Term)
    → (length terms == 0) ≡ is_zero (polynomial w (terms_at meant terms))
no_terms_told meant w [] = refl
no_terms_told meant w (t ∷ terms) = not_none (length terms)

pub returns-in-Tree : goal.returns-in-Tree
returns-in-Tree c =
    let nodes = c.args.arena.now in
    let w = width_of (tree_of nodes c.args.id) in
    let tree = tree_read nodes w c.args.id c.node.result.now c.in-Tree.width c.in-Tree.terms c.as_slice.result.now
    c.node.ensures.arena (c.requires, refl) c.node.ensures.node c.in-Tree.is c.as_slice.ensures in
    c.is_empty.ensures ∙ no_terms_told (meanings nodes) w c.as_slice.result.now ∙ ap is_zero (sym tree)
