use Rattle.std.proofs.Common.{sym, ap, subst, ◌∙◌}
use Rattle.scev_tree.specs.Tree.{polynomial}
use Rattle.scev_arena.specs.Meaning.{meanings, terms_at}
use Rattle.scev_polys.specs.Polynomials.{IsPolynomial}
use Rattle.scev_sums.proofs.Nodes.{terms_are, terms_polynomial}
use Rattle.scev_sums.proofs.gather.terms_of.Goals as goal

pub returns-in-Tree-clause-terms : goal.returns-in-Tree-clause-terms
returns-in-Tree-clause-terms c =
    terms_are c.args.arena.now c.args.id c.node.result.now c.node.ensures.arena c.node.ensures.node c.args.w.bits
    c.requires.1 c.in-Tree.width c.in-Tree.terms c.in-Tree.is
    ∙ ap (λ ts. polynomial c.args.w.bits (terms_at (meanings c.args.arena.now) ts)) (sym c.as_slice.ensures)

pub returns-in-Tree-clause-polynomial : goal.returns-in-Tree-clause-polynomial
returns-in-Tree-clause-polynomial c =
    subst (IsPolynomial c.args.arena.now c.args.w.bits) (sym c.as_slice.ensures)
    (terms_polynomial c.args.arena.now c.args.id c.node.result.now c.node.ensures.arena c.node.ensures.node
    c.args.w.bits c.requires.1 c.in-Tree.width c.in-Tree.terms c.in-Tree.is)
