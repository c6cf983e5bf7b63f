use Rattle.std.proofs.Common.{drop}
use Rattle.scev_arena.specs.Meaning.{meanings, factors_at, terms_at}
use Rattle.scev_forms.specs.Polynomials.{terms_multiple}
use Rattle.scev_polys.proofs.Turns.{IsRowing}
use Rattle.scev_polys.proofs.products.row.Given as goal

abbrev pub invariant-loop-t : goal.invariant-loop-t
invariant-loop-t l =
    IsRowing l.arena l.w.bits
    (terms_multiple l.w.bits (factors_at (meanings l.arena) l.s.ids) l.s.coefficient
    (terms_at (meanings l.arena) l.right))
    l.s l.terms.items (drop l.t-index l.right)
