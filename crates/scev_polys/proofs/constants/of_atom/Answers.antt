use Rattle.std.proofs.Common.{◌≡◌, ℕ, ◌≤◌, ◌==◌, if◌then◌else◌, List, [], ◌∷◌, ◌++◌, sym, ap, ◌∙◌, subst, arith}
use Rattle.std.proofs.Common.{mod-eq_of_lt}
use Rattle.std.proofs.lemmas.Nat.{pow_below}
use Rattle.scev_base.specs.declared.ids.ExprId.{ExprId}
use Rattle.scev_tree.specs.Tree.{polynomial}
use Rattle.poly_terms.specs.declared.term.Term.{Term}
use Rattle.scev_arena.specs.Meaning.{meanings, terms_at}
use Rattle.scev_arena.proofs.CanonicalPlaces.{arena_sound}
use Rattle.scev_polys.specs.Polynomials.{IsPolynomial, term_or_none}
use Rattle.scev_polys.proofs.constants.of_atom.Goals as goal
use Rattle.scev_polys.proofs.constants.of_atom.Goals.{After-from_vec}

-- the coefficient 1 isn't 0
one_of_it : (w : ℕ) (ids : List ExprId) → 1 ≤ w → term_or_none w ids 1 ≡ record { ids = ids; coefficient = 1 } ∷ []
one_of_it w ids some =
    let residue : ℕ → List Term = λ n. if n == 0 then [] else record { ids = ids; coefficient = n } ∷ [] in
    ap residue (mod-eq_of_lt (pow_below 0 w some))

-- what the result is
whole : (c : After-from_vec) → c.from_vec.result ≡ record { ids = c.args.id ∷ []; coefficient = 1 } ∷ []
whole c =
    c.from_vec.ensures
    ∙ c.in_ok-push_term.ensures
    ∙ ap (λ l. l ++ term_or_none c.args.w.bits (c.args.id ∷ []) 1) c.new-terms.ensures.items
    ∙ one_of_it c.args.w.bits (c.args.id ∷ []) c.args.w.at_least_one

pub returns-clause-atom : goal.returns-clause-atom
returns-clause-atom c = ap (λ l. polynomial c.args.w.bits (terms_at (meanings c.args.arena.now) l)) (whole c)

pub returns-clause-polynomial : goal.returns-clause-polynomial
returns-clause-polynomial c =
    let canonical = (arena_sound c.args.arena.now c.len.ensures.arena).atoms c.args.w.bits c.args.id c.requires in
    subst (IsPolynomial c.args.arena.now c.args.w.bits) (sym (whole c)) (record {
      over = ((c.requires, tt), tt);
      canonical = ((tt, tt), (canonical, tt), omega arith, pow_below 0 c.args.w.bits c.args.w.at_least_one, tt, tt);
    })
