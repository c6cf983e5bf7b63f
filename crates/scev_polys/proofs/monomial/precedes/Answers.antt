use Rattle.std.proofs.Common.{◌≡◌, ◌⊎◌, true, inl, inr, List, [], ◌∷◌, ◌++◌, Ordering, Less, Equal, Greater, refl}
use Rattle.std.proofs.Common.{sym, ap, ◌∙◌}
use Rattle.std.specs.Ordering.{MatchOrdering}
use Rattle.std.proofs.lemmas.List.{append-nil}
use Rattle.scev_base.specs.declared.ids.ExprId.{ExprId}
use Rattle.scev_tree.specs.Tree.{Atom, no_factors, factor}
use Rattle.scev_tree.specs.Order.{lower, atom_code, monomial_code}
use Rattle.scev_tree.proofs.Lower.{never_lower, never_both}
use Rattle.scev_arena.specs.Meaning.{meanings, atom_of, factors_at}
use Rattle.scev_polys.proofs.monomial.precedes.Goals as goal

-- what isn't less is equal or greater
not_less : (o : Ordering) (P Q R : Type 0) → MatchOrdering o P Q R → (o ≡ Less → ⊥) → Q ⊎ R
not_less Less P Q R h apart = absurd (apart refl)
not_less Equal P Q R h apart = inl h
not_less Greater P Q R h apart = inr h

-- monomials of one factor are in the order of their atoms
of_one_factor : (a b : Atom)
    → lower (monomial_code (factor a no_factors)) (monomial_code (factor b no_factors))
    ≡ lower (atom_code a) (atom_code b)
of_one_factor a b =
    ap (λ code. lower code (atom_code b ++ [])) (append-nil (atom_code a))
    ∙ ap (lower (atom_code a)) (append-nil (atom_code b))

pub returns-in_default : goal.returns-in_default
returns-in_default c =
    let m = meanings c.args.arena.now in
    let code = λ (id : ExprId). atom_code (atom_of c.args.arena.now id) in
    let less = λ (xs ys : List ExprId). lower (monomial_code (factors_at m xs)) (monomial_code (factors_at m ys)) in
    let x = c.args.x.now in
    let y = c.args.y.now in
    let xs = c.from_ref.result.now in
    let ys = c.from_ref-2.result.now in
    elim (not_less c.compare_monomials.result (less xs ys ≡ true) (xs ≡ ys) (less ys xs ≡ true)
    c.compare_monomials.ensures c.in_default.not-Less) [
      | inl e ↦
          let lists : x ∷ [] ≡ y ∷ [] = sym c.from_ref.ensures.value ∙ e ∙ c.from_ref-2.ensures.value in
          let one : x ≡ y = cc in
          sym (ap (λ id. lower (code x) (code id)) (sym one) ∙ never_lower (code x))
      | inr h ↦
          let back : less (y ∷ []) (x ∷ []) ≡ true =
          ap (less (y ∷ [])) (sym c.from_ref.ensures.value) ∙ ap (λ l. less l xs) (sym c.from_ref-2.ensures.value)
          ∙ h in
          sym (never_both (code y) (code x) (
          sym (of_one_factor (atom_of c.args.arena.now y) (atom_of c.args.arena.now x)) ∙ back
          ))
    ]
