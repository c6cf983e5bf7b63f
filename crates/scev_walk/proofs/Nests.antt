-- What is told of loops of a nest, as it is found.
use Rattle.std.proofs.Common.{◌≡◌, ℕ, zero, suc, ◌<◌, ◌≤◌, Bool, true, List, [], ◌∷◌, ◌++◌, length, get_or, drop}
use Rattle.std.proofs.Common.{Option, Some, None, refl, sym, ap, ◌∙◌, arith}
use Rattle.std.proofs.lemmas.Bool.Decides.{same_from_decides}
use Rattle.scev_base.specs.Nest.{Contains, HasDepth, IsNest}
use Rattle.scev_base.proofs.NestLemmas.{one_depth}
use Rattle.scev_forms.specs.Gather.{steps_out, depth_of, stands_in, deeper_of, deepest}
use Rattle.scev_forms.specs.Gather.{loops_of_factors, loops_of_terms}
use Rattle.scev_forms.proofs.Loops.{told_contains, contains_told, has_depth}
use Rattle.scev_tree.specs.declared.kind.Kind.TheVariants as kind
use Rattle.scev_tree.specs.Tree.{Factors, Atom, factor, atom}
use Rattle.scev_base.specs.declared.ids.ExprId.{ExprId}
use Rattle.poly_terms.specs.declared.term.Term.{Term}
use Rattle.scev_arena.specs.Meaning.{Meant, atom_at, factors_at, terms_at}
use Rattle.scev_arena.proofs.Places.{place_past}
use Rattle.scev_walk.specs.Reading.{loop_of_atom, deepest_with, deepest_before}

-- what holds exactly where the outer loop contains the inner one
pub found_inside : (parents : List (Option ℕ)) (outer inner : ℕ) (b : Bool) → IsNest parents → outer < length parents
    → (b ≡ true → Contains parents outer inner)
    → (Contains parents outer inner → b ≡ true)
    → b ≡ stands_in parents outer inner
found_inside parents outer inner b nest listed out back =
    same_from_decides b (stands_in parents outer inner) (out, back)
    (told_contains parents outer inner, contains_told parents outer inner nest listed)

pub found_depth : (parents : List (Option ℕ)) (l depth : ℕ) → IsNest parents → l < length parents
    → HasDepth parents l depth
    → depth ≡ depth_of parents l
found_depth parents l depth nest listed h =
    one_depth parents l depth (depth_of parents l) h (has_depth parents l nest listed)

no_steps : (parents : List (Option ℕ)) (most : ℕ) → steps_out parents most None ≡ 0
no_steps parents zero = refl
no_steps parents (suc most) = refl

-- a loop that isn't in the nest is in no other
pub depth_outside : (parents : List (Option ℕ)) (l : ℕ) → length parents ≤ l → 1 ≡ depth_of parents l
depth_outside parents l past = rw (place_past parents l past) (ap suc (sym (no_steps parents (length parents))))

-- ---- the deepest loop

-- one factor more
factor_more : (parents : List (Option ℕ)) (a : Atom) (f : Factors) (behind : Option ℕ)
    → deepest_before parents (loops_of_factors (factor a f)) behind
    ≡ deepest_with parents (loop_of_atom a) (deepest_before parents (loops_of_factors f) behind)
factor_more parents (atom kind.Trunc w parts) f behind = refl
factor_more parents (atom kind.Zext w parts) f behind = refl
factor_more parents (atom kind.Sext w parts) f behind = refl
factor_more parents (atom kind.Udiv w parts) f behind = refl
factor_more parents (atom kind.Smax w parts) f behind = refl
factor_more parents (atom kind.Umax w parts) f behind = refl
factor_more parents (atom kind.Smin w parts) f behind = refl
factor_more parents (atom kind.Umin w parts) f behind = refl
factor_more parents (atom kind.Seq w parts) f behind = refl
factor_more parents (atom (kind.Rec loop) w parts) f behind = refl
factor_more parents (atom (kind.Leaf register loop) w parts) f behind = refl

-- the loops of one monomial more
loops_more : (parents : List (Option ℕ)) (loops others : List ℕ)
    → deepest parents (loops ++ others) ≡ deepest_before parents loops (deepest parents others)
loops_more parents [] others = refl
loops_more parents (l ∷ loops) others =
    ap (λ behind. Some (deeper_of parents l behind)) (loops_more parents loops others)

-- the loops from a monomial on
pub terms_from : (parents : List (Option ℕ)) (meant : List Meant) (ts : List Term) (at : ℕ) (d t : Term)
    → at < length ts
    → t ≡ get_or ts at d
    → deepest parents (loops_of_terms (terms_at meant (drop at ts)))
    ≡ deepest_before parents (loops_of_factors (factors_at meant t.ids))
    (deepest parents (loops_of_terms (terms_at meant (drop (suc at) ts))))
terms_from parents meant [] at d t within e = absurd (omega arith)
terms_from parents meant (s ∷ ts) zero d t within e =
    ap (λ (u : Term). deepest parents (loops_of_factors (factors_at meant u.ids) ++ loops_of_terms (terms_at meant ts)))
    (sym e)
    ∙ loops_more parents (loops_of_factors (factors_at meant t.ids)) (loops_of_terms (terms_at meant ts))
terms_from parents meant (s ∷ ts) (suc at) d t within e = terms_from parents meant ts at d t (omega arith) e

-- the loops from a factor on
pub factors_from : (parents : List (Option ℕ)) (meant : List Meant) (ids : List ExprId) (at : ℕ) (d id : ExprId)
    (behind : Option ℕ)
    → at < length ids
    → id ≡ get_or ids at d
    → deepest_before parents (loops_of_factors (factors_at meant (drop at ids))) behind
    ≡ deepest_with parents (loop_of_atom (atom_at meant id))
    (deepest_before parents (loops_of_factors (factors_at meant (drop (suc at) ids))) behind)
factors_from parents meant [] at d id behind within e = absurd (omega arith)
factors_from parents meant (x ∷ ids) zero d id behind within e =
    factor_more parents (atom_at meant x) (factors_at meant ids) behind
    ∙ ap (λ (y : ExprId). deepest_with parents (loop_of_atom (atom_at meant y))
    (deepest_before parents (loops_of_factors (factors_at meant ids)) behind)) (sym e)
factors_from parents meant (x ∷ ids) (suc at) d id behind within e =
    factors_from parents meant ids at d id behind (omega arith) e
