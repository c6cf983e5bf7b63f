-- Monomials apart in the recurrences of a loop and the rest, and terms in those that join and those that stay.
use Rattle.std.proofs.Common.{if◌then◌else◌, ◌≡◌, ℕ, ◌<◌, true, false, List, [], ◌∷◌, map, Option, Some}
use Rattle.std.proofs.Common.{refl, sym, ap, ◌∙◌}
use Rattle.std.proofs.lemmas.Bool.{cond_both, eqb-true}
use Rattle.std.proofs.lemmas.Nat.{pow_below}
use Rattle.scev_base.specs.Iterated.{iterated}
use Rattle.scev_tree.specs.declared.kind.Kind.{Kind}
use Rattle.scev_tree.specs.declared.kind.Kind.TheVariants as kind
use Rattle.scev_tree.specs.Tree.{Tree, Terms, Factors, Atom, Parts, no_terms, term, no_factors, factor, atom}
use Rattle.scev_tree.specs.Tree.{no_parts, part, trees_of}
use Rattle.scev_tree.specs.Canonical.{AreFrom, Ascend, IsBefore, AreCanonicalTerms, AreCanonicalFactors}
use Rattle.scev_tree.specs.Canonical.{IsCanonicalAtom}
use Rattle.scev_tree.specs.Value.{sum, product, tree_value, terms_value, factors_value, atom_value}
use Rattle.scev_tree.proofs.Arithmetic.{sum_assoc, sum_left_comm, product_assoc, product_left_comm, one_times}
use Rattle.scev_tree.proofs.Values.{terms_below}
use Rattle.scev_forms.specs.Trees.{AreTreesOf}
use Rattle.scev_forms.specs.Gather.{is_rec_of, joins, joining, staying, recs_of, rest_of}
use Rattle.scev_forms.proofs.Kept.{plus_zero}
use Rattle.scev_forms.proofs.Flat.{parts_are_trees, values_of_parts}
use Rattle.scev_forms.proofs.Standing.{parts_value}

-- ---- the factors that are no recurrences of the loop

-- they aren't lower than what none is lower than
rest_from : (l : ℕ) (a : Atom) (f : Factors) → AreFrom a f → AreFrom a (rest_of l f)
rest_from l a no_factors h = tt
rest_from l a (factor b f) h =
    cond_both (is_rec_of l b) (rest_of l f) (factor b (rest_of l f)) (AreFrom a)
    (λ _. rest_from l a f h.1)
    (λ _. (h.0, rest_from l a f h.1))

-- they ascend
pub rest_ascends : (l : ℕ) (f : Factors) → Ascend f → Ascend (rest_of l f)
rest_ascends l no_factors h = tt
rest_ascends l (factor b f) h =
    cond_both (is_rec_of l b) (rest_of l f) (factor b (rest_of l f)) Ascend
    (λ _. rest_ascends l f h.1)
    (λ _. (rest_from l b f h.0, rest_ascends l f h.1))

-- they are canonical
pub rest_canonical : (w l : ℕ) (f : Factors) → AreCanonicalFactors w f → AreCanonicalFactors w (rest_of l f)
rest_canonical w l no_factors h = tt
rest_canonical w l (factor b f) h =
    cond_both (is_rec_of l b) (rest_of l f) (factor b (rest_of l f)) (AreCanonicalFactors w)
    (λ _. rest_canonical w l f h.1)
    (λ _. (h.0, rest_canonical w l f h.1))

-- ---- the recurrences of the loop

-- each has canonical trees of w bits as its parts
abbrev pub AreRecs : ℕ → List (List Tree) → Type 0
AreRecs w [] = Unit {0}
AreRecs w (rec ∷ recs) = AreTreesOf w rec × AreRecs w recs

-- the parts of a recurrence
rec_parts : (w l : ℕ) (k : Kind) (v : ℕ) (parts : Parts)
    → is_rec_of l (atom k v parts) ≡ true
    → IsCanonicalAtom w (atom k v parts)
    → AreTreesOf w (trees_of parts)
rec_parts w l (kind.Rec loop) v parts is h = parts_are_trees w parts h.1.1 h.2
rec_parts w l _ v parts is h = absurd cc

-- all of a canonical monomial
pub recs_canonical : (w l : ℕ) (f : Factors) → AreCanonicalFactors w f → AreRecs w (recs_of l f)
recs_canonical w l no_factors h = tt
recs_canonical w l (factor (atom k v parts) f) h =
    cond_both (is_rec_of l (atom k v parts)) (trees_of parts ∷ recs_of l f) (recs_of l f) (AreRecs w)
    (λ is. (rec_parts w l k v parts is h.0, recs_canonical w l f h.1))
    (λ _. recs_canonical w l f h.1)

-- ---- the terms that join, and those that stay

-- what stands before all terms stands before those that join
joining_behind : (parents : List (Option ℕ)) (l : ℕ) (f : Factors) (ts : Terms)
    → IsBefore f ts
    → IsBefore f (joining parents l ts)
joining_behind parents l f no_terms h = tt
joining_behind parents l f (term g n ts) h =
    cond_both (joins parents l g) (term g n (joining parents l ts)) (joining parents l ts) (IsBefore f)
    (λ _. (h.0, joining_behind parents l f ts h.1))
    (λ _. joining_behind parents l f ts h.1)

-- and before those that stay
staying_behind : (parents : List (Option ℕ)) (l : ℕ) (f : Factors) (ts : Terms)
    → IsBefore f ts
    → IsBefore f (staying parents l ts)
staying_behind parents l f no_terms h = tt
staying_behind parents l f (term g n ts) h =
    cond_both (joins parents l g) (staying parents l ts) (term g n (staying parents l ts)) (IsBefore f)
    (λ _. staying_behind parents l f ts h.1)
    (λ _. (h.0, staying_behind parents l f ts h.1))

-- the terms that join are canonical
pub joining_canonical : (parents : List (Option ℕ)) (w l : ℕ) (ts : Terms)
    → AreCanonicalTerms w ts
    → AreCanonicalTerms w (joining parents l ts)
joining_canonical parents w l no_terms h = tt
joining_canonical parents w l (term g n ts) h =
    cond_both (joins parents l g) (term g n (joining parents l ts)) (joining parents l ts) (AreCanonicalTerms w)
    (λ _. (h.0, h.1, h.2, h.3, joining_behind parents l g ts h.4, joining_canonical parents w l ts h.5))
    (λ _. joining_canonical parents w l ts h.5)

-- so are those that stay
pub staying_canonical : (parents : List (Option ℕ)) (w l : ℕ) (ts : Terms)
    → AreCanonicalTerms w ts
    → AreCanonicalTerms w (staying parents l ts)
staying_canonical parents w l no_terms h = tt
staying_canonical parents w l (term g n ts) h =
    cond_both (joins parents l g) (staying parents l ts) (term g n (staying parents l ts)) (AreCanonicalTerms w)
    (λ _. staying_canonical parents w l ts h.5)
    (λ _. (h.0, h.1, h.2, h.3, staying_behind parents l g ts h.4, staying_canonical parents w l ts h.5))

-- ---- values

module _ (held : ℕ → Option ℕ) (turns : ℕ → ℕ) (w : ℕ) where
  -- the product of the values of recurrences
  abbrev pub recs_value : ℕ → List (List Tree) → Option ℕ
  recs_value l [] = Some 1
  recs_value l (rec ∷ recs) = product w (parts_value held turns w l rec) (recs_value l recs)

  -- the value of a recurrence of the loop is that of its parts
  rec_value : (l : ℕ) (k : Kind) (v : ℕ) (parts : Parts)
      → is_rec_of l (atom k v parts) ≡ true
      → v ≡ w
      → atom_value held turns (atom k v parts) ≡ parts_value held turns w l (trees_of parts)
  rec_value l (kind.Rec loop) v no_parts is e = refl
  rec_value l (kind.Rec loop) v (part tree parts) is e =
      let first = tree_value held turns tree in
      let others = map (tree_value held turns) (trees_of parts) in
      let same : loop.0 ≡ l = eqb-true loop.0 l is in
      ap (iterated (sum v) (turns loop.0) first) (values_of_parts held turns parts)
      ∙ ap (λ u. iterated (sum u) (turns loop.0) first others) e
      ∙ ap (λ m. iterated (sum w) (turns m) first others) same
  rec_value l _ v parts is e = absurd cc

  -- The value of a monomial is that of the rest times that of its recurrences of the loop.
  pub factors_apart_value : (l : ℕ) (f : Factors)
      → 0 < w
      → AreCanonicalFactors w f
      → factors_value held turns w f
      ≡ product w (factors_value held turns w (rest_of l f)) (recs_value l (recs_of l f))
  factors_apart_value l no_factors some h = sym (one_times w (Some 1) (pow_below 0 w some))
  factors_apart_value l (factor (atom k v parts) f) some h =
      let a = atom k v parts in
      let value = atom_value held turns a in
      let rest = factors_value held turns w (rest_of l f) in
      let recs = recs_value l (recs_of l f) in
      let further = ap (product w value) (factors_apart_value l f some h.1) in
      elim (is_rec_of l a) as (λ b. is_rec_of l a ≡ b → factors_value held turns w (factor a f)
      ≡ product w (factors_value held turns w (if b then rest_of l f else factor a (rest_of l f)))
      (recs_value l (if b then trees_of parts ∷ recs_of l f else recs_of l f))) [
        | true ↦ λ is.
            further ∙ product_left_comm w value rest recs
            ∙ ap (λ x. product w rest (product w x recs)) (rec_value l k v parts is h.0.0)
        | false ↦ λ _. further ∙ sym (product_assoc w value rest recs)
      ] refl

  -- The value of terms is the sum of that of those that join and of those that stay.
  pub terms_apart_value : (parents : List (Option ℕ)) (l : ℕ) (ts : Terms)
      → terms_value held turns w ts
      ≡ sum w (terms_value held turns w (joining parents l ts)) (terms_value held turns w (staying parents l ts))
  terms_apart_value parents l no_terms = sym (plus_zero w (Some 0) (terms_below held turns w no_terms))
  terms_apart_value parents l (term f n ts) =
      let value = product w (factors_value held turns w f) (Some n) in
      let joined = terms_value held turns w (joining parents l ts) in
      let others = terms_value held turns w (staying parents l ts) in
      let further = ap (sum w value) (terms_apart_value parents l ts) in
      elim (joins parents l f) as (λ b. terms_value held turns w (term f n ts)
      ≡ sum w (terms_value held turns w (if b then term f n (joining parents l ts) else joining parents l ts))
      (terms_value held turns w (if b then staying parents l ts else term f n (staying parents l ts)))) [
        | true ↦ further ∙ sym (sum_assoc w value joined others)
        | false ↦ further ∙ sum_left_comm w value joined others
      ]
