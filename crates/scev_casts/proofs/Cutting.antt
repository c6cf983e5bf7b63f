-- How terms, factors and parts are cut one after another, over the places of an arena.
use Rattle.std.proofs.Common.{◌≡◌, ℕ, ◌%◌, ◌^◌, ◌==◌, Bool, true, false, cond, List, [], ◌∷◌, ◌++◌, map, Option}
use Rattle.std.proofs.Common.{Result, refl, sym, ap, ◌∙◌, subst, append_assoc}
use Rattle.std.proofs.lemmas.Bool.{ne_eqb}
use Rattle.std.proofs.lemmas.List.{append-nil, map-append}
use Rattle.scev_base.specs.declared.ids.ExprId.{ExprId}
use Rattle.scev_tree.specs.Tree.{Tree, Terms, Factors, Parts, polynomial, term, part, constant, parts_of, width_of}
use Rattle.poly_terms.specs.declared.term.Term.{Term}
use Rattle.scev_arena.specs.declared.node.Node.{Node}
use Rattle.scev_arena.specs.Meaning.{meanings, terms_at, factors_at, tree_of, atom_of}
use Rattle.scev_arena.specs.Standing.{IsAtomAt, AreAtoms}
use Rattle.scev_arena.proofs.PlacesStay.{atom_stays}
use Rattle.scev_arena.proofs.WellMade.{atom_within}
use Rattle.scev_forms.specs.Outcome.{Outcome, Done, Refused, next}
use Rattle.scev_forms.specs.Sums.{tree_sum, tree_product}
use Rattle.scev_forms.specs.Casts.{truncated, truncated_terms, truncated_factors, truncated_atom, truncated_parts}
use Rattle.scev_sums.specs.declared.error.FoldError.{FoldError}
use Rattle.scev_sums.specs.Answers.{GoesOn, IsAt, IsTreeOfAt, AreTreesOfAt, Tells, trees_at}
use Rattle.scev_sums.proofs.Growth.{goes_on_again, same_tree_goes_on, same_trees_go_on}
use Rattle.scev_sums.proofs.Growth.{same_factors_go_on}
use Rattle.scev_sums.proofs.Placing.{more_held}
use Rattle.scev_sums.proofs.Refusals.{LeadsOn, led_on}
use Rattle.scev_sums.proofs.Telling.{told_same}
use Rattle.scev_casts.specs.Steps.{monomial_cut}

-- ---- outcomes

-- one step behind two is one behind the second, behind the first
pub next_both : {A B C : Type 0} (o : Outcome A) (f : A → Outcome B) (g : B → Outcome C)
    → next (next o f) g ≡ next o (λ a. next (f a) g)
next_both (Done a) f g = refl
next_both (Refused why) f g = refl

-- a step behind a choice of nothing to do is the step alone, or comes behind what is to do
next_choice : {A B C : Type 0} (b : Bool) (x : A) (o : Outcome B) (f : B → Outcome A) (g : A → Outcome C)
    → next (cond b (Done x) (next o f)) g ≡ cond b (g x) (next o (λ a. next (f a) g))
next_choice true x o f g = refl
next_choice false x o f g = next_both o f g

-- items that are put before what comes next
pub before_next : {A : Type 0} (o : Outcome A) (p : Outcome (List A)) (before : List A)
    → next o (λ x. next p (λ others. Done (before ++ x ∷ others)))
    ≡ next (next o (λ x. next p (λ others. Done (x ∷ others)))) (λ all. Done (before ++ all))
before_next (Done x) (Done others) before = refl
before_next (Done x) (Refused why) before = refl
before_next (Refused why) p before = refl

-- one item more before what comes next
pub one_before : {A : Type 0} (p : Outcome (List A)) (before all : List A) (x : A)
    → all ≡ before ++ x ∷ []
    → next p (λ others. Done (all ++ others)) ≡ next p (λ others. Done (before ++ x ∷ others))
one_before (Done others) before all x e = ap (λ l. Done (l ++ others)) e ∙ ap Done (append_assoc before (x ∷ []) others)
one_before (Refused why) before all x e = refl

-- ---- one tree

module _ (parents : List (Option ℕ)) (w : ℕ) where
  -- a tree of the same width is itself
  pub same_width : (tree : Tree) {b : Bool} → b ≡ (width_of tree == w) → b ≡ true
      → truncated parents w tree ≡ Done tree
  unfolding truncated truncated_terms truncated_factors truncated_atom truncated_parts
  same_width (polynomial v ts) test is =
      ap (λ x. cond x (Done (polynomial v ts)) (truncated_terms parents w ts (constant w 0))) (sym test ∙ is)

  -- one of another width is cut
  pub other_width : {tree : Tree} {v : ℕ} {ts : Terms} {b : Bool} → tree ≡ polynomial v ts
      → b ≡ (width_of tree == w)
      → b ≡ false
      → truncated_terms parents w ts (constant w 0) ≡ truncated parents w tree
  unfolding truncated truncated_terms truncated_factors truncated_atom truncated_parts
  other_width {v = v} {ts = ts} same test is =
      sym (ap (λ x. cond x (Done (polynomial v ts)) (truncated_terms parents w ts (constant w 0)))
      (sym (ap (λ t. width_of t == w) same) ∙ sym test ∙ is))
      ∙ sym (ap (truncated parents w) same)

  one_term : (f : Factors) (n : ℕ) (ts : Terms) (sum : Tree)
      → next (monomial_cut parents w f n sum) (truncated_terms parents w ts)
      ≡ truncated_terms parents w (term f n ts) sum
  unfolding truncated truncated_terms truncated_factors truncated_atom truncated_parts
  one_term f n ts sum =
      next_choice (n % 2 ^ w == 0) sum (truncated_factors parents w f (constant w n)) (tree_sum parents w sum)
      (truncated_terms parents w ts)

  one_part : (tree : Tree) (parts : Parts) (before : List Tree)
      → next (truncated parents w tree)
      (λ x. next (truncated_parts parents w parts) (λ others. Done (before ++ x ∷ others)))
      ≡ next (truncated_parts parents w (part tree parts)) (λ all. Done (before ++ all))
  unfolding truncated truncated_terms truncated_factors truncated_atom truncated_parts
  one_part tree parts before = before_next (truncated parents w tree) (truncated_parts parents w parts) before

-- a sum of trees of w bits, as it is told of the width of the first one
pub sum_told : (parents : List (Option ℕ)) {w v : ℕ} (new : List Node) (left right : Tree) {whole : Outcome Tree}
    (result : Result ExprId FoldError)
    → v ≡ w
    → tree_sum parents w left right ≡ whole
    → Tells (IsAt new v) (tree_sum parents v left right) result
    → Tells (IsAt new w) whole result
sum_told parents {w} new left right {whole} result e same told =
    told_same (IsAt new w) (tree_sum parents w left right) whole result same
    (subst (λ u. Tells (IsAt new u) (tree_sum parents u left right) result) e told)

pub product_told : (parents : List (Option ℕ)) {w v : ℕ} (new : List Node) (left right : Tree)
    (result : Result ExprId FoldError)
    → v ≡ w
    → Tells (IsAt new v) (tree_product parents v left right) result
    → Tells (IsAt new w) (tree_product parents w left right) result
product_told parents new left right result e told =
    subst (λ u. Tells (IsAt new u) (tree_product parents u left right) result) e told

-- ---- one monomial

-- a coefficient that doesn't become 0
some_number : {n m : ℕ} → n ≡ m → (n ≡ 0 → ⊥) → (m == 0) ≡ false
some_number {m = m} e some = ne_eqb m 0 (λ none. some (e ∙ none))

-- the product of a monomial leads on to the sum with it
pub product_leads : (parents : List (Option ℕ)) (from w n : ℕ) {r : ℕ} (old middle : List Node)
    {ids slice : List ExprId} (start : ExprId) (sum : Tree)
    → GoesOn old middle
    → AreAtoms old from ids
    → slice ≡ ids
    → r ≡ n % 2 ^ w
    → (r ≡ 0 → ⊥)
    → IsAt middle w start (constant w n)
    → LeadsOn (truncated_factors parents w (factors_at (meanings middle) slice) (tree_of middle start))
    (tree_sum parents w sum) (monomial_cut parents w (factors_at (meanings old) ids) n sum)
product_leads parents from w n old middle {ids} {slice} start sum grows atoms is value some at = record {
  leads = ap (λ l. next (truncated_factors parents w (factors_at (meanings middle) l) (tree_of middle start))
      (tree_sum parents w sum)) is
      ∙ ap (λ tree. next (truncated_factors parents w (factors_at (meanings middle) ids) tree)
      (tree_sum parents w sum)) at.1
      ∙ ap (λ f. next (truncated_factors parents w f (constant w n)) (tree_sum parents w sum))
      (same_factors_go_on old middle grows from ids atoms)
      ∙ sym (ap (λ b. cond b (Done sum)
      (next (truncated_factors parents w (factors_at (meanings old) ids) (constant w n)) (tree_sum parents w sum)))
      (some_number value some));
}

-- ---- a tree so far

-- What is still to be done with the tree so far gives the whole.
pub record IsCutting (form : Tree → Outcome Tree) (w : ℕ) (whole : Outcome Tree) (first old : List Node) (id : ExprId)
    : Type 0 where
  pub grows : GoesOn first old
  pub tree : IsTreeOfAt old w id
  pub same : form (tree_of old id) ≡ whole

-- the terms that are left
module _ (parents : List (Option ℕ)) (w : ℕ) (ts : List Term) {whole : Outcome Tree} {first old : List Node}
    {sum : ExprId}
    (cutting : IsCutting (truncated_terms parents w (terms_at (meanings first) ts)) w whole first old sum)
  where
    -- no term is left
    pub terms_cut : ts ≡ [] → whole ≡ Done (tree_of old sum)
    unfolding truncated truncated_terms truncated_factors truncated_atom truncated_parts
    terms_cut e =
        sym cutting.same ∙ ap (λ l. truncated_terms parents w (terms_at (meanings first) l) (tree_of old sum)) e

    module _ (from : ℕ) {t : Term} {others : List Term} (left : ts ≡ t ∷ others)
        (atoms : AreAtoms first from t.ids) where
      -- the next monomial leads on to the whole
      pub monomial_leads :
          LeadsOn (monomial_cut parents w (factors_at (meanings old) t.ids) t.coefficient (tree_of old sum))
          (truncated_terms parents w (terms_at (meanings first) others)) whole
      monomial_leads =
          let rest = terms_at (meanings first) others in record {
            leads = ap (λ f. next (monomial_cut parents w f t.coefficient (tree_of old sum))
                (truncated_terms parents w rest))
                (same_factors_go_on first old cutting.grows from t.ids atoms)
                ∙ one_term parents w (factors_at (meanings first) t.ids) t.coefficient rest (tree_of old sum)
                ∙ ap (λ l. truncated_terms parents w (terms_at (meanings first) l) (tree_of old sum)) (sym left)
                ∙ cutting.same;
          }

      pub monomial_added : {new : List Node} {more : ExprId} → GoesOn old new
          → (tree : Tree)
          × (monomial_cut parents w (factors_at (meanings old) t.ids) t.coefficient (tree_of old sum) ≡ Done tree)
          × IsAt new w more tree
          → IsCutting (truncated_terms parents w (terms_at (meanings first) others)) w whole first new more
      monomial_added {new} grows told = record {
        grows = goes_on_again first old new cutting.grows grows;
        tree = told.2.0;
        same = ap (truncated_terms parents w (terms_at (meanings first) others)) told.2.1
            ∙ led_on told.0 monomial_leads told.1;
      }

-- an atom stays as the arena goes on
pub same_atom_goes_on : (old new : List Node) (w : ℕ) (id : ExprId) → GoesOn old new → IsAtomAt old w id
    → atom_of new id ≡ atom_of old id
same_atom_goes_on old new w id grows h =
    ap (λ l. atom_of l id) grows.1 ∙ atom_stays old grows.0 id (atom_within old w id h)

-- the factors that are left
module _ (parents : List (Option ℕ)) (w : ℕ) (ids : List ExprId) {whole : Outcome Tree} {first old : List Node}
    {product : ExprId}
    (cutting : IsCutting (truncated_factors parents w (factors_at (meanings first) ids)) w whole first old product)
  where
    -- no factor is left
    pub factors_cut : ids ≡ [] → whole ≡ Done (tree_of old product)
    unfolding truncated truncated_terms truncated_factors truncated_atom truncated_parts
    factors_cut e =
        sym cutting.same ∙ ap (λ l. truncated_factors parents w (factors_at (meanings first) l) (tree_of old product)) e

    module _ (from : ℕ) {id : ExprId} {others : List ExprId} (left : ids ≡ id ∷ others) (atom : IsAtomAt first from id)
      where
        -- the next factor leads on to the whole
        pub atom_leads : LeadsOn (truncated_atom parents w (atom_of old id))
            (λ tree. next (tree_product parents w (tree_of old product) tree)
            (truncated_factors parents w (factors_at (meanings first) others))) whole
        unfolding truncated truncated_terms truncated_factors truncated_atom truncated_parts
        atom_leads =
            let rest = truncated_factors parents w (factors_at (meanings first) others) in record {
              leads = ap (λ a. next (truncated_atom parents w a)
                  (λ tree. next (tree_product parents w (tree_of old product) tree) rest))
                  (same_atom_goes_on first old from id cutting.grows atom)
                  ∙ ap (λ l. truncated_factors parents w (factors_at (meanings first) l) (tree_of old product))
                  (sym left)
                  ∙ cutting.same;
            }

        module _ {middle : List Node} (grows : GoesOn old middle) (factor : ExprId) (told : (tree : Tree)
            × (truncated_atom parents w (atom_of old id) ≡ Done tree) × IsAt middle w factor tree) where
          -- and so does the product with it
          pub times_leads : LeadsOn (tree_product parents w (tree_of middle product) (tree_of middle factor))
              (truncated_factors parents w (factors_at (meanings first) others)) whole
          times_leads =
              let rest = truncated_factors parents w (factors_at (meanings first) others) in record {
                leads = ap (λ tree. next (tree_product parents w tree (tree_of middle factor)) rest)
                    (same_tree_goes_on old middle grows product cutting.tree.0)
                    ∙ ap (λ tree. next (tree_product parents w (tree_of old product) tree) rest) told.2.1
                    ∙ led_on told.0 atom_leads told.1;
              }

          pub multiplied : {new : List Node} {more : ExprId} → GoesOn middle new
              → (tree : Tree) × (tree_product parents w (tree_of middle product) (tree_of middle factor) ≡ Done tree)
              × IsAt new w more tree
              → IsCutting (truncated_factors parents w (factors_at (meanings first) others)) w whole first new more
          multiplied {new} again whole_told = record {
            grows = goes_on_again first old new cutting.grows (goes_on_again old middle new grows again);
            tree = whole_told.2.0;
            same = ap (truncated_factors parents w (factors_at (meanings first) others)) whole_told.2.1
                ∙ led_on whole_told.0 times_leads whole_told.1;
          }

-- ---- parts

-- What the parts that are left give behind the parts so far is the whole.
pub record AreCut (parents : List (Option ℕ)) (w : ℕ) (whole : Outcome (List Tree)) (first old : List Node)
    (cut left : List ExprId) : Type 0 where
  pub grows : GoesOn first old
  pub trees : AreTreesOfAt old w cut
  pub same : next (truncated_parts parents w (parts_of (map (tree_of first) left)))
      (λ others. Done (trees_at old cut ++ others)) ≡ whole

module _ {parents : List (Option ℕ)} {w : ℕ} {whole : Outcome (List Tree)} {first old : List Node}
    {cut left : List ExprId} (cutting : AreCut parents w whole first old cut left) where
  -- no part is left
  pub parts_cut : left ≡ [] → whole ≡ Done (trees_at old cut)
  unfolding truncated truncated_terms truncated_factors truncated_atom truncated_parts
  parts_cut e =
      sym cutting.same
      ∙ ap (λ l. next (truncated_parts parents w (parts_of (map (tree_of first) l)))
      (λ others. Done (trees_at old cut ++ others))) e
      ∙ ap Done (append-nil (trees_at old cut))

  module _ (from : ℕ) {id : ExprId} {others : List ExprId} (is : left ≡ id ∷ others) (wide : IsTreeOfAt first from id)
    where
      -- the next part leads on to the whole
      pub part_leads : LeadsOn (truncated parents w (tree_of old id))
          (λ tree. next (truncated_parts parents w (parts_of (map (tree_of first) others)))
          (λ rest. Done (trees_at old cut ++ tree ∷ rest))) whole
      part_leads =
          let rest = parts_of (map (tree_of first) others) in record {
            leads = ap (λ t. next (truncated parents w t) (λ tree. next (truncated_parts parents w rest)
                (λ trees. Done (trees_at old cut ++ tree ∷ trees))))
                (same_tree_goes_on first old cutting.grows id wide.0)
                ∙ one_part parents w (tree_of first id) rest (trees_at old cut)
                ∙ ap (λ l. next (truncated_parts parents w (parts_of (map (tree_of first) l)))
                (λ trees. Done (trees_at old cut ++ trees))) (sym is)
                ∙ cutting.same;
          }

      pub part_added : {new : List Node} {more : List ExprId} (at : ExprId) → GoesOn old new
          → (tree : Tree) × (truncated parents w (tree_of old id) ≡ Done tree) × IsAt new w at tree
          → more ≡ cut ++ at ∷ []
          → AreCut parents w whole first new more others
      part_added {new} {more} at grows told e =
          let all : trees_at new more ≡ trees_at old cut ++ told.0 ∷ [] = ap (trees_at new) e
          ∙ map-append (tree_of new) cut (at ∷ [])
          ∙ ap (λ trees. trees ++ tree_of new at ∷ []) (same_trees_go_on old new grows w cut cutting.trees)
          ∙ ap (λ tree. trees_at old cut ++ tree ∷ []) told.2.1 in record {
            grows = goes_on_again first old new cutting.grows grows;
            trees = subst (AreTreesOfAt new w) (sym e) (more_held old new grows w cut at cutting.trees told.2.0);
            same = one_before (truncated_parts parents w (parts_of (map (tree_of first) others))) (trees_at old cut)
                (trees_at new more) told.0 all
                ∙ led_on told.0 part_leads told.1;
          }
