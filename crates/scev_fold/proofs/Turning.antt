-- How terms, factors and parts go to a turn one after another, over the places of an arena.
use Rattle.std.proofs.Common.{◌≡◌, ℕ, cond, List, [], ◌∷◌, ◌++◌, map, Option, refl, sym, ap, ◌∙◌, subst}
use Rattle.std.proofs.Common.{append_assoc}
use Rattle.std.proofs.lemmas.Bool.{eq-eqb, ne_eqb}
use Rattle.std.proofs.lemmas.List.{append-nil, map-append}
use Rattle.scev_base.specs.declared.ids.ExprId.{ExprId}
use Rattle.scev_base.specs.declared.ids.LoopId.{LoopId}
use Rattle.scev_tree.specs.declared.kind.Kind.{Kind}
use Rattle.scev_tree.specs.declared.kind.Kind.TheVariants as kind
use Rattle.scev_tree.specs.Tree.{Tree, Terms, Factors, Parts, polynomial, term, part, atom, constant}
use Rattle.scev_tree.specs.Tree.{parts_of, trees_of, width_of}
use Rattle.poly_terms.specs.declared.term.Term.{Term}
use Rattle.scev_arena.specs.declared.node.Node.{Node}
use Rattle.scev_arena.specs.Meaning.{meanings, terms_at, factors_at, tree_of, atom_of}
use Rattle.scev_arena.specs.Standing.{IsTreeAt, IsAtomAt, AreTrees, AreAtoms}
use Rattle.scev_arena.proofs.WellMade.{parts_stay}
use Rattle.scev_forms.specs.Outcome.{Outcome, Done, next}
use Rattle.scev_forms.specs.Sums.{tree_sum, tree_product}
use Rattle.scev_forms.specs.Turns.{tree_at_turn, terms_at_turn, factors_at_turn, atom_at_turn, parts_at_turn}
use Rattle.scev_forms.specs.Turns.{counted, reformed}
use Rattle.scev_sums.specs.Answers.{GoesOn, IsAt, trees_at}
use Rattle.scev_sums.proofs.Growth.{goes_on_again, same_tree_goes_on, tree_goes_on, same_factors_go_on}
use Rattle.scev_sums.proofs.RecParts.{trees_again}
use Rattle.scev_sums.proofs.Refusals.{LeadsOn, led_on}
use Rattle.scev_casts.proofs.Cutting.{next_both, before_next, one_before, same_atom_goes_on, IsCutting}
use Rattle.scev_fold.specs.Turns.{monomial_at_turn}

-- ---- one step

module _ (parents : List (Option ℕ)) (l : ℕ) (count : Tree) where
  pub whole_tree : {tree : Tree} {w : ℕ} {ts : Terms} → tree ≡ polynomial w ts
      → terms_at_turn parents l count w ts (constant w 0) ≡ tree_at_turn parents l count tree
  unfolding tree_at_turn terms_at_turn factors_at_turn atom_at_turn parts_at_turn
  whole_tree same = sym (ap (tree_at_turn parents l count) same)

  one_term : (w : ℕ) (f : Factors) (n : ℕ) (ts : Terms) (sum : Tree)
      → next (monomial_at_turn parents l count w f n sum) (terms_at_turn parents l count w ts)
      ≡ terms_at_turn parents l count w (term f n ts) sum
  unfolding tree_at_turn terms_at_turn factors_at_turn atom_at_turn parts_at_turn
  one_term w f n ts sum =
      next_both (factors_at_turn parents l count w f (constant w n)) (tree_sum parents w sum)
      (terms_at_turn parents l count w ts)

  one_part : (tree : Tree) (parts : Parts) (before : List Tree)
      → next (tree_at_turn parents l count tree)
      (λ x. next (parts_at_turn parents l count parts) (λ others. Done (before ++ x ∷ others)))
      ≡ next (parts_at_turn parents l count (part tree parts)) (λ all. Done (before ++ all))
  unfolding tree_at_turn terms_at_turn factors_at_turn atom_at_turn parts_at_turn
  one_part tree parts before =
      before_next (tree_at_turn parents l count tree) (parts_at_turn parents l count parts) before

-- ---- monomials

-- the product of a monomial leads on to the sum with it
pub product_turns : (parents : List (Option ℕ)) (l w n : ℕ) (old middle : List Node) {now count : Tree}
    {ids slice : List ExprId} (start : ExprId) (sum : Tree)
    → now ≡ count
    → GoesOn old middle
    → AreAtoms old w ids
    → slice ≡ ids
    → IsAt middle w start (constant w n)
    → LeadsOn (factors_at_turn parents l now w (factors_at (meanings middle) slice) (tree_of middle start))
    (tree_sum parents w sum) (monomial_at_turn parents l count w (factors_at (meanings old) ids) n sum)
product_turns parents l w n old middle {now} {count} {ids} {slice} start sum same grows atoms is at = record {
  leads = ap (λ c. next (factors_at_turn parents l c w (factors_at (meanings middle) slice) (tree_of middle start))
      (tree_sum parents w sum)) same
      ∙ ap (λ x. next (factors_at_turn parents l count w (factors_at (meanings middle) x) (tree_of middle start))
      (tree_sum parents w sum)) is
      ∙ ap (λ tree. next (factors_at_turn parents l count w (factors_at (meanings middle) ids) tree)
      (tree_sum parents w sum)) at.1
      ∙ ap (λ f. next (factors_at_turn parents l count w f (constant w n)) (tree_sum parents w sum))
      (same_factors_go_on old middle grows w ids atoms);
}

-- the terms that are left
module _ (parents : List (Option ℕ)) (l w : ℕ) (count : Tree) (ts : List Term) {whole : Outcome Tree}
    {first old : List Node} {sum : ExprId}
    (turning : IsCutting (terms_at_turn parents l count w (terms_at (meanings first) ts)) w whole first old sum)
  where
    -- no term is left
    pub terms_turned : ts ≡ [] → whole ≡ Done (tree_of old sum)
    unfolding tree_at_turn terms_at_turn factors_at_turn atom_at_turn parts_at_turn
    terms_turned e =
        sym turning.same
        ∙ ap (λ x. terms_at_turn parents l count w (terms_at (meanings first) x) (tree_of old sum)) e

    module _ {t : Term} {others : List Term} {now : Tree} (left : ts ≡ t ∷ others)
        (atoms : AreAtoms first w t.ids) (same : now ≡ count) where
      -- the next monomial leads on to the whole
      pub monomial_leads :
          LeadsOn (monomial_at_turn parents l now w (factors_at (meanings old) t.ids) t.coefficient (tree_of old sum))
          (terms_at_turn parents l count w (terms_at (meanings first) others)) whole
      monomial_leads =
          let rest = terms_at (meanings first) others in record {
            leads = ap (λ c. next (monomial_at_turn parents l c w (factors_at (meanings old) t.ids) t.coefficient
                (tree_of old sum)) (terms_at_turn parents l count w rest)) same
                ∙ ap (λ f. next (monomial_at_turn parents l count w f t.coefficient (tree_of old sum))
                (terms_at_turn parents l count w rest))
                (same_factors_go_on first old turning.grows w t.ids atoms)
                ∙ one_term parents l count w (factors_at (meanings first) t.ids) t.coefficient rest (tree_of old sum)
                ∙ ap (λ x. terms_at_turn parents l count w (terms_at (meanings first) x) (tree_of old sum)) (sym left)
                ∙ turning.same;
          }

      pub monomial_added : {new : List Node} {more : ExprId} → GoesOn old new
          → (tree : Tree)
          × (monomial_at_turn parents l now w (factors_at (meanings old) t.ids) t.coefficient (tree_of old sum)
          ≡ Done tree)
          × IsAt new w more tree
          → IsCutting (terms_at_turn parents l count w (terms_at (meanings first) others)) w whole first new more
      monomial_added {new} grows told = record {
        grows = goes_on_again first old new turning.grows grows;
        tree = told.2.0;
        same = ap (terms_at_turn parents l count w (terms_at (meanings first) others)) told.2.1
            ∙ led_on told.0 monomial_leads told.1;
      }

-- ---- factors

-- the factors that are left
module _ (parents : List (Option ℕ)) (l w : ℕ) (count : Tree) (ids : List ExprId) {whole : Outcome Tree}
    {first old : List Node} {product : ExprId}
    (turning : IsCutting (factors_at_turn parents l count w (factors_at (meanings first) ids)) w whole first old
    product)
  where
    -- no factor is left
    pub factors_turned : ids ≡ [] → whole ≡ Done (tree_of old product)
    unfolding tree_at_turn terms_at_turn factors_at_turn atom_at_turn parts_at_turn
    factors_turned e =
        sym turning.same
        ∙ ap (λ x. factors_at_turn parents l count w (factors_at (meanings first) x) (tree_of old product)) e

    module _ {id : ExprId} {others : List ExprId} {now : Tree} (left : ids ≡ id ∷ others)
        (atom : IsAtomAt first w id) (same : now ≡ count) where
      -- the next factor leads on to the whole
      pub atom_leads : LeadsOn (atom_at_turn parents l now (atom_of old id))
          (λ tree. next (tree_product parents w (tree_of old product) tree)
          (factors_at_turn parents l count w (factors_at (meanings first) others))) whole
      unfolding tree_at_turn terms_at_turn factors_at_turn atom_at_turn parts_at_turn
      atom_leads =
          let rest = factors_at_turn parents l count w (factors_at (meanings first) others) in record {
            leads = ap (λ c. next (atom_at_turn parents l c (atom_of old id))
                (λ tree. next (tree_product parents w (tree_of old product) tree) rest)) same
                ∙ ap (λ a. next (atom_at_turn parents l count a)
                (λ tree. next (tree_product parents w (tree_of old product) tree) rest))
                (same_atom_goes_on first old w id turning.grows atom)
                ∙ ap (λ x. factors_at_turn parents l count w (factors_at (meanings first) x) (tree_of old product))
                (sym left)
                ∙ turning.same;
          }

      module _ {middle : List Node} (grows : GoesOn old middle) (factor : ExprId) (told : (tree : Tree)
          × (atom_at_turn parents l now (atom_of old id) ≡ Done tree) × IsAt middle w factor tree) where
        -- and so does the product with it
        pub times_leads : LeadsOn (tree_product parents w (tree_of middle product) (tree_of middle factor))
            (factors_at_turn parents l count w (factors_at (meanings first) others)) whole
        times_leads =
            let rest = factors_at_turn parents l count w (factors_at (meanings first) others) in record {
              leads = ap (λ tree. next (tree_product parents w tree (tree_of middle factor)) rest)
                  (same_tree_goes_on old middle grows product turning.tree.0)
                  ∙ ap (λ tree. next (tree_product parents w (tree_of old product) tree) rest) told.2.1
                  ∙ led_on told.0 atom_leads told.1;
            }

        pub multiplied : {new : List Node} {more : ExprId} → GoesOn middle new
            → (tree : Tree) × (tree_product parents w (tree_of middle product) (tree_of middle factor) ≡ Done tree)
            × IsAt new w more tree
            → IsCutting (factors_at_turn parents l count w (factors_at (meanings first) others)) w whole first new more
        multiplied {new} again whole_told = record {
          grows = goes_on_again first old new turning.grows (goes_on_again old middle new grows again);
          tree = whole_told.2.0;
          same = ap (factors_at_turn parents l count w (factors_at (meanings first) others)) whole_told.2.1
              ∙ led_on whole_told.0 times_leads whole_told.1;
        }

-- ---- parts

module _ (old new : List Node) (grows : GoesOn old new) where
  trees_go_on : (ids : List ExprId) → AreTrees old ids → AreTrees new ids
  trees_go_on [] h = tt
  trees_go_on (id ∷ ids) h = (tree_goes_on old new grows id h.0, trees_go_on ids h.1)

  same_trees_go_on : (ids : List ExprId) → AreTrees old ids → trees_at new ids ≡ trees_at old ids
  same_trees_go_on ids h = ap (λ nodes. trees_at nodes ids) grows.1 ∙ parts_stay old grows.0 ids h

both_trees : (nodes : List Node) (xs ys : List ExprId) → AreTrees nodes xs → AreTrees nodes ys
    → AreTrees nodes (xs ++ ys)
both_trees nodes [] ys h k = k
both_trees nodes (x ∷ xs) ys h k = (h.0, both_trees nodes xs ys h.1 k)

abbrev pub widths_at : List Node → List ExprId → List ℕ
widths_at nodes ids = map width_of (trees_at nodes ids)

-- What the parts that are left give behind the parts so far is the whole, and so it is with their widths.
pub record AreTurning (parents : List (Option ℕ)) (l : ℕ) (count : Tree) (whole : Outcome (List Tree)) (all : List ℕ)
    (first old : List Node) (found left : List ExprId) : Type 0 where
  pub grows : GoesOn first old
  pub trees : AreTrees old found
  pub same : next (parts_at_turn parents l count (parts_of (map (tree_of first) left)))
      (λ others. Done (trees_at old found ++ others)) ≡ whole
  pub widths : widths_at old found ++ widths_at first left ≡ all

module _ {parents : List (Option ℕ)} {l : ℕ} {count : Tree} {whole : Outcome (List Tree)} {all : List ℕ}
    {first old : List Node} {found left : List ExprId}
    (turning : AreTurning parents l count whole all first old found left) where
  -- no part is left
  pub parts_turned : left ≡ [] → whole ≡ Done (trees_at old found)
  unfolding tree_at_turn terms_at_turn factors_at_turn atom_at_turn parts_at_turn
  parts_turned e =
      sym turning.same
      ∙ ap (λ x. next (parts_at_turn parents l count (parts_of (map (tree_of first) x)))
      (λ others. Done (trees_at old found ++ others))) e
      ∙ ap Done (append-nil (trees_at old found))

  pub widths_turned : left ≡ [] → widths_at old found ≡ all
  widths_turned e =
      sym (append-nil (widths_at old found))
      ∙ sym (ap (λ x. widths_at old found ++ widths_at first x) e)
      ∙ turning.widths

  module _ {id : ExprId} {others : List ExprId} {now : Tree} (is : left ≡ id ∷ others) (there : IsTreeAt first id)
      (as_now : now ≡ count) where
    -- the next part leads on to the whole
    pub part_leads : LeadsOn (tree_at_turn parents l now (tree_of old id))
        (λ tree. next (parts_at_turn parents l count (parts_of (map (tree_of first) others)))
        (λ rest. Done (trees_at old found ++ tree ∷ rest))) whole
    part_leads =
        let rest = parts_of (map (tree_of first) others) in record {
          leads = ap (λ c. next (tree_at_turn parents l c (tree_of old id))
              (λ tree. next (parts_at_turn parents l count rest)
              (λ trees. Done (trees_at old found ++ tree ∷ trees)))) as_now
              ∙ ap (λ t. next (tree_at_turn parents l count t) (λ tree. next (parts_at_turn parents l count rest)
              (λ trees. Done (trees_at old found ++ tree ∷ trees))))
              (same_tree_goes_on first old turning.grows id there)
              ∙ one_part parents l count (tree_of first id) rest (trees_at old found)
              ∙ ap (λ x. next (parts_at_turn parents l count (parts_of (map (tree_of first) x)))
              (λ trees. Done (trees_at old found ++ trees))) (sym is)
              ∙ turning.same;
        }

    pub part_added : {new : List Node} {more : List ExprId} (at : ExprId) → GoesOn old new
        → (tree : Tree) × (tree_at_turn parents l now (tree_of old id) ≡ Done tree)
        × IsAt new (width_of (tree_of old id)) at tree
        → more ≡ found ++ at ∷ []
        → AreTurning parents l count whole all first new more others
    part_added {new} {more} at grows told e =
        let before : trees_at new more ≡ trees_at old found ++ tree_of new at ∷ [] = ap (trees_at new) e
        ∙ map-append (tree_of new) found (at ∷ [])
        ∙ ap (λ trees. trees ++ tree_of new at ∷ []) (same_trees_go_on old new grows found turning.trees) in
        let whole_list = before ∙ ap (λ tree. trees_at old found ++ tree ∷ []) told.2.1 in
        let wide : width_of (tree_of new at) ≡ width_of (tree_of first id) = told.2.0.1
        ∙ ap width_of (same_tree_goes_on first old turning.grows id there) in record {
          grows = goes_on_again first old new turning.grows grows;
          trees = subst (AreTrees new) (sym e)
              (both_trees new found (at ∷ []) (trees_go_on old new grows found turning.trees) (told.2.0.0, tt));
          same = one_before (parts_at_turn parents l count (parts_of (map (tree_of first) others))) (trees_at old found)
              (trees_at new more) told.0 whole_list
              ∙ led_on told.0 part_leads told.1;
          widths = ap (λ trees. map width_of trees ++ widths_at first others) before
              ∙ ap (λ ws. ws ++ widths_at first others) (map-append width_of (trees_at old found) (tree_of new at ∷ []))
              ∙ append_assoc (widths_at old found) (width_of (tree_of new at) ∷ []) (widths_at first others)
              ∙ ap (λ v. widths_at old found ++ v ∷ widths_at first others) wide
              ∙ sym (ap (λ x. widths_at old found ++ widths_at first x) is)
              ∙ turning.widths;
        }

-- ---- atoms

module _ (parents : List (Option ℕ)) (l : LoopId) (count : Tree) (w : ℕ) where
  -- a recurrence of the loop
  of_loop : (trees : List Tree)
      → counted parents w count trees ≡ atom_at_turn parents l.0 count (atom (kind.Rec l) w (parts_of trees))
  unfolding tree_at_turn terms_at_turn factors_at_turn atom_at_turn parts_at_turn
  of_loop trees =
      sym (ap (counted parents w count) (trees_again trees))
      ∙ sym (ap (λ b. cond b (counted parents w count (trees_of (parts_of trees)))
      (next (parts_at_turn parents l.0 count (parts_of trees)) (reformed parents w (kind.Rec l))))
      (eq-eqb l.0 l.0 refl))

  -- any other atom
  of_other : (k : Kind) (parts : Parts) → (k ≡ kind.Rec l → ⊥)
      → next (parts_at_turn parents l.0 count parts) (reformed parents w k)
      ≡ atom_at_turn parents l.0 count (atom k w parts)
  unfolding tree_at_turn terms_at_turn factors_at_turn atom_at_turn parts_at_turn
  of_other (kind.Rec loop) parts other =
      sym (ap (λ b. cond b (counted parents w count (trees_of parts))
      (next (parts_at_turn parents l.0 count parts) (reformed parents w (kind.Rec loop))))
      (ne_eqb loop.0 l.0 (λ same. other (ap (λ (n : ℕ). kind.Rec (record { 0 = n })) same))))
  of_other _ parts other = refl

-- ---- an atom at a place

module _ (nodes : List Node) (id : ExprId) (k : Kind) (v w : ℕ) (there : List ExprId)
    (is : atom_of nodes id ≡ atom k v (parts_of (trees_at nodes there))) (wide : v ≡ w)
    {slice : List ExprId} (same : slice ≡ there) (parents : List (Option ℕ)) (l : LoopId) (count : Tree) where
  atom_again : {j : Kind} → k ≡ j → atom j w (parts_of (trees_at nodes slice)) ≡ atom_of nodes id
  atom_again {j} e =
      ap (λ ids. atom j w (parts_of (trees_at nodes ids))) same
      ∙ sym (ap (λ u. atom j u (parts_of (trees_at nodes there))) wide)
      ∙ sym (ap (λ i. atom i v (parts_of (trees_at nodes there))) e)
      ∙ sym is

  -- a recurrence of the loop
  pub loop_counted : k ≡ kind.Rec l
      → counted parents w count (trees_at nodes slice) ≡ atom_at_turn parents l.0 count (atom_of nodes id)
  loop_counted e =
      of_loop parents l count w (trees_at nodes slice) ∙ ap (atom_at_turn parents l.0 count) (atom_again e)

  -- the parts of any other atom lead on to it
  pub parts_lead : (k ≡ kind.Rec l → ⊥)
      → LeadsOn (parts_at_turn parents l.0 count (parts_of (trees_at nodes slice))) (reformed parents w k)
      (atom_at_turn parents l.0 count (atom_of nodes id))
  parts_lead other = record {
    leads = of_other parents l count w k (parts_of (trees_at nodes slice)) other
        ∙ ap (atom_at_turn parents l.0 count) (atom_again refl);
  }
