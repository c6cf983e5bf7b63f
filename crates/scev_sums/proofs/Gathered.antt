-- How the tree of a polynomial is formed in turns.
use Rattle.std.proofs.Common.{◌≡◌, ℕ, suc, ◌-◌, true, false, if◌then◌else◌, List, Option, Some, length, refl, sym, ap}
use Rattle.std.proofs.Common.{◌∙◌, arith}
use Rattle.scev_tree.specs.Tree.{Tree, Terms, polynomial}
use Rattle.scev_forms.specs.Outcome.{Outcome, Done, next, tested}
use Rattle.scev_forms.specs.Gather.{deepest, loops_of_terms, joining, staying}
use Rattle.scev_forms.specs.Sums.{Gathering, Whole, Again, same_tree, beside, group_parts, is_settled}
use Rattle.scev_forms.specs.Sums.{gathering, gathering_at, after_gathering, gathered, formed}

module _ (parents : List (Option ℕ)) (w loops : ℕ) (terms : Terms) where
  -- at no level the tree is that of the polynomial
  pub no_level : loops ≡ 0 → tested (polynomial w terms) ≡ formed parents w loops terms
  unfolding formed
  no_level e = ap (λ n. formed parents w n terms) (sym e)

  -- at a level it is gathered over trees of the level below
  pub one_level : (loops ≡ 0 → ⊥)
      → gathered (formed parents w (loops - 1)) parents w (suc (length parents)) terms ≡ formed parents w loops terms
  unfolding formed
  one_level some =
      let e : suc (loops - 1) ≡ loops = omega arith in
      ap (λ n. formed parents w n terms) e

module _ (form : Terms → Outcome Tree) (parents : List (Option ℕ)) (w : ℕ) (terms : Terms) where
  -- ---- a step

  module _ (l : ℕ) (found : Option ℕ) (e : Some l ≡ found) where
    -- a group of which nothing is to be formed
    pub settled : is_settled l (joining parents l terms) ≡ true
        → gathering_at form parents w terms found ≡ Done (Whole (polynomial w terms))
    unfolding gathering
    settled is =
        sym (ap (gathering_at form parents w terms) e)
        ∙ ap (λ b. if b then Done (Whole (polynomial w terms))
        else next (group_parts form w l (joining parents l terms)) (λ parts.
        Done (beside w l parts (staying parents l terms)))) is

    -- a group that becomes a recurrence
    pub unsettled : is_settled l (joining parents l terms) ≡ false
        → next (group_parts form w l (joining parents l terms)) (λ parts.
        Done (beside w l parts (staying parents l terms)))
        ≡ gathering_at form parents w terms found
    unfolding gathering
    unsettled is =
        sym (ap (λ b. if b then Done (Whole (polynomial w terms))
        else next (group_parts form w l (joining parents l terms)) (λ parts.
        Done (beside w l parts (staying parents l terms)))) is)
        ∙ ap (gathering_at form parents w terms) e

  -- ---- turns

  abbrev step : Outcome Gathering
  step = gathering_at form parents w terms (deepest parents (loops_of_terms terms))

  module _ (times : ℕ) where
    -- where no turn is left, the tree is that of the polynomial
    pub no_turn : times ≡ 0 → tested (polynomial w terms) ≡ gathered form parents w times terms
    unfolding gathered
    no_turn e = ap (λ n. gathered form parents w n terms) (sym e)

    -- a turn takes a step, and goes on with what it gave
    pub one_turn : next step (after_gathering (gathered form parents w times) w terms)
        ≡ gathered form parents w (suc times) terms
    unfolding gathered
    one_turn = refl

    pub after_turn : (given : Gathering) → step ≡ Done given
        → after_gathering (gathered form parents w times) w terms given ≡ gathered form parents w (suc times) terms
    after_turn given e =
        sym (ap (λ o. next o (after_gathering (gathered form parents w times) w terms)) e) ∙ one_turn

    -- a step that gave the same polynomial is the last
    pub same_again : (more : Terms) → step ≡ Done (Again more)
        → same_tree (polynomial w more) (polynomial w terms) ≡ true
        → tested (polynomial w terms) ≡ gathered form parents w (suc times) terms
    same_again more e is =
        sym (ap (λ b. if b then tested (polynomial w terms) else gathered form parents w times more) is)
        ∙ after_turn (Again more) e

    -- another polynomial is gathered again
    pub other_again : (more : Terms) → step ≡ Done (Again more)
        → same_tree (polynomial w more) (polynomial w terms) ≡ false
        → gathered form parents w times more ≡ gathered form parents w (suc times) terms
    other_again more e is =
        sym (ap (λ b. if b then tested (polynomial w terms) else gathered form parents w times more) is)
        ∙ after_turn (Again more) e
