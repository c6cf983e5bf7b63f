-- How the turns of gathering go over the places of an arena.
use Rattle.std.proofs.Common.{◌≡◌, ℕ, suc, ◌-◌, true, false, Bool, List, Option, Some, sym, ap, ◌∙◌, subst, arith}
use Rattle.scev_base.specs.declared.ids.ExprId.{ExprId}
use Rattle.scev_tree.specs.Tree.{Tree, Terms, polynomial}
use Rattle.poly_terms.specs.declared.term.Term.{Term}
use Rattle.scev_arena.specs.declared.node.Node.{Node}
use Rattle.scev_arena.specs.Meaning.{meanings, terms_at, tree_of}
use Rattle.scev_forms.specs.Outcome.{Outcome, Done, next, tested}
use Rattle.scev_forms.specs.Gather.{deepest, loops_of_terms, joining, staying}
use Rattle.scev_forms.specs.Sums.{Gathering, Whole, Again, same_tree, beside, group_parts, is_settled}
use Rattle.scev_forms.specs.Sums.{gathering_at, after_gathering, gathered}
use Rattle.scev_polys.specs.Polynomials.{IsPolynomial}
use Rattle.scev_sums.specs.declared.sums.Gathering.TheVariants as code
use Rattle.scev_sums.specs.declared.sums.Gathering as code_type
use Rattle.scev_sums.specs.Answers.{GoesOn, IsAt}
use Rattle.scev_sums.specs.Levels.{IsGathering}
use Rattle.scev_sums.proofs.Gathered.{settled, unsettled, no_turn, one_turn, same_again, other_again}
use Rattle.scev_sums.proofs.Growth.{goes_on_again, same_terms_go_on, polynomial_goes_on}
use Rattle.scev_sums.proofs.Refusals.{LeadsOn, led_on}

-- What the turns that are left give of the terms so far is the whole.
pub record IsTurning (form : Terms → Outcome Tree) (parents : List (Option ℕ)) (w : ℕ) (whole : Outcome Tree)
    (first old : List Node) (terms : List Term) (left : ℕ) : Type 0 where
  pub grows : GoesOn first old
  pub polynomial : IsPolynomial old w terms
  pub same : gathered form parents w (suc left) (terms_at (meanings old) terms) ≡ whole

-- a step of gathering
abbrev pub step_of : (Terms → Outcome Tree) → List (Option ℕ) → ℕ → Terms → Outcome Gathering
step_of form parents w terms = gathering_at form parents w terms (deepest parents (loops_of_terms terms))

-- what a step answers
abbrev pub Stepped : (Terms → Outcome Tree) → List (Option ℕ) → ℕ → List Node → Terms → code_type.Gathering → Type 0
Stepped form parents w new terms answer =
    (given : Gathering) × (step_of form parents w terms ≡ Done given) × IsGathering new w terms answer given

module _ {form : Terms → Outcome Tree} {parents : List (Option ℕ)} {w : ℕ} {whole : Outcome Tree}
    {first old : List Node} {terms : List Term} {left : ℕ}
    (turning : IsTurning form parents w whole first old terms left) where
  -- a step leads on to the whole
  pub turn_leads : {slice : List Term} → slice ≡ terms
      → LeadsOn (step_of form parents w (terms_at (meanings old) slice))
      (after_gathering (gathered form parents w left) w (terms_at (meanings old) slice)) whole
  turn_leads {slice} is = record {
    leads = one_turn form parents w (terms_at (meanings old) slice) left
        ∙ ap (λ ts. gathered form parents w (suc left) (terms_at (meanings old) ts)) is
        ∙ turning.same;
  }

  module _ {new : List Node} (grows : GoesOn old new) where
    pub terms_stay : IsPolynomial new w terms
    terms_stay = polynomial_goes_on old new grows w terms turning.polynomial

    same_terms : {slice : List Term} → slice ≡ terms
        → terms_at (meanings new) terms ≡ terms_at (meanings old) slice
    same_terms is =
        same_terms_go_on old new grows w terms turning.polynomial.over ∙ sym (ap (terms_at (meanings old)) is)

    module _ {slice : List Term} (is : slice ≡ terms) {answer : code_type.Gathering}
        (told : Stepped form parents w new (terms_at (meanings old) slice) answer) where
      -- nothing is gathered
      pub unchanged : answer ≡ code.Unchanged → tested (polynomial w (terms_at (meanings new) terms)) ≡ whole
      unchanged e =
          let given = subst (λ a. IsGathering new w (terms_at (meanings old) slice) a told.0) e told.2 in
          ap (λ ts. tested (polynomial w ts)) (same_terms is)
          ∙ led_on (Whole (polynomial w (terms_at (meanings old) slice))) (turn_leads is) (told.1 ∙ ap Done given)

      -- a whole tree is gathered
      pub tree_given : {id : ExprId} → answer ≡ code.Whole id
          → (tree : Tree) × (told.0 ≡ Whole tree) × IsAt new w id tree
      tree_given e = subst (λ a. IsGathering new w (terms_at (meanings old) slice) a told.0) e told.2

      pub whole_given : {id : ExprId} → answer ≡ code.Whole id → tested (tree_of new id) ≡ whole
      whole_given e =
          let given = tree_given e in
          ap tested given.2.1 ∙ led_on (Whole given.0) (turn_leads is) (told.1 ∙ ap Done given.1)

      module _ {more : List Term} (e : answer ≡ code.Again more) where
        again_given : (told.0 ≡ Again (terms_at (meanings new) more)) × IsPolynomial new w more
        again_given = subst (λ a. IsGathering new w (terms_at (meanings old) slice) a told.0) e told.2

        -- what is gathered is compared with what was there
        module _ {left_slice right_slice : List Term} {b : Bool}
            (compared : b ≡ same_tree (polynomial w (terms_at (meanings new) left_slice))
            (polynomial w (terms_at (meanings new) right_slice)))
            (left_is : left_slice ≡ more) (right_is : right_slice ≡ terms) where
          test : b ≡ same_tree (polynomial w (terms_at (meanings new) more))
              (polynomial w (terms_at (meanings old) slice))
          test =
              compared
              ∙ ap (λ ts. same_tree (polynomial w (terms_at (meanings new) ts))
              (polynomial w (terms_at (meanings new) right_slice))) left_is
              ∙ ap (λ ts. same_tree (polynomial w (terms_at (meanings new) more)) (polynomial w ts))
              (ap (terms_at (meanings new)) right_is ∙ same_terms is)

          pub last_turn : b ≡ true → tested (polynomial w (terms_at (meanings new) terms)) ≡ whole
          last_turn same =
              ap (λ ts. tested (polynomial w ts)) (same_terms is)
              ∙ same_again form parents w (terms_at (meanings old) slice) left (terms_at (meanings new) more)
              (told.1 ∙ ap Done again_given.0) (sym test ∙ same)
              ∙ sym (one_turn form parents w (terms_at (meanings old) slice) left)
              ∙ (turn_leads is).leads

          another_turn : b ≡ false → gathered form parents w left (terms_at (meanings new) more) ≡ whole
          another_turn other =
              other_again form parents w (terms_at (meanings old) slice) left (terms_at (meanings new) more)
              (told.1 ∙ ap Done again_given.0) (sym test ∙ other)
              ∙ sym (one_turn form parents w (terms_at (meanings old) slice) left)
              ∙ (turn_leads is).leads

          pub no_turn_left : b ≡ false → left ≡ 0 → tested (polynomial w (terms_at (meanings new) more)) ≡ whole
          no_turn_left other none =
              no_turn form parents w (terms_at (meanings new) more) left none ∙ another_turn other

          pub turned : b ≡ false → (left ≡ 0 → ⊥) → IsTurning form parents w whole first new more (left - 1)
          turned other some =
              let fewer : suc (left - 1) ≡ left = omega arith in record {
                grows = goes_on_again first old new turning.grows grows;
                polynomial = again_given.1;
                same = ap (λ n. gathered form parents w n (terms_at (meanings new) more)) fewer ∙ another_turn other;
              }

-- ---- a step

module _ (form : Terms → Outcome Tree) (parents : List (Option ℕ)) (w l : ℕ) (old : List Node) (terms : Terms)
    {found : Option ℕ} (e : Some l ≡ found) {group slice : List Term} (is : slice ≡ group)
    (joins : terms_at (meanings old) group ≡ joining parents l terms) {b : Bool}
    (test : b ≡ is_settled l (terms_at (meanings old) slice)) where
  tested_group : is_settled l (joining parents l terms) ≡ b
  tested_group = sym (test ∙ ap (is_settled l) (ap (terms_at (meanings old)) is ∙ joins))

  -- nothing is to be formed of the group
  pub group_settled : b ≡ true → gathering_at form parents w terms found ≡ Done (Whole (polynomial w terms))
  group_settled same = settled form parents w terms l found e (tested_group ∙ same)

  -- the group becomes a recurrence
  pub group_leads : b ≡ false → {again : List Term} → again ≡ group
      → LeadsOn (group_parts form w l (terms_at (meanings old) again))
      (λ parts. Done (beside w l parts (staying parents l terms))) (gathering_at form parents w terms found)
  group_leads other again = record {
    leads = ap (λ ts. next (group_parts form w l ts) (λ parts. Done (beside w l parts (staying parents l terms))))
        (ap (terms_at (meanings old)) again ∙ joins)
        ∙ unsettled form parents w terms l found e (tested_group ∙ other);
  }
