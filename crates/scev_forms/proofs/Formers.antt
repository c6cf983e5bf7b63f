-- The way in which trees of polynomials are formed: they are canonical, and have the value of the terms.
use Rattle.std.proofs.Common.{◌≡◌, ℕ, zero, suc, ◌+◌, ◌%◌, ◌^◌, ◌<◌, List, [], ◌∷◌, length, Option, Some, None}
use Rattle.std.proofs.Common.{refl, sym, ap, ◌∙◌}
use Rattle.std.proofs.lemmas.Bool.{cond_both}
use Rattle.scev_tree.specs.Tree.{Tree, Terms, polynomial, no_terms, term, no_factors, factor}
use Rattle.scev_tree.specs.Canonical.{with_term, AreCanonicalTerms}
use Rattle.scev_tree.specs.Value.{sum, product, tree_value, terms_value, atom_value}
use Rattle.scev_tree.proofs.Inserted.{with_term_canonical}
use Rattle.scev_tree.proofs.Values.{with_term_value}
use Rattle.scev_forms.specs.Outcome.{Outcome, Done, next, tested}
use Rattle.scev_forms.specs.Polynomials.{terms_of, terms_sum}
use Rattle.scev_forms.specs.Gather.{loops_of_terms, deepest, joining, staying, trimmed}
use Rattle.scev_forms.specs.Sums.{same_tree, group_parts, Gathering, Whole, Again, beside, is_settled, gathering}
use Rattle.scev_forms.specs.Sums.{gathering_at, after_gathering, gathered, formed, tree_sum, tree_product}
use Rattle.scev_forms.specs.Sums.{recurrence, recurrence_of}
use Rattle.scev_forms.proofs.Outcomes.{Gives, gives_next, gives_more, gives_tested}
use Rattle.scev_forms.proofs.Kept.{Keeps, keeps_same, keeps_again, keeps_sum, keeps_none_first}
use Rattle.scev_forms.proofs.Kept.{keeps_plus_zero}
use Rattle.scev_forms.proofs.Polynomials.{terms_sum_canonical, terms_sum_value}
use Rattle.scev_forms.proofs.Standing.{Stands, PartsStand, IsFormer, stands_kept, parts_value, parts_below}
use Rattle.scev_forms.proofs.Standing.{lone_part_value, terms_of_canonical, terms_of_value, rec_atom, rec_atom_value}
use Rattle.scev_forms.proofs.Standing.{rec_atom_canonical, atom_once, recurrence_stands}
use Rattle.scev_forms.proofs.Trimmed.{trimmed_stand}
use Rattle.scev_forms.proofs.Carried.{sum_stands, product_stands}
use Rattle.scev_forms.proofs.Monomials.{joining_canonical, staying_canonical, terms_apart_value}
use Rattle.scev_forms.proofs.Groups.{group_stands}

module _ (held : ℕ → Option ℕ) (turns : ℕ → ℕ) (w : ℕ) (some : 0 < w) where
  -- a polynomial of canonical terms stands for their value
  polynomial_stands : (ts : Terms)
      → AreCanonicalTerms w ts
      → Stands held turns w (terms_value held turns w ts) (polynomial w ts)
  polynomial_stands ts h = ((refl, h), keeps_same (terms_value held turns w ts) _ refl)

  -- ---- one step

  -- What a step gives stands for the value: a tree, or canonical terms.
  abbrev GatheringStands : Option ℕ → Gathering → Type 0
  GatheringStands x (Whole tree) = Stands held turns w x tree
  GatheringStands x (Again ts) = AreCanonicalTerms w ts × Keeps x (terms_value held turns w ts)

  -- it stands for what keeps to that value
  gathering_kept : (x y : Option ℕ) (made : Gathering) → Keeps x y → GatheringStands y made → GatheringStands x made
  gathering_kept x y (Whole tree) keeps h = stands_kept held turns w x y tree keeps h
  gathering_kept x y (Again ts) keeps h = (h.0, keeps_again x y (terms_value held turns w ts) keeps h.1)

  -- a group without parts has no value
  no_part_stands : (l : ℕ) (x : Option ℕ) (others : Terms)
      → AreCanonicalTerms w others
      → PartsStand held turns w l x []
      → Stands held turns w (sum w x (terms_value held turns w others)) (polynomial w others)
  no_part_stands l x others hs h =
      let rest = terms_value held turns w others in (
        (refl, hs),
        keeps_again (sum w x rest) (sum w None rest) rest
            (keeps_sum w x None rest rest h.1 (keeps_same rest rest refl))
            (keeps_none_first (λ a b. (a + b) % 2 ^ w) rest rest),
      )

  -- one part and no others
  lone_part_stands : (l : ℕ) (x : Option ℕ) (only : Tree)
      → PartsStand held turns w l x (only ∷ [])
      → Stands held turns w (sum w x (Some 0)) only
  lone_part_stands l x only h =
      let value = parts_value held turns w l (only ∷ []) in
      let below = parts_below held turns w l (only ∷ []) h.0 in (
        h.0.0,
        keeps_again (sum w x (Some 0)) value (tree_value held turns only)
            (keeps_plus_zero w x value below h.1)
            (keeps_same value _ (lone_part_value held turns w l only)),
      )

  -- one part joins the others
  one_part_stands : (l : ℕ) (x : Option ℕ) (only : Tree) (others : Terms)
      → AreCanonicalTerms w others
      → PartsStand held turns w l x (only ∷ [])
      → GatheringStands (sum w x (terms_value held turns w others)) (Again (terms_sum w (terms_of only) others))
  one_part_stands l x only others hs h =
      let rest = terms_value held turns w others in
      let own = terms_value held turns w (terms_of only) in
      let same : parts_value held turns w l (only ∷ []) ≡ own =
      lone_part_value held turns w l only ∙ sym (terms_of_value held turns w only h.0.0) in (
        terms_sum_canonical w (terms_of only) others (terms_of_canonical held turns w only h.0.0) hs,
        keeps_again (sum w x rest) (sum w own rest) (terms_value held turns w (terms_sum w (terms_of only) others))
            (keeps_sum w x own rest rest (λ n e. sym same ∙ h.1 n e) (keeps_same rest rest refl))
            (terms_sum_value held turns w (terms_of only) others),
      )

  -- a recurrence stands beside the others
  recurrence_beside : (l : ℕ) (x : Option ℕ) (first second : Tree) (parts : List Tree) (others : Terms)
      → AreCanonicalTerms w others
      → PartsStand held turns w l x (first ∷ second ∷ parts)
      → Stands held turns w (sum w x (terms_value held turns w others)) (polynomial w
      (with_term w (factor (rec_atom held turns w l first second parts) no_factors) 1 others))
  recurrence_beside l x first second parts others hs h =
      let rest = terms_value held turns w others in
      let a = rec_atom held turns w l first second parts in
      let value = parts_value held turns w l (first ∷ second ∷ parts) in
      let monomial = product w (product w (atom_value held turns a) (Some 1)) (Some 1) in
      let same : monomial ≡ value =
      ap (λ y. product w (product w y (Some 1)) (Some 1)) (rec_atom_value held turns w l first second parts)
      ∙ atom_once held turns w value (parts_below held turns w l (first ∷ second ∷ parts) h.0) in (
        (
          refl,
          with_term_canonical w (factor a no_factors) 1 others (tt, tt)
              (rec_atom_canonical held turns w l first second parts h.0, tt) hs,
        ),
        λ n e. with_term_value held turns w (factor a no_factors) 1 others n
            (ap (λ y. sum w y rest) same
            ∙ keeps_sum w x value rest rest h.1 (keeps_same rest rest refl) n e),
      )

  -- what parts become beside the others
  beside_stands : (l : ℕ) (x : Option ℕ) (parts : List Tree) (others : Terms)
      → AreCanonicalTerms w others
      → PartsStand held turns w l x parts
      → GatheringStands (sum w x (terms_value held turns w others)) (beside w l parts others)
  beside_stands l x [] others hs h = no_part_stands l x others hs h
  beside_stands l x (only ∷ []) no_terms hs h = lone_part_stands l x only h
  beside_stands l x (only ∷ []) (term f n ts) hs h = one_part_stands l x only (term f n ts) hs h
  beside_stands l x (first ∷ second ∷ parts) others hs h = recurrence_beside l x first second parts others hs h

  -- a step at a loop
  gathering_stands : (form : Terms → Outcome Tree) (parents : List (Option ℕ)) (l : ℕ) (ts : Terms)
      → IsFormer held turns w form
      → AreCanonicalTerms w ts
      → Gives (GatheringStands (terms_value held turns w ts)) (gathering form parents w l ts)
  unfolding gathering
  gathering_stands form parents l ts former h =
      let group = joining parents l ts in
      let others = staying parents l ts in
      let value = terms_value held turns w group in
      let canonical = joining_canonical parents w l ts h in
      let whole = GatheringStands (terms_value held turns w ts) in
      cond_both (is_settled l group) (Done (Whole (polynomial w ts)))
      (next (group_parts form w l group) (λ parts. Done (beside w l parts others)))
      (Gives whole)
      (λ _. polynomial_stands ts h)
      (λ left. gives_next (PartsStand held turns w l value) whole (group_parts form w l group) _
      (group_stands held turns w form former some l group left canonical)
      (λ parts those. gathering_kept (terms_value held turns w ts) (sum w value (terms_value held turns w others))
      (beside w l parts others)
      (keeps_same _ _ (terms_apart_value held turns w parents l ts))
      (beside_stands l value parts others (staying_canonical parents w l ts h) those)))

  -- at the deepest one, if there is one
  gathering_at_stands : (form : Terms → Outcome Tree) (parents : List (Option ℕ)) (ts : Terms) (at : Option ℕ)
      → IsFormer held turns w form
      → AreCanonicalTerms w ts
      → Gives (GatheringStands (terms_value held turns w ts)) (gathering_at form parents w ts at)
  gathering_at_stands form parents ts None former h = polynomial_stands ts h
  gathering_at_stands form parents ts (Some l) former h = gathering_stands form parents l ts former h

  -- what comes after a step
  after_stands : (again : Terms → Outcome Tree) (ts : Terms) (made : Gathering)
      → IsFormer held turns w again
      → AreCanonicalTerms w ts
      → GatheringStands (terms_value held turns w ts) made
      → Gives (Stands held turns w (terms_value held turns w ts)) (after_gathering again w ts made)
  after_stands again ts (Whole tree) former h stands = gives_tested _ tree stands
  after_stands again ts (Again more) former h stands =
      let whole = terms_value held turns w ts in
      cond_both (same_tree (polynomial w more) (polynomial w ts)) (tested (polynomial w ts)) (again more)
      (Gives (Stands held turns w whole))
      (λ _. gives_tested _ (polynomial w ts) (polynomial_stands ts h))
      (λ _. gives_more (Stands held turns w (terms_value held turns w more)) (Stands held turns w whole) (again more)
      (former more stands.0)
      (λ tree. stands_kept held turns w whole (terms_value held turns w more) tree stands.1))

  -- ---- all steps

  -- so many steps over a way to form trees are one
  gathered_former : (form : Terms → Outcome Tree) (parents : List (Option ℕ)) (times : ℕ)
      → IsFormer held turns w form
      → IsFormer held turns w (gathered form parents w times)
  unfolding gathered
  gathered_former form parents zero former ts h = gives_tested _ (polynomial w ts) (polynomial_stands ts h)
  gathered_former form parents (suc times) former ts h =
      let value = terms_value held turns w ts in
      gives_next (GatheringStands value) (Stands held turns w value)
      (gathering_at form parents w ts (deepest parents (loops_of_terms ts))) _
      (gathering_at_stands form parents ts (deepest parents (loops_of_terms ts)) former h)
      (λ made stands. after_stands (gathered form parents w times) ts made
      (gathered_former form parents times former) h stands)

  -- Each level is a way to form trees.
  pub formed_former : (parents : List (Option ℕ)) (level : ℕ) → IsFormer held turns w (formed parents w level)
  unfolding formed
  formed_former parents zero ts h = gives_tested _ (polynomial w ts) (polynomial_stands ts h)
  formed_former parents (suc level) ts h =
      gathered_former (formed parents w level) parents (suc (length parents)) (formed_former parents level) ts h

  -- the sum of two trees stands for the sum of what they stand for
  pub tree_sum_stands : (parents : List (Option ℕ)) (x y : Option ℕ) (left right : Tree)
      → Stands held turns w x left
      → Stands held turns w y right
      → Gives (Stands held turns w (sum w x y)) (tree_sum parents w left right)
  tree_sum_stands parents =
      sum_stands held turns w (formed parents w (length parents)) (formed_former parents (length parents)) some

  -- the product of two trees stands for the product of what they stand for
  pub tree_product_stands : (parents : List (Option ℕ)) (x y : Option ℕ) (left right : Tree)
      → Stands held turns w x left
      → Stands held turns w y right
      → Gives (Stands held turns w (product w x y)) (tree_product parents w left right)
  tree_product_stands parents =
      product_stands held turns w (formed parents w (length parents)) (formed_former parents (length parents)) some

  -- a recurrence stands for what its parts do
  pub recurrence_of_stands : (l : ℕ) (x : Option ℕ) (parts : List Tree)
      → PartsStand held turns w l x parts
      → Gives (Stands held turns w x) (recurrence_of w l parts)
  recurrence_of_stands l x parts h =
      gives_tested (Stands held turns w x) (recurrence w l (trimmed parts))
      (recurrence_stands held turns w l x (trimmed parts) some (trimmed_stand held turns w l x parts h))
