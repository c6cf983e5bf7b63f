-- Trees and parts of recurrences that stand for a value: canonical, and with that value wherever it is a number.
use Rattle.std.proofs.Common.{◌≡◌, ℕ, zero, suc, ◌%◌, ◌^◌, ◌<◌, List, [], ◌∷◌, map}
use Rattle.std.proofs.Common.{Option, Some, None, refl, sym, ap, ◌∙◌, subst, arith}
use Rattle.std.proofs.Math.Nat.{mod-eq_of_lt}
use Rattle.std.proofs.lemmas.Nat.{pow_pos, pow_below}
use Rattle.scev_base.specs.Iterated.{iterated}
use Rattle.rec_algebra.proofs.AlgebraLemmas.{Each, value_closed, value_of_single}
use Rattle.scev_tree.specs.declared.kind.Kind.TheVariants as kind
use Rattle.scev_tree.specs.Tree.{Tree, Terms, Atom, polynomial, atom, constant, parts_of}
use Rattle.scev_tree.specs.Canonical.{AreCanonicalTerms, IsCanonicalAtom}
use Rattle.scev_tree.specs.Value.{sum, product, tree_value, terms_value, atom_value}
use Rattle.scev_tree.proofs.Arithmetic.{IsBelow, product_closed}
use Rattle.scev_tree.proofs.AffineValue.{constant_value}
use Rattle.scev_forms.specs.Trees.{IsTreeOf, AreTreesOf}
use Rattle.scev_forms.specs.Outcome.{Outcome}
use Rattle.scev_forms.specs.Polynomials.{terms_of}
use Rattle.scev_forms.specs.Sums.{recurrence}
use Rattle.scev_forms.proofs.Outcomes.{Gives}
use Rattle.scev_forms.proofs.Atoms.{value_below, constant_is_tree}
use Rattle.scev_forms.proofs.Flat.{trees_have_width, trees_are_canonical, values_of_trees}
use Rattle.scev_forms.proofs.Kept.{Keeps, keeps_same, keeps_none, keeps_again, keeps_sum, plus_zero, times_one}
use Rattle.scev_forms.proofs.Kept.{number_semiring}

-- ---- what stands for a value

-- the value of a recurrence at a turn, of those of its parts; no parts have none
abbrev pub value_at : ℕ → ℕ → List (Option ℕ) → Option ℕ
value_at w turn [] = None
value_at w turn (x ∷ xs) = iterated (sum w) turn x xs

module _ (held : ℕ → Option ℕ) (turns : ℕ → ℕ) (w : ℕ) where
  -- a canonical tree of w bits has the value wherever it is a number
  abbrev pub Stands : Option ℕ → Tree → Type 0
  Stands x tree = IsTreeOf w tree × Keeps x (tree_value held turns tree)

  -- each tree stands for the value at its place
  abbrev pub AllStand : List (Option ℕ) → List Tree → Type 0
  AllStand [] [] = Unit {0}
  AllStand [] (tree ∷ trees) = ⊥
  AllStand (x ∷ xs) [] = ⊥
  AllStand (x ∷ xs) (tree ∷ trees) = Stands x tree × AllStand xs trees

  -- the value of the recurrence of a loop with these parts
  abbrev pub parts_value : ℕ → List Tree → Option ℕ
  parts_value l trees = value_at w (turns l) (map (tree_value held turns) trees)

  -- the recurrence of a loop with these parts, canonical trees of w bits, has the value wherever it is a number
  abbrev pub PartsStand : ℕ → Option ℕ → List Tree → Type 0
  PartsStand l x trees = AreTreesOf w trees × Keeps x (parts_value l trees)

  -- A way to form trees gives one that stands for the value of the terms.
  abbrev pub IsFormer : (Terms → Outcome Tree) → Type 0
  IsFormer form = (ts : Terms) → AreCanonicalTerms w ts → Gives (Stands (terms_value held turns w ts)) (form ts)

  -- ---- trees

  -- a canonical tree stands for its own value
  pub tree_stands : (tree : Tree) → IsTreeOf w tree → Stands (tree_value held turns tree) tree
  tree_stands tree h = (h, keeps_same (tree_value held turns tree) (tree_value held turns tree) refl)

  -- a tree stands for what keeps to its value
  pub stands_kept : (x y : Option ℕ) (tree : Tree) → Keeps x y → Stands y tree → Stands x tree
  stands_kept x y tree keeps h = (h.0, keeps_again x y (tree_value held turns tree) keeps h.1)

  -- its terms are canonical
  pub terms_of_canonical : (tree : Tree) → IsTreeOf w tree → AreCanonicalTerms w (terms_of tree)
  terms_of_canonical (polynomial v ts) h = subst (λ u. AreCanonicalTerms u ts) h.0 h.1

  -- and have its value
  pub terms_of_value : (tree : Tree) → IsTreeOf w tree
      → terms_value held turns w (terms_of tree) ≡ tree_value held turns tree
  terms_of_value (polynomial v ts) h = sym (ap (λ u. terms_value held turns u ts) h.0)

  -- a constant stands for its number
  pub constant_stands : (n : ℕ) → Stands (Some (n % 2 ^ w)) (constant w n)
  constant_stands n = (constant_is_tree w n, keeps_same _ _ (sym (constant_value held turns w n)))

  -- the constant 0
  pub zero_stands : Stands (Some 0) (constant w 0)
  zero_stands = subst (λ n. Stands (Some n) (constant w 0)) (mod-eq_of_lt (pow_pos w)) (constant_stands 0)

  -- ---- parts

  -- canonical trees stand for their own values
  pub all_stand : (trees : List Tree) → AreTreesOf w trees → AllStand (map (tree_value held turns) trees) trees
  all_stand [] h = tt
  all_stand (tree ∷ trees) h = (tree_stands tree h.0, all_stand trees h.1)

  -- trees that stand for values are canonical
  pub all_trees : (xs : List (Option ℕ)) (trees : List Tree) → AllStand xs trees → AreTreesOf w trees
  all_trees [] [] h = tt
  all_trees [] (tree ∷ trees) h = absurd h
  all_trees (x ∷ xs) [] h = absurd h
  all_trees (x ∷ xs) (tree ∷ trees) h = (h.0.0, all_trees xs trees h.1)

  -- their values are below the modulus
  pub values_below : (trees : List Tree) → AreTreesOf w trees
      → Each (IsBelow w) (map (tree_value held turns) trees)
  values_below [] h = tt
  values_below (tree ∷ trees) h = (value_below held turns w tree h.0, values_below trees h.1)

  -- so is that of the recurrence
  pub parts_below : (l : ℕ) (trees : List Tree) → AreTreesOf w trees → IsBelow w (parts_value l trees)
  parts_below l [] h = tt
  parts_below l (tree ∷ trees) h =
      value_closed (number_semiring w) (turns l) (tree_value held turns tree) (map (tree_value held turns) trees)
      (value_below held turns w tree h.0) (values_below trees h.1)

  -- parts stand for their own value
  pub parts_stand : (l : ℕ) (trees : List Tree) → AreTreesOf w trees → PartsStand l (parts_value l trees) trees
  parts_stand l trees h = (h, keeps_same (parts_value l trees) (parts_value l trees) refl)

  -- and for what keeps to it
  pub parts_stand_kept : (l : ℕ) (x y : Option ℕ) (trees : List Tree)
      → Keeps x y
      → PartsStand l y trees
      → PartsStand l x trees
  parts_stand_kept l x y trees keeps h = (h.0, keeps_again x y (parts_value l trees) keeps h.1)

  -- one part is its own value
  pub lone_part_value : (l : ℕ) (tree : Tree) → parts_value l (tree ∷ []) ≡ tree_value held turns tree
  lone_part_value l tree = value_of_single (number_semiring w) (turns l) (tree_value held turns tree)

  -- the iterated sum keeps what its parts keep
  pub iterated_kept : (turn : ℕ) (x : Option ℕ) (tree : Tree) (xs : List (Option ℕ)) (trees : List Tree)
      → AllStand (x ∷ xs) (tree ∷ trees)
      → Keeps (iterated (sum w) turn x xs)
      (iterated (sum w) turn (tree_value held turns tree) (map (tree_value held turns) trees))
  unfolding iterated
  iterated_kept zero x tree xs trees h = h.0.1
  iterated_kept (suc turn) x tree [] [] h = h.0.1
  iterated_kept (suc turn) x tree [] (second ∷ trees) h = absurd h.1
  iterated_kept (suc turn) x tree (y ∷ xs) [] h = absurd h.1
  iterated_kept (suc turn) x tree (y ∷ xs) (second ∷ trees) h =
      keeps_sum w _ _ _ _ (iterated_kept turn x tree (y ∷ xs) (second ∷ trees) h)
      (iterated_kept turn y second xs trees h.1)

  -- parts that stand for items stand for their iterated sum
  pub parts_from_all : (l : ℕ) (xs : List (Option ℕ)) (trees : List Tree)
      → AllStand xs trees
      → PartsStand l (value_at w (turns l) xs) trees
  parts_from_all l [] [] h = (tt, keeps_none None)
  parts_from_all l [] (tree ∷ trees) h = absurd h
  parts_from_all l (x ∷ xs) [] h = absurd h
  parts_from_all l (x ∷ xs) (tree ∷ trees) h =
      (all_trees (x ∷ xs) (tree ∷ trees) h, iterated_kept (turns l) x tree xs trees h)

  -- ---- atoms of recurrences

  -- the recurrence of a loop with two parts and more
  abbrev pub rec_atom : ℕ → Tree → Tree → List Tree → Atom
  rec_atom l first second trees = atom (kind.Rec (record { 0 = l })) w (parts_of (first ∷ second ∷ trees))

  -- the value of the atom
  pub rec_atom_value : (l : ℕ) (first second : Tree) (trees : List Tree)
      → atom_value held turns (rec_atom l first second trees) ≡ parts_value l (first ∷ second ∷ trees)
  rec_atom_value l first second trees =
      ap (iterated (sum w) (turns l) (tree_value held turns first)) (values_of_trees held turns (second ∷ trees))

  -- the atom is canonical where its parts are
  pub rec_atom_canonical : (l : ℕ) (first second : Tree) (trees : List Tree)
      → AreTreesOf w (first ∷ second ∷ trees)
      → IsCanonicalAtom w (rec_atom l first second trees)
  rec_atom_canonical l first second trees h = (
    refl,
    (omega arith, trees_have_width w (first ∷ second ∷ trees) h),
    trees_are_canonical w (first ∷ second ∷ trees) h,
  )

  -- the coefficient 1 of an atom doesn't count
  pub atom_once : (x : Option ℕ) → IsBelow w x → product w (product w x (Some 1)) (Some 1) ≡ x
  atom_once x below = times_one w (product w x (Some 1)) (product_closed w x (Some 1)) ∙ times_one w x below

  -- the tree of a recurrence stands for what its parts do
  pub recurrence_stands : (l : ℕ) (x : Option ℕ) (trees : List Tree)
      → 0 < w
      → PartsStand l x trees
      → Stands x (recurrence w l trees)
  recurrence_stands l x [] some h =
      stands_kept x (Some 0) (constant w 0) (keeps_again x None (Some 0) h.1 (keeps_none (Some 0))) zero_stands
  recurrence_stands l x (first ∷ []) some h =
      (h.0.0, λ n e. sym (lone_part_value l first) ∙ h.1 n e)
  recurrence_stands l x (first ∷ second ∷ trees) some h =
      let value = parts_value l (first ∷ second ∷ trees) in
      let made = atom_value held turns (rec_atom l first second trees) in
      let below = parts_below l (first ∷ second ∷ trees) h.0 in
      let same : sum w (product w (product w made (Some 1)) (Some 1)) (Some 0) ≡ value =
      ap (λ y. sum w (product w (product w y (Some 1)) (Some 1)) (Some 0)) (rec_atom_value l first second trees)
      ∙ ap (λ y. sum w y (Some 0)) (atom_once value below) ∙ plus_zero w value below in (
        (
          refl,
          (
            (tt, tt),
            (rec_atom_canonical l first second trees h.0, tt),
            omega arith,
            pow_below 0 w some,
            tt,
            tt,
          ),
        ),
        λ n e. same ∙ h.1 n e,
      )
