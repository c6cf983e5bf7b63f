-- The things of a list, each once in the order in which they first occur, as one more thing comes.
use Rattle.std.proofs.Common.{◌≡◌, ℕ, ◌+◌, Bool, true, false, not, cond, ◌||◌, List, [], ◌∷◌, ◌++◌, length, refl, sym, ap, ◌∙◌, ◌⊎◌, inl, inr, arith}
use Rattle.std.specs.List.{filter, prefix_len}
use Rattle.std.proofs.lemmas.List.{append-nil}
use Rattle.std.proofs.lemmas.List.Elements.{filter-append}
use Rattle.std.proofs.lemmas.Bool.{false≢true}
use Rattle.ir_grammar.specs.Numbering.{first_occurrences}

-- a test is passed or failed
pub tested : (b : Bool) → (b ≡ true) ⊎ (b ≡ false)
tested true = inl refl
tested false = inr refl

-- The test decides whether two things are equal.
pub record TellsApart {A : Type 0} (same : A → A → Bool) : Type 0 where
  pub itself : (x : A) → same x x ≡ true
  pub other_way : (x y : A) → same x y ≡ same y x
  pub equal : (x y : A) → same x y ≡ true → x ≡ y

module _ {A : Type 0} (same : A → A → Bool) where
  -- whether a thing is in a list, and what is before it
  abbrev pub has : A → List A → Bool
  has x [] = false
  has x (y ∷ ys) = same x y || has x ys

  abbrev pub before : A → List A → ℕ
  before x ys = prefix_len (λ y. not (same x y)) ys

  -- one more thing, where it isn't there
  abbrev pub added : List A → A → List A
  added ys x = cond (has x ys) ys (ys ++ x ∷ [])

  abbrev kept : A → List A → List A
  kept z ys = filter (λ y. not (same z y)) ys

  -- Another thing is kept.
  has-kept : TellsApart same → (x z : A) (ys : List A) → same x z ≡ false → has x (kept z ys) ≡ has x ys
  has-kept tells x z [] other = refl
  has-kept tells x z (y ∷ ys) other = elim (tested (same z y)) [
    | inl e ↦
        let apart : same x y ≡ false = ap (same x) (sym (tells.equal z y e)) ∙ other in
        rw (e, apart) (has-kept tells x z ys other)
    | inr e ↦ rw e (ap (λ h. same x y || h) (has-kept tells x z ys other))
  ]

  kept_added_same : (z x : A) (ys : List A) → same z x ≡ true → kept z (added ys x) ≡ kept z ys
  kept_added_same z x ys e = elim (tested (has x ys)) [
    | inl h ↦ rw h refl
    | inr h ↦ rw (h, filter-append (λ y. not (same z y)) ys (x ∷ []), e) (append-nil (kept z ys))
  ]

  kept_added_other : (z x : A) (ys : List A) → same z x ≡ false
      → kept z (added ys x) ≡ cond (has x ys) (kept z ys) (kept z ys ++ x ∷ [])
  kept_added_other z x ys e = elim (tested (has x ys)) [
    | inl h ↦ rw h refl
    | inr h ↦ rw (h, filter-append (λ y. not (same z y)) ys (x ∷ []), e) refl
  ]

  pub first_occurrences-more : TellsApart same → (xs : List A) (x : A)
      → first_occurrences same (xs ++ x ∷ []) ≡ added (first_occurrences same xs) x
  first_occurrences-more tells [] x = refl
  first_occurrences-more tells (z ∷ zs) x =
      let ys = first_occurrences same zs in
      ap (λ more. z ∷ kept z more) (first_occurrences-more tells zs x) ∙ elim (tested (same x z)) [
        | inl e ↦ rw e (ap (λ more. z ∷ more) (kept_added_same z x ys (tells.other_way z x ∙ e)))
        | inr e ↦ rw (e, has-kept tells x z ys e, kept_added_other z x ys (tells.other_way z x ∙ e))
            (elim (tested (has x ys)) [
              | inl h ↦ rw h refl
              | inr h ↦ rw h refl
            ])
      ]

  -- ---- the place of a thing

  pub before-has : (x : A) (ys zs : List A) → has x ys ≡ true → before x (ys ++ zs) ≡ before x ys
  before-has x [] zs h = absurd (false≢true h)
  before-has x (y ∷ ys) zs h = elim (tested (same x y)) [
    | inl e ↦ rw e refl
    | inr e ↦
        let later : has x ys ≡ true = rw e at h in
        rw e (ap (λ n. 1 + n) (before-has x ys zs later))
  ]

  pub before-missing : (x : A) (ys : List A) → has x ys ≡ false → before x ys ≡ length ys
  before-missing x [] h = refl
  before-missing x (y ∷ ys) h = elim (tested (same x y)) [
    | inl e ↦
        let contra : true ≡ false = rw e at h in
        absurd (false≢true (sym contra))
    | inr e ↦
        let later : has x ys ≡ false = rw e at h in
        let rest = before-missing x ys later in
        rw e (omega (arith, rest))
  ]

  pub before-last : (x y : A) (ys : List A) → has x ys ≡ false → same x y ≡ true → before x (ys ++ y ∷ []) ≡ length ys
  before-last x y [] h last = rw last refl
  before-last x y (z ∷ ys) h last = elim (tested (same x z)) [
    | inl e ↦
        let contra : true ≡ false = rw e at h in
        absurd (false≢true (sym contra))
    | inr e ↦
        let later : has x ys ≡ false = rw e at h in
        let rest = before-last x y ys later last in
        rw e (omega (arith, rest))
  ]

  pub has-more : (x y : A) (ys : List A) → has x (ys ++ y ∷ []) ≡ has x ys || same x y
  has-more x y [] = elim (tested (same x y)) [ inl e ↦ rw e refl | inr e ↦ rw e refl ]
  has-more x y (z ∷ ys) = elim (tested (same x z)) [ inl e ↦ rw e refl | inr e ↦ rw e (has-more x y ys) ]
