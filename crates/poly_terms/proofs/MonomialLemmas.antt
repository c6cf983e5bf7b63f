-- Monomials: their order and their products.
use Rattle.std.proofs.Common.{◌≡◌, ℕ, suc, ◌+◌, ◌<◌, ◌≤◌, ◌⊎◌, inl, inr, Bool, true, false, ◌&&◌, if◌then◌else◌, nat_le, ◌==◌, List, [], ◌∷◌, ◌++◌, length, refl, sym, ap, ◌∙◌, subst, arith, append_assoc, zero-add, Ordering, Less, Equal, Greater}
use Rattle.std.specs.Ordering.{MatchOrdering, ordering_then}
use Rattle.std.specs.Cmp.Lexicographic.{slice_cmp}
use Rattle.std.proofs.lemmas.List.{append-nil}
use Rattle.std.proofs.lemmas.Bool.{cases_order}
use Rattle.scev_base.specs.declared.ids.ExprId.{ExprId}
use Rattle.poly_terms.specs.Monomials.{AllFrom, IsMonomial, same_ids, times_in, with_factor, union, IsLower, Precedes}

id_of : ℕ → ExprId
id_of n = record { 0 = n }

-- an id is known by its number
same_id : (x y : ExprId) → x.0 ≡ y.0 → x ≡ y
unfolding id_of
same_id x y e = ap id_of e

-- tests on numbers
pub yes_le : (a b : ℕ) → a ≤ b → nat_le a b ≡ true
yes_le a b h = grind (arith, h)

pub no_le : (a b : ℕ) → b < a → nat_le a b ≡ false
no_le a b h = grind (arith, h)

pub yes_eq : (a b : ℕ) → a ≡ b → (a == b) ≡ true
yes_eq a b h = grind (arith, h)

pub no_eq : (a b : ℕ) → (a ≡ b → ⊥) → (a == b) ≡ false
no_eq a b h = grind (arith, h)

-- where a factor comes first, and where it comes later
first_factor : (x y : ExprId) (ys : List ExprId) → x.0 ≤ y.0 → with_factor x (y ∷ ys) ≡ x ∷ (y ∷ ys)
first_factor x y ys h = ap (λ b. if b then x ∷ (y ∷ ys) else y ∷ with_factor x ys) (yes_le x.0 y.0 h)

later_factor : (x y : ExprId) (ys : List ExprId) → y.0 < x.0 → with_factor x (y ∷ ys) ≡ y ∷ with_factor x ys
later_factor x y ys h = ap (λ b. if b then x ∷ (y ∷ ys) else y ∷ with_factor x ys) (no_le x.0 y.0 h)

from_lower : (low lower : ℕ) (xs : List ExprId) → lower ≤ low → AllFrom low xs → AllFrom lower xs
from_lower low lower [] h all = tt
from_lower low lower (x ∷ xs) h all = (omega (arith, all.0), from_lower low lower xs h all.1)

from_with_factor : (low : ℕ) (x : ExprId) (ys : List ExprId) → low ≤ x.0 → AllFrom low ys → AllFrom low (with_factor x ys)
from_with_factor low x [] h all = (h, tt)
from_with_factor low x (y ∷ ys) h all =
    elim (nat_le x.0 y.0) as (λ b. AllFrom low (if b then x ∷ (y ∷ ys) else y ∷ with_factor x ys)) [
      | true ↦ (h, all)
      | false ↦ (all.0, from_with_factor low x ys h all.1)
    ]

from_union : (low : ℕ) (xs ys : List ExprId) → AllFrom low xs → AllFrom low ys → AllFrom low (union xs ys)
from_union low [] ys hx hy = hy
from_union low (x ∷ xs) ys hx hy = from_with_factor low x (union xs ys) hx.0 (from_union low xs ys hx.1 hy)

least_factor : (x : ExprId) (ys : List ExprId) → AllFrom x.0 ys → with_factor x ys ≡ x ∷ ys
least_factor x [] all = refl
least_factor x (y ∷ ys) all = first_factor x y ys all.0

-- the lower first factor comes first: of the left
pub union_left : (x y : ExprId) (xs ys : List ExprId) → IsMonomial (x ∷ xs) → IsMonomial (y ∷ ys) → x.0 ≤ y.0 → union (x ∷ xs) (y ∷ ys) ≡ x ∷ union xs (y ∷ ys)
union_left x y xs ys hx hy h =
    least_factor x (union xs (y ∷ ys)) (from_union x.0 xs (y ∷ ys) hx.0 (h, from_lower y.0 x.0 ys h hy.0))

-- and of the right
right_first : (low : ℕ) (y : ExprId) (xs ys : List ExprId) → AllFrom low xs → y.0 < low → union xs (y ∷ ys) ≡ y ∷ union xs ys
right_first low y [] ys all h = refl
right_first low y (x ∷ xs) ys all h =
    ap (with_factor x) (right_first low y xs ys all.1 h) ∙ later_factor x y (union xs ys) (omega (arith, all.0))

pub union_right : (x y : ExprId) (xs ys : List ExprId) → IsMonomial (x ∷ xs) → y.0 < x.0 → union (x ∷ xs) (y ∷ ys) ≡ y ∷ union (x ∷ xs) ys
union_right x y xs ys hx h =
    right_first x.0 y (x ∷ xs) ys (let whole : x.0 ≤ x.0 = omega arith in (whole, hx.0)) h

pub union_none : (xs : List ExprId) → IsMonomial xs → union xs [] ≡ xs
union_none [] h = refl
union_none (x ∷ xs) h = ap (with_factor x) (union_none xs h.1) ∙ least_factor x xs h.0

-- the product of monomials is one
with_factor_ascends : (x : ExprId) (ys : List ExprId) → IsMonomial ys → IsMonomial (with_factor x ys)
with_factor_ascends x [] h = (tt, tt)
with_factor_ascends x (y ∷ ys) h =
    elim (cases_order x.0 y.0) [
      | inl e ↦ subst IsMonomial (sym (first_factor x y ys (omega arith))) (let le : x.0 ≤ y.0 = omega arith in ((le, from_lower y.0 x.0 ys le h.0), h))
      | inr o ↦ elim o [
        | inl lt ↦ subst IsMonomial (sym (first_factor x y ys (omega arith))) (let le : x.0 ≤ y.0 = omega arith in ((le, from_lower y.0 x.0 ys le h.0), h))
        | inr gt ↦ subst IsMonomial (sym (later_factor x y ys gt)) (from_with_factor y.0 x ys (omega arith) h.0, with_factor_ascends x ys h.1)
      ]
    ]

pub union_ascends : (xs ys : List ExprId) → IsMonomial ys → IsMonomial (union xs ys)
union_ascends [] ys h = h
union_ascends (x ∷ xs) ys h = with_factor_ascends x (union xs ys) (union_ascends xs ys h)

-- the order of lists
not_lower : (xs : List ExprId) → IsLower xs xs → ⊥
not_lower [] h = h
not_lower (x ∷ xs) h = elim h [ inl lt ↦ omega (arith, lt) | inr e ↦ not_lower xs e.1 ]

pub not_before_itself : (xs : List ExprId) → Precedes xs xs → ⊥
not_before_itself xs h = elim h [ inl lt ↦ omega (arith, lt) | inr e ↦ not_lower xs e.1 ]

lower_again : (xs ys zs : List ExprId) → IsLower xs ys → IsLower ys zs → IsLower xs zs
lower_again xs [] zs h h' = absurd h
lower_again xs (y ∷ ys) [] h h' = h'
lower_again [] (y ∷ ys) (z ∷ zs) h h' = tt
lower_again (x ∷ xs) (y ∷ ys) (z ∷ zs) h h' =
    elim h [
      | inl lt ↦ elim h' [ inl lt' ↦ inl (omega (arith, lt, lt')) | inr e' ↦ inl (omega (arith, lt, e'.0)) ]
      | inr e ↦ elim h' [ inl lt' ↦ inl (omega (arith, e.0, lt')) | inr e' ↦ inr (e.0 ∙ e'.0, lower_again xs ys zs e.1 e'.1) ]
    ]

pub before_again : (xs ys zs : List ExprId) → Precedes xs ys → Precedes ys zs → Precedes xs zs
before_again xs ys zs h h' =
    elim h [
      | inl lt ↦ elim h' [ inl lt' ↦ inl (omega (arith, lt, lt')) | inr e' ↦ inl (omega (arith, lt, e'.0)) ]
      | inr e ↦ elim h' [ inl lt' ↦ inl (omega (arith, e.0, lt')) | inr e' ↦ inr (e.0 ∙ e'.0, lower_again xs ys zs e.1 e'.1) ]
    ]

one_of_lower : (xs ys : List ExprId) → (xs ≡ ys) ⊎ (IsLower xs ys ⊎ IsLower ys xs)
one_of_lower [] [] = inl refl
one_of_lower [] (y ∷ ys) = inr (inl tt)
one_of_lower (x ∷ xs) [] = inr (inr tt)
one_of_lower (x ∷ xs) (y ∷ ys) =
    elim (cases_order x.0 y.0) [
      | inl e ↦ elim (one_of_lower xs ys) [
        | inl e' ↦ inl (ap (λ l. x ∷ l) e' ∙ ap (λ z. z ∷ ys) (same_id x y e))
        | inr o ↦ elim o [ inl lower ↦ inr (inl (inr (e, lower))) | inr higher ↦ inr (inr (inr (sym e, higher))) ]
      ]
      | inr o ↦ elim o [ inl lt ↦ inr (inl (inl lt)) | inr gt ↦ inr (inr (inl gt)) ]
    ]

-- of two monomials one is first, or they are one
pub one_of_orders : (xs ys : List ExprId) → (xs ≡ ys) ⊎ (Precedes xs ys ⊎ Precedes ys xs)
one_of_orders xs ys =
    elim (cases_order (length xs) (length ys)) [
      | inl e ↦ elim (one_of_lower xs ys) [
        | inl e' ↦ inl e'
        | inr o ↦ elim o [ inl lower ↦ inr (inl (inr (e, lower))) | inr higher ↦ inr (inr (inr (sym e, higher))) ]
      ]
      | inr o ↦ elim o [ inl lt ↦ inr (inl (inl lt)) | inr gt ↦ inr (inr (inl gt)) ]
    ]

-- a product of as many factors keeps the order
length_with_factor : (x : ExprId) (ys : List ExprId) → length (with_factor x ys) ≡ suc (length ys)
length_with_factor x [] = refl
length_with_factor x (y ∷ ys) =
    elim (nat_le x.0 y.0) as (λ b. length (if b then x ∷ (y ∷ ys) else y ∷ with_factor x ys) ≡ suc (suc (length ys))) [
      | true ↦ refl
      | false ↦ ap suc (length_with_factor x ys)
    ]

factor_keeps_lower : (x : ExprId) (ys zs : List ExprId) → length ys ≡ length zs → IsLower ys zs → IsLower (with_factor x ys) (with_factor x zs)
factor_keeps_lower x ys [] e h = absurd h
factor_keeps_lower x [] (z ∷ zs) e h = absurd (omega (arith, e))
factor_keeps_lower x (y ∷ ys) (z ∷ zs) e h = elim (cases_at x y) [
  | inl first ↦ elim (cases_at x z) [
    | inl first' ↦ subst (λ l. IsLower l (with_factor x (z ∷ zs))) (sym (first_factor x y ys first)) (subst (IsLower (x ∷ (y ∷ ys))) (sym (first_factor x z zs first')) (inr (refl, h)))
    | inr later ↦ elim h [ inl lt ↦ absurd (omega (arith, first, later, lt)) | inr same ↦ absurd (omega (arith, first, later, same.0)) ]
  ]
  | inr later ↦ elim (cases_at x z) [
    | inl first' ↦ subst (λ l. IsLower l (with_factor x (z ∷ zs))) (sym (later_factor x y ys later)) (subst (IsLower (y ∷ with_factor x ys)) (sym (first_factor x z zs first')) (inl later))
    | inr later' ↦ subst (λ l. IsLower l (with_factor x (z ∷ zs))) (sym (later_factor x y ys later)) (subst (IsLower (y ∷ with_factor x ys)) (sym (later_factor x z zs later')) (elim h [
      | inl lt ↦ inl lt
      | inr same ↦ let fewer : length ys ≡ length zs = omega (arith, e) in inr (same.0, factor_keeps_lower x ys zs fewer same.1)
    ]))
  ]
]
  where
    cases_at : (a b : ExprId) → (a.0 ≤ b.0) ⊎ (b.0 < a.0)
    cases_at a b = elim (cases_order a.0 b.0) [ inl same ↦ inl (omega (arith, same)) | inr o ↦ elim o [ inl lt ↦ inl (omega (arith, lt)) | inr gt ↦ inr gt ] ]

factor_keeps_order : (x : ExprId) (ys zs : List ExprId) → Precedes ys zs → Precedes (with_factor x ys) (with_factor x zs)
factor_keeps_order x ys zs h =
    let more = length_with_factor x ys in
    let more' = length_with_factor x zs in
    elim h [
      | inl lt ↦ inl (omega (arith, lt, more, more'))
      | inr e ↦ inr (more ∙ ap suc e.0 ∙ sym more', factor_keeps_lower x ys zs e.0 e.1)
    ]

pub union_keeps_order : (xs ys zs : List ExprId) → Precedes ys zs → Precedes (union xs ys) (union xs zs)
union_keeps_order [] ys zs h = h
union_keeps_order (x ∷ xs) ys zs h = factor_keeps_order x (union xs ys) (union xs zs) (union_keeps_order xs ys zs h)

-- the test of two lists
pub same_itself : (xs : List ExprId) → same_ids xs xs ≡ true
same_itself [] = refl
same_itself (x ∷ xs) = ap (λ b. b && same_ids xs xs) (yes_eq x.0 x.0 refl) ∙ same_itself xs

pub same_is : (xs ys : List ExprId) → same_ids xs ys ≡ true → xs ≡ ys
same_is [] [] h = refl
same_is [] (y ∷ ys) h = absurd (cc)
same_is (x ∷ xs) [] h = absurd (cc)
same_is (x ∷ xs) (y ∷ ys) h =
    elim (cases_order x.0 y.0) [
      | inl e ↦ ap (λ l. x ∷ l) (same_is xs ys (ap (λ b. b && same_ids xs ys) (sym (yes_eq x.0 y.0 e)) ∙ h)) ∙ ap (λ z. z ∷ ys) (same_id x y e)
      | inr o ↦ let differ : x.0 ≡ y.0 → ⊥ = λ e. elim o [ inl lt ↦ omega (arith, lt, e) | inr gt ↦ omega (arith, gt, e) ] in
          let no : false ≡ true = ap (λ b. b && same_ids xs ys) (sym (no_eq x.0 y.0 differ)) ∙ h in absurd (cc no)
    ]

pub not_same : (xs ys : List ExprId) → (xs ≡ ys → ⊥) → same_ids xs ys ≡ false
not_same xs ys differ =
    elim (same_ids xs ys) as (λ b. same_ids xs ys ≡ b → b ≡ false) [
      | true ↦ λ e. absurd (differ (same_is xs ys e))
      | false ↦ λ e. refl
    ] refl

-- turns of the merge of two monomials: the factor goes to the end of what is there
pub union_left_turn : (ids lefts rights xs ys : List ExprId) (x y : ExprId) → lefts ≡ x ∷ xs → rights ≡ y ∷ ys → IsMonomial lefts → IsMonomial rights → x.0 ≤ y.0 → (ids ++ x ∷ []) ++ union xs rights ≡ ids ++ union lefts rights
union_left_turn ids lefts rights xs ys x y e e' hl hr h =
    append_assoc ids (x ∷ []) (union xs rights)
    ∙ ap (λ l. ids ++ x ∷ union xs l) e'
    ∙ ap (λ l. ids ++ l) (sym (union_left x y xs ys (subst IsMonomial e hl) (subst IsMonomial e' hr) h))
    ∙ ap (λ l. ids ++ union l (y ∷ ys)) (sym e)
    ∙ ap (λ l. ids ++ union lefts l) (sym e')

pub union_right_turn : (ids lefts rights xs ys : List ExprId) (x y : ExprId) → lefts ≡ x ∷ xs → rights ≡ y ∷ ys → IsMonomial lefts → y.0 < x.0 → (ids ++ y ∷ []) ++ union lefts ys ≡ ids ++ union lefts rights
union_right_turn ids lefts rights xs ys x y e e' hl h =
    append_assoc ids (y ∷ []) (union lefts ys)
    ∙ ap (λ l. ids ++ y ∷ union l ys) e
    ∙ ap (λ l. ids ++ l) (sym (union_right x y xs ys (subst IsMonomial e hl) h))
    ∙ ap (λ l. ids ++ union l (y ∷ ys)) (sym e)
    ∙ ap (λ l. ids ++ union lefts l) (sym e')

pub union_end : (ids lefts rights : List ExprId) → IsMonomial lefts → (length lefts ≡ 0) ⊎ (length rights ≡ 0) → (ids ++ lefts) ++ rights ≡ ids ++ union lefts rights
union_end ids [] rights h none = append_assoc ids [] rights
union_end ids (x ∷ xs) [] h none =
    append_assoc ids (x ∷ xs) [] ∙ ap (λ l. ids ++ l) (append-nil (x ∷ xs) ∙ sym (union_none (x ∷ xs) h))
union_end ids (x ∷ xs) (y ∷ ys) h none = absurd (elim none [ inl e ↦ omega (arith, e) | inr e ↦ omega (arith, e) ])

-- what a comparison by ids says
by_ids : (x y : ExprId) (xs ys : List ExprId) (o o' : Ordering) → MatchOrdering o (x.0 < y.0) (x.0 ≡ y.0) (y.0 < x.0) → MatchOrdering o' (IsLower xs ys) (xs ≡ ys) (IsLower ys xs) → MatchOrdering (ordering_then o o') (IsLower (x ∷ xs) (y ∷ ys)) (x ∷ xs ≡ y ∷ ys) (IsLower (y ∷ ys) (x ∷ xs))
by_ids x y xs ys Less o' h h' = inl h
by_ids x y xs ys Greater o' h h' = inl h
by_ids x y xs ys Equal Less h h' = inr (h, h')
by_ids x y xs ys Equal Equal h h' = ap (λ l. x ∷ l) h' ∙ ap (λ z. z ∷ ys) (same_id x y h)
by_ids x y xs ys Equal Greater h h' = inr (sym h, h')

slices_ordered : (by : ExprId → ExprId → Ordering) → ((x y : ExprId) → MatchOrdering (by x y) (x.0 < y.0) (x.0 ≡ y.0) (y.0 < x.0)) → (xs ys : List ExprId) → MatchOrdering (slice_cmp by xs ys) (IsLower xs ys) (xs ≡ ys) (IsLower ys xs)
slices_ordered by each [] [] = refl
slices_ordered by each [] (y ∷ ys) = tt
slices_ordered by each (x ∷ xs) [] = tt
slices_ordered by each (x ∷ xs) (y ∷ ys) =
    by_ids x y xs ys (by x y) (slice_cmp by xs ys) (each x y) (slices_ordered by each xs ys)

pub ordered_by_ids : (by : ExprId → ExprId → Ordering) → ((x y : ExprId) → MatchOrdering (by x y) (x.0 < y.0) (x.0 ≡ y.0) (y.0 < x.0)) → (xs ys : List ExprId) (o : Ordering) → o ≡ slice_cmp by xs ys → MatchOrdering o (IsLower xs ys) (xs ≡ ys) (IsLower ys xs)
ordered_by_ids by each xs ys o e =
    subst (λ r. MatchOrdering r (IsLower xs ys) (xs ≡ ys) (IsLower ys xs)) (sym e) (slices_ordered by each xs ys)

pub of_one_length : (xs ys : List ExprId) (o : Ordering) → length xs ≡ length ys → MatchOrdering o (IsLower xs ys) (xs ≡ ys) (IsLower ys xs) → MatchOrdering o (Precedes xs ys) (xs ≡ ys) (Precedes ys xs)
of_one_length xs ys Less e h = inr (e, h)
of_one_length xs ys Equal e h = h
of_one_length xs ys Greater e h = inr (sym e, h)

-- how often an id is in a product
with_in_place : (id x y : ExprId) (ys : List ExprId) (first : Bool) → times_in id (with_factor x ys) ≡ times_in id (x ∷ []) + times_in id ys → times_in id (if first then x ∷ (y ∷ ys) else y ∷ with_factor x ys) ≡ times_in id (x ∷ []) + times_in id (y ∷ ys)
with_in_place id x y ys true h = omega arith
with_in_place id x y ys false h = omega (arith, h)

times_in_with : (id x : ExprId) (ys : List ExprId) → times_in id (with_factor x ys) ≡ times_in id (x ∷ []) + times_in id ys
times_in_with id x [] = omega arith
times_in_with id x (y ∷ ys) = with_in_place id x y ys (nat_le x.0 y.0) (times_in_with id x ys)

pub times_in_union : (id : ExprId) (xs ys : List ExprId) → times_in id (union xs ys) ≡ times_in id xs + times_in id ys
times_in_union id [] ys = omega arith
times_in_union id (x ∷ xs) ys =
    times_in_with id x (union xs ys) ∙ ap (λ k. times_in id (x ∷ []) + k) (times_in_union id xs ys) ∙ omega arith

-- Monomials that have each id as often are one.
below_all : (id : ExprId) (low : ℕ) (ys : List ExprId) → AllFrom low ys → id.0 < low → times_in id ys ≡ 0
below_all id low [] all h = refl
below_all id low (y ∷ ys) all h =
    let other : id.0 ≡ y.0 → ⊥ = λ e. omega (arith, e, h, all.0) in
    ap (λ b. (if b then 1 else 0) + times_in id ys) (no_eq id.0 y.0 other) ∙ zero-add (times_in id ys) ∙ below_all id low ys all.1 h

at_least_once : (x : ExprId) (xs : List ExprId) → 1 ≤ times_in x (x ∷ xs)
at_least_once x xs =
    subst (λ k. 1 ≤ k) (sym (ap (λ b. (if b then 1 else 0) + times_in x xs) (yes_eq x.0 x.0 refl))) (omega arith)

first_is_least : (x y : ExprId) (xs ys : List ExprId) → IsMonomial (y ∷ ys) → times_in x (x ∷ xs) ≡ times_in x (y ∷ ys) → x.0 < y.0 → ⊥
first_is_least x y xs ys h e lt =
    let whole : y.0 ≤ y.0 = omega arith in
    omega (arith, at_least_once x xs, e, below_all x y.0 (y ∷ ys) (whole, h.0) lt)

pub one_ascending : (xs ys : List ExprId) → IsMonomial xs → IsMonomial ys → ((id : ExprId) → times_in id xs ≡ times_in id ys) → xs ≡ ys
one_ascending [] [] hx hy same = refl
one_ascending [] (y ∷ ys) hx hy same = absurd (omega (arith, at_least_once y ys, same y))
one_ascending (x ∷ xs) [] hx hy same = absurd (omega (arith, at_least_once x xs, same x))
one_ascending (x ∷ xs) (y ∷ ys) hx hy same =
    elim (cases_order x.0 y.0) [
      | inl e ↦
          let firsts = same_id x y e in
          ap (λ l. x ∷ l) (one_ascending xs ys hx.1 hy.1 (λ id. same_rest (times_in id (x ∷ [])) (times_in id xs) (times_in id ys) (without id x xs ∙ same id ∙ ap (λ z. times_in id (z ∷ ys)) (sym firsts) ∙ sym (without id x ys)))) ∙ ap (λ z. z ∷ ys) firsts
      | inr o ↦ elim o [
        | inl lt ↦ absurd (first_is_least x y xs ys hy (same x) lt)
        | inr gt ↦ absurd (first_is_least y x ys xs hx (sym (same y)) gt)
      ]
    ]
  where
    without : (id x : ExprId) (xs : List ExprId) → times_in id (x ∷ []) + times_in id xs ≡ times_in id (x ∷ xs)
    without id x xs = omega arith

    same_rest : (n a b : ℕ) → n + a ≡ n + b → a ≡ b
    same_rest n a b e = omega (arith, e)

pub union_commutes : (xs ys : List ExprId) → IsMonomial xs → IsMonomial ys → union xs ys ≡ union ys xs
union_commutes xs ys hx hy =
    one_ascending (union xs ys) (union ys xs) (union_ascends xs ys hy) (union_ascends ys xs hx) (λ id. times_in_union id xs ys ∙ other_way (times_in id xs) (times_in id ys) ∙ sym (times_in_union id ys xs))
  where
    other_way : (a b : ℕ) → a + b ≡ b + a
    other_way a b = omega arith
