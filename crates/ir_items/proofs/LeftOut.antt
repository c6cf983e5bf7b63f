-- The specifications of a data layout that are left out are those that are found.
use Rattle.std.proofs.Common.{◌≡◌, ◌≢◌, ℕ, Bool, true, false, nat_eq, nat_lt, ◌&&◌, ◌==◌, not, if◌then◌else◌, List, [], ◌∷◌, ◌++◌, length, Contains, Some, None, ◌⊎◌, inl, inr, refl, sym, ap, subst, ◌∙◌, codes, arith}
use Rattle.std.specs.List.{list_all}
use Rattle.std.specs.Str.{bytes_eq}
use Rattle.std.specs.Str.Parse.{digits_value}
use Rattle.std.proofs.lemmas.Bool.{and_parts, eqb-true, eq-eqb}
use Rattle.std.proofs.lemmas.Bool.Decides.{nat_tests}
use Rattle.std.proofs.lemmas.Slice.Eq.{bytes_eq-Decides}
use Rattle.ir_text.specs.Bytes.{is_digit}
use Rattle.ir_grammar.specs.Layout.{IsSixtyFour, IsOtherPointer, LeavesOut}
use Rattle.ir_parts.proofs.Readers.{either}
use Rattle.ir_parts.proofs.SingleTokens.{both_true}
use Rattle.ir_items.specs.LayoutScan.{EndsAt, first_part, is_sixty_four, is_other_size, is_colon_size, is_default_size, is_other_pointer, left_out}
use Rattle.ir_items.proofs.FirstParts.{parted_once, is_parted}

-- ---- sizes

-- whether there are any bytes
some_bytes : (size : List ℕ) → nat_lt 0 (length size) ≡ true → size ≡ [] → ⊥
some_bytes [] e is = absurd cc
some_bytes (b ∷ bs) e is = absurd cc

any_bytes : (size : List ℕ) → size ≢ [] → nat_lt 0 (length size) ≡ true
any_bytes [] some = absurd (some refl)
any_bytes (b ∷ bs) some = grind (arith, nat_tests)

-- the test of a size, both ways
sixty_four_there : (size : List ℕ) → is_sixty_four size ≡ true → IsSixtyFour size
sixty_four_there size e =
    let all = and_parts (nat_lt 0 (length size)) (list_all is_digit size && nat_eq (digits_value 10 size) 64) e in
    let parts = and_parts (list_all is_digit size) (nat_eq (digits_value 10 size) 64) all.1 in
    (some_bytes size all.0, parts.0, eqb-true (digits_value 10 size) 64 parts.1)

sixty_four_back : (size : List ℕ) → IsSixtyFour size → is_sixty_four size ≡ true
sixty_four_back size is =
    both_true (nat_lt 0 (length size)) (list_all is_digit size && nat_eq (digits_value 10 size) 64)
    (any_bytes size is.0)
    (both_true (list_all is_digit size) (nat_eq (digits_value 10 size) 64) is.1
    (eq-eqb (digits_value 10 size) 64 is.2))

-- a size before the first `:` that is another than 64
record IsOtherSize (text : List ℕ) : Type 0 where
  size : List ℕ
  rest : List ℕ
  parts : text ≡ size ++ rest
  free : Contains size 58 → ⊥
  ends : EndsAt 58 rest
  other : IsSixtyFour size → ⊥

-- the test of what begins with a size, both ways
size_there : (text : List ℕ) → is_other_size text ≡ true → IsOtherSize text
size_there text e = let p = is_parted 58 text in record {
  size = first_part 58 text;
  rest = p.rest;
  parts = p.parts;
  free = p.free;
  ends = p.ends;
  other = λ is. let so = sym (ap not (sixty_four_back (first_part 58 text) is)) ∙ e in cc;
}

size_back : (text : List ℕ) → IsOtherSize text → is_other_size text ≡ true
size_back text is =
    let p = is_parted 58 text in
    let same = (parted_once 58 (first_part 58 text) is.size p.rest is.rest (sym p.parts ∙ is.parts) p.free is.free
    p.ends is.ends).0 in
    elim (either (is_sixty_four (first_part 58 text))) [
      | inl e ↦ absurd (is.other (subst IsSixtyFour same (sixty_four_there (first_part 58 text) e)))
      | inr e ↦ ap not e
    ]

-- ---- pointers

-- such a size stands behind these bytes
abbrev Behind : List ℕ → List ℕ → Type 0
Behind front text = (more : List ℕ) × (text ≡ front ++ more) × IsOtherSize more

-- a size behind `:`, and behind `0:`
colon_there : (text : List ℕ) → is_colon_size text ≡ true → Behind (codes ":") text
unfolding is_colon_size
colon_there [] e = absurd cc
colon_there (b ∷ bs) e =
    let parts = and_parts (b == 58) (is_other_size bs) e in
    (bs, ap (λ (b : ℕ). b ∷ bs) (eqb-true b 58 parts.0), size_there bs parts.1)

default_there : (text : List ℕ) → is_default_size text ≡ true → Behind (codes ":") text ⊎ Behind (codes "0:") text
unfolding is_default_size
default_there [] e = absurd cc
default_there (b ∷ bs) e = elim (either (b == 48)) [
  | inl is ↦
      let behind = colon_there bs (sym (ap (λ c. if c then is_colon_size bs else is_colon_size (b ∷ bs)) is) ∙ e) in
      inr (
        behind.0,
        ap (λ (b : ℕ). b ∷ bs) (eqb-true b 48 is) ∙ ap (λ (bs : List ℕ). 48 ∷ bs) behind.1,
        behind.2,
      )
  | inr no_zero ↦
      inl (colon_there (b ∷ bs)
      (sym (ap (λ c. if c then is_colon_size bs else is_colon_size (b ∷ bs)) no_zero) ∙ e))
]

-- a specification of pointers, by its front
pointer_of : (spec front more : List ℕ) → spec ≡ front ++ more
    → ((front ≡ codes "p:") ⊎ (front ≡ codes "p0:")) → IsOtherSize more → IsOtherPointer spec
pointer_of spec front more e which is =
    (front, is.size, is.rest, e ∙ ap (λ (more : List ℕ). front ++ more) is.parts, which, is.free, is.ends, is.other)

-- the test of such a specification, both ways
pointer_there : (spec : List ℕ) → is_other_pointer spec ≡ true → IsOtherPointer spec
unfolding is_other_pointer
pointer_there [] e = absurd cc
pointer_there (b ∷ bs) e =
    let parts = and_parts (b == 112) (is_default_size bs) e in
    let first : b ∷ bs ≡ 112 ∷ bs = ap (λ (b : ℕ). b ∷ bs) (eqb-true b 112 parts.0) in
    elim (default_there bs parts.1) [
      | inl behind ↦
          pointer_of (b ∷ bs) (codes "p:") behind.0 (first ∙ ap (λ (bs : List ℕ). 112 ∷ bs) behind.1) (inl refl)
          behind.2
      | inr behind ↦
          pointer_of (b ∷ bs) (codes "p0:") behind.0 (first ∙ ap (λ (bs : List ℕ). 112 ∷ bs) behind.1) (inr refl)
          behind.2
    ]

pointer_back : (spec : List ℕ) → IsOtherPointer spec → is_other_pointer spec ≡ true
unfolding is_other_pointer is_default_size is_colon_size
pointer_back spec is =
    let size : IsOtherSize (is.1 ++ is.2) =
    record { size = is.1; rest = is.2; parts = refl; free = is.5; ends = is.6; other = is.7 } in
    let found : is_other_size (is.1 ++ is.2) ≡ true = size_back (is.1 ++ is.2) size in
    elim is.4 [
      | inl front ↦ rw (is.3, front) found
      | inr front ↦ rw (is.3, front) found
    ]

-- ---- specifications

-- The number is that of a specification that is left out, and there is one for each such specification.
pub left_out_there : (spec : List ℕ) (word : ℕ) → left_out spec ≡ Some word → LeavesOut spec word
left_out_there spec word e = go (bytes_eq spec (codes "E")) (is_other_pointer spec) refl refl e
  where
    go : (is_endian is_pointer : Bool) → bytes_eq spec (codes "E") ≡ is_endian → is_other_pointer spec ≡ is_pointer
        → (if is_endian then Some 4 else (if is_pointer then Some 5 else None)) ≡ Some word → LeavesOut spec word
    go true is_pointer endian pointer e = inl ((bytes_eq-Decides spec (codes "E")).0 endian, cc)
    go false true endian pointer e = inr (pointer_there spec pointer, cc)
    go false false endian pointer e = absurd cc

pub left_out_back : (spec : List ℕ) (word : ℕ) → LeavesOut spec word → left_out spec ≡ Some word
unfolding is_other_pointer
left_out_back spec word (inl is) =
    ap (λ b. if b then Some 4 else (if is_other_pointer spec then Some 5 else None))
    ((bytes_eq-Decides spec (codes "E")).1 is.0)
    ∙ ap (λ (w : ℕ). Some w) (sym is.1)
left_out_back spec word (inr is) = go (bytes_eq spec (codes "E")) refl
  where
    pointer : is_other_pointer spec ≡ true
    pointer = pointer_back spec is.0

    go : (b : Bool) → bytes_eq spec (codes "E") ≡ b → left_out spec ≡ Some word
    go true endian =
        absurd (let other = sym pointer ∙ ap is_other_pointer ((bytes_eq-Decides spec (codes "E")).0 endian) in cc)
    go false endian =
        ap (λ b. if b then Some 4 else (if is_other_pointer spec then Some 5 else None)) endian
        ∙ (ap (λ b. if b then Some 5 else None) pointer ∙ ap (λ (w : ℕ). Some w) (sym is.1))
