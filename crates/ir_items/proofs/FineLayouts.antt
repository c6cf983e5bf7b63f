-- A data layout is fine exactly where it has no fault.
use Rattle.std.proofs.Common.{◌≡◌, ℕ, Bool, true, false, not, ◌&&◌, ◌==◌, if◌then◌else◌, List, [], ◌∷◌, ◌++◌, Contains, Option, Some, None, ◌⊎◌, inl, inr, refl, sym, ap, subst, ◌∙◌, append_assoc}
use Rattle.std.specs.Prelude.{MatchOption}
use Rattle.std.specs.Option.{is_some}
use Rattle.std.proofs.lemmas.Bool.{and_parts, eqb-true, eq-eqb}
use Rattle.std.proofs.lemmas.List.{append-nil}
use Rattle.std.proofs.lemmas.List.Elements.{Contains-push_cases}
use Rattle.ir_grammar.specs.Layout.{IsLayoutFault}
use Rattle.ir_grammar.specs.Layout.IsLayoutFault.{here, later}
use Rattle.ir_parts.specs.WordsReading.{is_none}
use Rattle.ir_parts.proofs.Readers.{either}
use Rattle.ir_parts.proofs.SingleTokens.{both_true}
use Rattle.ir_items.specs.LayoutScan.{left_out, is_fine_behind, is_fine_layout}
use Rattle.ir_items.proofs.FirstParts.{nothing_contained}
use Rattle.ir_items.proofs.LeftOut.{left_out_there}
use Rattle.ir_items.proofs.LayoutFaults.{none_left_out, past_first, no_later}

-- what is none
none_given : (found : Option ℕ) → is_none found ≡ true → found ≡ None
none_given None e = refl
none_given (Some x) e = absurd cc

-- another byte is no `-`
still_free : (spec : List ℕ) (b : ℕ) → (b == 45) ≡ false → (Contains spec 45 → ⊥) → Contains (spec ++ b ∷ []) 45 → ⊥
still_free spec b other free found = elim (Contains-push_cases spec b 45 found) [
  | inl before ↦ free before
  | inr is ↦ let same = eq-eqb b 45 is in cc
]

-- a byte goes over to the specification
next_byte : (spec bs : List ℕ) (b : ℕ) → (spec ++ b ∷ []) ++ bs ≡ spec ++ b ∷ bs
next_byte spec bs b = append_assoc spec (b ∷ []) bs

-- what is fine has no fault
no_fault_behind : (spec bs : List ℕ) → (Contains spec 45 → ⊥) → is_fine_behind spec bs ≡ true
    → (word at : ℕ) → IsLayoutFault (spec ++ bs) word at → ⊥
unfolding is_fine_behind
no_fault_behind spec [] free fine word at fault =
    no_later spec word at free (none_left_out spec (none_given (left_out spec) fine))
    (subst (λ (text : List ℕ). IsLayoutFault text word at) (append-nil spec) fault)
no_fault_behind spec (b ∷ bs) free fine word at fault = elim (either (b == 45)) [
  | inl is ↦
      let both = and_parts (is_none (left_out spec)) (is_fine_behind [] bs)
      (sym (ap (λ c. if c then is_none (left_out spec) && is_fine_behind [] bs else is_fine_behind (spec ++ b ∷ []) bs)
      is) ∙ fine) in
      let cut : spec ++ b ∷ bs ≡ spec ++ 45 ∷ bs = ap (λ (b : ℕ). spec ++ b ∷ bs) (eqb-true b 45 is) in
      let found = past_first spec bs (spec ++ b ∷ bs) word at cut free
      (none_left_out spec (none_given (left_out spec) both.0)) fault in
      no_fault_behind [] bs (nothing_contained 45) both.1 word found.0 found.1
  | inr other ↦
      no_fault_behind (spec ++ b ∷ []) bs (still_free spec b other free)
      (sym (ap (λ c. if c then is_none (left_out spec) && is_fine_behind [] bs else is_fine_behind (spec ++ b ∷ []) bs)
      other) ∙ fine)
      word at (subst (λ (text : List ℕ). IsLayoutFault text word at) (sym (next_byte spec bs b)) fault)
]

-- a specification is not left out, where that would be a fault
not_left_out : (spec rest : List ℕ) → (Contains spec 45 → ⊥) → (rest ≡ []) ⊎ ((more : List ℕ) × (rest ≡ 45 ∷ more))
    → ((word at : ℕ) → IsLayoutFault (spec ++ rest) word at → ⊥) → is_none (left_out spec) ≡ true
not_left_out spec rest free ends none = go (left_out spec) refl
  where
    go : (found : Option ℕ) → left_out spec ≡ found → is_none found ≡ true
    go None e = refl
    go (Some word) e = absurd (none word 0 (here spec rest refl free ends (left_out_there spec word e)))

-- what has no fault is fine
fine_behind : (spec bs : List ℕ) → (Contains spec 45 → ⊥)
    → ((word at : ℕ) → IsLayoutFault (spec ++ bs) word at → ⊥) → is_fine_behind spec bs ≡ true
unfolding is_fine_behind
fine_behind spec [] free none = not_left_out spec [] free (inl refl) none
fine_behind spec (b ∷ bs) free none = elim (either (b == 45)) [
  | inl is ↦
      let first : is_none (left_out spec) ≡ true =
      not_left_out spec (b ∷ bs) free (inr (bs, ap (λ (b : ℕ). b ∷ bs) (eqb-true b 45 is))) none in
      let cut : spec ++ b ∷ bs ≡ spec ++ 45 ∷ bs = ap (λ (b : ℕ). spec ++ b ∷ bs) (eqb-true b 45 is) in
      ap (λ c. if c then is_none (left_out spec) && is_fine_behind [] bs else is_fine_behind (spec ++ b ∷ []) bs) is
      ∙ both_true (is_none (left_out spec)) (is_fine_behind [] bs) first
      (fine_behind [] bs (nothing_contained 45) (λ word at fault.
      none word _ (later spec bs cut free (none_left_out spec (none_given (left_out spec) first)) fault)))
  | inr other ↦
      ap (λ c. if c then is_none (left_out spec) && is_fine_behind [] bs else is_fine_behind (spec ++ b ∷ []) bs) other
      ∙ fine_behind (spec ++ b ∷ []) bs (still_free spec b other free) (λ word at fault.
      none word at (subst (λ (text : List ℕ). IsLayoutFault text word at) (next_byte spec bs b) fault))
]

-- The test of a whole layout, both ways.
pub fine_there : (text : List ℕ) → is_fine_layout text ≡ true → (word at : ℕ) → IsLayoutFault text word at → ⊥
fine_there text fine = no_fault_behind [] text (nothing_contained 45) fine

pub fine_back : (text : List ℕ) → ((word at : ℕ) → IsLayoutFault text word at → ⊥) → is_fine_layout text ≡ true
fine_back text none = fine_behind [] text (nothing_contained 45) none

-- so the search for a fault decides
pub fine_found : (text : List ℕ) (found : Option (ℕ × ℕ))
    → MatchOption found ((word at : ℕ) → IsLayoutFault text word at → ⊥) (λ fault. IsLayoutFault text fault.0 fault.1)
    → is_none found ≡ is_fine_layout text
fine_found text None none = sym (fine_back text none)
fine_found text (Some fault) is = elim (either (is_fine_layout text)) [
  | inl fine ↦ absurd (fine_there text fine fault.0 fault.1 is)
  | inr other ↦ sym other
]

-- whether nothing was found, as the code asks it
pub none_asked : {A : Type 0} (found : Option A) (answer : Bool) → is_some found ≡ not answer → answer ≡ is_none found
none_asked None true e = refl
none_asked None false e = absurd cc
none_asked (Some x) true e = absurd cc
none_asked (Some x) false e = refl
