-- What the walks over a phi's entries and over a block's instructions keep.
use Rattle.std.specs.Prelude.{◌≡◌, ◌≢◌, ◌↔◌, ◌⊎◌, ◌==◌, ℕ, ◌+◌, ◌<◌, List, [], ◌∷◌, ◌++◌, length, Bool, true, false}
use Rattle.std.specs.Prelude.{not, cond, Option, Some, None, All, filter, take_while, refl}
use Rattle.std.proofs.Common.{ap, sym, subst, ◌∙◌, drop, get_or, append_assoc, inl, inr}
use Rattle.std.proofs.lemmas.Bool.{both_ways}
use Rattle.std.proofs.lemmas.List.{drop_more}
use Rattle.std.proofs.lemmas.List.Elements.{All-head, All-tail, All-nil, All-cons, All-append}
use Rattle.std.proofs.lemmas.List.Sums.{take_while-cons}
use Rattle.scev_base.specs.declared.ids.BlockId.{BlockId}
use Rattle.ir_model.specs.declared.op.Operand.{Operand}
use Rattle.ir_model.specs.declared.op.PhiEntry.{PhiEntry}
use Rattle.ir_model.specs.declared.function.Instr.{Instr}
use Rattle.ir_model.specs.Shapes.{is_phi, leading_phis}
use Rattle.classify.specs.Recurrence.{phis, IsNumeral, entries_from, other_entries}
use Rattle.classify.proofs.OneAnswer.{same_numeral, same_start}

-- what a test keeps of the rest of a list, from a place on
rest_from : {X : Type 0} (xs : List X) (i : ℕ) (x d : X) → i < length xs → x ≡ get_or xs i d
    → drop i xs ≡ x ∷ drop (i + 1) xs
rest_from xs i x d within is =
    drop_more xs i d within ∙ ap (λ (y : _). y ∷ drop (i + 1) xs) (sym is)

kept_step : {X : Type 0} (test : X → Bool) (xs : List X) (i : ℕ) (x d : X) (b : Bool) → i < length xs
    → x ≡ get_or xs i d → test x ≡ b
    → filter test (drop i xs) ≡ cond b (x ∷ filter test (drop (i + 1) xs)) (filter test (drop (i + 1) xs))
kept_step test xs i x d b within is e =
    ap (filter test) (rest_from xs i x d within is) ∙ ap (λ (t : Bool). cond t (x ∷ filter test (drop (i + 1) xs)) (filter test (drop (i + 1) xs))) e

next_kept : {X : Type 0} (test : X → Bool) (xs : List X) (i : ℕ) (x d : X) → i < length xs → x ≡ get_or xs i d
    → test x ≡ true → filter test (drop i xs) ≡ x ∷ filter test (drop (i + 1) xs)
next_kept test xs i x d within is e = kept_step test xs i x d true within is e

next_left_out : {X : Type 0} (test : X → Bool) (xs : List X) (i : ℕ) (x d : X) → i < length xs → x ≡ get_or xs i d
    → test x ≡ false → filter test (drop i xs) ≡ filter test (drop (i + 1) xs)
next_left_out test xs i x d within is e =
    kept_step test xs i x d false within is e

leading_step : {X : Type 0} (test : X → Bool) (xs : List X) (i : ℕ) (x d : X) (b : Bool) → i < length xs
    → x ≡ get_or xs i d → test x ≡ b → take_while test (drop i xs) ≡ cond b (x ∷ take_while test (drop (i + 1) xs)) []
leading_step test xs i x d b within is e =
    ap (take_while test) (rest_from xs i x d within is) ∙ take_while-cons test x (drop (i + 1) xs) ∙ ap (λ (t : Bool). cond t (x ∷ take_while test (drop (i + 1) xs)) []) e

-- what holds of all elements of two lists in a row
all_before : {X : Type 0} (P : X → Type 0) (xs ys : List X) → All P (xs ++ ys) → All P xs
all_before P [] ys all = All-nil P
all_before P (x ∷ xs) ys all =
    All-cons P x xs (All-head P x (xs ++ ys) all) (all_before P xs ys (All-tail P x (xs ++ ys) all))

all_behind : {X : Type 0} (P : X → Type 0) (xs ys : List X) → All P (xs ++ ys) → All P ys
all_behind P [] ys all = all
all_behind P (x ∷ xs) ys all =
    all_behind P xs ys (All-tail P x (xs ++ ys) all)

-- the entry that was found, if one was
abbrev pub listed : BlockId → Option Operand → List PhiEntry
listed from None = []
listed from (Some value) = record { value = value; from = from } ∷ []

-- the entries from the block are the one that was found and those that are left
abbrev pub IsFound : List PhiEntry → BlockId → Option Operand → ℕ → Type 0
IsFound entries from found i = entries_from from.0 entries ≡ listed from found ++ entries_from from.0 (drop i entries)

-- the numeral at which some entries start
abbrev pub StartAt : Option ℕ → List PhiEntry → Type 0
StartAt None seen = seen ≡ []
StartAt (Some first) seen = (seen ≢ []) × All (λ entry. IsNumeral first entry.value) seen

-- the entries from outside are those that were seen, which start there, and those that are left
abbrev pub Starts : List PhiEntry → ℕ → Option ℕ → ℕ → Type 0
Starts entries b first i = (seen : List PhiEntry) × (other_entries b entries ≡ seen ++ other_entries b (drop i entries)) × StartAt first seen

not_nil : {X : Type 0} (xs : List X) (x : X) → xs ++ x ∷ [] ≢ []
not_nil [] x e = cc
not_nil (y ∷ ys) x e = cc

-- one more entry with the numeral
start_more : (start : ℕ) (first : Option ℕ) (seen : List PhiEntry) (x : PhiEntry) → IsNumeral start x.value
    → (first ≡ None) ⊎ (first ≡ Some start) → StartAt first seen → StartAt (Some start) (seen ++ x ∷ [])
start_more start first seen x numeral (inl none) before =
    let nothing : seen ≡ [] = subst (λ (o : Option ℕ). StartAt o seen) none before in (
      not_nil seen x,
      subst (λ (xs : List PhiEntry). All (λ entry. IsNumeral start entry.value) (xs ++ x ∷ [])) (sym nothing) (All-cons (λ (entry : PhiEntry). IsNumeral start entry.value) x [] numeral (All-nil (λ (entry : PhiEntry). IsNumeral start entry.value))),
    )
start_more start first seen x numeral (inr some) before =
    let already : StartAt (Some start) seen = subst (λ (o : Option ℕ). StartAt o seen) some before in (
      not_nil seen x,
      All-append (λ (entry : PhiEntry). IsNumeral start entry.value) seen (x ∷ []) already.1 (All-cons (λ (entry : PhiEntry). IsNumeral start entry.value) x [] numeral (All-nil (λ (entry : PhiEntry). IsNumeral start entry.value))),
    )

module _ (entries : List PhiEntry) (b : ℕ) (first : Option ℕ) (i : ℕ) (x d : PhiEntry) (within : i < length entries) (is : x ≡ get_or entries i d) (before : Starts entries b first i) where
  -- an entry from the block itself changes nothing
  pub start_skip : not (x.from.0 == b) ≡ false → Starts entries b first (i + 1)
  start_skip own =
      (before.0, before.1 ∙ ap (λ (xs : List PhiEntry). before.0 ++ xs) (next_left_out (λ (entry : PhiEntry). not (entry.from.0 == b)) entries i x d within is own), before.2)

  module _ (outside : not (x.from.0 == b) ≡ true) where
    split : other_entries b entries ≡ before.0 ++ x ∷ other_entries b (drop (i + 1) entries)
    split = before.1 ∙ ap (λ (xs : List PhiEntry). before.0 ++ xs) (next_kept (λ (entry : PhiEntry). not (entry.from.0 == b)) entries i x d within is outside)

    pub start_next : (start : ℕ) → IsNumeral start x.value → (first ≡ None) ⊎ (first ≡ Some start)
        → Starts entries b (Some start) (i + 1)
    start_next start numeral same = (
      before.0 ++ x ∷ [],
      split ∙ sym (append_assoc before.0 (x ∷ []) (other_entries b (drop (i + 1) entries))),
      start_more start first before.0 x numeral same before.2,
    )

    -- all entries from outside are numerals of one residue: so are those that were seen, and this one
    seen_starts : (m : ℕ) → All (λ entry. IsNumeral m entry.value) (other_entries b entries)
        → All (λ entry. IsNumeral m entry.value) before.0 × IsNumeral m x.value
    seen_starts m all =
        let parts = subst (λ (xs : List PhiEntry). All (λ entry. IsNumeral m entry.value) xs) split all in
        (all_before (λ (entry : PhiEntry). IsNumeral m entry.value) before.0 (x ∷ other_entries b (drop (i + 1) entries)) parts, All-head (λ (entry : PhiEntry). IsNumeral m entry.value) x (other_entries b (drop (i + 1) entries)) (all_behind (λ (entry : PhiEntry). IsNumeral m entry.value) before.0 (x ∷ other_entries b (drop (i + 1) entries)) parts))

    pub no_numeral_start : ((n : ℕ) → IsNumeral n x.value → ⊥) → (m : ℕ)
        → All (λ entry. IsNumeral m entry.value) (other_entries b entries) → ⊥
    no_numeral_start none m all = none m (seen_starts m all).1

    pub two_starts : (earlier start : ℕ) → first ≡ Some earlier → IsNumeral start x.value → earlier ≢ start → (m : ℕ)
        → All (λ entry. IsNumeral m entry.value) (other_entries b entries) → ⊥
    two_starts earlier start some numeral apart m all =
        let already : StartAt (Some earlier) before.0 = subst (λ (o : Option ℕ). StartAt o before.0) some before.2 in
        let both = seen_starts m all in
        apart (same_start earlier m before.0 already.0 already.1 both.0 ∙ same_numeral m start x.value both.1 numeral)

-- The phis of a block come first if those of the rest do: among themselves, or, behind another instruction, if there
-- are none.
abbrev pub AreFirstIf : List Instr → Bool → List Instr → Type 0
AreFirstIf instrs true rest = (phis instrs ≡ leading_phis instrs) ↔ (phis rest ≡ leading_phis rest)
AreFirstIf instrs false rest = (phis instrs ≡ leading_phis instrs) ↔ (phis rest ≡ [])

tails : {X : Type 0} (x : X) (xs ys : List X) → x ∷ xs ≡ x ∷ ys → xs ≡ ys
tails x xs ys e = cc

-- one instruction on
module _ (instrs : List Instr) (i : ℕ) (x d : Instr) (within : i < length instrs) (is : x ≡ get_or instrs i d) where
  after_phi : is_phi x.op ≡ true → AreFirstIf instrs true (drop i instrs) → AreFirstIf instrs true (drop (i + 1) instrs)
  after_phi phi before =
      let all = next_kept (λ (instr : Instr). is_phi instr.op) instrs i x d within is phi in
      let leading = leading_step (λ (instr : Instr). is_phi instr.op) instrs i x d true within is phi in (
        λ first. tails x (phis (drop (i + 1) instrs)) (leading_phis (drop (i + 1) instrs)) (sym all ∙ before.0 first ∙ leading),
        λ rest. before.1 (all ∙ ap (λ (xs : List Instr). x ∷ xs) rest ∙ sym leading),
      )

  after_other : (leading : Bool) → is_phi x.op ≡ false → AreFirstIf instrs leading (drop i instrs)
      → AreFirstIf instrs false (drop (i + 1) instrs)
  after_other true other before =
      let all = next_left_out (λ (instr : Instr). is_phi instr.op) instrs i x d within is other in
      let leading = leading_step (λ (instr : Instr). is_phi instr.op) instrs i x d false within is other in
      (λ first. sym all ∙ before.0 first ∙ leading, λ rest. before.1 (all ∙ rest ∙ sym leading))
  after_other false other before =
      let all = next_left_out (λ (instr : Instr). is_phi instr.op) instrs i x d within is other in
      (λ first. sym all ∙ before.0 first, λ rest. before.1 (all ∙ rest))

  pub first_step : (leading phi : Bool) → phi ≡ is_phi x.op → ((phi ≡ true) × (leading ≡ true)) ⊎ (phi ≡ false)
      → AreFirstIf instrs leading (drop i instrs) → AreFirstIf instrs phi (drop (i + 1) instrs)
  first_step leading true e (inl h) before =
      after_phi (sym e) (subst (λ (t : Bool). AreFirstIf instrs t (drop i instrs)) h.1 before)
  first_step leading true e (inr h) before = absurd (both_ways true h refl)
  first_step leading false e h before = after_other leading (sym e) before
