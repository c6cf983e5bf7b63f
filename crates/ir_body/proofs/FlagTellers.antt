-- Flags are read, before what begins with none of their words.
use Rattle.std.proofs.Common.{◌≡◌, ℕ, ◌≤◌, Bool, true, false, List, [], ◌∷◌, ◌++◌, length, Result, Ok, Err, inl, inr, refl, sym, ap, subst, ◌∙◌, codes, arith}
use Rattle.std.specs.List.{AllByRecursion}
use Rattle.std.specs.Str.{bytes_eq}
use Rattle.ir_text.specs.Tokens.{Lexeme}
use Rattle.ir_text.specs.Language.{Language}
use Rattle.ir_text.specs.PassedOn.{is_among}
use Rattle.ir_text.specs.Mentions.{Mention, Mentioning, ◌⊙◌, silent}
use Rattle.ir_model.specs.Kinds.{FlagKind, Wraps, Exact, Disjoint, NoFlag}
use Rattle.ir_grammar.specs.Operations.{AreFlags, IsFlag, SpellsBinaryFlags, SpellsGepFlags}
use Rattle.ir_parts.specs.Reading.{go_on, pure, made, begins, is_keyword}
use Rattle.ir_parts.proofs.Readers.{StopsAt, either}
use Rattle.ir_body.specs.declared.flags.Flags.{Flags}
use Rattle.ir_body.specs.Telling as telling
use Rattle.ir_body.specs.Telling.{Telling, behind, ◌⊗◌, silently}
use Rattle.ir_body.specs.FlagWords.{words_at}
use Rattle.ir_body.specs.Flags.{wrap_flags, pair_at, wraps_at, gep_words, gep_flags_at, flags_of_kind_at}
use Rattle.ir_body.proofs.Tellers.{IsTeller, silent_tells, each_tells, told_as, told_reading, made_tells, both, both_told}
use Rattle.ir_body.proofs.Firsts.{BeginsNot}
use Rattle.ir_body.proofs.FlagWords.{Ends, words_read, ends_anyway, among_there, among_back}
use Rattle.ir_body.proofs.FlagReaders.{spelled_flags, flag_stops, exact_reads, disjoint_reads, no_flag_reads}

-- ---- any words

-- What begins with none of the words continues none of them.
ends_at : (ws found : List (List ℕ)) (ts : List Lexeme) → AllByRecursion (λ w. begins (is_keyword w) ts ≡ false) ws
    → StopsAt (Ends ws found) ts
ends_at ws found [] none = tt
ends_at ws found (t ∷ ts) none = ends_anyway ws found t none

module _ {X Y : Type 0} (most : ℕ) (ws : List (List ℕ)) (enough : length ws ≤ most) (keep : List (List ℕ) → X)
    (L : X → Language) {b : Telling Y} {B : Y → Mentioning} {StopB : Y → Lexeme → Type 0} where
  -- what is kept of some words, and then what begins with none of them
  pub words_then : ((found : List (List ℕ)) (ts : List Lexeme) → AreFlags ws found ts → L (keep found) ts)
      → ((x : X) (ts : List Lexeme) → L x ts → (found : List (List ℕ)) × (x ≡ keep found) × AreFlags ws found ts)
      → IsTeller b B StopB
      → ((y : Y) → AllByRecursion (λ w. BeginsNot (is_keyword w) (B y)) ws)
      → IsTeller (silently (made keep (words_at most ws)) ⊗ b) (λ p. silent (L p.0) ⊙ B p.1) (λ p. StopB p.1)
  words_then there back next apart =
      told_as (λ p. silent (L p.0) ⊙ B p.1)
      (λ p ms ts l.
      let parts = l.1.3 in
      let with = parts.4 in (
        l.1.0,
        l.1.1,
        l.1.2,
        (
          parts.0,
          parts.1,
          parts.2,
          (
            parts.3.0,
            subst (λ (x : X). L x parts.0) (sym (ap (λ (p : X × Y). p.0) with.1)) (there l.0 parts.0 parts.3.1),
          ),
          subst (λ (y : Y). B y l.1.1 parts.1) (sym (ap (λ (p : X × Y). p.1) with.1)) with.2,
        ),
      ))
      (λ p ms ts l.
      let found = back p.0 l.3.0 l.3.3.1 in (
        found.0,
        (
          l.0,
          l.1,
          l.2,
          (
            l.3.0,
            l.3.1,
            l.3.2,
            (l.3.3.0, found.2),
            (p.1, ap (λ (x : X). (x, p.1)) found.1, l.3.4),
          ),
        ),
      ))
      (told_reading (silently (made keep (words_at most ws)) ⊗ b) (λ ts. same (words_at most ws ts))
      (each_tells (λ found. telling.made (λ y. (keep found, y)) b)
      (λ found p ms ts. (y : Y) × (p ≡ (keep found, y)) × B y ms ts)
      (λ p. StopB p.1) (silent_tells (words_read most ws enough))
      (λ found. made_tells (λ y. (keep found, y)) (λ p. StopB p.1) (λ y t stop. stop) (λ y t stop. stop) next)
      (λ found p ms taken rest l stops. ends_at ws found (taken ++ rest)
      (all_apart ws l.0 ms taken rest l.2 (apart l.0)))))
    where
      same : (r : Result (List (List ℕ) × List Lexeme) ℕ)
          → go_on {A = X × List Mention} (go_on (go_on r (λ found. pure (keep found))) (λ x rest. Ok ((x, []), rest)))
          (λ x rest. behind {A = X × Y} x.1 (telling.made (λ y. (x.0, y)) b rest))
          ≡ go_on {A = List (List ℕ) × List Mention} (go_on r (λ found rest. Ok ((found, []), rest)))
          (λ found rest. behind {A = X × Y} found.1 (telling.made (λ y. (keep found.0, y)) b rest))
      same (Ok read) = refl
      same (Err left) = refl

      all_apart : (ws : List (List ℕ)) (y : Y) (ms : List Mention) (taken rest : List Lexeme) → B y ms taken
          → AllByRecursion (λ w. BeginsNot (is_keyword w) (B y)) ws
          → AllByRecursion (λ w. begins (is_keyword w) (taken ++ rest) ≡ false) ws
      all_apart [] y ms taken rest l all = tt
      all_apart (w ∷ ws) y ms taken rest l all =
          (all.0 ms taken rest l, all_apart ws y ms taken rest l all.1)

-- the flag of a word among those that were found
is_flag : (found : List (List ℕ)) (text : List ℕ) → IsFlag found text (is_among found text)
is_flag found text = (among_there found text, among_back found text)

flag_is : (found : List (List ℕ)) (text : List ℕ) (set : Bool) → IsFlag found text set → set ≡ is_among found text
flag_is found text true is = sym (among_back found text (is.0 refl))
flag_is found text false is = elim (either (is_among found text)) [
  | inl there ↦ is.1 (among_there found text there) ∙ sym there
  | inr none ↦ sym none
]

-- ---- the flags of an operation of two operands

-- No word that is no type begins it.
abbrev pub BeginsAsType : {Y : Type 0} → (Y → List Mention → List Lexeme → Type 0) → Type 0
BeginsAsType {Y} B = (text : List ℕ) → ((digits : List ℕ) → bytes_eq (105 ∷ digits) text ≡ false)
    → bytes_eq (codes "ptr") text ≡ false → (y : Y) → BeginsNot (is_keyword text) (B y)

abbrev wrap_words : List (List ℕ)
wrap_words = codes "nuw" ∷ codes "nsw" ∷ []

abbrev found_wraps : List (List ℕ) → Flags
found_wraps found = wrap_flags (is_among found (codes "nuw")) (is_among found (codes "nsw"))

wraps_are : (ts : List Lexeme) → wraps_at ts ≡ made found_wraps (words_at 2 wrap_words) ts
unfolding wraps_at pair_at
wraps_are ts = of (words_at 2 wrap_words ts)
  where
    of : (r : Result (List (List ℕ) × List Lexeme) ℕ)
        → go_on {A = Bool × Bool} (go_on r (λ found. pure (is_among found (codes "nuw"), is_among found (codes "nsw"))))
        (λ set. pure (wrap_flags set.0 set.1))
        ≡ go_on r (λ found. pure (found_wraps found))
    of (Ok read) = refl
    of (Err left) = refl

module _ {Y : Type 0} {b : Telling Y} {B : Y → Mentioning} {StopB : Y → Lexeme → Type 0} where
  wraps_tell : IsTeller b B StopB → BeginsAsType B
      → IsTeller (silently wraps_at ⊗ b) (λ p. silent (SpellsBinaryFlags Wraps (spelled_flags p.0)) ⊙ B p.1)
      (λ p. StopB p.1)
  wraps_tell next apart =
      told_reading (silently wraps_at ⊗ b)
      (λ ts. ap (λ r. go_on {A = Flags × List Mention} (go_on r (λ flags rest. Ok ((flags, []), rest)))
      (λ flags rest. behind {A = Flags × Y} flags.1 (telling.made (λ y. (flags.0, y)) b rest))) (wraps_are ts))
      (words_then 2 wrap_words (omega arith) found_wraps
      (λ flags. SpellsBinaryFlags Wraps (spelled_flags flags))
      (λ found ts l. (refl, refl, (found, l, is_flag found (codes "nuw"), is_flag found (codes "nsw"))))
      (λ flags ts l. (
        l.2.0,
        same flags (is_among l.2.0 (codes "nuw")) (is_among l.2.0 (codes "nsw"))
            (flag_is l.2.0 (codes "nuw") flags.nuw l.2.2) (flag_is l.2.0 (codes "nsw") flags.nsw l.2.3) l.0 l.1,
        l.2.1,
      ))
      next
      (λ y. (
        apart (codes "nuw") (λ digits. refl) refl y,
        (apart (codes "nsw") (λ digits. refl) refl y, tt),
      )))
    where
      same : (flags : Flags) (n s : Bool) → flags.nuw ≡ n → flags.nsw ≡ s → flags.exact ≡ false
          → flags.disjoint ≡ false
          → ◌≡◌ {A = Flags} flags (wrap_flags n s)
      same flags n s a b c d =
          ap (λ (nuw : Bool). record { nuw = nuw; nsw = flags.nsw; exact = flags.exact; disjoint = flags.disjoint }) a
          ∙ (ap (λ (nsw : Bool). record { nuw = n; nsw = nsw; exact = flags.exact; disjoint = flags.disjoint }) b
          ∙ (ap (λ (exact : Bool). record { nuw = n; nsw = s; exact = exact; disjoint = flags.disjoint }) c
          ∙ ap (λ (disjoint : Bool). record { nuw = n; nsw = s; exact = false; disjoint = disjoint }) d))

  pub flags_tell : (kind : FlagKind) → IsTeller b B StopB → BeginsAsType B
      → IsTeller (silently (flags_of_kind_at kind) ⊗ b)
      (λ p. silent (SpellsBinaryFlags kind (spelled_flags p.0)) ⊙ B p.1)
      (λ p. StopB p.1)
  flags_tell Wraps next apart = wraps_tell next apart
  flags_tell Exact next apart = both_told (silent_tells exact_reads) next
      (λ flags y ms taken rest l stops. flag_stops (codes "exact") flags.exact (taken ++ rest)
      (apart (codes "exact") (λ digits. refl) refl y ms taken rest l))
  flags_tell Disjoint next apart = both_told (silent_tells disjoint_reads) next
      (λ flags y ms taken rest l stops. flag_stops (codes "disjoint") flags.disjoint (taken ++ rest)
      (apart (codes "disjoint") (λ digits. refl) refl y ms taken rest l))
  flags_tell NoFlag next apart = both (silent_tells no_flag_reads) next

  -- ---- the flags of `getelementptr`

  pub gep_flags_tell : IsTeller b B StopB
      → ((y : Y) → AllByRecursion (λ w. BeginsNot (is_keyword w) (B y)) gep_words)
      → IsTeller (silently gep_flags_at ⊗ b) (λ p. silent (SpellsGepFlags p.0) ⊙ B p.1) (λ p. StopB p.1)
  unfolding gep_flags_at
  gep_flags_tell next apart =
      words_then 3 gep_words (omega arith) (λ found. is_among found (codes "inbounds")) SpellsGepFlags
      (λ found ts l. (found, l, is_flag found (codes "inbounds")))
      (λ set ts l. (l.0, flag_is l.0 (codes "inbounds") set l.2, l.1))
      next apart
