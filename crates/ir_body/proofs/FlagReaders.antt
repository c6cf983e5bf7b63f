-- Flags are read.
use Rattle.std.proofs.Common.{◌≡◌, ℕ, Bool, true, false, List, [], ◌∷◌, ◌++◌, ◌⊎◌, inl, inr, refl, sym, ap, subst, ◌∙◌, codes}
use Rattle.std.specs.Str.{bytes_eq}
use Rattle.ir_model.specs.declared.types.IrType.{IrType}
use Rattle.ir_model.specs.declared.types.IrType.TheVariants.{Int, Ptr}
use Rattle.ir_text.specs.Tokens.{Lexeme}
use Rattle.ir_model.specs.Kinds.{IsScalar}
use Rattle.ir_text.specs.Types.{SpellsTypeOf}
use Rattle.ir_text.specs.Listed.{word}
use Rattle.ir_text.specs.Language.{nothing, keyword}
use Rattle.ir_model.specs.Kinds.{Exact, Disjoint, NoFlag}
use Rattle.ir_grammar.specs.Operations.{BinaryFlags, SpellsBinaryFlags, SpellsFlag}
use Rattle.ir_parts.specs.Reading.{begins, is_keyword, pure}
use Rattle.ir_parts.proofs.Readers.{StopsAt, IsReader, Anything, of_language, mapped}
use Rattle.ir_parts.proofs.SingleTokens.{is_itself, keyword_reads}
use Rattle.ir_parts.proofs.Combined.{stands_for, not_at_first, pure_reads}
use Rattle.ir_body.specs.declared.flags.Flags.{Flags}
use Rattle.ir_body.specs.Flags.{flag_at, wrap_flags, exact_at, disjoint_at}
use Rattle.ir_body.proofs.Choices.{of_stops, optional_reads}

-- what doesn't continue a flag
abbrev pub NoFlagBehind : List ℕ → Bool → Lexeme → Type 0
NoFlagBehind text true t = Unit {0}
NoFlagBehind text false t = is_keyword text t ≡ false

pub flag_reads : (text : List ℕ) → IsReader (flag_at text) (SpellsFlag text) (NoFlagBehind text)
unfolding flag_at
flag_reads text = of_language (SpellsFlag text) there back
    (optional_reads false
    (of_stops (NoFlagBehind text)
    (λ set ts t l stop. subst (λ (set : Bool). NoFlagBehind text set t) (sym l.0) tt)
    (λ set ts t l stop. tt)
    (stands_for true (keyword_reads text)))
    (λ t failed. failed) (λ t failed. failed)
    (λ set ts l. ap (begins (is_keyword text)) l.1 ∙ is_itself text)
    (not_at_first (is_keyword text) (pure_reads true)))
  where
    there : (set : Bool) (ts : List Lexeme)
        → ((set ≡ true) × keyword text ts) ⊎ ((set ≡ false) × nothing ts) → SpellsFlag text set ts
    there true ts (inl l) = l.1
    there false ts (inl l) = absurd (let e = l.0 in cc)
    there true ts (inr l) = absurd (let e = l.0 in cc)
    there false ts (inr l) = l.1

    back : (set : Bool) (ts : List Lexeme)
        → SpellsFlag text set ts → ((set ≡ true) × keyword text ts) ⊎ ((set ≡ false) × nothing ts)
    back true ts l = inl (refl, l)
    back false ts l = inr (refl, l)

-- ---- what stands behind flags

begins_not : (text : List ℕ) (t : Lexeme) (taken rest : List Lexeme) → taken ≡ t ∷ [] → is_keyword text t ≡ false
    → begins (is_keyword text) (taken ++ rest) ≡ false
begins_not text t taken rest e failed = rw e failed

-- a scalar type is no such word
pub scalar_is_no : (text : List ℕ) → ((digits : List ℕ) → bytes_eq (105 ∷ digits) text ≡ false)
    → bytes_eq (codes "ptr") text ≡ false
    → (kind : IrType) (taken rest : List Lexeme) → SpellsTypeOf IsScalar kind taken
    → begins (is_keyword text) (taken ++ rest) ≡ false
scalar_is_no text no_int no_ptr (Int width) taken rest l =
    begins_not text l.1.0 taken rest l.1.1 (rw (l.1.2.0, l.1.2.1.1) (no_int l.1.2.1.0))
scalar_is_no text no_int no_ptr Ptr taken rest l = begins_not text (word (codes "ptr")) taken rest l.1 no_ptr
scalar_is_no text no_int no_ptr _ taken rest l = absurd l.0

pub flag_stops : (text : List ℕ) (set : Bool) (ts : List Lexeme) → begins (is_keyword text) ts ≡ false
    → StopsAt (NoFlagBehind text set) ts
flag_stops text set [] e = tt
flag_stops text true (t ∷ ts) e = tt
flag_stops text false (t ∷ ts) e = e

-- ---- the flags of an operation of two operands

abbrev pub spelled_flags : Flags → BinaryFlags
spelled_flags flags = record { nuw = flags.nuw; nsw = flags.nsw; exact = flags.exact; disjoint = flags.disjoint }

pub exact_reads : IsReader exact_at (λ flags. SpellsBinaryFlags Exact (spelled_flags flags))
    (λ flags. NoFlagBehind (codes "exact") flags.exact)
unfolding exact_at
exact_reads = of_language (λ flags. SpellsBinaryFlags Exact (spelled_flags flags))
    (λ flags ts l. subst (λ (flags : Flags). SpellsBinaryFlags Exact (spelled_flags flags) ts) (sym l.1)
    (refl, refl, refl, l.2))
    (λ flags ts l. (flags.exact, same flags l.0 l.1 l.2, l.3))
    (mapped (λ exact. record { nuw = false; nsw = false; exact = exact; disjoint = false })
    (λ flags. NoFlagBehind (codes "exact") flags.exact)
    (λ set t stop. stop) (λ set t stop. stop) (flag_reads (codes "exact")))
  where
    same : (flags : Flags) → flags.nuw ≡ false → flags.nsw ≡ false → flags.disjoint ≡ false
        → ◌≡◌ {A = Flags} flags (record { nuw = false; nsw = false; exact = flags.exact; disjoint = false })
    same flags a b d =
        ap (λ (nuw : Bool). record { nuw = nuw; nsw = flags.nsw; exact = flags.exact; disjoint = flags.disjoint }) a
        ∙ (ap (λ (nsw : Bool). record { nuw = false; nsw = nsw; exact = flags.exact; disjoint = flags.disjoint }) b
        ∙ ap (λ (disjoint : Bool). record { nuw = false; nsw = false; exact = flags.exact; disjoint = disjoint }) d)

pub disjoint_reads : IsReader disjoint_at (λ flags. SpellsBinaryFlags Disjoint (spelled_flags flags))
    (λ flags. NoFlagBehind (codes "disjoint") flags.disjoint)
unfolding disjoint_at
disjoint_reads = of_language (λ flags. SpellsBinaryFlags Disjoint (spelled_flags flags))
    (λ flags ts l. subst (λ (flags : Flags). SpellsBinaryFlags Disjoint (spelled_flags flags) ts) (sym l.1)
    (refl, refl, refl, l.2))
    (λ flags ts l. (flags.disjoint, same flags l.0 l.1 l.2, l.3))
    (mapped (λ disjoint. record { nuw = false; nsw = false; exact = false; disjoint = disjoint })
    (λ flags. NoFlagBehind (codes "disjoint") flags.disjoint)
    (λ set t stop. stop) (λ set t stop. stop) (flag_reads (codes "disjoint")))
  where
    same : (flags : Flags) → flags.nuw ≡ false → flags.nsw ≡ false → flags.exact ≡ false
        → ◌≡◌ {A = Flags} flags (record { nuw = false; nsw = false; exact = false; disjoint = flags.disjoint })
    same flags a b d =
        ap (λ (nuw : Bool). record { nuw = nuw; nsw = flags.nsw; exact = flags.exact; disjoint = flags.disjoint }) a
        ∙ (ap (λ (nsw : Bool). record { nuw = false; nsw = nsw; exact = flags.exact; disjoint = flags.disjoint }) b
        ∙ ap (λ (exact : Bool). record { nuw = false; nsw = false; exact = exact; disjoint = flags.disjoint }) d)

pub no_flag_reads : IsReader (pure (wrap_flags false false)) (λ flags. SpellsBinaryFlags NoFlag (spelled_flags flags))
    Anything
no_flag_reads = of_language (λ flags. SpellsBinaryFlags NoFlag (spelled_flags flags))
    (λ flags ts l. subst (λ (flags : Flags). SpellsBinaryFlags NoFlag (spelled_flags flags) ts) (sym l.0)
    (refl, refl, refl, refl, l.1))
    (λ flags ts l. (same flags l.0 l.1 l.2 l.3, l.4))
    (pure_reads (wrap_flags false false))
  where
    same : (flags : Flags) → flags.nuw ≡ false → flags.nsw ≡ false → flags.exact ≡ false → flags.disjoint ≡ false
        → ◌≡◌ {A = Flags} flags (wrap_flags false false)
    same flags a b c d =
        ap (λ (nuw : Bool). record { nuw = nuw; nsw = flags.nsw; exact = flags.exact; disjoint = flags.disjoint }) a
        ∙ (ap (λ (nsw : Bool). record { nuw = false; nsw = nsw; exact = flags.exact; disjoint = flags.disjoint }) b
        ∙ (ap (λ (exact : Bool). record { nuw = false; nsw = false; exact = exact; disjoint = flags.disjoint }) c
        ∙ ap (λ (disjoint : Bool). record { nuw = false; nsw = false; exact = false; disjoint = disjoint }) d))
