-- The first token of a type.
use Rattle.std.proofs.Common.{◌≡◌, ℕ, Bool, true, false, ◌&&◌, ◌||◌, List, [], ◌∷◌, ◌++◌, Option, Some, None, Ok, inl, inr, refl, sym, ap, subst, ◌∙◌, IsTrue, drop, codes}
use Rattle.std.specs.Option.{is_some}
use Rattle.std.specs.Str.{bytes_eq}
use Rattle.std.proofs.lemmas.List.{append-nil}
use Rattle.std.proofs.lemmas.Slice.Eq.{bytes_eq-Decides}
use Rattle.ir_model.specs.declared.types.IrType.{IrType}
use Rattle.ir_model.specs.declared.types.IrType.TheVariants.{Int, Ptr, Array}
use Rattle.std.specs.List.{list_all}
use Rattle.ir_text.specs.Bytes.{is_digit}
use Rattle.ir_text.specs.declared.token.TokenKind.TheVariants.{Word}
use Rattle.ir_text.specs.Tokens.{Lexeme}
use Rattle.ir_model.specs.Kinds.{IsScalar, IsStored}
use Rattle.ir_text.specs.Types.{IsIntType, SpellsTypeOf}
use Rattle.ir_grammar.specs.Operations.{the_type}
use Rattle.ir_parts.specs.Reading.{given, one_at, begins, is_keyword, is_word_kind}
use Rattle.ir_parts.specs.TypeReading.{int_width_of, int_width}
use Rattle.ir_parts.specs.MetadataReading.{is_metadata}
use Rattle.ir_parts.proofs.Readers.{either}
use Rattle.ir_parts.proofs.SingleTokens.{word_kind, same_token}
use Rattle.ir_parts.proofs.TypeReaders.{if_some, where_true, int_reads}
use Rattle.ir_body.specs.Cases.{begins_scalar}
use Rattle.ir_body.proofs.Firsts.{BeginsNot}
use Rattle.ir_body.proofs.FlagWords.{or_true}

-- the width of a type of integers
width_is : (width : ℕ) (t : Lexeme) → IsIntType width t → int_width t ≡ Some width
unfolding one_at
width_is width t is = of (int_width t) (int_reads.reads width (t ∷ []) [] (t, refl, is) tt)
  where
    of : (found : Option ℕ) → given found [] 1 ≡ Ok (width, []) → found ≡ Some width
    of (Some other) e = let same : ◌≡◌ {A = ℕ × List Lexeme} (other, []) (width, []) = cc in
        ap (λ (p : ℕ × List Lexeme). Some p.0) same
    of None e = absurd cc

is_width : (width : ℕ) (t : Lexeme) → int_width t ≡ Some width → IsIntType width t
unfolding one_at
is_width width t e =
    let taken = int_reads.takes (t ∷ []) [] width (ap (λ (found : Option ℕ). given found [] 1) e) in
    let one = taken.spelled in
    let same : t ∷ [] ≡ one.0 ∷ [] = taken.parts ∙ (append-nil taken.taken ∙ one.1) in
    let is : t ≡ one.0 = cc in
    subst (λ (t : Lexeme). IsIntType width t) (sym is) one.2

-- A scalar type begins so.
pub scalar_begins : (kind : IrType) (ts : List Lexeme) → SpellsTypeOf IsScalar kind ts
    → begins begins_scalar ts ≡ true
scalar_begins (Int width) ts l =
    let parts = if_some (is_word_kind l.1.0.kind) (int_width_of l.1.0.text) width (width_is width l.1.0 l.1.2) in
    rw (l.1.1, parts.0, parts.1) (or_true (bytes_eq l.1.0.text (codes "ptr")))
scalar_begins Ptr ts l = rw l.1 refl
scalar_begins _ ts l = absurd l.0

-- What begins so begins a scalar type.
pub scalar_begun : (t : Lexeme) → begins_scalar t ≡ true → (kind : IrType) × SpellsTypeOf IsScalar kind (t ∷ [])
scalar_begun t e = of_word (parts (is_word_kind t.kind) (bytes_eq t.text (codes "ptr") || is_some (int_width_of t.text))
    e).0
    (parts (is_word_kind t.kind) (bytes_eq t.text (codes "ptr") || is_some (int_width_of t.text)) e).1
  where
    parts : (a b : Bool) → (a && b) ≡ true → (a ≡ true) × (b ≡ true)
    parts true b e = (refl, e)
    parts false b e = absurd cc

    of_width : is_word_kind t.kind ≡ true → (found : Option ℕ) → int_width_of t.text ≡ found → is_some found ≡ true
        → (kind : IrType) × SpellsTypeOf IsScalar kind (t ∷ [])
    of_width is (Some width) found some = (
      Int width,
      (
        tt,
        (
          t,
          refl,
          is_width width t (where_true (is_word_kind t.kind) (int_width_of t.text) is ∙ found),
        ),
      ),
    )
    of_width is None found some = absurd cc

    of_word : is_word_kind t.kind ≡ true → (bytes_eq t.text (codes "ptr") || is_some (int_width_of t.text)) ≡ true
        → (kind : IrType) × SpellsTypeOf IsScalar kind (t ∷ [])
    of_word is either_so = elim (either (bytes_eq t.text (codes "ptr"))) [
      | inl pointer ↦ (
        Ptr,
        (
          tt,
          ap (λ (t : Lexeme). t ∷ [])
              (same_token t.kind Word t.text (codes "ptr") (word_kind t.kind is)
              ((bytes_eq-Decides t.text (codes "ptr")).0 pointer)),
        ),
      )
      | inr other ↦
          of_width is (int_width_of t.text) refl
          (sym (ap (λ (b : Bool). b || is_some (int_width_of t.text)) other) ∙ either_so)
    ]

-- It is no metadata.
pub scalar_no_metadata : (kind : IrType) (ts rest : List Lexeme) → SpellsTypeOf IsScalar kind ts
    → begins is_metadata (ts ++ rest) ≡ false
scalar_no_metadata (Int width) ts rest l = rw (l.1.1, l.1.2.0) refl
scalar_no_metadata Ptr ts rest l = rw l.1 refl
scalar_no_metadata _ ts rest l = absurd l.0

-- A stored type begins with no such word.
pub stored_begins_not : (text : List ℕ)
    → ((digits : List ℕ) → IsTrue (list_all is_digit digits) → bytes_eq (105 ∷ digits) text ≡ false)
    → (kind : IrType) → BeginsNot (is_keyword text) (the_type IsStored kind)
stored_begins_not text no_int (Int width) ms taken rest l =
    rw (l.1.1.1, l.1.1.2.0, l.1.1.2.1.1) (no_int l.1.1.2.1.0 l.1.1.2.1.3)
stored_begins_not text no_int (Array [] width) ms taken rest l = absurd l.1.1
stored_begins_not text no_int (Array (d ∷ dims) width) ms taken rest l = rw (l.1.1.2, l.1.1.3) refl
stored_begins_not text no_int _ ms taken rest l = absurd l.1.0

-- `inbounds` is no type of integers.
pub inbounds_apart : (digits : List ℕ) → IsTrue (list_all is_digit digits)
    → bytes_eq (105 ∷ digits) (codes "inbounds") ≡ false
unfolding is_digit
inbounds_apart digits all = elim (either (bytes_eq (105 ∷ digits) (codes "inbounds"))) [
  | inl same ↦
      let is : digits ≡ codes "nbounds" =
      ap (λ (bs : List ℕ). drop 1 bs) ((bytes_eq-Decides (105 ∷ digits) (codes "inbounds")).0 same) in
      absurd (let none : list_all is_digit (codes "nbounds") ≡ true =
      subst (λ (digits : List ℕ). list_all is_digit digits ≡ true) is all in cc)
  | inr other ↦ other
]
