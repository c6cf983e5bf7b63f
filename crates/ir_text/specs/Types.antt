-- How types are written, and which types stand where.
use Rattle.std.specs.Prelude.{◌≡◌, ℕ, ◌^◌, ◌<◌, ◌≢◌, List, [], ◌∷◌, IsTrue, ℤ, pos, codes}
use Rattle.std.specs.List.{list_all}
use Rattle.std.specs.Str.Parse.{digits_value, signed_digits_value}
use Rattle.ir_model.specs.declared.types.IrType.{IrType}
use Rattle.ir_model.specs.declared.types.IrType.TheVariants.{Void, Int, Ptr, Array}
use Rattle.ir_text.specs.declared.token.TokenKind.TheVariants.{Word, Numeral}
use Rattle.ir_text.specs.Bytes.{is_digit}
use Rattle.ir_text.specs.Tokens.{Lexeme}
use Rattle.ir_text.specs.Language.{Language, ◌·◌, one, keyword, punctuation}

-- a numeral that writes this number
abbrev pub IsNumeral : ℤ → Lexeme → Type 0
IsNumeral n t = (t.kind ≡ Numeral) × (signed_digits_value 10 t.text ≡ n)

-- The text is `iN`, where N is one decimal digit or more and writes this width, which is below 2^32.
abbrev pub IsIntText : ℕ → List ℕ → Type 0
IsIntText width text = (digits : List ℕ) × (text ≡ 105 ∷ digits) × (digits ≢ []) × IsTrue (list_all is_digit digits)
    × (digits_value 10 digits ≡ width) × (width < 2 ^ 32)

abbrev pub IsIntType : ℕ → Lexeme → Type 0
IsIntType width t = (t.kind ≡ Word) × IsIntText width t.text

-- the element's type, inside `[ d x .. ]` for each dimension, which is below 2^64
abbrev pub SpellsElements : List ℕ → ℕ → Language
SpellsElements [] width = one (IsIntType width)
SpellsElements (d ∷ dims) width =
    punctuation 91 · one (λ t. IsNumeral (pos d) t × (d < 2 ^ 64)) · keyword (codes "x") · SpellsElements dims width
    · punctuation 93

-- a type of any kind; an array has one dimension or more
abbrev pub SpellsType : IrType → Language
SpellsType Void = keyword (codes "void")
SpellsType (Int width) = one (IsIntType width)
SpellsType Ptr = keyword (codes "ptr")
SpellsType (Array [] width) = λ ts. ⊥
SpellsType (Array (d ∷ dims) width) = SpellsElements (d ∷ dims) width

-- a type of one of these kinds
abbrev pub SpellsTypeOf : (IrType → Type 0) → IrType → Language
SpellsTypeOf Is kind ts = Is kind × SpellsType kind ts
