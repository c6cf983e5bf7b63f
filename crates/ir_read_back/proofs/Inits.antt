-- Initialisers as they are printed.
use Rattle.std.proofs.Common.{◌≡◌, ℕ, true, List, [], ◌∷◌, ◌++◌, map, codes, refl, sym, ap, subst, ◌∙◌, inr, append_assoc}
use mathlib.Core.Former.{Count, Former, list, this, arity}
use denote.Hole.Carrier.{shown, hidden-shown}
use Rattle.ir_model.specs.declared.types.IrType.{IrType}
use Rattle.ir_model.specs.declared.op.Operand.{Operand}
use Rattle.ir_model.specs.declared.op.Operand.TheVariants as operand
use Rattle.ir_model.specs.declared.item.Init.{Init, more_of-Init, Row_of-InitPart, end_of-InitPart, more_of-InitPart, items-the_row-InitPart, items_hidden-the_row-InitPart-1, items_shown-the_row-InitPart-1, view-the_row-InitPart, back-the_row-InitPart, backs-the_row-InitPart}
use Rattle.ir_model.specs.declared.item.Init.TheVariants as init
use Rattle.ir_model.specs.declared.item.Init.TheBlock.{shown-the_row-Init-0, shown-the_row-InitPart-1, hidden-the_row-InitPart-1, shape-the_row-InitPart-1}
use Rattle.ir_model.specs.declared.item.InitPart.{InitPart}
use Rattle.ir_text.specs.declared.token.TokenKind.TheVariants.{Quoted}
use Rattle.ir_text.specs.Names.{is_word}
use Rattle.ir_text.specs.Bytes.{begins_word, goes_on_word, is_letter, is_digit}
use Rattle.ir_text.specs.Tokens.{Lexeme, HasForm, NumberFits}
use Rattle.ir_text.specs.Listed.{sign}
use Rattle.ir_text.specs.Language.{one}
use Rattle.ir_text.specs.Written.{IsQuoted, IsByteString}
use Rattle.ir_text.specs.Mentions.{Mentioning, ◌⊙◌, silent}
use Rattle.ir_model.specs.Kinds.{IsStored}
use Rattle.ir_text.specs.Types.{SpellsTypeOf}
use Rattle.ir_grammar.specs.Operations.{the_type, the_comma}
use Rattle.ir_grammar.specs.Items.{SpellsLiteral, SpellsInit, literal, zero, bytes, SpellsParts, last, more}
use Rattle.ir_grammar.specs.Items as items
use Rattle.ir_grammar.specs.Printing.{joined, literal_text, init_text, quoted}
use Rattle.ir_lex.proofs.Plain.{Stops}
use Rattle.ir_printer.specs.Parts.{part_line}
use Rattle.ir_printer.proofs.Lists.{list_text}
use Rattle.ir_printer.proofs.QuotedNames.{AreBytes, quoted_is_quoted}
use Rattle.ir_read_back.specs.Normal.{normal_operand, normal_init, normal_parts}
use Rattle.ir_read_back.proofs.ByteNames.{byte_string_bytes}
use Rattle.ir_read_back.proofs.Lines.{written_as}
use Rattle.ir_read_back.proofs.Numbers.{number_rewrites}
use Rattle.ir_read_back.proofs.Real.{IsReal, AreReal, each-left, each-right}
use Rattle.ir_read_back.proofs.Stands.{stands}
use Rattle.ir_read_back.proofs.Steps.{behind_sign}
use Rattle.ir_read_back.proofs.TypeTexts.{type_rewrites}
use Rattle.ir_read_back.proofs.Words.{null_is_word, undef_is_word, poison_is_word, comma_is_sign, opening_bracket_is_sign, closing_bracket_is_sign}
use Rattle.ir_read_back.proofs.Writes.{Writes, Rewrites, token_writes, word_writes, space_then, and_then, behind_a_space, sign_then, always}

-- ---- parts with their numbers as they are printed

abbrev pub normal_part : InitPart → InitPart
normal_part part = record { kind = part.kind; init = normal_init part.kind part.init }

normal_row : (n : Count) (row : Row_of-InitPart n)
    → items-the_row-InitPart n (normal_parts row) ≡ map normal_part (items-the_row-InitPart n row)
unfolding shown-the_row-Init-0 shown
normal_row n end_of-InitPart = refl
normal_row n (more_of-InitPart kind pointer (more_of-Init value none) rest) =
    ap (λ (parts : List InitPart). normal_part (record { kind = kind; init = value }) ∷ parts) (normal_row _ rest)

-- An initialiser of parts is that of the list of the parts.
of_items : (count : Former.Shape (list (this {0}))) (row : Row_of-InitPart (arity (list (this {0})) count))
    → init.List' count row ≡ init.List (items-the_row-InitPart _ row)
unfolding shown-the_row-InitPart-1 hidden-the_row-InitPart-1 shape-the_row-InitPart-1
of_items count row =
    sym (ap (λ p. init.List' p.0 p.1) (hidden-shown (list (this {0})) InitPart Row_of-InitPart view-the_row-InitPart
    back-the_row-InitPart backs-the_row-InitPart count row))
    ∙ ap init.List (items_shown-the_row-InitPart-1 count row)

pub normal_list : (kind : IrType) (parts : List InitPart)
    → normal_init kind (init.List parts) ≡ init.List (map normal_part parts)
normal_list kind parts =
    let row = hidden-the_row-InitPart-1 parts in
    of_items (shape-the_row-InitPart-1 parts) (normal_parts row)
    ∙ ap init.List (normal_row _ row ∙ ap (map normal_part) (items_hidden-the_row-InitPart-1 parts))

-- ---- initialisers that are no lists

zeroinitializer_is_word : is_word (codes "zeroinitializer") ≡ true
unfolding is_word begins_word goes_on_word is_letter is_digit
zeroinitializer_is_word = refl

literal_writes : (kind : IrType) (value : Operand) (ts : List Lexeme) → SpellsLiteral value ts → AreReal ts
    → Writes Stops (silent (SpellsLiteral (normal_operand kind value))) [] (literal_text kind value)
literal_writes kind (operand.Num n) ts spelled real = (number_rewrites kind n).writes [] ts (refl, spelled) real
literal_writes kind operand.Null ts spelled real = word_writes (codes "null") null_is_word
literal_writes kind operand.Undef ts spelled real = word_writes (codes "undef") undef_is_word
literal_writes kind operand.Poison ts spelled real = word_writes (codes "poison") poison_is_word
literal_writes kind (operand.Reg v) ts spelled real = absurd spelled
literal_writes kind (operand.Global g) ts spelled real = absurd spelled

byte_string_form : (string text : List ℕ) → IsQuoted string text → HasForm Quoted (99 ∷ string) []
unfolding HasForm
byte_string_form string text is = inr (string, refl, (is.0, is.1, is.2))

byte_string_fits : (string : List ℕ) → NumberFits Quoted (99 ∷ string)
unfolding NumberFits
byte_string_fits string = tt

byte_string_writes : (text : List ℕ) → AreBytes text
    → Writes Stops (silent (one (IsByteString text))) [] (99 ∷ quoted text)
byte_string_writes text are =
    let is = quoted_is_quoted text are in
    token_writes Quoted (99 ∷ quoted text) (refl, (_, refl, (refl, quoted text, refl, is)))
    (λ next stops. stands Quoted (99 ∷ quoted text) next (byte_string_form (quoted text) text is)
    (byte_string_fits (quoted text)) stops)

read_bytes : (text : List ℕ) (ts : List Lexeme) → one (IsByteString text) ts → AreReal ts → AreBytes text
read_bytes text ts (t, only, is) real =
    let all : AreReal (t ∷ []) = subst AreReal only real in
    byte_string_bytes text t is all.0.bytes

-- ---- lists

-- any sentence
abbrev Any : Mentioning
Any ms ts = Unit {0}

-- a type, a space and an initialiser
part_writes : (part : InitPart) (kind : List Lexeme)
    → SpellsTypeOf IsStored part.kind kind
    → AreReal kind
    → Writes Stops (silent (SpellsInit (normal_init part.kind part.init))) [] (init_text part.kind part.init)
    → Writes Stops (the_type IsStored part.kind ⊙ silent (SpellsInit (normal_init part.kind part.init))) []
    (part_line part)
part_writes part kind spelled real value =
    (space_then (always {Old = Any} ((type_rewrites IsStored part.kind).writes [] kind (refl, spelled) real))
    (always {Old = Any} value)).writes [] [] ([], [], refl, ([], [], refl, tt, tt)) tt

last_part : (part : InitPart) (ts : List Lexeme)
    → (the_type IsStored part.kind ⊙ silent (SpellsInit (normal_init part.kind part.init))) [] ts
    → silent (SpellsParts (normal_part part ∷ [])) [] ts
last_part part ts (none, no_more, nothing, (kind, value, is, first, second)) =
    (refl, last (normal_part part) kind value is first.1 second.1)

more_parts : (part : InitPart) (parts : List InitPart) (ts : List Lexeme)
    → ((the_type IsStored part.kind ⊙ silent (SpellsInit (normal_init part.kind part.init)))
    ⊙ (the_comma ⊙ silent (SpellsParts parts))) [] ts
    → silent (SpellsParts (normal_part part ∷ parts)) [] ts
more_parts part parts ts (_, _, _, (front, behind, is, own, others)) =
    let first = own.3 in
    let second = others.3 in (
      refl,
      more (normal_part part) parts first.0 first.1 second.1
          (rw (is, first.2, second.2, second.3.1, append_assoc) refl)
          first.3.1 first.4.1 second.4.1,
    )

-- where there are more parts, a comma stands behind the first
joined_more : (part : InitPart) {parts : List InitPart} {ts : List Lexeme} → SpellsParts parts ts
    → part_line part ++ (codes ", " ++ joined part_line (codes ", ") parts)
    ≡ joined part_line (codes ", ") (part ∷ parts)
joined_more part (last own kind value is first second) = refl
joined_more part (more own parts kind value rest is first second others) = refl

list_writes : (parts : List InitPart) (text : List ℕ)
    → Writes Stops (silent (SpellsParts parts)) [] text
    → Writes Stops (silent (SpellsInit (init.List parts))) [] (codes "[" ++ (text ++ codes "]"))
list_writes parts text all = record {
  lexemes = sign 91 ∷ (all.lexemes ++ sign 93 ∷ []);
  spelled = (refl, items.list parts all.lexemes refl all.spelled.1);
  lexed = λ rest others stops tokens.
      rw (append_assoc text (codes "]") rest, append_assoc all.lexemes (sign 93 ∷ []) others)
      (behind_sign opening_bracket_is_sign (all.lexed (93 ∷ rest) (sign 93 ∷ others) refl
      (behind_sign closing_bracket_is_sign tokens)));
}

-- ---- any initialiser

mutual
  -- An initialiser is printed as the same, with its numbers as they are printed.
  init_writes : (kind : IrType) {value : Init} {ts : List Lexeme} → SpellsInit value ts → AreReal ts
      → Writes Stops (silent (SpellsInit (normal_init kind value))) [] (init_text kind value)
  init_writes kind (literal {ts = ts} value spelled) real =
      written_as (λ us s. (s.0, literal (normal_operand kind value) s.1)) (literal_writes kind value ts spelled real)
  init_writes kind (zero spelled) real =
      written_as (λ us s. (s.0, zero s.1)) (word_writes (codes "zeroinitializer") zeroinitializer_is_word)
  init_writes kind (bytes {ts = ts} text spelled) real =
      written_as (λ us s. (s.0, bytes text s.1)) (byte_string_writes text (read_bytes text ts spelled real))
  init_writes kind (items.list {ts = ts} parts inner is spelled) real =
      let within : AreReal (sign 91 ∷ (inner ++ sign 93 ∷ [])) = subst AreReal is real in
      let all = parts_write spelled (each-left IsReal inner (sign 93 ∷ []) within.1) in
      subst (λ v. Writes Stops (silent (SpellsInit v)) [] (init_text kind (init.List parts)))
      (sym (normal_list kind parts))
      (subst (λ t. Writes Stops (silent (SpellsInit (init.List (map normal_part parts)))) [] t)
      (sym (list_text kind parts))
      (list_writes (map normal_part parts) (joined part_line (codes ", ") parts) all))

  parts_write : {parts : List InitPart} {ts : List Lexeme} → SpellsParts parts ts → AreReal ts
      → Writes Stops (silent (SpellsParts (map normal_part parts))) [] (joined part_line (codes ", ") parts)
  parts_write (last part kind value is first second) real =
      let reals : AreReal (kind ++ value) = subst AreReal is real in
      written_as (last_part part)
      (part_writes part kind first (each-left IsReal kind value reals)
      (init_writes part.kind second (each-right IsReal kind value reals)))
  parts_write (more part parts kind value rest is first second others) real =
      let reals : AreReal (kind ++ (value ++ sign 44 ∷ rest)) = subst AreReal is real in
      let behind : AreReal (value ++ sign 44 ∷ rest) = each-right IsReal kind (value ++ sign 44 ∷ rest) reals in
      let afterwards : AreReal (sign 44 ∷ rest) = each-right IsReal value (sign 44 ∷ rest) behind in
      let own = part_writes part kind first (each-left IsReal kind (value ++ sign 44 ∷ rest) reals)
      (init_writes part.kind second (each-left IsReal value (sign 44 ∷ rest) behind)) in
      let all = parts_write others afterwards.1 in
      subst (λ t. Writes Stops (silent (SpellsParts (map normal_part (part ∷ parts)))) [] t) (joined_more part others)
      (written_as (more_parts part (map normal_part parts))
      ((and_then (λ more stops. refl) (always {Old = Any} own)
      (sign_then {A = Any} 44 comma_is_sign (behind_a_space (always {Old = Any} all)))).writes [] []
      ([], [], refl, ([], [], refl, tt, ([], [], refl, ([], [], refl, tt, tt)))) tt))

pub init_rewrites : (kind : IrType) (value : Init)
    → Rewrites Stops (silent (SpellsInit value)) (silent (SpellsInit (normal_init kind value))) []
    (init_text kind value)
init_rewrites kind value = record { writes = λ old ts spelled real. init_writes kind spelled.1 real }
