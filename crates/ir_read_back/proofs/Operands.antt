-- Operands and blocks as they are printed.
use Rattle.std.proofs.Common.{◌≡◌, ℕ, zero, List, [], ◌∷◌, ◌++◌, codes, refl, sym}
use Rattle.std.proofs.lemmas.List.{map-append}
use Rattle.ir_model.specs.declared.types.IrType.{IrType}
use Rattle.ir_model.specs.declared.types.IrType.TheVariants.{Ptr}
use Rattle.ir_model.specs.declared.op.Operand.{Operand}
use Rattle.ir_model.specs.declared.op.Operand.TheVariants as operand
use Rattle.ir_model.specs.declared.op.TypedOperand.{TypedOperand}
use Rattle.ir_text.specs.Mentions.{Mention, Mentioning}
use Rattle.ir_model.specs.Sites.{Site, UsesBlock, operand_sites, typed_sites}
use Rattle.ir_text.specs.Sites.{bare_operand, bare_typed}
use Rattle.ir_model.specs.Kinds.{IsScalar}
use Rattle.ir_grammar.specs.Operations.{SpellsOperand, SpellsTyped, SpellsPointer, SpellsBlockName, SpellsTarget, SpellsTwo}
use Rattle.ir_grammar.specs.Printing.{Shown, operand_text, typed_text, pointer_text, block_text, target_text, two_text}
use Rattle.ir_lex.proofs.Plain.{Stops}
use Rattle.ir_read_back.specs.Normal.{normal_operand, normal_typed}
use Rattle.ir_read_back.proofs.Words.{ptr_is_word, label_is_word, null_is_word, undef_is_word, poison_is_word}
use Rattle.ir_read_back.proofs.Real.{each-left, each-right}
use Rattle.ir_read_back.proofs.Named.{Names, Shows, mention_at, IsShown, AreShown, said_at}
use Rattle.ir_read_back.proofs.Sayings.{used_value_writes, used_block_writes, used_global_writes}
use Rattle.ir_read_back.proofs.Numbers.{number_rewrites}
use Rattle.ir_read_back.proofs.TypeTexts.{type_rewrites}
use Rattle.ir_read_back.proofs.Writes.{Writes, Rewrites, always, word_ends, word_then, space_then, comma_then, mentions_are}

-- Of no id but 0.
bare_writes : {A : Mentioning} {ms : List Mention} {text : List ℕ}
    → Writes Stops A ms text
    → Writes Stops (λ ms ts. (zero ≡ zero) × A ms ts) ms text
bare_writes all = record { lexemes = all.lexemes; spelled = (refl, all.spelled); lexed = all.lexed }

module _ (shown : Shown) (names : Names) where
  -- An operand is printed as the same, with its number as it is printed at its type.
  pub operand_rewrites : (kind : IrType) (value : Operand)
      → AreShown shown names (operand_sites value)
      → Rewrites Stops (SpellsOperand (bare_operand value)) (SpellsOperand (bare_operand (normal_operand kind value)))
      (said_at names (operand_sites value)) (operand_text shown kind value)
  operand_rewrites kind (operand.Reg v) are = always (bare_writes (used_value_writes _ _ are.0))
  operand_rewrites kind (operand.Num n) are = number_rewrites kind n
  operand_rewrites kind operand.Null are = word_ends (codes "null") null_is_word
  operand_rewrites kind (operand.Global g) are = always (bare_writes (used_global_writes _ _ are.0))
  operand_rewrites kind operand.Undef are = word_ends (codes "undef") undef_is_word
  operand_rewrites kind operand.Poison are = word_ends (codes "poison") poison_is_word

  pub typed_rewrites : (typed : TypedOperand)
      → AreShown shown names (typed_sites typed)
      → Rewrites Stops (SpellsTyped (bare_typed typed)) (SpellsTyped (bare_typed (normal_typed typed)))
      (said_at names (typed_sites typed)) (typed_text shown typed)
  typed_rewrites typed are =
      space_then (type_rewrites IsScalar typed.kind) (operand_rewrites typed.kind typed.value are)

  pub pointer_rewrites : (value : Operand)
      → AreShown shown names (operand_sites value)
      → Rewrites Stops (SpellsPointer (bare_operand value)) (SpellsPointer (bare_operand (normal_operand Ptr value)))
      (said_at names (operand_sites value)) (pointer_text shown value)
  pointer_rewrites value are = word_then (codes "ptr") ptr_is_word (operand_rewrites Ptr value are)

  pub block_rewrites : (b : ℕ)
      → Shows (shown.labels b) (names.labels b)
      → Rewrites Stops (SpellsBlockName 0) (SpellsBlockName 0) (said_at names (UsesBlock b ∷ [])) (block_text shown b)
  block_rewrites b shows = always (bare_writes (used_block_writes _ _ shows))

  pub target_rewrites : (b : ℕ)
      → Shows (shown.labels b) (names.labels b)
      → Rewrites Stops (SpellsTarget 0) (SpellsTarget 0) (said_at names (UsesBlock b ∷ [])) (target_text shown b)
  target_rewrites b shows = word_then (codes "label") label_is_word (block_rewrites b shows)

  -- mentions at the sites of two parts
  pub both_said : {Behind : List ℕ → Type 0} {A A' : Mentioning} {text : List ℕ} (first second : List Site)
      → Rewrites Behind A A' (said_at names first ++ said_at names second) text
      → Rewrites Behind A A' (said_at names (first ++ second)) text
  both_said first second part = mentions_are _ _ (sym (map-append (mention_at names) first second)) part

  -- the parts of what is shown
  pub left_shown : (first second : List Site) → AreShown shown names (first ++ second) → AreShown shown names first
  left_shown first second are = each-left (IsShown shown names) first second are

  pub right_shown : (first second : List Site) → AreShown shown names (first ++ second) → AreShown shown names second
  right_shown first second are = each-right (IsShown shown names) first second are

  pub two_rewrite : (kind : IrType) (left right : Operand)
      → AreShown shown names (operand_sites left ++ operand_sites right)
      → Rewrites Stops (SpellsTwo kind (bare_operand left) (bare_operand right))
      (SpellsTwo kind (bare_operand (normal_operand kind left)) (bare_operand (normal_operand kind right)))
      (said_at names (operand_sites left ++ operand_sites right)) (two_text shown kind left right)
  two_rewrite kind left right are =
      let ls = operand_sites left in
      let rs = operand_sites right in
      both_said ls rs
      (space_then (type_rewrites IsScalar kind)
      (comma_then (operand_rewrites kind left (left_shown ls rs are))
      (operand_rewrites kind right (right_shown ls rs are))))
