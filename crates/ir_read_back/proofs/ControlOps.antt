-- What ends a block, as it is printed.
use Rattle.std.proofs.Common.{◌≡◌, ℕ, List, [], ◌∷◌, ◌++◌, map, flat_map, codes, refl, sym, ap, ◌∙◌, subst, Some, None}
use Rattle.std.proofs.lemmas.List.{append-nil}
use Rattle.scev_base.specs.declared.ids.BlockId.{BlockId}
use Rattle.ir_model.specs.declared.types.IrType.{IrType}
use Rattle.ir_model.specs.declared.types.IrType.TheVariants.{Int}
use Rattle.ir_model.specs.declared.op.Operand.{Operand}
use Rattle.ir_model.specs.declared.op.TypedOperand.{TypedOperand}
use Rattle.ir_model.specs.declared.op.Case.{Case}
use Rattle.ir_model.specs.declared.op.Op.TheVariants.{Jump, Branch, Switch, Ret, Unreachable}
use Rattle.ir_text.specs.Mentions.{InOrder}
use Rattle.ir_model.specs.Sites.{Site, UsesBlock, operand_sites, op_sites}
use Rattle.ir_text.specs.Sites.{bare_case}
use Rattle.ir_model.specs.Kinds.{IsScalar}
use Rattle.ir_grammar.specs.Operations.{SpellsCase}
use Rattle.ir_grammar.specs.Printing.{Shown, case_text, op_text}
use Rattle.ir_lex.proofs.Plain.{Stops}
use Rattle.ir_read_back.specs.Normal.{normal_case}
use Rattle.ir_read_back.proofs.Words.{comma_is_sign, br_is_word, i1_is_word, switch_is_word, ret_is_word, void_is_word, unreachable_is_word, opening_bracket_is_sign, closing_bracket_is_sign}
use Rattle.ir_read_back.proofs.Named.{Names, mention_at, IsShown, AreShown, said_at}
use Rattle.ir_read_back.proofs.Numbers.{number_rewrites}
use Rattle.ir_read_back.proofs.TypeTexts.{type_rewrites}
use Rattle.ir_read_back.proofs.Lists.{mapped_in_order, map_flat_map, in_order_rewrites, each_gives, each_part}
use Rattle.ir_read_back.proofs.Operands.{operand_rewrites, typed_rewrites, target_rewrites, both_said, left_shown, right_shown}
use Rattle.ir_read_back.proofs.PlainOps.{OpRewrites}
use Rattle.ir_read_back.proofs.Writes.{Rewrites, beside, mentions_are, word_ends, word_then, sign_then, sign_ends, space_then, comma_then, behind_a_space, pair_then}

module _ (shown : Shown) (names : Names) (words : List (List ℕ)) where
  pub jump_rewrites : (to : BlockId)
      → AreShown shown names (op_sites (Jump to))
      → OpRewrites shown names (Jump to) words
  unfolding op_text
  jump_rewrites to are =
      beside (words ≡ []) (word_then (codes "br") br_is_word (target_rewrites shown names to.0 are.0))

  pub branch_rewrites : (cond : Operand) (there other : BlockId)
      → AreShown shown names (op_sites (Branch cond there other))
      → OpRewrites shown names (Branch cond there other) words
  unfolding op_text
  branch_rewrites cond there other are =
      let cs = operand_sites cond in
      let bs : List Site = UsesBlock there.0 ∷ UsesBlock other.0 ∷ [] in
      let blocks = right_shown shown names cs bs are in
      beside (words ≡ [])
      (word_then (codes "br") br_is_word
      (word_then (codes "i1") i1_is_word
      (both_said shown names cs bs
      (comma_then (operand_rewrites shown names (Int 1) cond (left_shown shown names cs bs are))
      (comma_then (target_rewrites shown names there.0 blocks.0) (target_rewrites shown names other.0 blocks.1.0))))))

  pub ret_none_rewrites : OpRewrites shown names (Ret None) words
  unfolding op_text
  ret_none_rewrites =
      beside (words ≡ []) (word_then (codes "ret") ret_is_word (word_ends (codes "void") void_is_word))

  pub ret_rewrites : (typed : TypedOperand)
      → AreShown shown names (op_sites (Ret (Some typed)))
      → OpRewrites shown names (Ret (Some typed)) words
  unfolding op_text
  ret_rewrites typed are =
      beside (words ≡ []) (word_then (codes "ret") ret_is_word (typed_rewrites shown names typed are))

  pub unreachable_rewrites : OpRewrites shown names Unreachable words
  unfolding op_text
  unreachable_rewrites = beside (words ≡ []) (word_ends (codes "unreachable") unreachable_is_word)

  -- ---- cases

  abbrev case_sites : Case → List Site
  case_sites c = UsesBlock c.to.0 ∷ []

  cases_sites : (cases : List Case) → map (λ (c : Case). UsesBlock c.to.0) cases ≡ flat_map case_sites cases
  cases_sites [] = refl
  cases_sites (c ∷ cases) = ap (λ more. UsesBlock c.to.0 ∷ more) (cases_sites cases)

  cases_said : (cases : List Case)
      → said_at names (flat_map case_sites cases) ++ [] ≡ said_at names (map (λ (c : Case). UsesBlock c.to.0) cases)
  cases_said cases =
      append-nil (said_at names (flat_map case_sites cases)) ∙ ap (said_at names) (sym (cases_sites cases))

  case_rewrites : (c : Case)
      → AreShown shown names (case_sites c)
      → Rewrites Stops (SpellsCase (bare_case c)) (SpellsCase (bare_case (normal_case c)))
      (said_at names (case_sites c))
      (32 ∷ case_text shown c)
  case_rewrites c are =
      behind_a_space
      (space_then (type_rewrites IsScalar c.kind)
      (comma_then (number_rewrites c.kind c.number) (target_rewrites shown names c.to.0 are.0)))

  cases_rewrite : (cases : List Case)
      → AreShown shown names (flat_map case_sites cases)
      → Rewrites Stops (InOrder SpellsCase (map bare_case cases))
      (InOrder SpellsCase (map bare_case (map normal_case cases)))
      (said_at names (flat_map case_sites cases)) (flat_map (λ c. 32 ∷ case_text shown c) cases)
  cases_rewrite cases are =
      mapped_in_order SpellsCase bare_case normal_case cases
      (mentions_are _ _ (sym (map_flat_map (mention_at names) case_sites cases))
      (in_order_rewrites (λ c. SpellsCase (bare_case c)) (λ c. SpellsCase (bare_case (normal_case c)))
      (λ c. said_at names (case_sites c)) (λ c. 32 ∷ case_text shown c) Stops (λ c rest behind. refl) cases
      (each_gives _ _ case_rewrites cases (each_part (IsShown shown names) case_sites cases are))))

  pub switch_rewrites : (kind : IrType) (value : Operand) (other : BlockId) (cases : List Case)
      → AreShown shown names (op_sites (Switch kind value other cases))
      → OpRewrites shown names (Switch kind value other cases) words
  unfolding op_text
  switch_rewrites kind value other cases are =
      let vs = operand_sites value in
      let bs : List Site = UsesBlock other.0 ∷ map (λ (c : Case). UsesBlock c.to.0) cases in
      let blocks = right_shown shown names vs bs are in
      let each = subst (AreShown shown names) (cases_sites cases) blocks.1 in
      beside (words ≡ [])
      (word_then (codes "switch") switch_is_word
      (both_said shown names vs bs
      (pair_then (λ rest behind. refl) (type_rewrites IsScalar kind)
      (operand_rewrites shown names kind value (left_shown shown names vs bs are))
      (sign_then 44 comma_is_sign
      (behind_a_space
      (space_then (target_rewrites shown names other.0 blocks.0)
      (sign_then 91 opening_bracket_is_sign
      (mentions_are _ _ (cases_said cases)
      (space_then (cases_rewrite cases each) (sign_ends 93 closing_bracket_is_sign))))))))))
