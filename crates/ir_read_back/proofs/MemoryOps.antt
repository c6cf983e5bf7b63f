-- Operations of memory as they are printed.
use Rattle.std.proofs.Common.{◌≡◌, ℕ, Bool, List, [], ◌∷◌, ◌++◌, map, flat_map, codes, refl, sym, ap, subst}
use Rattle.std.proofs.lemmas.List.{append-nil}
use Rattle.ir_model.specs.declared.types.IrType.{IrType}
use Rattle.ir_model.specs.declared.types.IrType.TheVariants.{Ptr}
use Rattle.ir_model.specs.declared.op.Operand.{Operand}
use Rattle.ir_model.specs.declared.op.TypedOperand.{TypedOperand}
use Rattle.ir_model.specs.declared.op.Op.TheVariants.{Alloca, Load, Store, Gep}
use Rattle.ir_text.specs.Mentions.{Mention, Mentioning, ◌⊙◌, silent, InOrder}
use Rattle.ir_model.specs.Sites.{operand_sites, typed_sites, op_sites}
use Rattle.ir_text.specs.Sites.{bare_operand, bare_typed}
use Rattle.ir_model.specs.Kinds.{IsInt, IsStored}
use Rattle.ir_grammar.specs.Operations.{SpellsTyped, SpellsPointer, SpellsAlign, the_comma}
use Rattle.ir_grammar.specs.Printing.{Shown, type_text, operand_text, words_at, align_text, typed_text, pointer_text, op_text}
use Rattle.ir_lex.proofs.Plain.{Stops}
use Rattle.ir_read_back.specs.Normal.{normal_operand, normal_typed}
use Rattle.ir_read_back.proofs.Words.{alloca_is_word, load_is_word, store_is_word, getelementptr_is_word, comma_is_sign}
use Rattle.ir_read_back.proofs.Named.{Names, mention_at, IsShown, AreShown, said_at}
use Rattle.ir_read_back.proofs.TypeTexts.{type_rewrites}
use Rattle.ir_read_back.proofs.Flags.{inbounds_writes}
use Rattle.ir_read_back.proofs.Passed.{align_rewrites, stops_align}
use Rattle.ir_read_back.proofs.Lists.{mapped_in_order, map_flat_map, in_order_rewrites, each_gives, each_part}
use Rattle.ir_read_back.proofs.Operands.{operand_rewrites, typed_rewrites, pointer_rewrites, both_said, left_shown, right_shown}
use Rattle.ir_read_back.proofs.PlainOps.{OpRewrites}
use Rattle.ir_read_back.proofs.Writes.{Writes, Rewrites, always, beside, mentions_are, word_then, sign_then, whole_then, stop_then, space_then, comma_then, behind_a_space}

-- A production with one text of passed-on words, which is printed by the place that it has among the words.
aligned : {A A' : List ℕ → Mentioning} {ms : List Mention} (words : List (List ℕ)) (text : List ℕ → List ℕ)
    → ((align : List ℕ) → Rewrites Stops (A align) (A' align) ms (text align))
    → Rewrites Stops (λ ms ts. (align : List ℕ) × (words ≡ align ∷ []) × A align ms ts)
    (λ ms ts. (align : List ℕ) × (words ≡ align ∷ []) × A' align ms ts) ms (text (words_at words 0))
aligned {A} {A'} {ms} words text part = record {
  writes = λ old ts spelled real.
      let all = (part spelled.0).writes old ts spelled.2 real in
      let same : spelled.0 ≡ words_at words 0 = sym (ap (λ ws. words_at ws 0) spelled.1) in
      let whole = subst (λ w. Writes Stops (A' spelled.0) ms (text w)) same all in
      record { lexemes = whole.lexemes; spelled = (spelled.0, spelled.1, whole.spelled); lexed = whole.lexed };
}

module _ (shown : Shown) (names : Names) (words : List (List ℕ)) where
  pub alloca_rewrites : (kind : IrType) → OpRewrites shown names (Alloca kind) words
  unfolding op_text
  alloca_rewrites kind =
      aligned words (λ w. codes "alloca " ++ (type_text kind ++ align_text w))
      (λ w. word_then (codes "alloca") alloca_is_word
      (stop_then (stops_align w) (type_rewrites IsStored kind) (align_rewrites w)))

  -- a pointer, and its alignment
  aligned_pointer : (pointer : Operand) (w : List ℕ)
      → AreShown shown names (operand_sites pointer)
      → Rewrites Stops (SpellsPointer (bare_operand pointer) ⊙ silent (SpellsAlign w))
      (SpellsPointer (bare_operand (normal_operand Ptr pointer)) ⊙ silent (SpellsAlign w))
      (said_at names (operand_sites pointer)) (pointer_text shown pointer ++ align_text w)
  aligned_pointer pointer w are =
      mentions_are _ _ (append-nil (said_at names (operand_sites pointer)))
      (stop_then (stops_align w) (pointer_rewrites shown names pointer are) (align_rewrites w))

  pub load_rewrites : (kind : IrType) (from : Operand)
      → AreShown shown names (op_sites (Load kind from))
      → OpRewrites shown names (Load kind from) words
  unfolding op_text
  load_rewrites kind from are =
      aligned words
      (λ w. codes "load " ++ (type_text kind ++ (codes ", " ++ (pointer_text shown from ++ align_text w))))
      (λ w. word_then (codes "load") load_is_word
      (comma_then (type_rewrites IsInt kind) (aligned_pointer from w are)))

  pub store_rewrites : (kind : IrType) (value to : Operand)
      → AreShown shown names (op_sites (Store kind value to))
      → OpRewrites shown names (Store kind value to) words
  unfolding op_text
  store_rewrites kind value to are =
      let vs = operand_sites value in
      let ps = operand_sites to in
      aligned words
      (λ w. codes "store " ++ (type_text kind ++ (32 ∷ (operand_text shown kind value
      ++ (codes ", " ++ (pointer_text shown to ++ align_text w))))))
      (λ w. word_then (codes "store") store_is_word
      (space_then (type_rewrites IsInt kind)
      (both_said shown names vs ps
      (comma_then (operand_rewrites shown names kind value (left_shown shown names vs ps are))
      (aligned_pointer to w (right_shown shown names vs ps are))))))

  -- the indices, each behind a comma
  abbrev index_text : TypedOperand → List ℕ
  index_text index = codes ", " ++ typed_text shown index

  index_rewrites : (index : TypedOperand)
      → AreShown shown names (typed_sites index)
      → Rewrites Stops (the_comma ⊙ SpellsTyped (bare_typed index))
      (the_comma ⊙ SpellsTyped (bare_typed (normal_typed index)))
      (said_at names (typed_sites index)) (index_text index)
  index_rewrites index are = sign_then 44 comma_is_sign (behind_a_space (typed_rewrites shown names index are))

  indices_rewrite : (indices : List TypedOperand)
      → AreShown shown names (flat_map typed_sites indices)
      → Rewrites Stops (InOrder (λ index. the_comma ⊙ SpellsTyped index) (map bare_typed indices))
      (InOrder (λ index. the_comma ⊙ SpellsTyped index) (map bare_typed (map normal_typed indices)))
      (said_at names (flat_map typed_sites indices)) (flat_map index_text indices)
  indices_rewrite indices are =
      mapped_in_order (λ index. the_comma ⊙ SpellsTyped index) bare_typed normal_typed indices
      (mentions_are _ _ (sym (map_flat_map (mention_at names) typed_sites indices))
      (in_order_rewrites (λ i. the_comma ⊙ SpellsTyped (bare_typed i))
      (λ i. the_comma ⊙ SpellsTyped (bare_typed (normal_typed i)))
      (λ i. said_at names (typed_sites i)) index_text Stops (λ index rest behind. refl) indices
      (each_gives _ _ index_rewrites indices (each_part (IsShown shown names) typed_sites indices are))))

  indices_stop : (indices : List TypedOperand) → Stops (flat_map index_text indices)
  indices_stop [] = tt
  indices_stop (index ∷ indices) = refl

  pub gep_rewrites : (inbounds : Bool) (kind : IrType) (base : Operand) (indices : List TypedOperand)
      → AreShown shown names (op_sites (Gep inbounds kind base indices))
      → OpRewrites shown names (Gep inbounds kind base indices) words
  unfolding op_text
  gep_rewrites inbounds kind base indices are =
      let bs = operand_sites base in
      let is = flat_map typed_sites indices in
      beside (words ≡ [])
      (word_then (codes "getelementptr") getelementptr_is_word
      (whole_then (always (inbounds_writes inbounds))
      (comma_then (type_rewrites IsStored kind)
      (both_said shown names bs is
      (stop_then (indices_stop indices) (pointer_rewrites shown names base (left_shown shown names bs is are))
      (indices_rewrite indices (right_shown shown names bs is are)))))))
