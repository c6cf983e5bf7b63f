-- Operations of values alone as they are printed.
use Rattle.std.proofs.Common.{◌≡◌, ℕ, Bool, List, [], ◌∷◌, ◌++◌, map, flat_map, codes, refl, sym, inr, append_assoc}
use Rattle.std.proofs.lemmas.List.{append-nil}
use Rattle.scev_base.specs.declared.pred.Pred.{Pred}
use Rattle.ir_model.specs.declared.types.IrType.{IrType}
use Rattle.ir_model.specs.declared.types.IrType.TheVariants.{Int}
use Rattle.ir_model.specs.declared.op.Operand.{Operand}
use Rattle.ir_model.specs.declared.op.BinOp.{BinOp}
use Rattle.ir_model.specs.declared.op.CastOp.{CastOp}
use Rattle.ir_model.specs.declared.op.CastOp.TheVariants as cast
use Rattle.ir_model.specs.declared.op.TypedOperand.{TypedOperand}
use Rattle.ir_model.specs.declared.op.PhiEntry.{PhiEntry}
use Rattle.ir_model.specs.declared.op.Op.{Op}
use Rattle.ir_model.specs.declared.op.Op.TheVariants.{Binary, Icmp, Cast, Select, Phi, Freeze}
use Rattle.ir_text.specs.Tokens.{Lexeme}
use Rattle.ir_text.specs.Language.{Language}
use Rattle.ir_text.specs.Mentions.{◌⊙◌, silent}
use Rattle.ir_model.specs.Sites.{Site, UsesBlock, operand_sites, typed_sites, entry_sites, op_sites}
use Rattle.ir_text.specs.Sites.{bare_operand, bare_entry, bare_op}
use Rattle.ir_model.specs.Kinds.{IsScalar}
use Rattle.ir_model.specs.Kinds.{flag_kind}
use Rattle.ir_grammar.specs.Operations.{SpellsOp, SpellsTyped, SpellsEntry, WithCommas, the_word, the_type, binary_text, pred_text}
use Rattle.ir_grammar.specs.Printing.{Shown, joined, type_text, operand_text, entry_text, op_text, two_text, flag_word}
use Rattle.ir_lex.proofs.Plain.{Stops}
use Rattle.ir_read_back.specs.Normal.{normal_operand, normal_entry, normal_op}
use Rattle.ir_read_back.proofs.Words.{icmp_is_word, select_is_word, i1_is_word, phi_is_word, freeze_is_word, to_is_word, nneg_is_word, zext_is_word, sext_is_word, trunc_is_word, binary_text_is_word, pred_text_is_word, opening_bracket_is_sign, closing_bracket_is_sign}
use Rattle.ir_read_back.proofs.Named.{Names, mention_at, IsShown, AreShown, said_at}
use Rattle.ir_read_back.proofs.TypeTexts.{type_rewrites}
use Rattle.ir_read_back.proofs.Flags.{flags_text, binary_flags_rewrite, flag_writes}
use Rattle.ir_read_back.proofs.Lists.{mapped_commas, map_flat_map, with_commas_rewrites, each_gives, each_part}
use Rattle.ir_read_back.proofs.Operands.{operand_rewrites, typed_rewrites, two_rewrite, block_rewrites, both_said, left_shown, right_shown}
use Rattle.ir_read_back.proofs.Writes.{Anything, Rewrites, always, beside, text_is, mentions_are, word_then, sign_then, sign_ends, whole_then, space_then, comma_then, left_out_then, behind_a_space, pair_then}

-- The operation is printed as the same, with its numbers as they are printed.
abbrev pub OpRewrites : Shown → Names → Op → List (List ℕ) → Type 0
OpRewrites shown names op words = Rewrites Stops (SpellsOp (bare_op op) words) (SpellsOp (bare_op (normal_op op)) words)
    (said_at names (op_sites op)) (op_text shown op words)

flags_grouped : (nuw nsw exact disjoint : Bool) (rest : List ℕ)
    → flags_text nuw nsw exact disjoint ++ rest
    ≡ flag_word nuw (codes "nuw") ++ (flag_word nsw (codes "nsw")
    ++ (flag_word exact (codes "exact") ++ (flag_word disjoint (codes "disjoint") ++ rest)))
flags_grouped nuw nsw exact disjoint rest = simp append_assoc

-- Nothing is written where the sentence needs no token.
empty_stays : {L : Language} → ((ts : List Lexeme) → L ts → L []) → Rewrites Anything (silent L) (silent L) [] []
empty_stays none = record {
  writes = λ old ts spelled real. record {
    lexemes = [];
    spelled = (refl, none ts spelled.1);
    lexed = λ rest others any tokens. tokens;
  };
}

module _ (shown : Shown) (names : Names) (words : List (List ℕ)) where
  pub binary_rewrites : (op : BinOp) (nuw nsw exact disjoint : Bool) (kind : IrType) (left right : Operand)
      → AreShown shown names (op_sites (Binary op nuw nsw exact disjoint kind left right))
      → OpRewrites shown names (Binary op nuw nsw exact disjoint kind left right) words
  unfolding op_text
  binary_rewrites op nuw nsw exact disjoint kind left right are =
      beside (words ≡ [])
      (word_then (binary_text op) (binary_text_is_word op)
      (text_is _ _ (flags_grouped nuw nsw exact disjoint (two_text shown kind left right))
      (whole_then (binary_flags_rewrite (flag_kind op) nuw nsw exact disjoint)
      (two_rewrite shown names kind left right are))))

  pub icmp_rewrites : (pred : Pred) (kind : IrType) (left right : Operand)
      → AreShown shown names (op_sites (Icmp pred kind left right))
      → OpRewrites shown names (Icmp pred kind left right) words
  unfolding op_text
  icmp_rewrites pred kind left right are =
      beside (words ≡ [])
      (word_then (codes "icmp") icmp_is_word
      (left_out_then (inr refl)
      (word_then (pred_text pred) (pred_text_is_word pred) (two_rewrite shown names kind left right are))))

  -- what stands behind the flags of a conversion
  converted : (from : IrType) (value : Operand) (to : IrType)
      → AreShown shown names (operand_sites value)
      → Rewrites Stops
      (SpellsTyped (record { kind = from; value = bare_operand value }) ⊙ the_word (codes "to") ⊙ the_type IsScalar to)
      (SpellsTyped (record { kind = from; value = bare_operand (normal_operand from value) }) ⊙ the_word (codes "to")
      ⊙ the_type IsScalar to)
      (said_at names (operand_sites value))
      (type_text from ++ (32 ∷ (operand_text shown from value ++ (codes " to " ++ type_text to))))
  converted from value to are =
      mentions_are _ _ (append-nil (said_at names (operand_sites value)))
      (pair_then (λ rest behind. refl) (type_rewrites IsScalar from) (operand_rewrites shown names from value are)
      (behind_a_space (word_then (codes "to") to_is_word (type_rewrites IsScalar to))))

  pub cast_rewrites : (op : CastOp) (nneg : Bool) (from : IrType) (value : Operand) (to : IrType)
      → AreShown shown names (op_sites (Cast op nneg from value to))
      → OpRewrites shown names (Cast op nneg from value to) words
  unfolding op_text
  cast_rewrites cast.Zext nneg from value to are =
      beside (words ≡ [])
      (word_then (codes "zext") zext_is_word
      (whole_then (always (flag_writes (codes "nneg") nneg_is_word nneg)) (converted from value to are)))
  cast_rewrites cast.Sext nneg from value to are =
      beside (words ≡ [])
      (word_then (codes "sext") sext_is_word
      (whole_then {a = []} (empty_stays (λ ts spelled. (spelled.0, refl))) (converted from value to are)))
  cast_rewrites cast.Trunc nneg from value to are =
      beside (words ≡ [])
      (word_then (codes "trunc") trunc_is_word
      (whole_then {a = []} (empty_stays (λ ts spelled. (spelled.0, ([], [], refl, inr refl, inr refl))))
      (converted from value to are)))

  pub select_rewrites : (cond : Operand) (left right : TypedOperand)
      → AreShown shown names (op_sites (Select cond left right))
      → OpRewrites shown names (Select cond left right) words
  unfolding op_text
  select_rewrites cond left right are =
      let cs = operand_sites cond in
      let ls = typed_sites left in
      let rs = typed_sites right in
      let others = right_shown shown names cs (ls ++ rs) are in
      beside (words ≡ [])
      (word_then (codes "select") select_is_word
      (word_then (codes "i1") i1_is_word
      (both_said shown names cs (ls ++ rs)
      (comma_then (operand_rewrites shown names (Int 1) cond (left_shown shown names cs (ls ++ rs) are))
      (both_said shown names ls rs
      (comma_then (typed_rewrites shown names left (left_shown shown names ls rs others))
      (typed_rewrites shown names right (right_shown shown names ls rs others))))))))

  pub freeze_rewrites : (kind : IrType) (value : Operand)
      → AreShown shown names (op_sites (Freeze kind value))
      → OpRewrites shown names (Freeze kind value) words
  unfolding op_text
  freeze_rewrites kind value are =
      beside (words ≡ [])
      (word_then (codes "freeze") freeze_is_word
      (typed_rewrites shown names (record { kind = kind; value = value }) are))

  entry_rewrites : (kind : IrType) (entry : PhiEntry)
      → AreShown shown names (entry_sites entry)
      → Rewrites Stops (SpellsEntry (bare_entry entry)) (SpellsEntry (bare_entry (normal_entry kind entry)))
      (said_at names (entry_sites entry)) (entry_text shown kind entry)
  entry_rewrites kind entry are =
      let vs = operand_sites entry.value in
      let bs : List Site = UsesBlock entry.from.0 ∷ [] in
      sign_then 91 opening_bracket_is_sign
      (behind_a_space
      (both_said shown names vs bs
      (comma_then (operand_rewrites shown names kind entry.value (left_shown shown names vs bs are))
      (mentions_are _ _ (append-nil (said_at names bs))
      (space_then (block_rewrites shown names entry.from.0 (right_shown shown names vs bs are).0)
      (sign_ends 93 closing_bracket_is_sign))))))

  entries_rewrite : (kind : IrType) (entries : List PhiEntry)
      → AreShown shown names (flat_map entry_sites entries)
      → Rewrites Stops (WithCommas SpellsEntry (map bare_entry entries))
      (WithCommas SpellsEntry (map bare_entry (map (normal_entry kind) entries)))
      (said_at names (flat_map entry_sites entries)) (joined (entry_text shown kind) (codes ", ") entries)
  entries_rewrite kind entries are =
      mapped_commas SpellsEntry bare_entry (normal_entry kind) entries
      (mentions_are _ _ (sym (map_flat_map (mention_at names) entry_sites entries))
      (with_commas_rewrites (λ e. SpellsEntry (bare_entry e)) (λ e. SpellsEntry (bare_entry (normal_entry kind e)))
      (λ e. said_at names (entry_sites e)) (entry_text shown kind) entries
      (each_gives _ _ (entry_rewrites kind) entries (each_part (IsShown shown names) entry_sites entries are))))

  pub phi_rewrites : (kind : IrType) (entries : List PhiEntry)
      → AreShown shown names (op_sites (Phi kind entries))
      → OpRewrites shown names (Phi kind entries) words
  unfolding op_text
  phi_rewrites kind entries are =
      beside (words ≡ [])
      (word_then (codes "phi") phi_is_word
      (space_then (type_rewrites IsScalar kind) (entries_rewrite kind entries are)))
