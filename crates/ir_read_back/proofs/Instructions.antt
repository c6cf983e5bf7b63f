-- Instructions as they are printed, with their results, and without what is dropped.
use Rattle.std.proofs.Common.{◌≡◌, ℕ, Option, Some, None, List, [], ◌∷◌, ◌++◌, map, flat_map, codes, refl, sym, subst, ⊎_elim, inl, append_assoc}
use Rattle.std.proofs.lemmas.List.{append-nil}
use Rattle.scev_base.specs.declared.ids.ValueId.{ValueId}
use Rattle.ir_model.specs.declared.op.Op.{Op}
use Rattle.ir_model.specs.declared.op.Op.TheVariants.{Binary, Icmp, Cast, Select, Phi, Freeze, Alloca, Load, Store, Gep, Call, Jump, Branch, Switch, Ret, Unreachable}
use Rattle.ir_model.specs.declared.function.Instr.{Instr}
use Rattle.ir_text.specs.Tokens.{Lexeme, AreLexemes}
use Rattle.ir_text.specs.Listed.{sign}
use Rattle.ir_text.specs.Language.{none}
use Rattle.ir_text.specs.Mentions.{Mention, Mentioning, ◌⊙◌, silent, defines_value}
use Rattle.ir_model.specs.Sites.{DefinesValue, result_sites, op_sites, instr_sites}
use Rattle.ir_text.specs.Sites.{bare_op, bare_result, bare_instr}
use Rattle.ir_text.specs.PassedOn.{attachments}
use Rattle.ir_grammar.specs.Operations.{the_sign}
use Rattle.ir_model.specs.Shapes.{is_terminator, MayHaveResult, GivesValue}
use Rattle.ir_grammar.specs.Functions.{SpellsResult, SpellsLine, SpellsInstrs}
use Rattle.ir_grammar.specs.Printing.{Shown, result_text, instr_text}
use Rattle.ir_read_back.specs.Normal.{normal_op, normal_instr}
use Rattle.ir_read_back.proofs.Steps.{behind_line_feed}
use Rattle.ir_read_back.proofs.Steps as steps
use Rattle.ir_read_back.proofs.Words.{equals_is_sign}
use Rattle.ir_read_back.proofs.Named.{Names, Shows, AreShown, said_at}
use Rattle.ir_read_back.proofs.Sayings.{defined_value_writes}
use Rattle.ir_read_back.proofs.Operands.{both_said, left_shown, right_shown}
use Rattle.ir_read_back.proofs.Ops.{op_rewrites}
use Rattle.ir_read_back.proofs.Writes.{Anything, Writes, Rewrites, always, text_is, mentions_are, and_then, whole_then, left_out_then, behind_a_space}

-- ---- what is the same of an operation with its numbers as they are printed

gives_same : (op : Op) → GivesValue (bare_op (normal_op op)) ≡ GivesValue (bare_op op)
gives_same (Binary op nuw nsw exact disjoint kind left right) = refl
gives_same (Icmp pred kind left right) = refl
gives_same (Cast op nneg from value to) = refl
gives_same (Select cond left right) = refl
gives_same (Phi kind entries) = refl
gives_same (Freeze kind value) = refl
gives_same (Alloca kind) = refl
gives_same (Load kind from) = refl
gives_same (Store kind value to) = refl
gives_same (Gep inbounds kind base indices) = refl
gives_same (Call ret callee args) = refl
gives_same (Jump to) = refl
gives_same (Branch cond there other) = refl
gives_same (Switch kind value other cases) = refl
gives_same (Ret None) = refl
gives_same (Ret (Some typed)) = refl
gives_same Unreachable = refl

may_same : (op : Op) → MayHaveResult (bare_op op) ≡ MayHaveResult (bare_op (normal_op op))
may_same (Binary op nuw nsw exact disjoint kind left right) = refl
may_same (Icmp pred kind left right) = refl
may_same (Cast op nneg from value to) = refl
may_same (Select cond left right) = refl
may_same (Phi kind entries) = refl
may_same (Freeze kind value) = refl
may_same (Alloca kind) = refl
may_same (Load kind from) = refl
may_same (Store kind value to) = refl
may_same (Gep inbounds kind base indices) = refl
may_same (Call ret callee args) = refl
may_same (Jump to) = refl
may_same (Branch cond there other) = refl
may_same (Switch kind value other cases) = refl
may_same (Ret None) = refl
may_same (Ret (Some typed)) = refl
may_same Unreachable = refl

ends_same : (op : Op) → is_terminator (bare_op (normal_op op)) ≡ is_terminator (bare_op op)
ends_same (Binary op nuw nsw exact disjoint kind left right) = refl
ends_same (Icmp pred kind left right) = refl
ends_same (Cast op nneg from value to) = refl
ends_same (Select cond left right) = refl
ends_same (Phi kind entries) = refl
ends_same (Freeze kind value) = refl
ends_same (Alloca kind) = refl
ends_same (Load kind from) = refl
ends_same (Store kind value to) = refl
ends_same (Gep inbounds kind base indices) = refl
ends_same (Call ret callee args) = refl
ends_same (Jump to) = refl
ends_same (Branch cond there other) = refl
ends_same (Switch kind value other cases) = refl
ends_same (Ret None) = refl
ends_same (Ret (Some typed)) = refl
ends_same Unreachable = refl

-- What gives a value may have its result written.
may_have : (op : Op) → GivesValue op → MayHaveResult op
may_have (Binary op nuw nsw exact disjoint kind left right) gives = gives
may_have (Icmp pred kind left right) gives = gives
may_have (Cast op nneg from value to) gives = gives
may_have (Select cond left right) gives = gives
may_have (Phi kind entries) gives = gives
may_have (Freeze kind value) gives = gives
may_have (Alloca kind) gives = gives
may_have (Load kind from) gives = gives
may_have (Store kind value to) gives = gives
may_have (Gep inbounds kind base indices) gives = gives
may_have (Call ret callee args) gives = refl
may_have (Jump to) gives = gives
may_have (Branch cond there other) gives = gives
may_have (Switch kind value other cases) gives = gives
may_have (Ret value) gives = gives
may_have Unreachable gives = gives

-- ---- ends of lines

-- a line feed before a text
pub behind_a_line_feed : {Behind : List ℕ → Type 0} {A A' : Mentioning} {ms : List Mention} {text : List ℕ}
    → Rewrites Behind A A' ms text
    → Rewrites Behind A A' ms (10 ∷ text)
behind_a_line_feed part = record {
  writes = λ old ts spelled real.
      let all = part.writes old ts spelled real in
      record {
        lexemes = all.lexemes;
        spelled = all.spelled;
        lexed = λ rest others behind tokens. behind_line_feed (all.lexed rest others behind tokens);
      };
}

no_attachments : Rewrites Anything (silent attachments) (silent attachments) [] (codes "\n")
no_attachments = always (record {
  lexemes = [];
  spelled = (refl, none);
  lexed = λ rest others any tokens. behind_line_feed tokens;
})

-- A fact that follows from another, beside a production.
pub beside_what_follows : {Behind : List ℕ → Type 0} {A A' : Mentioning} {ms : List Mention} {text : List ℕ}
    (P Q : Type 0)
    → (P → Q)
    → Rewrites Behind A A' ms text
    → Rewrites Behind (λ ms ts. P × A ms ts) (λ ms ts. Q × A' ms ts) ms text
beside_what_follows P Q follows part = record {
  writes = λ old ts spelled real.
      let all = part.writes old ts spelled.1 real in
      record { lexemes = all.lexemes; spelled = (follows spelled.0, all.spelled); lexed = all.lexed };
}

module _ (shown : Shown) (names : Names) where
  -- ---- results

  result_regrouped : (v : ℕ) (rest : List ℕ) (ts others : List Lexeme)
      → AreLexemes ((37 ∷ shown.values v) ++ (codes " = " ++ rest)) (ts ++ (sign 61 ∷ others))
      → AreLexemes ((37 ∷ (shown.values v ++ codes " = ")) ++ rest) ((ts ++ (sign 61 ∷ [])) ++ others)
  result_regrouped v rest ts others tokens =
      rw (append_assoc (shown.values v) (codes " = ") rest, append_assoc ts (sign 61 ∷ []) others) tokens

  result_writes : (v : ℕ)
      → Shows (shown.values v) (names.values v)
      → Writes Anything (defines_value ⊙ the_sign 61) (said_at names (DefinesValue v ∷ []))
      (37 ∷ (shown.values v ++ codes " = "))
  result_writes v shows =
      let name = defined_value_writes (shown.values v) (names.values v) shows in
      record {
        lexemes = name.lexemes ++ (sign 61 ∷ []);
        spelled = (
          said_at names (DefinesValue v ∷ []),
          [],
          refl,
          (name.lexemes, sign 61 ∷ [], refl, name.spelled, (refl, refl)),
        );
        lexed = λ rest others any tokens.
            result_regrouped v rest name.lexemes others
            (name.lexed (codes " = " ++ rest) (sign 61 ∷ others) refl
            (steps.behind_space (steps.behind_sign equals_is_sign (steps.behind_space tokens))));
      }

  -- A result is printed with its name, where it had one and where it had none.
  pub result_rewrites : (op : Op) (result : Option ValueId)
      → AreShown shown names (result_sites result)
      → Rewrites Anything (SpellsResult (bare_op op) (bare_result result))
      (SpellsResult (bare_op (normal_op op)) (bare_result result))
      (said_at names (result_sites result)) (result_text shown result)
  result_rewrites op None are = record {
    writes = λ old ts spelled real. record {
      lexemes = [];
      spelled = (λ gives. spelled.0 (subst (λ P. P) (gives_same op) gives), (refl, refl));
      lexed = λ rest others any tokens. tokens;
    };
  }
  result_rewrites op (Some v) are = record {
    writes = λ old ts spelled real.
        let may : MayHaveResult (bare_op op) =
        ⊎_elim (λ written. written.0) (λ left_out. may_have (bare_op op) left_out.0) spelled.1 in
        let all = result_writes v.0 are.0 in
        record {
          lexemes = all.lexemes;
          spelled = (refl, inl (subst (λ P. P) (may_same op) may, all.spelled));
          lexed = all.lexed;
        };
  }

  -- ---- lines

  -- An instruction is printed on a line of its own, with nothing of what is dropped.
  pub line_rewrites : (instr : Instr)
      → AreShown shown names (instr_sites instr)
      → Rewrites Anything (SpellsLine (bare_instr instr)) (SpellsLine (bare_instr (normal_instr instr)))
      (said_at names (instr_sites instr)) (instr_text shown instr)
  line_rewrites instr are =
      let rs = result_sites instr.result in
      let os = op_sites instr.op in
      left_out_then none
      (behind_a_space
      (behind_a_space
      (both_said shown names rs os
      (whole_then (result_rewrites instr.op instr.result (left_shown shown names rs os are))
      (mentions_are _ _ (append-nil (said_at names os))
      (and_then (λ rest any. refl) (op_rewrites shown names instr.op instr.words (right_shown shown names rs os are))
      no_attachments))))))

  -- The instructions of a block, of which the last one ends it.
  pub instrs_rewrite : (instrs : List Instr)
      → AreShown shown names (flat_map instr_sites instrs)
      → Rewrites Anything (SpellsInstrs (map bare_instr instrs))
      (SpellsInstrs (map bare_instr (map normal_instr instrs)))
      (said_at names (flat_map instr_sites instrs)) (flat_map (instr_text shown) instrs)
  instrs_rewrite [] are = record { writes = λ old ts spelled real. absurd spelled }
  instrs_rewrite (last ∷ []) are =
      let own = left_shown shown names (instr_sites last) [] are in
      beside_what_follows _ _ (λ ends. rw (ends_same last.op) ends)
      (both_said shown names (instr_sites last) []
      (mentions_are _ _ (sym (append-nil (said_at names (instr_sites last))))
      (text_is _ _ (sym (append-nil (instr_text shown last))) (line_rewrites last own))))
  instrs_rewrite (instr ∷ next ∷ instrs) are =
      let own = instr_sites instr in
      let more = flat_map instr_sites (next ∷ instrs) in
      beside_what_follows _ _ (λ goes_on. rw (ends_same instr.op) goes_on)
      (both_said shown names own more
      (whole_then (line_rewrites instr (left_shown shown names own more are))
      (instrs_rewrite (next ∷ instrs) (right_shown shown names own more are))))
