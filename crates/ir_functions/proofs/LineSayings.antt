-- What a line that was read says: its instruction is spelled, or what stands there is dropped; and each of these is
-- a line.
use Rattle.std.proofs.Common.{◌≡◌, ℕ, Bool, true, false, List, [], ◌∷◌, ◌++◌, Option, Some, None, inl, inr, refl, sym, ap, subst, ◌∙◌, IsTrue}
use Rattle.scev_base.specs.declared.ids.ValueId.{ValueId}
use Rattle.ir_model.specs.declared.function.Instr.{Instr}
use Rattle.ir_text.specs.Tokens.{Lexeme}
use Rattle.ir_text.specs.Mentions.{Mention, DefinesValue, Mentioning, ◌⊙◌, silent}
use Rattle.ir_grammar.specs.Operations.{the_sign}
use Rattle.ir_model.specs.Shapes.{is_terminator, MayHaveResult}
use Rattle.ir_grammar.specs.Functions.{SpellsResult, SpellsInstr, dropped_instr}
use Rattle.ir_parts.specs.declared.ending.Ending.{Ending}
use Rattle.ir_body.specs.declared.operation.Operation.{Operation}
use Rattle.ir_functions.specs.declared.lines.Line.{Line}
use Rattle.ir_functions.specs.Lines.{instr_of, named_line, numbered_instr, ends_block}
use Rattle.ir_functions.proofs.GivenValues.{gives_back, gives_none, value_may, call_may, call_or_none, call_ends_none, numbered_value, numbered_none, numbered_op, numbered_spelled}
use Rattle.ir_functions.proofs.LineFacts.{SpellsWhole, ReadsCalls}
use Rattle.ir_functions.proofs.ChainTellers.{SpellsChain}
use Rattle.ir_functions.proofs.LineTellers.{SpellsDefined, SpellsAnyLine, empty_line, record_words}
use Rattle.ir_functions.proofs.Regrouped.{left_parts, right_parts, left_told, right_told}

module _ {Chain : Bool → Option Operation × Option Ending → List Mention → List Lexeme → Type 0}
    (calls : ReadsCalls Chain) where
  -- ---- what an operation or a call says

  chain_says : (has_result : Bool) (operation : Operation) (tail : Option Ending) (ms : List Mention)
      (ts : List Lexeme)
      → SpellsChain calls has_result (Some operation, tail) ms ts
      → (IsTrue has_result → MayHaveResult operation.op) × SpellsWhole operation ms ts
  chain_says has_result operation tail ms ts (inl l) =
      let says = calls.call_there has_result operation tail ms ts l in (λ h. call_may operation.op says.0, says.1)
  chain_says has_result operation tail ms ts (inr l) =
      subst (λ (o : Operation). (IsTrue has_result → MayHaveResult o.op) × SpellsWhole o ms ts)
      (same operation l.0 tail l.1) (l.2.1, l.2.2)
    where
      same : (o p : Operation) (tail : Option Ending)
          → ◌≡◌ {A = Option Operation × Option Ending} (Some o, tail) (Some p, None) → p ≡ o
      same o p tail e = let some : ◌≡◌ {A = Option Operation} (Some o) (Some p) =
          ap (λ (p : Option Operation × Option Ending). p.0) e in cc

  -- what is dropped
  pub none_says : (has_result : Bool) (tail : Option Ending) (ms : List Mention) (ts : List Lexeme)
      → SpellsChain calls has_result (None, tail) ms ts → Chain has_result (None, tail) ms ts
  none_says has_result tail ms ts (inl l) = l
  none_says has_result tail ms ts (inr l) =
      absurd (let none : ◌≡◌ {A = Option Operation} None (Some l.0) =
      ap (λ (p : Option Operation × Option Ending). p.0) l.1 in cc)

  chain_told : (has_result : Bool) (operation : Operation) (ms : List Mention) (ts : List Lexeme)
      → (IsTrue has_result → MayHaveResult operation.op) → SpellsWhole operation ms ts
      → (tail : Option Ending) × SpellsChain calls has_result (Some operation, tail) ms ts
  chain_told has_result operation ms ts may whole = elim (call_or_none operation.op) [
    | inl is ↦
        let call = calls.call_back has_result operation ms ts is whole in (call.0, inl call.1)
    | inr isnt ↦ (None, inr (operation, refl, (isnt, may, whole)))
  ]

  -- what ends a block ends in no run
  chain_ends : (has_result : Bool) (operation : Operation) (tail : Option Ending) (ms : List Mention)
      (ts : List Lexeme)
      → SpellsChain calls has_result (Some operation, tail) ms ts
      → is_terminator operation.op ≡ true → tail ≡ None
  chain_ends has_result operation tail ms ts (inl l) e =
      absurd (let none = call_ends_none operation.op (calls.call_there has_result operation tail ms ts l).0 in cc)
  chain_ends has_result operation tail ms ts (inr l) e = ap (λ (p : Option Operation × Option Ending). p.1) l.1

  -- ---- with a name

  named_says : (v : ValueId) (operation : Operation) (tail : Option Ending) (ms : List Mention) (ts : List Lexeme)
      → (SpellsDefined v ⊙ (the_sign 61 ⊙ SpellsChain calls true (Some operation, tail))) ms ts
      → SpellsInstr (instr_of (Some v) operation) ms ts
  named_says v operation tail ms ts l =
      let m = left_told ms ts l in
      let says = chain_says true operation tail m.1 m.3.1 m.3.4 in
      let defined = m.3.3 in (
        m.0,
        m.1,
        m.2,
        (
          m.3.0,
          m.3.1,
          m.3.2,
          (
            defined.3.3.0,
            inl (
              says.0 refl,
              (defined.0, defined.1, defined.2, (defined.3.0, defined.3.1, defined.3.2, defined.3.3.1, defined.3.4)),
            ),
          ),
          says.1,
        ),
      )

  -- ---- instructions

  same_instr : (line : Line) (o : Option Instr) (x : Instr) → line.instr ≡ o → line.instr ≡ Some x → o ≡ Some x
  same_instr line o x e f = cc

  is_instr : (x y : Instr) → ◌≡◌ {A = Option Instr} (Some x) (Some y) → x ≡ y
  is_instr x y e = cc

  no_instr : (A : Type 0) (x : Instr) → ◌≡◌ {A = Option Instr} None (Some x) → A
  no_instr A x e = absurd cc

  no_line : (A : Type 0) (x : Instr) → ◌≡◌ {A = Option Instr} (Some x) None → A
  no_line A x e = absurd cc

  -- the instruction of a line
  pub line_says : (line : Line) (instr : Instr) (ms : List Mention) (ts : List Lexeme) → line.instr ≡ Some instr
      → SpellsAnyLine calls line ms ts → SpellsInstr instr ms ts
  line_says line instr ms ts is (inl l) =
      no_instr (SpellsInstr instr ms ts) instr (sym (ap (λ (line : Line). line.instr) l.1) ∙ is)
  line_says line instr ms ts is (inr (inl ((v, (None, tail)), same, l))) =
      no_instr (SpellsInstr instr ms ts) instr (sym (ap (λ (line : Line). line.instr) same) ∙ is)
  line_says line instr ms ts is (inr (inl ((v, (Some operation, tail)), same, l))) =
      subst (λ (x : Instr). SpellsInstr x ms ts)
      (is_instr (instr_of (Some v) operation) instr (sym (ap (λ (line : Line). line.instr) same) ∙ is))
      (named_says v operation tail ms ts l)
  line_says line instr ms ts is (inr (inr (((None, tail), before), same, l))) =
      no_instr (SpellsInstr instr ms ts) instr (sym (ap (λ (p : Line × List Mention). p.0.instr) same) ∙ is)
  line_says line instr ms ts is (inr (inr (((Some operation, tail), before), same, l))) =
      subst (λ (ms : List Mention). SpellsInstr instr ms ts) (sym (ap (λ (p : Line × List Mention). p.1) same))
      (subst (λ (x : Instr). SpellsInstr x (numbered_instr operation before).1 ts)
      (is_instr (numbered_instr operation before).0 instr
      (sym (ap (λ (p : Line × List Mention). p.0.instr) same) ∙ is))
      (numbered_spelled operation before ts (chain_says false operation tail before ts l).1))

  -- ---- what is dropped

  -- a line with no instruction
  pub line_drops : (line : Line) (ms : List Mention) (ts : List Lexeme) → line.instr ≡ None
      → SpellsAnyLine calls line ms ts → (ms ≡ []) × dropped_instr ts
  line_drops line ms ts is (inl l) = (l.2.0, of_record l.2.1)
    where
      of_record : record_words ts → dropped_instr ts
      of_record l = let m = left_parts ts l in (m.0, m.1, m.2, inl m.3, m.4)
  line_drops line ms ts is (inr (inl ((v, (None, tail)), same, l))) =
      let second = l.3.4 in
      absurd (calls.never_dropped tail second.1 second.3.1
      (none_says true tail second.1 second.3.1 second.3.4))
  line_drops line ms ts is (inr (inl ((v, (Some operation, tail)), same, l))) =
      no_line ((ms ≡ []) × dropped_instr ts) (instr_of (Some v) operation)
      (sym (ap (λ (line : Line). line.instr) same) ∙ is)
  line_drops line ms ts is (inr (inr (((None, tail), before), same, l))) =
      let d = calls.dropped_there tail before ts (none_says false tail before ts l) in (
        ap (λ (p : Line × List Mention). p.1) same ∙ d.0,
        (d.1.0, d.1.1, d.1.2, inr d.1.3, d.1.4),
      )
  line_drops line ms ts is (inr (inr (((Some operation, tail), before), same, l))) =
      no_line ((ms ≡ []) × dropped_instr ts) (numbered_instr operation before).0
      (sym (ap (λ (p : Line × List Mention). p.0.instr) same) ∙ is)

  -- ---- the end of a block

  -- a line that ends a block ends in no run
  pub line_ends : (line : Line) (ms : List Mention) (ts : List Lexeme) → ends_block line ≡ true
      → SpellsAnyLine calls line ms ts → line.tail ≡ None
  line_ends line ms ts e (inl l) = ap (λ (line : Line). line.tail) l.1
  line_ends line ms ts e (inr (inl ((v, (None, tail)), same, l))) =
      absurd (let f = sym (ap ends_block same) ∙ e in cc)
  line_ends line ms ts e (inr (inl ((v, (Some operation, tail)), same, l))) =
      let second = l.3.4 in
      ap (λ (line : Line). line.tail) same
      ∙ chain_ends true operation tail second.1 second.3.1 second.3.4 (sym (ap ends_block same) ∙ e)
  line_ends line ms ts e (inr (inr (((None, tail), before), same, l))) =
      absurd (let f = sym (ap (λ (p : Line × List Mention). ends_block p.0) same) ∙ e in cc)
  line_ends line ms ts e (inr (inr (((Some operation, tail), before), same, l))) =
      ap (λ (p : Line × List Mention). p.0.tail) same
      ∙ chain_ends false operation tail before ts l
      (ap is_terminator (sym (numbered_op operation before))
      ∙ (sym (ap (λ (p : Line × List Mention). ends_block p.0) same) ∙ e))

  -- ---- each is a line

  -- what is dropped
  pub dropped_line : (ts : List Lexeme) → dropped_instr ts
      → (line : Line) × (line.instr ≡ None) × SpellsAnyLine calls line [] ts
  dropped_line ts (us, vs, parts, inl l, m) =
      (empty_line, refl, inl (tt, refl, (refl, right_parts ts (us, vs, parts, l, m))))
  dropped_line ts (us, vs, parts, inr l, m) =
      let call = calls.dropped_back ts (us, vs, parts, l, m) in (
        record { instr = None; tail = call.0 },
        refl,
        inr (inr (((None, call.0), []), refl, inl call.1)),
      )

  zero_id : (v : ValueId) → v.0 ≡ 0 → v ≡ record { 0 = 0 }
  zero_id v e = ap (λ (n : ℕ). let id : ValueId = record { 0 = n } in id) e

  nothing_first : (A : Mentioning) (ms before behind : List Mention) (ts us vs : List Lexeme) → ms ≡ before ++ behind
      → ts ≡ us ++ vs → before ≡ [] → us ≡ [] → A behind vs → A ms ts
  nothing_first A ms before behind ts us vs whole parts none empty l =
      subst (λ (ms : List Mention). A ms ts) (sym (whole ∙ ap (λ (b : List Mention). b ++ behind) none))
      (subst (λ (ts : List Lexeme). A behind ts) (sym (parts ∙ ap (λ (us : List Lexeme). us ++ vs) empty)) l)

  -- an instruction, by its parts
  instr_line : (result : Option ValueId) (operation : Operation) (ms : List Mention) (ts : List Lexeme)
      → (SpellsResult operation.op result ⊙ SpellsWhole operation) ms ts
      → (line : Line) × (line.instr ≡ Some (instr_of result operation)) × SpellsAnyLine calls line ms ts
  instr_line None operation ms ts (before, behind, whole, (us, vs, parts, (none, (silent, empty)), l)) =
      let chain = chain_told false operation ms ts (λ h. absurd (let e = h in cc))
      (nothing_first (SpellsWhole operation) ms before behind ts us vs whole parts silent empty l) in
      let same = numbered_none operation ms (gives_none operation.op none) in (
        record { instr = Some (instr_of None operation); tail = chain.0 },
        refl,
        inr (inr (
          ((Some operation, chain.0), ms),
          ap (λ (p : Instr × List Mention). let line : Line × List Mention =
              (record { instr = Some p.0; tail = chain.0 }, p.1) in line) (sym same),
          chain.1,
        )),
      )
  instr_line (Some v) operation ms ts (before, behind, whole, (us, vs, parts, (id, inl (may, l)), op)) =
      let chain = chain_told true operation behind vs (λ h. may) op in (
        named_line (v, (Some operation, chain.0)),
        refl,
        inr (inl (
          (v, (Some operation, chain.0)),
          refl,
          right_told ms ts (
            before,
            behind,
            whole,
            (us, vs, parts, (l.0, l.1, l.2, (l.3.0, l.3.1, l.3.2, (id, l.3.3), l.3.4)), chain.1),
          ),
        )),
      )
  instr_line (Some v) operation ms ts (before, behind, whole, (us, vs, parts, (id, inr (gives, (one, empty))), op)) =
      let chain = chain_told false operation behind vs (λ h. value_may operation.op gives) op in
      let same = numbered_value operation behind (gives_back operation.op gives) in
      let all : ts ≡ vs = parts ∙ ap (λ (us : List Lexeme). us ++ vs) empty in
      let mentions : ms ≡ DefinesValue None ∷ behind = whole ∙ ap (λ (b : List Mention). b ++ behind) one in (
        record { instr = Some (instr_of (Some v) operation); tail = chain.0 },
        refl,
        inr (inr (
          ((Some operation, chain.0), behind),
          ap (λ (ms : List Mention). let line : Line × List Mention =
              (record { instr = Some (instr_of (Some v) operation); tail = chain.0 }, ms) in line) mentions
              ∙ (ap (λ (v : ValueId). let line : Line × List Mention =
              (record { instr = Some (instr_of (Some v) operation); tail = chain.0 }, DefinesValue None ∷ behind)
              in line)
              (zero_id v id)
              ∙ ap (λ (p : Instr × List Mention). let line : Line × List Mention =
              (record { instr = Some p.0; tail = chain.0 }, p.1) in line) (sym same)),
          subst (λ (ts : List Lexeme). SpellsChain calls false (Some operation, chain.0) behind ts)
              (sym all) chain.1,
        )),
      )

  -- an instruction
  pub is_line : (instr : Instr) (ms : List Mention) (ts : List Lexeme) → SpellsInstr instr ms ts
      → (line : Line) × (line.instr ≡ Some instr) × SpellsAnyLine calls line ms ts
  is_line instr ms ts l = instr_line instr.result (record { op = instr.op; words = instr.words }) ms ts l
