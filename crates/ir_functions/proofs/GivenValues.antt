-- Which operations give a value, and which may stand behind a name; how an instruction without a name is numbered.
use Rattle.std.proofs.Common.{◌≡◌, Bool, true, false, not, if◌then◌else◌, List, [], ◌∷◌, Some, None, ◌⊎◌, inl, inr, refl, sym, ap, subst}
use Rattle.ir_model.specs.declared.op.Op.{Op}
use Rattle.ir_model.specs.declared.op.Op.TheVariants.{Store, Call}
use Rattle.ir_model.specs.declared.function.Instr.{Instr}
use Rattle.ir_text.specs.Tokens.{Lexeme}
use Rattle.ir_text.specs.Mentions.{Mention, DefinesValue}
use Rattle.ir_model.specs.Shapes.{is_terminator, is_void, MayHaveResult, GivesValue}
use Rattle.ir_grammar.specs.Functions.{SpellsInstr}
use Rattle.ir_parts.proofs.Readers.{either}
use Rattle.ir_body.specs.declared.operation.Operation.{Operation}
use Rattle.ir_functions.specs.Lines.{gives_value, instr_of, numbered_instr}
use Rattle.ir_functions.proofs.LineStarts.{IsCall, IsNoCall}
use Rattle.ir_functions.proofs.LineFacts.{SpellsWhole}

not_true : (b : Bool) → not b ≡ true → b ≡ false
not_true true e = absurd cc
not_true false e = refl

gives_there : (op : Op) → gives_value op ≡ true → GivesValue op
gives_there (Store kind value to) e = absurd cc
gives_there (Call ret callee args) e = not_true (is_void ret) e
gives_there _ e = cc

pub gives_back : (op : Op) → GivesValue op → gives_value op ≡ true
gives_back (Store kind value to) is = absurd is
gives_back (Call ret callee args) is = rw is refl
gives_back _ is = cc

pub gives_none : (op : Op) → (GivesValue op → ⊥) → gives_value op ≡ false
gives_none op none = elim (either (gives_value op)) [
  | inl is ↦ absurd (none (gives_there op is))
  | inr isnt ↦ isnt
]

-- What gives a value may have a result, and so may a call.
pub value_may : (op : Op) → GivesValue op → MayHaveResult op
value_may (Store kind value to) is = is
value_may (Call ret callee args) is = refl
value_may _ is = is

pub call_may : (op : Op) → IsCall op → MayHaveResult op
call_may (Call ret callee args) is = refl
call_may _ is = absurd is

-- a call, or none
pub call_or_none : (op : Op) → IsCall op ⊎ IsNoCall op
call_or_none (Call ret callee args) = inl tt
call_or_none _ = inr tt

-- A call ends no block.
pub call_ends_none : (op : Op) → IsCall op → is_terminator op ≡ false
call_ends_none (Call ret callee args) is = refl
call_ends_none _ is = absurd is

-- ---- instructions without a name

abbrev with_value : Operation → List Mention → Instr × List Mention
with_value operation ms = (instr_of (Some (record { 0 = 0 })) operation, DefinesValue None ∷ ms)

abbrev without_value : Operation → List Mention → Instr × List Mention
without_value operation ms = (instr_of None operation, ms)

pub numbered_value : (operation : Operation) (ms : List Mention) → gives_value operation.op ≡ true
    → numbered_instr operation ms ≡ with_value operation ms
numbered_value operation ms e = ap (λ b. if b then with_value operation ms else without_value operation ms) e

pub numbered_none : (operation : Operation) (ms : List Mention) → gives_value operation.op ≡ false
    → numbered_instr operation ms ≡ without_value operation ms
numbered_none operation ms e = ap (λ b. if b then with_value operation ms else without_value operation ms) e

-- The operation stays.
pub numbered_op : (operation : Operation) (ms : List Mention) → (numbered_instr operation ms).0.op ≡ operation.op
numbered_op operation ms = elim (either (gives_value operation.op)) [
  | inl is ↦ ap (λ (p : Instr × List Mention). p.0.op) (numbered_value operation ms is)
  | inr isnt ↦ ap (λ (p : Instr × List Mention). p.0.op) (numbered_none operation ms isnt)
]

-- The operation with its attachments is spelled, and so is the instruction.
pub numbered_spelled : (operation : Operation) (ms : List Mention) (ts : List Lexeme) → SpellsWhole operation ms ts
    → SpellsInstr (numbered_instr operation ms).0 (numbered_instr operation ms).1 ts
numbered_spelled operation ms ts whole = elim (either (gives_value operation.op)) [
  | inl is ↦
      subst (λ (p : Instr × List Mention). SpellsInstr p.0 p.1 ts) (sym (numbered_value operation ms is)) (
        DefinesValue None ∷ [],
        ms,
        refl,
        ([], ts, refl, (refl, inr (gives_there operation.op is, (refl, refl))), whole),
      )
  | inr isnt ↦
      subst (λ (p : Instr × List Mention). SpellsInstr p.0 p.1 ts) (sym (numbered_none operation ms isnt)) (
        [],
        ms,
        refl,
        ([], ts, refl, (λ gives. none isnt (gives_back operation.op gives), (refl, refl)), whole),
      )
]
  where
    none : gives_value operation.op ≡ false → gives_value operation.op ≡ true → ⊥
    none e f = cc
