-- What is mentioned stands in tokens: there are no more mentions than tokens, and names are bytes where tokens are.
use Rattle.std.proofs.Common.{◌≡◌, ℕ, ◌+◌, ◌≤◌, List, [], ◌∷◌, ◌++◌, length, Some, None, ap, subst, arith, length-append}
use Rattle.ir_model.specs.declared.types.IrType.{IrType}
use Rattle.ir_model.specs.declared.op.Operand.{Operand}
use Rattle.ir_model.specs.declared.op.Operand.TheVariants as operand
use Rattle.ir_model.specs.declared.op.TypedOperand.{TypedOperand}
use Rattle.ir_model.specs.declared.op.PhiEntry.{PhiEntry}
use Rattle.ir_model.specs.declared.op.Case.{Case}
use Rattle.ir_model.specs.declared.op.Op.{Op}
use Rattle.ir_model.specs.declared.op.Op.TheVariants.{Binary, Icmp, Cast, Select, Phi, Freeze, Alloca, Load, Store, Gep, Call, Jump, Branch, Switch, Ret, Unreachable}
use Rattle.ir_text.specs.Tokens.{Lexeme}
use Rattle.ir_text.specs.Written.{IsLocal, IsLabel, IsGlobal}
use Rattle.ir_text.specs.Mentions.{Mention, Mentioning, ◌⊙◌, silent, mentions, uses_value, uses_block, uses_global, defines_value, defines_block, unwritten, DefinesValue, UsesValue, DefinesBlock, UsesBlock, UsesGlobal, InOrder}
use Rattle.ir_grammar.specs.Operations.{SpellsOperand, the_word, the_comma, SpellsTyped, SpellsPointer, SpellsBlockName, SpellsTarget, SpellsTwo, SpellsEntry, Argument, SpellsArgument, WithCommas, Listing, SpellsCase, SpellsOp}
use Rattle.ir_read_back.proofs.ByteNames.{MentionIsBytes, local_bytes, label_bytes, global_bytes}
use Rattle.ir_printer.proofs.QuotedNames.{AreBytes}
use Rattle.ir_read_back.proofs.Real.{Each, AreReal, IsReal, each-left, each-right, each-append}

-- ---- languages

-- There are no more mentions than tokens, but for so many less or more; where the tokens are bytes, the names are.
pub record Carries (less more : ℕ) (ms : List Mention) (ts : List Lexeme) : Type 0 where
  pub room : length ms + more ≤ length ts + less
  pub bytes : AreReal ts → Each MentionIsBytes ms

-- So it is with each sentence.
pub record Carried (less more : ℕ) (A : List Mention → List Lexeme → Type 0) : Type 0 where
  pub holds : (ms : List Mention) (ts : List Lexeme) → A ms ts → Carries less more ms ts

no_mention : (ms : List Mention) → ms ≡ [] → Each MentionIsBytes ms
no_mention ms none = rw none tt

only_mention : (m : Mention) (ms : List Mention) → ms ≡ m ∷ [] → MentionIsBytes m → Each MentionIsBytes ms
only_mention m ms one is = rw one (is, tt)

pub silent_carries : (ms : List Mention) (ts : List Lexeme) → ms ≡ [] → Carries 0 0 ms ts
silent_carries ms ts none = record { room = omega (arith, ap length none); bytes = λ all. no_mention ms none }

pub quiet : {L : List Lexeme → Type 0} → Carried 0 0 (silent L)
quiet = record { holds = λ ms ts spelled. silent_carries ms ts spelled.0 }

only_token : (t : Lexeme) (ts : List Lexeme) → ts ≡ t ∷ [] → AreReal ts → AreBytes t.text
only_token t ts one all =
    let moved : AreReal (t ∷ []) = subst AreReal one all in
    moved.0.bytes

-- one token with one mention
pub mention_carries : (m : Mention) (Is : Lexeme → Type 0) → ((t : Lexeme) → Is t → AreBytes t.text → MentionIsBytes m)
    → (ms : List Mention) (ts : List Lexeme) → mentions m Is ms ts → Carries 0 0 ms ts
mention_carries m Is bytes ms ts spelled = record {
  room = omega (arith, ap length spelled.0, ap length spelled.1.1);
  bytes = λ all. only_mention m ms spelled.0
      (bytes spelled.1.0 spelled.1.2 (only_token spelled.1.0 ts spelled.1.1 all));
}

-- a mention with no token
pub unwritten_carries : (m : Mention) → MentionIsBytes m → (ms : List Mention) (ts : List Lexeme)
    → unwritten m ms ts → Carries 1 0 ms ts
unwritten_carries m is ms ts spelled =
    record { room = omega (arith, ap length spelled.0); bytes = λ all. only_mention m ms spelled.0 is }

joined_bytes : (before behind ms : List Mention) (us vs ts : List Lexeme) → ms ≡ before ++ behind → ts ≡ us ++ vs
    → (AreReal us → Each MentionIsBytes before)
    → (AreReal vs → Each MentionIsBytes behind)
    → AreReal ts → Each MentionIsBytes ms
joined_bytes before behind ms us vs ts are parts first second all =
    let split : AreReal (us ++ vs) = subst AreReal parts all in
    rw are (each-append MentionIsBytes before behind (first (each-left IsReal us vs split))
    (second (each-right IsReal us vs split)))

-- one sentence and then another
infixr 20 ◌⊳◌
pub ◌⊳◌ : {a b c d : ℕ} {A B : List Mention → List Lexeme → Type 0} → Carried a b A → Carried c d B
    → Carried (a + c) (b + d) (A ⊙ B)
◌⊳◌ {a} {b} {c} {d} first second = record {
  holds = λ ms ts s.
      let front : Carries a b s.0 s.3.0 = first.holds s.0 s.3.0 s.3.3 in
      let rest : Carries c d s.1 s.3.1 = second.holds s.1 s.3.1 s.3.4 in
      record {
        room = omega (
          arith,
          front.room,
          rest.room,
          ap length s.2,
          ap length s.3.2,
          length-append s.0 s.1,
          length-append s.3.0 s.3.1,
        );
        bytes = joined_bytes s.0 s.1 ms s.3.0 s.3.1 ts s.2 s.3.2 front.bytes rest.bytes;
      };
}

-- a mention less and a token more are even
pub carried_even : {A : List Mention → List Lexeme → Type 0} → Carried 1 1 A → Carried 0 0 A
carried_even carried = record {
  holds = λ ms ts s.
      let carries : Carries 1 1 ms ts = carried.holds ms ts s in
      record { room = omega (arith, carries.room); bytes = carries.bytes };
}

-- a word
pub fixed_word : {w : List ℕ} → Carried 0 1 (the_word w)
fixed_word = record {
  holds = λ ms ts spelled. record {
    room = omega (arith, ap length spelled.0, ap length spelled.1);
    bytes = λ all. no_mention ms spelled.0;
  };
}

-- the names that are mentioned
pub value_carries : (ms : List Mention) (ts : List Lexeme) → uses_value ms ts → Carries 0 0 ms ts
value_carries ms ts (name, spelled) =
    mention_carries (UsesValue name) (IsLocal name) (local_bytes name) ms ts spelled

pub block_carries : (ms : List Mention) (ts : List Lexeme) → uses_block ms ts → Carries 0 0 ms ts
block_carries ms ts (name, spelled) =
    mention_carries (UsesBlock name) (IsLocal name) (local_bytes name) ms ts spelled

pub global_carries : (ms : List Mention) (ts : List Lexeme) → uses_global ms ts → Carries 0 0 ms ts
global_carries ms ts (name, spelled) =
    mention_carries (UsesGlobal name) (IsGlobal name) (global_bytes name) ms ts spelled

pub new_value_carries : (ms : List Mention) (ts : List Lexeme) → defines_value ms ts → Carries 0 0 ms ts
new_value_carries ms ts (name, spelled) =
    mention_carries (DefinesValue (Some name)) (IsLocal name) (local_bytes name) ms ts spelled

pub new_block_carries : (ms : List Mention) (ts : List Lexeme) → defines_block ms ts → Carries 0 0 ms ts
new_block_carries ms ts (name, spelled) =
    mention_carries (DefinesBlock (Some name)) (IsLabel name) (label_bytes name) ms ts spelled

-- ---- lists

pub carried_in_order : {A : Type 0} (Spells : A → Mentioning) → ((x : A) → Carried 0 0 (Spells x)) → (xs : List A)
    → Carried 0 0 (InOrder Spells xs)
carried_in_order Spells each [] = record { holds = λ ms ts spelled. silent_carries ms ts spelled.0 }
carried_in_order Spells each (x ∷ xs) =
    record { holds = λ ms ts spelled. (each x ⊳ carried_in_order Spells each xs).holds ms ts spelled }

pub carried_commas : {A : Type 0} (Spells : A → Mentioning) → ((x : A) → Carried 0 0 (Spells x)) → (xs : List A)
    → Carried 0 0 (WithCommas Spells xs)
carried_commas Spells each [] = record { holds = λ ms ts spelled. absurd spelled }
carried_commas Spells each (x ∷ []) = record { holds = λ ms ts spelled. (each x).holds ms ts spelled }
carried_commas Spells each (x ∷ y ∷ ys) = record {
  holds = λ ms ts spelled.
      (each x ⊳ quiet ⊳ carried_commas Spells each (y ∷ ys)).holds ms ts spelled;
}

pub carried_listing : {A : Type 0} (Spells : A → Mentioning) → ((x : A) → Carried 0 0 (Spells x)) → (xs : List A)
    → Carried 0 0 (Listing Spells xs)
carried_listing Spells each [] = quiet
carried_listing Spells each (x ∷ xs) = carried_commas Spells each (x ∷ xs)

-- ---- operands

operand_carries : (value : Operand) (ms : List Mention) (ts : List Lexeme) → SpellsOperand value ms ts
    → Carries 0 0 ms ts
operand_carries (operand.Reg v) ms ts spelled = value_carries ms ts spelled.1
operand_carries (operand.Num n) ms ts spelled = silent_carries ms ts spelled.0
operand_carries operand.Null ms ts spelled = silent_carries ms ts spelled.0
operand_carries (operand.Global g) ms ts spelled = global_carries ms ts spelled.1
operand_carries operand.Undef ms ts spelled = silent_carries ms ts spelled.0
operand_carries operand.Poison ms ts spelled = silent_carries ms ts spelled.0

carried_operand : (value : Operand) → Carried 0 0 (SpellsOperand value)
carried_operand value = record { holds = operand_carries value }

carried_typed : (typed : TypedOperand) → Carried 0 0 (SpellsTyped typed)
carried_typed typed = quiet ⊳ carried_operand typed.value

carried_pointer : (pointer : Operand) → Carried 0 0 (SpellsPointer pointer)
carried_pointer pointer = quiet ⊳ carried_operand pointer

carried_block : (id : ℕ) → Carried 0 0 (SpellsBlockName id)
carried_block id = record { holds = λ ms ts spelled. block_carries ms ts spelled.1 }

carried_target : (id : ℕ) → Carried 0 0 (SpellsTarget id)
carried_target id = quiet ⊳ carried_block id

carried_two : (kind : IrType) (left right : Operand) → Carried 0 0 (SpellsTwo kind left right)
carried_two kind left right =
    quiet ⊳ carried_operand left ⊳ quiet ⊳ carried_operand right

carried_entry : (entry : PhiEntry) → Carried 0 0 (SpellsEntry entry)
carried_entry entry =
    quiet ⊳ carried_operand entry.value ⊳ quiet ⊳ carried_block entry.from.0 ⊳ quiet

carried_argument : (arg : Argument) → Carried 0 0 (SpellsArgument arg)
carried_argument arg = quiet ⊳ quiet ⊳ carried_operand arg.typed.value

carried_case : (c : Case) → Carried 0 0 (SpellsCase c)
carried_case c = quiet ⊳ quiet ⊳ quiet ⊳ carried_target c.to.0

carried_index : (index : TypedOperand) → Carried 0 0 (the_comma ⊙ SpellsTyped index)
carried_index index = quiet ⊳ carried_typed index

-- ---- operations

-- An operation has a token more than mentions.
pub op_carries : (op : Op) (words : List (List ℕ)) (ms : List Mention) (ts : List Lexeme) → SpellsOp op words ms ts
    → Carries 0 1 ms ts
op_carries (Binary op nuw nsw exact disjoint kind left right) words ms ts (_, spelled) =
    (fixed_word ⊳ quiet ⊳ carried_two kind left right).holds ms ts spelled
op_carries (Icmp pred kind left right) words ms ts (_, spelled) =
    (fixed_word ⊳ quiet ⊳ quiet ⊳ carried_two kind left right).holds ms ts spelled
op_carries (Cast op nneg from value to) words ms ts (_, spelled) =
    (fixed_word ⊳ quiet ⊳ carried_typed (record { kind = from; value = value }) ⊳ quiet ⊳ quiet).holds ms ts spelled
op_carries (Select cond left right) words ms ts (_, spelled) =
    (fixed_word ⊳ quiet ⊳ carried_operand cond ⊳ quiet ⊳ carried_typed left ⊳ quiet
    ⊳ carried_typed right).holds ms ts spelled
op_carries (Phi kind entries) words ms ts (_, spelled) =
    (fixed_word ⊳ quiet ⊳ carried_commas SpellsEntry carried_entry entries).holds ms ts spelled
op_carries (Freeze kind value) words ms ts (_, spelled) =
    (fixed_word ⊳ carried_typed (record { kind = kind; value = value })).holds ms ts spelled
op_carries (Alloca kind) words ms ts (align, _, spelled) =
    (fixed_word ⊳ quiet ⊳ quiet).holds ms ts spelled
op_carries (Load kind from) words ms ts (align, _, spelled) =
    (fixed_word ⊳ quiet ⊳ quiet ⊳ carried_pointer from ⊳ quiet).holds ms ts spelled
op_carries (Store kind value to) words ms ts (align, _, spelled) =
    (fixed_word ⊳ quiet ⊳ carried_operand value ⊳ quiet ⊳ carried_pointer to ⊳ quiet).holds ms ts spelled
op_carries (Gep inbounds kind base indices) words ms ts (_, spelled) =
    (fixed_word ⊳ quiet ⊳ quiet ⊳ quiet ⊳ carried_pointer base
    ⊳ carried_in_order (λ index. the_comma ⊙ SpellsTyped index) carried_index indices).holds ms ts spelled
op_carries (Call ret callee args) words ms ts (tail, before, after, arguments, _, _, _, spelled) =
    (quiet ⊳ fixed_word ⊳ quiet ⊳ quiet ⊳ quiet ⊳ quiet ⊳ carried_listing SpellsArgument carried_argument arguments
    ⊳ quiet ⊳ quiet).holds ms ts spelled
op_carries (Jump to) words ms ts (_, spelled) =
    (fixed_word ⊳ carried_target to.0).holds ms ts spelled
op_carries (Branch cond there other) words ms ts (_, spelled) =
    (fixed_word ⊳ quiet ⊳ carried_operand cond ⊳ quiet ⊳ carried_target there.0 ⊳ quiet
    ⊳ carried_target other.0).holds ms ts spelled
op_carries (Switch kind value other cases) words ms ts (_, spelled) =
    (fixed_word ⊳ carried_typed (record { kind = kind; value = value }) ⊳ quiet ⊳ carried_target other.0 ⊳ quiet
    ⊳ carried_in_order SpellsCase carried_case cases ⊳ quiet).holds ms ts spelled
op_carries (Ret None) words ms ts (_, spelled) =
    (fixed_word ⊳ quiet).holds ms ts spelled
op_carries (Ret (Some typed)) words ms ts (_, spelled) =
    (fixed_word ⊳ carried_typed typed).holds ms ts spelled
op_carries Unreachable words ms ts (_, spelled) =
    fixed_word.holds ms ts spelled

pub carried_op : (op : Op) (words : List (List ℕ)) → Carried 0 1 (SpellsOp op words)
carried_op op words = record { holds = op_carries op words }
