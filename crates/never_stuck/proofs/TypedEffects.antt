-- What an operation does that isn't a terminator, where the registers that it reads hold values of their types and
-- memory has bytes: it gives a value of its type, or none where it has no result, and leaves bytes in memory; or its
-- behaviour is undefined, or a call doesn't return.
use Rattle.std.proofs.Common.{◌≡◌, ℕ, suc, ◌==◌, Bool, true, false, cond, ◌&&◌, ◌||◌, List, [], ◌∷◌, length, Option}
use Rattle.std.proofs.Common.{Some, None, ◌⊎◌, inl, inr, refl}
use Rattle.std.specs.Prelude.{nat_le, is_some}
use Rattle.std.specs.List.{list_all, All}
use Rattle.std.proofs.lemmas.Bool.{and_parts, or_cases, cond_both, eqb-true, false≢true, true≢false}
use Rattle.std.proofs.lemmas.List.Elements.{All-head, All-tail}
use Rattle.scev_base.specs.declared.ids.ValueId.{ValueId}
use Rattle.ir_model.specs.declared.types.IrType.{IrType}
use Rattle.ir_model.specs.declared.types.IrType.TheVariants.{Void, Int, Ptr, Array}
use Rattle.ir_model.specs.declared.op.Operand.{Operand}
use Rattle.ir_model.specs.declared.op.TypedOperand.{TypedOperand}
use Rattle.ir_model.specs.declared.op.Op.{Op}
use Rattle.ir_model.specs.declared.op.Op.TheVariants.{Phi, Alloca, Load, Store, Gep, Call, Jump, Branch, Switch, Ret}
use Rattle.ir_model.specs.declared.op.Op.TheVariants.{Unreachable}
use Rattle.ir_model.specs.declared.function.Instr.{Instr}
use Rattle.ir_model.specs.declared.function.Function.{Function}
use Rattle.ir_model.specs.declared.signature.Signatures.{Signatures}
use Rattle.ir_model.specs.Callees.{is_min_max}
use Rattle.ir_model.specs.Defined.{given_type}
use Rattle.ir_model.specs.Kinds.{IsInt, IsScalar, IsReturned}
use Rattle.ir_model.specs.Shapes.{operands, is_void, is_terminator, is_phi}
use Rattle.ir_model.specs.WellMade.{IsFormed, IsResultOf}
use Rattle.ir_rules.specs.Types.{fits, is_int, is_whole, at_type, dimensions, operands_fit, types_agree, types_fit}
use Rattle.ir_rules.specs.Types.{widths_fit}
use Rattle.ir_rules.specs.Values.{misuses_pointer, call_fits}
use Rattle.ir_memory.specs.declared.loaded.Loaded.{Loaded}
use Rattle.ir_memory.specs.declared.loaded.Loaded.TheVariants as loaded
use Rattle.ir_memory.specs.Spelling.{IsAccessWidth, FitsWidth, byte_count}
use Rattle.ir_memory.specs.Memory.{Memory, are_bytes, is_in_block, same_sizes, load_of, store_of}
use Rattle.ir_memory.specs.Offset.{offset_from}
use Rattle.ir_memory.proofs.ByteLemmas.{with_block-bytes, store_of-bytes, load_of-fits}
use Rattle.ir_meaning.specs.declared.value.Value.{Value}
use Rattle.ir_meaning.specs.declared.value.Value.TheVariants as value
use Rattle.ir_meaning.specs.declared.choice.Choice.{Choice}
use Rattle.ir_meaning.specs.declared.choice.Choice.TheVariants as choice
use Rattle.ir_meaning.specs.Phases as phase
use Rattle.ir_meaning.specs.State.{Registers, State}
use Rattle.ir_meaning.specs.Values.{is_of_type}
use Rattle.ir_meaning.specs.Operands.{chosen, operand_value}
use Rattle.ir_meaning.specs.Effects.{Effect, Goes, Ends, with_operand, with_operands}
use Rattle.ir_meaning.specs.Accesses.{type_size, value_loaded, value_stored, loaded_at, stored_at, index_value}
use Rattle.ir_meaning.specs.Accesses.{index_values, index_steps, parts_of, address_by, addressed, widened}
use Rattle.ir_meaning.specs.Calls.{Answered, answered_number, answered, value_answers, may_answer, answer_given}
use Rattle.ir_meaning.specs.Calls.{argument_values, outside_call}
use Rattle.ir_meaning.specs.Step.{Computed, computed, gone, effect}
use Rattle.never_stuck.proofs.Sound.{HoldsOperands, Facts}
use Rattle.never_stuck.proofs.Registers.{fit_typed}
use Rattle.never_stuck.proofs.TypedOps.{Typed, rest_held, first_typed, Given, values_of, is_computed, computed_typed}
use Rattle.never_stuck.proofs.TypedRows.{mod_typed, number_typed}

-- ---- effects that fit

-- What is given is of the type; where nothing is, there is no result.
abbrev pub SuitsGiven : IrType → Option ValueId → Option Value → Type 0
SuitsGiven kind result (Some x) = is_of_type kind x ≡ true
SuitsGiven kind result None = result ≡ None

-- Control goes on with what is given and with bytes in memory; or behaviour is undefined, or a call doesn't return.
abbrev pub Suits : IrType → Option ValueId → Effect → Type 0
Suits kind result (Goes x memory events) = SuitsGiven kind result x × (are_bytes memory ≡ true)
Suits kind result (Ends how) = (how ≡ phase.Undefined) ⊎ (how ≡ phase.Stopped)

undefined_suits : (kind : IrType) (result : Option ValueId) → Suits kind result (Ends phase.Undefined)
undefined_suits kind result = inl refl

-- What follows from an operand is so where it follows so from each value of its type.
with_suits : (registers : Registers) (n : ℕ) (kind out : IrType) (result : Option ValueId) (value : Operand)
    (what : Value → Effect) → Typed registers n kind value
    → ((x : Value) → is_of_type kind x ≡ true → Suits out result (what x))
    → Suits out result (with_operand (operand_value registers n kind value) what)
with_suits registers n kind out result value what typed each = rw typed.1 (each typed.0 typed.2)

gone_suits : (s : State) (kind : IrType) (result : Option ValueId) (c : Computed) → are_bytes s.memory ≡ true
    → Given kind c → Suits kind result (gone s c)
gone_suits s kind result c bytes known =
    elim known [
      | inl gives ↦ rw gives.1 (gives.2, bytes)
      | inr fails ↦ rw fails (undefined_suits kind result)
    ]

-- ---- loads and stores

pub access_width : (w : ℕ) → is_whole (Int w) ≡ true → IsAccessWidth w
access_width w whole =
    elim (or_cases ((w == 8) || (w == 16) || (w == 32)) (w == 64) whole) [
      | inl less ↦
          elim (or_cases ((w == 8) || (w == 16)) (w == 32) less) [
            | inl least ↦
                elim (or_cases (w == 8) (w == 16) least) [
                  | inl one ↦ inl (eqb-true w 8 one)
                  | inr two ↦ inr (inl (eqb-true w 16 two))
                ]
            | inr four ↦ inr (inr (inl (eqb-true w 32 four)))
          ]
      | inr eight ↦ inr (inr (inr (eqb-true w 64 eight)))
    ]

loaded_typed : (w : ℕ) (found : Loaded) → FitsWidth w found → is_of_type (Int w) (value_loaded found) ≡ true
loaded_typed w (loaded.Number n) fit = number_typed w n fit
loaded_typed w loaded.Poison fit = refl

-- what reaches bytes of a block is undefined elsewhere
in_block_suits : (kind : IrType) (result : Option ValueId) (inside : Bool) (there : Effect) → Suits kind result there
    → Suits kind result (cond inside there (Ends phase.Undefined))
in_block_suits kind result true there suits = suits
in_block_suits kind result false there suits = undefined_suits kind result

loaded_suits : (memory : Memory) (w n : ℕ) (p : Value) (result : Option ValueId) → IsAccessWidth w
    → are_bytes memory ≡ true → Suits (Int w) result (loaded_at memory w n p)
loaded_suits memory w n (value.Pointer block offset) result width bytes =
    let found = load_of memory block offset w n in
    in_block_suits (Int w) result (is_in_block memory block offset (byte_count w))
    (Goes (Some (value_loaded found)) memory [])
    (loaded_typed w found (load_of-fits memory block offset w n width bytes), bytes)
loaded_suits memory w n (value.Number a) result width bytes = undefined_suits (Int w) result
loaded_suits memory w n value.Null result width bytes = undefined_suits (Int w) result
loaded_suits memory w n value.Poison result width bytes = undefined_suits (Int w) result

stored_suits : (memory : Memory) (w : ℕ) (x p : Value) (kind : IrType) (result : Option ValueId) → result ≡ None
    → are_bytes memory ≡ true → Suits kind result (stored_at memory w x p)
stored_suits memory w x (value.Pointer block offset) kind result none bytes =
    in_block_suits kind result (is_in_block memory block offset (byte_count w))
    (Goes None (store_of memory block offset w (value_stored x)) [])
    (none, store_of-bytes memory block offset w (value_stored x) bytes)
stored_suits memory w x (value.Number a) kind result none bytes = undefined_suits kind result
stored_suits memory w x value.Null kind result none bytes = undefined_suits kind result
stored_suits memory w x value.Poison kind result none bytes = undefined_suits kind result

-- a store has no result
no_result : (kind : IrType) (value to : Operand) (result : Option ValueId) → IsResultOf (Store kind value to) result
    → result ≡ None
no_result kind value to None form = refl
no_result kind value to (Some v) form = absurd form

-- ---- addresses

either_pointer : (first : Bool) (x y : Value) → is_of_type Ptr x ≡ true → is_of_type Ptr y ≡ true
    → is_of_type Ptr (cond first x y) ≡ true
either_pointer true x y left right = left
either_pointer false x y left right = right

-- an address is a pointer, null or poison
address_typed : (memory : Memory) (inbounds : Bool) (base : Value) (parts : Option (List (ℕ × ℕ)))
    → is_of_type Ptr (address_by memory inbounds base parts) ≡ true
address_typed memory inbounds base None = refl
address_typed memory inbounds (value.Pointer block offset) (Some parts) =
    either_pointer _ value.Poison (value.Pointer block (offset_from offset parts)) refl refl
address_typed memory inbounds value.Null (Some parts) = either_pointer _ value.Poison value.Null refl refl
address_typed memory inbounds (value.Number a) (Some parts) = refl
address_typed memory inbounds value.Poison (Some parts) = refl

int_scalar : (kind : IrType) → is_int kind ≡ true → IsScalar kind
int_scalar (Int w) int = tt
int_scalar Ptr int = absurd (false≢true int)
int_scalar Void int = absurd (false≢true int)
int_scalar (Array dims w) int = absurd (false≢true int)

index_valued : (registers : Registers) (n : ℕ) (typed : TypedOperand) (kind : IrType) → is_int kind ≡ true
    → Typed registers n kind typed.value → (x : Value) × (index_value registers n typed kind ≡ Some x)
index_valued registers n typed (Int w) int has = (widened w has.0, rw has.1 refl)
index_valued registers n typed Ptr int has = absurd (false≢true int)
index_valued registers n typed Void int has = absurd (false≢true int)
index_valued registers n typed (Array dims w) int has = absurd (false≢true int)

-- all indices have values
indices_valued : (f : Function) (registers : Registers) (n : ℕ) (indices : List TypedOperand)
    → list_all (λ (index : TypedOperand). is_int index.kind) indices ≡ true → operands_fit f indices ≡ true
    → HoldsOperands f registers (values_of indices)
    → (xs : List Value) × (index_values registers n indices ≡ Some xs)
indices_valued f registers n [] ints fit held = ([], refl)
indices_valued f registers n (index ∷ indices) ints fit held =
    let int = and_parts (is_int index.kind) (list_all (λ (index : TypedOperand). is_int index.kind) indices) ints in
    let more = and_parts (fits f index.kind index.value) (operands_fit f indices) fit in
    let typed =
    first_typed f registers n index.kind index.value (values_of indices) (operands_fit f indices)
    (int_scalar index.kind int.0) fit held in
    let first = index_valued registers n index index.kind int.0 typed in
    let rest =
    indices_valued f registers n indices int.1 more.1 (rest_held f registers index.value (values_of indices) held) in
    (first.0 ∷ rest.0, rw (first.1, rest.1) refl)

-- ---- calls of the outside

-- all arguments have values
arguments_valued : (f : Function) (registers : Registers) (n : ℕ) (args : List TypedOperand)
    → All (λ (arg : TypedOperand). IsScalar arg.kind) args → operands_fit f args ≡ true
    → HoldsOperands f registers (values_of args)
    → (xs : List Value) × (argument_values registers n args ≡ Some xs)
arguments_valued f registers n [] scalars fit held = ([], refl)
arguments_valued f registers n (arg ∷ args) scalars fit held =
    let P : TypedOperand → Type 0 = λ arg. IsScalar arg.kind in
    let more = and_parts (fits f arg.kind arg.value) (operands_fit f args) fit in
    let first =
    first_typed f registers n arg.kind arg.value (values_of args) (operands_fit f args)
    (All-head P arg args scalars) fit held in
    let rest =
    arguments_valued f registers n args (All-tail P arg args scalars) more.1
    (rest_held f registers arg.value (values_of args) held) in
    (first.0 ∷ rest.0, rw (first.1, rest.1) refl)

-- What is answered gives what suits the call, and leaves bytes in memory.
abbrev SuitsAnswered : IrType → Option ValueId → Answered → Type 0
SuitsAnswered ret result a = SuitsGiven ret result a.answer × (are_bytes a.contents ≡ true)

abbrev SuitsAnswer : IrType → Option ValueId → Option Answered → Type 0
SuitsAnswer ret result None = Unit {0}
SuitsAnswer ret result (Some a) = SuitsAnswered ret result a

-- a call of type `void` has no result
void_result : (result : Option ValueId) → (is_some result && true) ≡ false → result ≡ None
void_result None no_void = refl
void_result (Some v) no_void = absurd (true≢false no_void)

number_suits : (ret : IrType) (result : Option ValueId) (memory : Memory) (n : ℕ) → IsReturned ret
    → (is_some result && is_void ret) ≡ false → are_bytes memory ≡ true
    → SuitsAnswered ret result (answered_number ret memory n)
number_suits (Int w) result memory n returned no_void bytes = (mod_typed w n, bytes)
number_suits Ptr result memory n returned no_void bytes = (refl, bytes)
number_suits Void result memory n returned no_void bytes = (void_result result no_void, bytes)
number_suits (Array dims w) result memory n returned no_void bytes = absurd returned

given_suits : (memory : Memory) (ret : IrType) (result : Option ValueId) (x : Value)
    → (is_some result && is_void ret) ≡ false → value_answers memory ret x ≡ true
    → SuitsGiven ret result (answer_given ret x)
given_suits memory Void result x no_void answers = void_result result no_void
given_suits memory (Int w) result x no_void answers = fit_typed memory (Int w) x answers
given_suits memory Ptr result x no_void answers = fit_typed memory Ptr x answers
given_suits memory (Array dims w) result x no_void answers = fit_typed memory (Array dims w) x answers

answer_suits : (memory : Memory) (ret : IrType) (result : Option ValueId) (one : Choice) → IsReturned ret
    → (is_some result && is_void ret) ≡ false → are_bytes memory ≡ true
    → SuitsAnswer ret result (answered one ret memory)
answer_suits memory ret result (choice.Number n) returned no_void bytes =
    number_suits ret result memory n returned no_void bytes
answer_suits memory ret result (choice.Answer n x contents) returned no_void bytes =
    let new : Answered = record { number = n; answer = answer_given ret x; contents = contents } in
    cond_both (may_answer memory ret x contents) new (answered_number ret memory 0) (SuitsAnswered ret result)
    (λ may.
    let parts = and_parts (value_answers memory ret x) (same_sizes memory contents && are_bytes contents) may in
    let kept = and_parts (same_sizes memory contents) (are_bytes contents) parts.1 in
    (given_suits memory ret result x no_void parts.0, kept.1))
    (λ may_not. number_suits ret result memory 0 returned no_void bytes)
answer_suits memory ret result choice.Silent returned no_void bytes = tt

outside_suits : (f : Function) (s : State) (ret : IrType) (result : Option ValueId) (callee : List ℕ)
    (args : List TypedOperand) (answer : Option Answered) → All (λ (arg : TypedOperand). IsScalar arg.kind) args
    → operands_fit f args ≡ true → HoldsOperands f s.registers (values_of args) → SuitsAnswer ret result answer
    → Suits ret result (outside_call s callee args answer)
outside_suits f s ret result callee args None scalars fit held suits =
    let found = arguments_valued f s.registers 0 args scalars fit held in
    rw found.1 (inr refl)
outside_suits f s ret result callee args (Some a) scalars fit held suits =
    let found = arguments_valued f s.registers a.number args scalars fit held in
    rw found.1 suits

-- ---- all operations that aren't terminators

module _ (signatures : Signatures) (f : Function) (one : Choice) (s : State) (bytes : are_bytes s.memory ≡ true) where
  computed_suits : (result : Option ValueId) (op : Op) → IsFormed op → types_fit f op ≡ true → widths_fit op ≡ true
      → misuses_pointer op ≡ false → call_fits signatures op ≡ true → is_computed op ≡ true
      → HoldsOperands f s.registers (operands op)
      → Suits (given_type op) result (gone s (computed s.registers (chosen one) op))
  computed_suits result op formed types widths pointers calls is held =
      gone_suits s (given_type op) result (computed s.registers (chosen one) op) bytes
      (computed_typed signatures f s.registers (chosen one) op formed types widths pointers calls is held)

  load_suits : (kind : IrType) (from : Operand) (result : Option ValueId) → IsInt kind → is_whole kind ≡ true
      → operands_fit f (at_type Ptr from ∷ []) ≡ true → HoldsOperands f s.registers (from ∷ [])
      → Suits kind result (effect one s (Load kind from))
  load_suits (Int w) from result int whole fit held =
      with_suits s.registers (chosen one) Ptr (Int w) result from (λ p. loaded_at s.memory w (chosen one) p)
      (first_typed f s.registers (chosen one) Ptr from [] true tt fit held)
      (λ p typed. loaded_suits s.memory w (chosen one) p result (access_width w whole) bytes)
  load_suits Ptr from result int whole fit held = absurd int
  load_suits Void from result int whole fit held = absurd int
  load_suits (Array dims w) from result int whole fit held = absurd int

  store_suits : (kind : IrType) (value to : Operand) (result : Option ValueId) → IsInt kind
      → operands_fit f (at_type kind value ∷ at_type Ptr to ∷ []) ≡ true → result ≡ None
      → HoldsOperands f s.registers (value ∷ to ∷ []) → Suits Void result (effect one s (Store kind value to))
  store_suits (Int w) value to result int fit none held =
      let second = (and_parts (fits f (Int w) value) (fits f Ptr to && true) fit).1 in
      let at : Value → Effect = λ x.
      with_operand (operand_value s.registers (chosen one) Ptr to) (λ p. stored_at s.memory w x p) in
      with_suits s.registers (chosen one) (Int w) Void result value at
      (first_typed f s.registers (chosen one) (Int w) value (to ∷ []) (fits f Ptr to && true) tt fit held)
      (λ x typed.
      with_suits s.registers (chosen one) Ptr Void result to (λ p. stored_at s.memory w x p)
      (first_typed f s.registers (chosen one) Ptr to [] true tt second (rest_held f s.registers value (to ∷ []) held))
      (λ p pointer. stored_suits s.memory w x p Void result none bytes))
  store_suits Ptr value to result int fit none held = absurd int
  store_suits Void value to result int fit none held = absurd int
  store_suits (Array dims w) value to result int fit none held = absurd int

  gep_suits : (inbounds : Bool) (kind : IrType) (base : Operand) (indices : List TypedOperand)
      (result : Option ValueId) → types_fit f (Gep inbounds kind base indices) ≡ true
      → HoldsOperands f s.registers (base ∷ values_of indices)
      → Suits Ptr result (effect one s (Gep inbounds kind base indices))
  gep_suits inbounds kind base indices result types held =
      let parts =
      and_parts (types_agree (Gep inbounds kind base indices)) (operands_fit f (at_type Ptr base ∷ indices)) types in
      let ints =
      and_parts (list_all (λ (index : TypedOperand). is_int index.kind) indices)
      (nat_le (length indices) (suc (dimensions kind))) parts.0 in
      let found =
      indices_valued f s.registers (chosen one) indices ints.0
      (and_parts (fits f Ptr base) (operands_fit f indices) parts.1).1
      (rest_held f s.registers base (values_of indices) held) in
      with_suits s.registers (chosen one) Ptr Ptr result base
      (λ p. with_operands (index_values s.registers (chosen one) indices) (λ xs. addressed s.memory inbounds kind p xs))
      (first_typed f s.registers (chosen one) Ptr base (values_of indices) (operands_fit f indices) tt parts.1 held)
      (λ p typed. rw found.1 (address_typed s.memory inbounds p (parts_of (index_steps kind) found.0), bytes))

  call_suits : (ret : IrType) (callee : List ℕ) (args : List TypedOperand) (result : Option ValueId)
      → IsFormed (Call ret callee args) → types_fit f (Call ret callee args) ≡ true
      → widths_fit (Call ret callee args) ≡ true → call_fits signatures (Call ret callee args) ≡ true
      → (is_some result && is_void ret) ≡ false → HoldsOperands f s.registers (values_of args)
      → Suits ret result (effect one s (Call ret callee args))
  call_suits ret callee args result formed types widths calls no_void held =
      cond_both (is_min_max callee) (gone s (computed s.registers (chosen one) (Call ret callee args)))
      (outside_call s callee args (answered one ret s.memory)) (Suits ret result)
      (λ is. computed_suits result (Call ret callee args) formed types widths refl calls is held)
      (λ other.
      outside_suits f s ret result callee args (answered one ret s.memory) formed.1 types held
      (answer_suits s.memory ret result one formed.0 no_void bytes))

  op_suits : (result : Option ValueId) (op : Op) → IsFormed op → IsResultOf op result → types_fit f op ≡ true
      → widths_fit op ≡ true → (is_some result && is_void (given_type op)) ≡ false → misuses_pointer op ≡ false
      → call_fits signatures op ≡ true → is_terminator op ≡ false → is_phi op ≡ false
      → HoldsOperands f s.registers (operands op) → Suits (given_type op) result (effect one s op)
  op_suits result (Alloca kind) _ _ _ _ _ _ _ _ _ _ =
      (refl, with_block-bytes s.memory (type_size kind) bytes)
  op_suits result (Load kind from) formed _ types widths _ _ _ _ _ held =
      load_suits kind from result formed widths types held
  op_suits result (Store kind value to) formed form types _ _ _ _ _ _ held =
      store_suits kind value to result formed types (no_result kind value to result form) held
  op_suits result (Gep inbounds kind base indices) _ _ types _ _ _ _ _ _ held =
      gep_suits inbounds kind base indices result types held
  op_suits result (Call ret callee args) formed _ types widths no_void _ calls _ _ held =
      call_suits ret callee args result formed types widths calls no_void held
  op_suits result (Phi kind entries) _ _ _ _ _ _ _ _ phi _ = absurd (true≢false phi)
  op_suits result (Jump to) _ _ _ _ _ _ _ ends _ _ = absurd (true≢false ends)
  op_suits result (Branch test there other) _ _ _ _ _ _ _ ends _ _ = absurd (true≢false ends)
  op_suits result (Switch kind value other cases) _ _ _ _ _ _ _ ends _ _ = absurd (true≢false ends)
  op_suits result (Ret value) _ _ _ _ _ _ _ ends _ _ = absurd (true≢false ends)
  op_suits result Unreachable _ _ _ _ _ _ _ ends _ _ = absurd (true≢false ends)
  op_suits result op formed _ types widths _ pointers calls _ _ held =
      computed_suits result op formed types widths pointers calls refl held

  pub effect_typed : (b : ℕ) (instr : Instr) → Facts signatures f b instr → is_terminator instr.op ≡ false
      → is_phi instr.op ≡ false → HoldsOperands f s.registers (operands instr.op)
      → Suits (given_type instr.op) instr.result (effect one s instr.op)
  effect_typed b instr facts ends phi held =
      op_suits instr.result instr.op facts.formed.op facts.formed.result facts.types facts.widths facts.voids
      facts.pointers facts.calls ends phi held
