-- What an operation gives is a value of its type, or its behaviour is undefined, where the registers that it reads hold
-- values of their types; and a terminator leads to one of its targets, or the run ends.
use Rattle.std.proofs.Common.{◌≡◌, ◌≢◌, ℕ, zero, suc, ◌%◌, ◌^◌, Bool, true, false, cond, not, ◌&&◌, ◌||◌, List, [], ◌∷◌}
use Rattle.std.proofs.Common.{map, Option, Some, None, Contains, ◌⊎◌, inl, inr, refl, ap, sym, subst, arith}
use Rattle.std.specs.Prelude.{◌==◌, is_some}
use Rattle.std.proofs.lemmas.Bool.{and_parts, eqb-true, false≢true, true≢false}
use Rattle.scev_base.specs.declared.ids.BlockId.{BlockId}
use Rattle.scev_base.specs.Residue.{residue}
use Rattle.scev_base.specs.declared.pred.Pred.{Pred}
use Rattle.scev_base.specs.declared.pred.Pred.TheVariants as pred
use Rattle.ir_model.specs.declared.types.IrType.{IrType}
use Rattle.ir_model.specs.declared.types.IrType.TheVariants.{Void, Int, Ptr, Array}
use Rattle.ir_model.specs.declared.min_max.MinMax.{MinMax}
use Rattle.ir_model.specs.declared.op.BinOp.{BinOp}
use Rattle.ir_model.specs.declared.op.CastOp.{CastOp}
use Rattle.ir_model.specs.declared.op.CastOp.TheVariants as cast
use Rattle.ir_model.specs.declared.op.Operand.{Operand}
use Rattle.ir_model.specs.declared.op.Operand.TheVariants as operand
use Rattle.ir_model.specs.declared.op.TypedOperand.{TypedOperand}
use Rattle.ir_model.specs.declared.op.Case.{Case}
use Rattle.ir_model.specs.declared.op.Op.{Op}
use Rattle.ir_model.specs.declared.op.Op.TheVariants.{Binary, Icmp, Cast, Select, Phi, Freeze, Alloca, Load, Store, Gep}
use Rattle.ir_model.specs.declared.op.Op.TheVariants.{Call, Jump, Branch, Switch, Ret, Unreachable}
use Rattle.ir_model.specs.declared.function.Instr.{Instr}
use Rattle.ir_model.specs.declared.function.Function.{Function}
use Rattle.ir_model.specs.declared.signature.Signatures.{Signatures}
use Rattle.ir_model.specs.Callees.{min_max_named, is_min_max}
use Rattle.ir_model.specs.Defined.{given_type}
use Rattle.ir_model.specs.Kinds.{IsScalar}
use Rattle.ir_model.specs.Shapes.{operands, targets, is_terminator}
use Rattle.ir_model.specs.WellMade.{IsFormed}
use Rattle.ir_rules.specs.Types.{kind_of, same_type, fits, is_int, at_type, wanted, operands_fit, types_agree}
use Rattle.ir_rules.specs.Types.{types_fit, is_wide, converts, widths_fit}
use Rattle.ir_rules.specs.Values.{misuses_pointer, same_types, kinds_of, is_min_max_of, call_fits}
use Rattle.ir_meaning.specs.declared.value.Value.{Value}
use Rattle.ir_meaning.specs.declared.value.Value.TheVariants as value
use Rattle.ir_meaning.specs.Phases.{Phase}
use Rattle.ir_meaning.specs.Phases as phase
use Rattle.ir_meaning.specs.State.{Registers}
use Rattle.ir_meaning.specs.Values.{is_of_type}
use Rattle.ir_meaning.specs.Operands.{operand_value, of_type}
use Rattle.ir_meaning.specs.Rows.{on_numbers, compared, binary_row, converted, min_max_row, compared_pointers}
use Rattle.ir_meaning.specs.Step.{Computed, Gives, Fails, with_value, given, arm_value, chosen_arm, called, frozen}
use Rattle.ir_meaning.specs.Step.{computed, Way, Enters, Leaves, by_value, branched, case_target, switched, way}
use Rattle.never_stuck.proofs.Elements.{contains_more}
use Rattle.never_stuck.proofs.Sound.{Holds, HoldsOperands, Facts}
use Rattle.never_stuck.proofs.TypedRows.{mod_typed, residue_typed, binary_typed, compared_typed, min_max_typed}
use Rattle.never_stuck.proofs.TypedRows.{pointers_typed, converted_typed}

-- ---- types

-- Integers and pointers are told apart by their types.
same_scalar : (kind other : IrType) → IsScalar kind → same_type kind other ≡ true → kind ≡ other
same_scalar (Int v) (Int w) scalar same = ap (λ (k : ℕ). Int k) (eqb-true v w same)
same_scalar Ptr Ptr scalar same = refl
same_scalar (Int v) Void scalar same = absurd (false≢true same)
same_scalar (Int v) Ptr scalar same = absurd (false≢true same)
same_scalar (Int v) (Array dims w) scalar same = absurd (false≢true same)
same_scalar Ptr Void scalar same = absurd (false≢true same)
same_scalar Ptr (Int w) scalar same = absurd (false≢true same)
same_scalar Ptr (Array dims w) scalar same = absurd (false≢true same)
same_scalar Void other scalar same = absurd scalar
same_scalar (Array dims w) other scalar same = absurd scalar

poison_typed : (kind : IrType) → IsScalar kind → is_of_type kind value.Poison ≡ true
poison_typed (Int w) scalar = refl
poison_typed Ptr scalar = refl
poison_typed Void scalar = absurd scalar
poison_typed (Array dims w) scalar = absurd scalar

-- ---- operands

-- The operand has a value of the type.
abbrev pub Typed : Registers → ℕ → IrType → Operand → Type 0
Typed registers n kind value =
    (x : Value) × (operand_value registers n kind value ≡ Some x) × (is_of_type kind x ≡ true)

-- The operand's register, if it has one, holds a value.
abbrev HoldsIn : Function → Registers → Operand → Type 0
HoldsIn f registers value = (v : ℕ) → value ≡ operand.Reg (record { 0 = v }) → Holds f registers v

kept_by_type : (kind : IrType) (held : Option Value) (x : Value) → held ≡ Some x → is_of_type kind x ≡ true
    → of_type kind held ≡ Some x
kept_by_type kind held x is typed = rw (is, typed) refl

register_typed : (f : Function) (registers : Registers) (n : ℕ) (kind : IrType) (v : ℕ) → IsScalar kind
    → same_type kind (kind_of f v) ≡ true → Holds f registers v
    → Typed registers n kind (operand.Reg (record { 0 = v }))
register_typed f registers n kind v scalar same held =
    let typed : is_of_type kind held.value ≡ true = rw (same_scalar kind (kind_of f v) scalar same) held.typed in
    (held.value, kept_by_type kind (registers v) held.value held.set typed, typed)

pub operand_typed : (f : Function) (registers : Registers) (n : ℕ) (kind : IrType) (value : Operand) → IsScalar kind
    → fits f kind value ≡ true → ((v : ℕ) → value ≡ operand.Reg (record { 0 = v }) → Holds f registers v)
    → (x : Value) × (operand_value registers n kind value ≡ Some x) × (is_of_type kind x ≡ true)
operand_typed f registers n kind (operand.Reg v) scalar fit held =
    register_typed f registers n kind v.0 scalar fit (held v.0 refl)
operand_typed f registers n (Int w) (operand.Num z) scalar fit held =
    (value.Number (residue w z), refl, residue_typed w z)
operand_typed f registers n (Int w) operand.Undef scalar fit held = (value.Number (n % 2 ^ w), refl, mod_typed w n)
operand_typed f registers n (Int w) operand.Poison scalar fit held = (value.Poison, refl, refl)
operand_typed f registers n (Int w) operand.Null scalar fit held = absurd (false≢true fit)
operand_typed f registers n (Int w) (operand.Global g) scalar fit held = absurd (false≢true fit)
operand_typed f registers n Ptr operand.Null scalar fit held = (value.Null, refl, refl)
operand_typed f registers n Ptr (operand.Global g) scalar fit held = (value.Pointer g 0, refl, refl)
operand_typed f registers n Ptr operand.Undef scalar fit held = (value.Null, refl, refl)
operand_typed f registers n Ptr operand.Poison scalar fit held = (value.Poison, refl, refl)
operand_typed f registers n Ptr (operand.Num z) scalar fit held = absurd (false≢true fit)
operand_typed f registers n Void value scalar fit held = absurd scalar
operand_typed f registers n (Array dims w) value scalar fit held = absurd scalar

first_held : (f : Function) (registers : Registers) (value : Operand) (rest : List Operand)
    → HoldsOperands f registers (value ∷ rest) → HoldsIn f registers value
first_held f registers value rest held v is = held v (0, omega arith, is)

pub rest_held : (f : Function) (registers : Registers) (value : Operand) (rest : List Operand)
    → HoldsOperands f registers (value ∷ rest) → HoldsOperands f registers rest
rest_held f registers value rest held v inside = held v (suc inside.0, omega (arith, inside.1), inside.2)

pub first_typed : (f : Function) (registers : Registers) (n : ℕ) (kind : IrType) (value : Operand)
    (others : List Operand) (more : Bool) → IsScalar kind → (fits f kind value && more) ≡ true
    → HoldsOperands f registers (value ∷ others) → Typed registers n kind value
first_typed f registers n kind value others more scalar fit held =
    let fit' = (and_parts (fits f kind value) more fit).0 in
    operand_typed f registers n kind value scalar fit' (first_held f registers value others held)

-- ---- what is computed

-- It gives a value of the type, or its behaviour is undefined.
abbrev pub Given : IrType → Computed → Type 0
Given kind outcome =
    ((x : Value) × (outcome ≡ Gives x) × (is_of_type kind x ≡ true)) ⊎ (outcome ≡ Fails phase.Undefined)

gives_typed : (kind : IrType) (x : Value) → is_of_type kind x ≡ true → Given kind (Gives x)
gives_typed kind x typed = inl (x, refl, typed)

given_typed : (kind : IrType) (row : Option Value) → ((z : Value) → row ≡ Some z → is_of_type kind z ≡ true)
    → Given kind (given row)
given_typed kind None each = inr refl
given_typed kind (Some z) each = inl (z, refl, each z refl)

either_given : (kind : IrType) (first : Bool) (x y : Computed) → Given kind x → Given kind y
    → Given kind (cond first x y)
either_given kind true x y left right = left
either_given kind false x y left right = right

-- What follows from an operand is so where it follows so from each value of its type.
with_typed : (registers : Registers) (n : ℕ) (kind out : IrType) (value : Operand) (what : Value → Computed)
    → Typed registers n kind value → ((x : Value) → is_of_type kind x ≡ true → Given out (what x))
    → Given out (with_value (operand_value registers n kind value) what)
with_typed registers n kind out value what typed each = rw typed.1 (each typed.0 typed.2)

with_two : (registers : Registers) (n : ℕ) (kind out : IrType) (left right : Operand)
    (what : Value → Value → Computed) → Typed registers n kind left → Typed registers n kind right
    → ((a b : Value) → is_of_type kind a ≡ true → is_of_type kind b ≡ true → Given out (what a b))
    → Given out (with_value (operand_value registers n kind left)
    (λ a. with_value (operand_value registers n kind right) (λ b. what a b)))
with_two registers n kind out left right what first second each =
    let after_first = λ (a : Value). with_value (operand_value registers n kind right) (λ b. what a b) in
    with_typed registers n kind out left after_first first (λ a p.
    with_typed registers n kind out right (λ b. what a b) second (λ b q. each a b p q))

-- two operands of one type
of_two : (f : Function) (registers : Registers) (n : ℕ) (kind out : IrType) (left right : Operand)
    (what : Value → Value → Computed) → IsScalar kind
    → operands_fit f (at_type kind left ∷ at_type kind right ∷ []) ≡ true
    → HoldsOperands f registers (left ∷ right ∷ [])
    → ((a b : Value) → is_of_type kind a ≡ true → is_of_type kind b ≡ true → Given out (what a b))
    → Given out (with_value (operand_value registers n kind left)
    (λ a. with_value (operand_value registers n kind right) (λ b. what a b)))
of_two f registers n kind out left right what scalar fit held each =
    let second = (and_parts (fits f kind left) (fits f kind right && true) fit).1 in
    with_two registers n kind out left right what
    (first_typed f registers n kind left (right ∷ []) (fits f kind right && true) scalar fit held)
    (first_typed f registers n kind right [] true scalar second (rest_held f registers left (right ∷ []) held)) each

binary_given : (f : Function) (registers : Registers) (n : ℕ) (op : BinOp) (nuw nsw exact disjoint : Bool)
    (kind : IrType) (left right : Operand) → types_fit f (Binary op nuw nsw exact disjoint kind left right) ≡ true
    → HoldsOperands f registers (left ∷ right ∷ [])
    → Given kind (computed registers n (Binary op nuw nsw exact disjoint kind left right))
binary_given f registers n op nuw nsw exact disjoint (Int w) left right types held =
    let row = binary_row op nuw nsw exact disjoint w in
    of_two f registers n (Int w) (Int w) left right (λ a b. given (row a b)) tt types held (λ a b p q.
    given_typed (Int w) (row a b) (λ z is. binary_typed op nuw nsw exact disjoint w a b z p q is))
binary_given f registers n op nuw nsw exact disjoint Ptr left right types held = absurd (false≢true types)
binary_given f registers n op nuw nsw exact disjoint Void left right types held = absurd (false≢true types)
binary_given f registers n op nuw nsw exact disjoint (Array dims w) left right types held = absurd (false≢true types)

pointers_given : (f : Function) (registers : Registers) (n : ℕ) (equal : Bool) (left right : Operand)
    → operands_fit f (at_type Ptr left ∷ at_type Ptr right ∷ []) ≡ true
    → HoldsOperands f registers (left ∷ right ∷ [])
    → Given (Int 1) (with_value (operand_value registers n Ptr left)
    (λ a. with_value (operand_value registers n Ptr right) (λ b. Gives (compared_pointers equal n a b))))
pointers_given f registers n equal left right types held =
    of_two f registers n Ptr (Int 1) left right (λ a b. Gives (compared_pointers equal n a b)) tt types held (λ a b p q.
    gives_typed (Int 1) (compared_pointers equal n a b) (pointers_typed equal n a b))

icmp_given : (f : Function) (registers : Registers) (n : ℕ) (pred : Pred) (kind : IrType) (left right : Operand)
    → IsScalar kind → operands_fit f (at_type kind left ∷ at_type kind right ∷ []) ≡ true
    → misuses_pointer (Icmp pred kind left right) ≡ false → HoldsOperands f registers (left ∷ right ∷ [])
    → Given (Int 1) (computed registers n (Icmp pred kind left right))
icmp_given f registers n pred (Int w) left right scalar types pointers held =
    let row = on_numbers (compared pred w) in
    of_two f registers n (Int w) (Int 1) left right (λ a b. Gives (row a b)) tt types held (λ a b p q.
    gives_typed (Int 1) (row a b) (compared_typed pred w a b p q))
icmp_given f registers n pred.Eq Ptr left right scalar types pointers held =
    pointers_given f registers n true left right types held
icmp_given f registers n pred.Ne Ptr left right scalar types pointers held =
    pointers_given f registers n false left right types held
icmp_given f registers n pred.Ugt Ptr left right scalar types pointers held = absurd (true≢false pointers)
icmp_given f registers n pred.Uge Ptr left right scalar types pointers held = absurd (true≢false pointers)
icmp_given f registers n pred.Ult Ptr left right scalar types pointers held = absurd (true≢false pointers)
icmp_given f registers n pred.Ule Ptr left right scalar types pointers held = absurd (true≢false pointers)
icmp_given f registers n pred.Sgt Ptr left right scalar types pointers held = absurd (true≢false pointers)
icmp_given f registers n pred.Sge Ptr left right scalar types pointers held = absurd (true≢false pointers)
icmp_given f registers n pred.Slt Ptr left right scalar types pointers held = absurd (true≢false pointers)
icmp_given f registers n pred.Sle Ptr left right scalar types pointers held = absurd (true≢false pointers)
icmp_given f registers n pred Void left right scalar types pointers held = absurd scalar
icmp_given f registers n pred (Array dims w) left right scalar types pointers held = absurd scalar

leads_to_int : (op : CastOp) (from to : IrType) → converts op from to ≡ true → is_int to ≡ true
leads_to_int cast.Zext from to wider = (and_parts (is_int to) _ wider).0
leads_to_int cast.Sext from to wider = (and_parts (is_int to) _ wider).0
leads_to_int cast.Trunc from to wider = (and_parts (is_int to) _ wider).0

cast_given : (f : Function) (registers : Registers) (n : ℕ) (op : CastOp) (nneg : Bool) (from to : IrType)
    (value : Operand) → types_fit f (Cast op nneg from value to) ≡ true → converts op from to ≡ true
    → is_int to ≡ true → HoldsOperands f registers (value ∷ [])
    → Given to (computed registers n (Cast op nneg from value to))
cast_given f registers n op nneg (Int v) (Int w) value types wider int held =
    let typed = first_typed f registers n (Int v) value [] true tt types held in
    with_typed registers n (Int v) (Int w) value (λ x. Gives (converted op nneg v w x)) typed (λ x p.
    gives_typed (Int w) (converted op nneg v w x) (converted_typed op nneg v w x wider p))
cast_given f registers n op nneg (Int v) Ptr value types wider int held = absurd (false≢true int)
cast_given f registers n op nneg (Int v) Void value types wider int held = absurd (false≢true int)
cast_given f registers n op nneg (Int v) (Array dims w) value types wider int held = absurd (false≢true int)
cast_given f registers n op nneg Ptr to value types wider int held = absurd (false≢true types)
cast_given f registers n op nneg Void to value types wider int held = absurd (false≢true types)
cast_given f registers n op nneg (Array dims w) to value types wider int held = absurd (false≢true types)

-- an arm of a `select`, which has the type of the first one
arm_given : (registers : Registers) (n : ℕ) (out : IrType) (typed : TypedOperand) → typed.kind ≡ out
    → Typed registers n typed.kind typed.value → Given out (arm_value registers n typed)
arm_given registers n out typed is has =
    with_typed registers n typed.kind out typed.value Gives has (λ x p.
    gives_typed out x (subst (λ (kind : IrType). is_of_type kind x ≡ true) is p))

arms_given : (registers : Registers) (n : ℕ) (out : IrType) (left right : TypedOperand) (test : Value) → IsScalar out
    → Given out (arm_value registers n left) → Given out (arm_value registers n right)
    → Given out (chosen_arm registers n left right test)
arms_given registers n out left right (value.Number c) scalar first second =
    either_given out (c == 0) (arm_value registers n right) (arm_value registers n left) second first
arms_given registers n out left right (value.Pointer block offset) scalar first second =
    gives_typed out value.Poison (poison_typed out scalar)
arms_given registers n out left right value.Null scalar first second =
    gives_typed out value.Poison (poison_typed out scalar)
arms_given registers n out left right value.Poison scalar first second =
    gives_typed out value.Poison (poison_typed out scalar)

select_given : (f : Function) (registers : Registers) (n : ℕ) (test : Operand) (left right : TypedOperand)
    → IsScalar left.kind → IsScalar right.kind → types_fit f (Select test left right) ≡ true
    → HoldsOperands f registers (test ∷ left.value ∷ right.value ∷ [])
    → Given left.kind (computed registers n (Select test left right))
select_given f registers n test left right one other types held =
    let arms = left ∷ right ∷ [] in
    let agree = and_parts (same_type left.kind right.kind) (operands_fit f (wanted (Select test left right))) types in
    let fit = (and_parts (fits f (Int 1) test) (operands_fit f arms) agree.1).1 in
    let fit' = (and_parts (fits f left.kind left.value) (operands_fit f (right ∷ [])) fit).1 in
    let behind = rest_held f registers test (left.value ∷ right.value ∷ []) held in
    let last = rest_held f registers left.value (right.value ∷ []) behind in
    let chosen =
    first_typed f registers n (Int 1) test (left.value ∷ right.value ∷ []) (operands_fit f arms) tt agree.1 held in
    let first =
    first_typed f registers n left.kind left.value (right.value ∷ []) (operands_fit f (right ∷ [])) one fit behind in
    let second = first_typed f registers n right.kind right.value [] true other fit' last in
    with_typed registers n (Int 1) left.kind test (λ c. chosen_arm registers n left right c) chosen (λ c p.
    arms_given registers n left.kind left right c one
    (arm_given registers n left.kind left refl first)
    (arm_given registers n left.kind right (sym (same_scalar left.kind right.kind one agree.0)) second))

-- ---- calls of minima and maxima

same_as_int : (kind : IrType) (w : ℕ) → same_type kind (Int w) ≡ true → kind ≡ Int w
same_as_int (Int v) w same = ap (λ (k : ℕ). Int k) (eqb-true v w same)
same_as_int Ptr w same = absurd (false≢true same)
same_as_int Void w same = absurd (false≢true same)
same_as_int (Array dims v) w same = absurd (false≢true same)

called_given : (registers : Registers) (n w : ℕ) (named : Option MinMax) (left right : Operand) → is_some named ≡ true
    → Typed registers n (Int w) left → Typed registers n (Int w) right
    → Given (Int w) (called registers n w named left right)
called_given registers n w None left right is first second = absurd (false≢true is)
called_given registers n w (Some kind) left right is first second =
    let row = on_numbers (min_max_row kind w) in
    with_two registers n (Int w) (Int w) left right (λ a b. Gives (row a b)) first second (λ a b p q.
    gives_typed (Int w) (row a b) (min_max_typed kind w a b p q))

-- an argument of the type of the call
arg_typed : (f : Function) (registers : Registers) (n w : ℕ) (arg : TypedOperand) (rest : List Operand)
    (more others : Bool) → (same_type arg.kind (Int w) && others) ≡ true → (fits f arg.kind arg.value && more) ≡ true
    → HoldsOperands f registers (arg.value ∷ rest) → Typed registers n (Int w) arg.value
arg_typed f registers n w arg rest more others same fit held =
    let is = same_as_int arg.kind w (and_parts (same_type arg.kind (Int w)) others same).0 in
    let stands = subst (λ (kind : IrType). (fits f kind arg.value && more) ≡ true) is fit in
    first_typed f registers n (Int w) arg.value rest more tt stands held

abbrev pub values_of : List TypedOperand → List Operand
values_of args = map (λ (typed : TypedOperand). typed.value) args

two_args_given : (f : Function) (registers : Registers) (n w : ℕ) (callee : List ℕ) (args : List TypedOperand)
    → is_some (min_max_named callee) ≡ true → same_types (kinds_of args) (Int w ∷ Int w ∷ []) ≡ true
    → operands_fit f args ≡ true → HoldsOperands f registers (values_of args)
    → Given (Int w) (computed registers n (Call (Int w) callee args))
two_args_given f registers n w callee (left ∷ right ∷ []) is same fit held =
    let same' = same_type right.kind (Int w) && true in
    let fit' = fits f right.kind right.value && true in
    let second = (and_parts (same_type left.kind (Int w)) same' same).1 in
    let last = (and_parts (fits f left.kind left.value) fit' fit).1 in
    let behind = rest_held f registers left.value (right.value ∷ []) held in
    called_given registers n w (min_max_named callee) left.value right.value is
    (arg_typed f registers n w left (right.value ∷ []) fit' same' same fit held)
    (arg_typed f registers n w right [] true true second last behind)
two_args_given f registers n w callee [] is same fit held = absurd (false≢true same)
two_args_given f registers n w callee (left ∷ []) is same fit held =
    absurd (false≢true (and_parts (same_type left.kind (Int w)) false same).1)
two_args_given f registers n w callee (left ∷ right ∷ more ∷ args) is same fit held =
    let second = (and_parts (same_type left.kind (Int w)) (same_type right.kind (Int w) && false) same).1 in
    absurd (false≢true (and_parts (same_type right.kind (Int w)) false second).1)

needed : (is fit : Bool) → is ≡ true → (not is || fit) ≡ true → fit ≡ true
needed true fit given both = both
needed false fit given both = absurd (false≢true given)

call_of_kind : (f : Function) (registers : Registers) (n : ℕ) (ret : IrType) (callee : List ℕ)
    (args : List TypedOperand) → is_some (min_max_named callee) ≡ true → is_min_max_of ret callee ≡ true
    → same_types (kinds_of args) (ret ∷ ret ∷ []) ≡ true → operands_fit f args ≡ true
    → HoldsOperands f registers (values_of args) → Given ret (computed registers n (Call ret callee args))
call_of_kind f registers n (Int w) callee args is named same fit held =
    two_args_given f registers n w callee args is same fit held
call_of_kind f registers n Ptr callee args is named same fit held = absurd (false≢true named)
call_of_kind f registers n Void callee args is named same fit held = absurd (false≢true named)
call_of_kind f registers n (Array dims w) callee args is named same fit held = absurd (false≢true named)

call_given : (signatures : Signatures) (f : Function) (registers : Registers) (n : ℕ) (ret : IrType) (callee : List ℕ)
    (args : List TypedOperand) → is_some (min_max_named callee) ≡ true
    → call_fits signatures (Call ret callee args) ≡ true → operands_fit f args ≡ true
    → HoldsOperands f registers (values_of args) → Given ret (computed registers n (Call ret callee args))
call_given signatures f registers n ret callee args is calls fit held =
    let agrees = is_min_max_of ret callee && same_types (kinds_of args) (ret ∷ ret ∷ []) in
    let both = needed (is_min_max callee) agrees is (and_parts (not (is_min_max callee) || agrees) _ calls).0 in
    let parts = and_parts (is_min_max_of ret callee) (same_types (kinds_of args) (ret ∷ ret ∷ [])) both in
    call_of_kind f registers n ret callee args is parts.0 parts.1 fit held

-- ---- freezes

frozen_typed : (w n : ℕ) (x : Value) → is_of_type (Int w) x ≡ true → is_of_type (Int w) (frozen w n x) ≡ true
frozen_typed w n value.Poison typed = mod_typed w n
frozen_typed w n _ typed = typed

freeze_given : (f : Function) (registers : Registers) (n : ℕ) (kind : IrType) (value : Operand) → IsScalar kind
    → operands_fit f (at_type kind value ∷ []) ≡ true → misuses_pointer (Freeze kind value) ≡ false
    → HoldsOperands f registers (value ∷ []) → Given kind (computed registers n (Freeze kind value))
freeze_given f registers n (Int w) value scalar types pointers held =
    let typed = first_typed f registers n (Int w) value [] true tt types held in
    with_typed registers n (Int w) (Int w) value (λ x. Gives (frozen w n x)) typed (λ x p.
    gives_typed (Int w) (frozen w n x) (frozen_typed w n x p))
freeze_given f registers n Ptr value scalar types pointers held = absurd (true≢false pointers)
freeze_given f registers n Void value scalar types pointers held = absurd scalar
freeze_given f registers n (Array dims w) value scalar types pointers held = absurd scalar

-- ---- all operations that are computed

-- whether the operation is computed from its operands alone
abbrev pub is_computed : Op → Bool
is_computed (Binary op nuw nsw exact disjoint kind left right) = true
is_computed (Icmp pred kind left right) = true
is_computed (Cast op nneg from value to) = true
is_computed (Select test left right) = true
is_computed (Freeze kind value) = true
is_computed (Call ret callee args) = is_min_max callee
is_computed _ = false

pub computed_typed : (signatures : Signatures) (f : Function) (registers : Registers) (n : ℕ) (op : Op) → IsFormed op
    → types_fit f op ≡ true → widths_fit op ≡ true → misuses_pointer op ≡ false → call_fits signatures op ≡ true
    → is_computed op ≡ true → HoldsOperands f registers (operands op) → Given (given_type op) (computed registers n op)
computed_typed signatures f registers n (Binary op nuw nsw exact disjoint kind left right) _ types _ _ _ _ held =
    binary_given f registers n op nuw nsw exact disjoint kind left right types held
computed_typed signatures f registers n (Icmp pred kind left right) formed types _ pointers _ _ held =
    icmp_given f registers n pred kind left right formed types pointers held
computed_typed signatures f registers n (Cast op nneg from value to) _ types widths _ _ _ held =
    let wider = (and_parts (is_wide from && is_wide to) (converts op from to) widths).1 in
    cast_given f registers n op nneg from to value types wider (leads_to_int op from to wider) held
computed_typed signatures f registers n (Select test left right) formed types _ _ _ _ held =
    select_given f registers n test left right formed.0 formed.1 types held
computed_typed signatures f registers n (Freeze kind value) formed types _ pointers _ _ held =
    freeze_given f registers n kind value formed types pointers held
computed_typed signatures f registers n (Call ret callee args) _ types _ _ calls computed held =
    call_given signatures f registers n ret callee args computed calls types held
computed_typed signatures f registers n _ _ _ _ _ _ computed _ = absurd (false≢true computed)

-- ---- terminators

-- It leads to one of the blocks, or the run ends, and isn't stuck.
abbrev Leads : List ℕ → Way → Type 0
Leads blocks outcome =
    ((to : ℕ) × (outcome ≡ Enters to) × Contains blocks to)
    ⊎ ((how : Phase) × (outcome ≡ Leaves how) × (how ≢ phase.Stuck) × (how ≢ phase.Running))

enters : (blocks : List ℕ) (to : ℕ) → Contains blocks to → Leads blocks (Enters to)
enters blocks to inside = inl (to, refl, inside)

undefined : (blocks : List ℕ) → Leads blocks (Leaves phase.Undefined)
undefined blocks = inr (phase.Undefined, refl, (λ is. absurd cc), (λ is. absurd cc))

returned : (blocks : List ℕ) (answer : Option Value) → Leads blocks (Leaves (phase.Returned answer))
returned blocks answer = inr (phase.Returned answer, refl, (λ is. absurd cc), (λ is. absurd cc))

contains_first : (x : ℕ) (xs : List ℕ) → Contains (x ∷ xs) x
contains_first x xs = (0, omega arith, refl)

by_typed : (registers : Registers) (n : ℕ) (kind : IrType) (value : Operand) (blocks : List ℕ) (what : Value → Way)
    → Typed registers n kind value → ((x : Value) → Leads blocks (what x))
    → Leads blocks (by_value (operand_value registers n kind value) what)
by_typed registers n kind value blocks what typed each = rw typed.1 (each typed.0)

one_target : (first : Bool) (there other : ℕ) → Contains (there ∷ other ∷ []) (cond first other there)
one_target true there other = contains_more there (other ∷ []) other (contains_first other [])
one_target false there other = contains_first there (other ∷ [])

branch_leads : (test : Value) (there other : ℕ) → Leads (there ∷ other ∷ []) (branched test there other)
branch_leads (value.Number n) there other =
    enters (there ∷ other ∷ []) (cond (n == 0) other there) (one_target (n == 0) there other)
branch_leads (value.Pointer block offset) there other = undefined (there ∷ other ∷ [])
branch_leads value.Null there other = undefined (there ∷ other ∷ [])
branch_leads value.Poison there other = undefined (there ∷ other ∷ [])

-- the blocks of a `switch`, the other one first
abbrev blocks_of : ℕ → List Case → List ℕ
blocks_of other cases = other ∷ map (λ (one : Case). one.to.0) cases

-- one more case adds a block
one_more : (other to x : ℕ) (rest : List ℕ) → Contains (other ∷ rest) x → Contains (other ∷ to ∷ rest) x
one_more other to x rest (zero, less, is) = (0, omega arith, is)
one_more other to x rest (suc k, less, is) = (suc (suc k), omega (arith, less), is)

this_or_later : (first : Bool) (other to x : ℕ) (rest : List ℕ) → Contains (other ∷ rest) x
    → Contains (other ∷ to ∷ rest) (cond first to x)
this_or_later true other to x rest later = contains_more other (to ∷ rest) to (contains_first to rest)
this_or_later false other to x rest later = one_more other to x rest later

case_leads : (w : ℕ) (cases : List Case) (other x : ℕ) → Contains (blocks_of other cases) (case_target w cases other x)
case_leads w [] other x = contains_first other []
case_leads w (one ∷ cases) other x =
    let later = map (λ (one : Case). one.to.0) cases in
    let found = case_target w cases other x in
    this_or_later (residue w one.number == x) other one.to.0 found later (case_leads w cases other x)

switch_leads : (w : ℕ) (cases : List Case) (other : ℕ) (x : Value)
    → Leads (blocks_of other cases) (switched w cases other x)
switch_leads w cases other (value.Number x) =
    enters (blocks_of other cases) (case_target w cases other x) (case_leads w cases other x)
switch_leads w cases other (value.Pointer block offset) = undefined (blocks_of other cases)
switch_leads w cases other value.Null = undefined (blocks_of other cases)
switch_leads w cases other value.Poison = undefined (blocks_of other cases)

int_switch : (f : Function) (registers : Registers) (n : ℕ) (kind : IrType) (value : Operand) (other : BlockId)
    (cases : List Case) → types_fit f (Switch kind value other cases) ≡ true → HoldsOperands f registers (value ∷ [])
    → Leads (blocks_of other.0 cases) (way registers n (Switch kind value other cases))
int_switch f registers n (Int w) value other cases types held =
    let op = Switch (Int w) value other cases in
    let fit = (and_parts (types_agree op) (operands_fit f (wanted op)) types).1 in
    let typed = first_typed f registers n (Int w) value [] _ tt fit held in
    by_typed registers n (Int w) value (blocks_of other.0 cases) (λ x. switched w cases other.0 x) typed
    (λ x. switch_leads w cases other.0 x)
int_switch f registers n Ptr value other cases types held = absurd (false≢true types)
int_switch f registers n Void value other cases types held = absurd (false≢true types)
int_switch f registers n (Array dims w) value other cases types held = absurd (false≢true types)

op_leads : (f : Function) (registers : Registers) (n : ℕ) (op : Op) → IsFormed op → types_fit f op ≡ true
    → is_terminator op ≡ true → HoldsOperands f registers (operands op) → Leads (targets op) (way registers n op)
op_leads f registers n (Jump to) formed types ends held = enters (to.0 ∷ []) to.0 (contains_first to.0 [])
op_leads f registers n (Branch test there other) formed types ends held =
    let typed = first_typed f registers n (Int 1) test [] true tt types held in
    by_typed registers n (Int 1) test (there.0 ∷ other.0 ∷ []) (λ c. branched c there.0 other.0) typed
    (λ c. branch_leads c there.0 other.0)
op_leads f registers n (Switch kind value other cases) formed types ends held =
    int_switch f registers n kind value other cases types held
op_leads f registers n (Ret None) formed types ends held = returned [] None
op_leads f registers n (Ret (Some typed)) formed types ends held =
    let held' = first_typed f registers n typed.kind typed.value [] true formed types held in
    by_typed registers n typed.kind typed.value [] (λ x. Leaves (phase.Returned (Some x))) held'
    (λ x. returned [] (Some x))
op_leads f registers n Unreachable formed types ends held = undefined []
op_leads f registers n (Binary op nuw nsw exact disjoint kind left right) _ _ ends _ = absurd (false≢true ends)
op_leads f registers n (Icmp pred kind left right) _ _ ends _ = absurd (false≢true ends)
op_leads f registers n (Cast op nneg from value to) _ _ ends _ = absurd (false≢true ends)
op_leads f registers n (Select test left right) _ _ ends _ = absurd (false≢true ends)
op_leads f registers n (Call ret callee args) _ _ ends _ = absurd (false≢true ends)
op_leads f registers n (Phi kind entries) _ _ ends _ = absurd (false≢true ends)
op_leads f registers n (Freeze kind value) _ _ ends _ = absurd (false≢true ends)
op_leads f registers n (Alloca kind) _ _ ends _ = absurd (false≢true ends)
op_leads f registers n (Load kind from) _ _ ends _ = absurd (false≢true ends)
op_leads f registers n (Store kind value to) _ _ ends _ = absurd (false≢true ends)
op_leads f registers n (Gep inbounds kind base indices) _ _ ends _ = absurd (false≢true ends)

pub way_typed : (signatures : Signatures) (f : Function) (b : ℕ) (instr : Instr) (registers : Registers) (n : ℕ)
    → Facts signatures f b instr → is_terminator instr.op ≡ true → HoldsOperands f registers (operands instr.op)
    → ((to : ℕ) × (way registers n instr.op ≡ Enters to) × Contains (targets instr.op) to)
    ⊎ ((how : Phase) × (way registers n instr.op ≡ Leaves how) × (how ≢ phase.Stuck) × (how ≢ phase.Running))
way_typed signatures f b instr registers n facts ends held =
    op_leads f registers n instr.op facts.formed.op facts.types ends held
