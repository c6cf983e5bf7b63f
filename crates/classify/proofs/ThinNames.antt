-- The names of a function of the thin forms stand in its tables.
use Rattle.std.specs.Prelude.{◌≡◌, ℕ, ◌<◌, List, [], ◌∷◌, ◌++◌, length, map, flat_map, Option, Some, None, All}
use Rattle.std.proofs.Common.{subst, sym}
use Rattle.std.proofs.lemmas.List.Elements.{All-nil, All-cons, All-head, All-tail, All-append, All-map, All-weaker}
use Rattle.scev_base.specs.declared.ids.ValueId.{ValueId}
use Rattle.ir_model.specs.declared.types.IrType.TheVariants.{Int}
use Rattle.ir_model.specs.declared.op.Operand.{Operand}
use Rattle.ir_model.specs.declared.op.Operand.TheVariants as operand
use Rattle.ir_model.specs.declared.op.BinOp.TheVariants as binary
use Rattle.ir_model.specs.declared.op.PhiEntry.{PhiEntry}
use Rattle.ir_model.specs.declared.op.Op.{Op}
use Rattle.ir_model.specs.declared.op.Op.TheVariants.{Binary, Icmp, Phi, Jump, Branch, Ret}
use Rattle.ir_model.specs.declared.function.Param.{Param}
use Rattle.ir_model.specs.declared.function.Instr.{Instr}
use Rattle.ir_model.specs.declared.function.Block.{Block}
use Rattle.ir_model.specs.declared.function.Function.{Function}
use Rattle.ir_meaning.specs.Thin.{IsThinOperand, IsThinGiving, IsThinEnding, HasResult, AreThinInstrs, IsThinFunction}
use Rattle.ir_model.specs.Shapes.{targets}
use Rattle.ir_model.specs.Shapes.{operands, sources, register_of, result_of, instructions, defined_values, used_values}
use Rattle.ir_model.specs.Shapes.{defined_blocks, used_blocks}

abbrev pub AllBelow : ℕ → List ℕ → Type 0
AllBelow n ids = All (λ id. id < n) ids

none_below : (n : ℕ) → AllBelow n []
none_below n = All-nil (λ (id : ℕ). id < n)

more_below : (n id : ℕ) (ids : List ℕ) → id < n → AllBelow n ids → AllBelow n (id ∷ ids)
more_below n id ids small rest = All-cons (λ (other : ℕ). other < n) id ids small rest

both_below : (n : ℕ) (ids others : List ℕ) → AllBelow n ids → AllBelow n others → AllBelow n (ids ++ others)
both_below n ids others small rest =
    All-append (λ (id : ℕ). id < n) ids others small rest

one_below : (n id : ℕ) → id < n → AllBelow n (id ∷ [])
one_below n id small = more_below n id [] small (none_below n)

all_below : {X : Type 0} (n : ℕ) (pick : X → List ℕ) (xs : List X) → All (λ x. AllBelow n (pick x)) xs
    → AllBelow n (flat_map pick xs)
all_below n pick [] h = none_below n
all_below {X} n pick (x ∷ xs) h =
    both_below n (pick x) (flat_map pick xs) (All-head (λ (y : X). AllBelow n (pick y)) x xs h) (all_below n pick xs (All-tail (λ (y : X). AllBelow n (pick y)) x xs h))

operand_below : (values : ℕ) (o : Operand) → IsThinOperand values o → AllBelow values (register_of o)
operand_below values (operand.Reg v) h = one_below values v.0 h
operand_below values (operand.Num z) h = none_below values
operand_below values _ h = absurd h

-- the names that an operation uses stand in the tables
abbrev pub AreBelow : ℕ → ℕ → Op → Type 0
AreBelow values labels op = AllBelow values (flat_map register_of (operands op)) × AllBelow labels (targets op ++ sources op)

two_below : (values : ℕ) (left right : Operand) → IsThinOperand values left → IsThinOperand values right
    → AllBelow values (flat_map register_of (left ∷ right ∷ []))
two_below values left right l r =
    both_below values (register_of left) (flat_map register_of (right ∷ [])) (operand_below values left l) (both_below values (register_of right) [] (operand_below values right r) (none_below values))

single_below : (values : ℕ) (o : Operand) → IsThinOperand values o → AllBelow values (flat_map register_of (o ∷ []))
single_below values o h =
    both_below values (register_of o) [] (operand_below values o h) (none_below values)

giving_below : (values labels : ℕ) (op : Op) → IsThinGiving values labels op → AreBelow values labels op
giving_below values labels (Phi kind entries) h = (
  all_below values register_of (map (λ (entry : PhiEntry). entry.value) entries) (All-map (λ (o : Operand). AllBelow values (register_of o)) (λ (entry : PhiEntry). entry.value) entries (All-weaker (λ (entry : PhiEntry). IsThinOperand values entry.value × (entry.from.0 < labels)) (λ (entry : PhiEntry). AllBelow values (register_of entry.value)) (λ entry thin. operand_below values entry.value thin.0) entries h.1)),
  All-map (λ (id : ℕ). id < labels) (λ (entry : PhiEntry). entry.from.0) entries (All-weaker (λ (entry : PhiEntry). IsThinOperand values entry.value × (entry.from.0 < labels)) (λ (entry : PhiEntry). entry.from.0 < labels) (λ entry thin. thin.1) entries h.1),
)
giving_below values labels (Binary binary.Add nuw nsw exact disjoint kind left right) h =
    (two_below values left right h.1 h.2, none_below labels)
giving_below values labels (Icmp pred kind left right) h =
    (two_below values left right h.1 h.2, none_below labels)
giving_below values labels _ h = absurd h

ending_below : (values labels : ℕ) (op : Op) → IsThinEnding values labels op → AreBelow values labels op
ending_below values labels (Jump to) h = (none_below values, one_below labels to.0 h)
ending_below values labels (Branch cond there else_there) h = (
  single_below values cond h.0,
  more_below labels there.0 (else_there.0 ∷ []) h.1 (one_below labels else_there.0 h.2),
)
ending_below values labels (Ret (Some typed)) h = (single_below values typed.value h.1, none_below labels)
ending_below values labels _ h = absurd h

result_below : (values : ℕ) (result : Option ValueId) → HasResult values result → AllBelow values (result_of result)
result_below values None h = absurd h
result_below values (Some v) h = one_below values v.0 h

-- so do all names of an instruction
abbrev pub IsBelow : ℕ → ℕ → Instr → Type 0
IsBelow values labels instr = AllBelow values (result_of instr.result) × AreBelow values labels instr.op

instrs_below : (values labels : ℕ) (instrs : List Instr) → AreThinInstrs values labels instrs
    → All (IsBelow values labels) instrs
instrs_below values labels [] h = absurd h
instrs_below values labels (last ∷ []) h =
    All-cons (IsBelow values labels) last [] (subst (λ (r : Option ValueId). AllBelow values (result_of r)) (sym h.0) (none_below values), ending_below values labels last.op h.1) (All-nil (IsBelow values labels))
instrs_below values labels (instr ∷ next ∷ more) h =
    All-cons (IsBelow values labels) instr (next ∷ more) (result_below values instr.result h.0, giving_below values labels instr.op h.1) (instrs_below values labels (next ∷ more) h.2)

abbrev pub IsThinBlock : ℕ → ℕ → Block → Type 0
IsThinBlock values labels block = (block.id.0 < labels) × AreThinInstrs values labels block.instrs

blocks_below : (values labels : ℕ) (blocks : List Block) → All (IsThinBlock values labels) blocks
    → All (IsBelow values labels) (instructions blocks)
blocks_below values labels [] h = All-nil (IsBelow values labels)
blocks_below values labels (x ∷ xs) h =
    All-append (IsBelow values labels) x.instrs (instructions xs) (instrs_below values labels x.instrs (All-head (IsThinBlock values labels) x xs h).1) (blocks_below values labels xs (All-tail (IsThinBlock values labels) x xs h))

abbrev pub all_instrs : (f : Function) → List Instr
all_instrs f = instructions f.blocks

function_below : (f : Function) → IsThinFunction f → All (IsBelow (length f.values) (length f.labels)) (all_instrs f)
function_below f thin = blocks_below (length f.values) (length f.labels) f.blocks thin.blocks

-- The registers of a function stand in its table of values.
pub values_below : (f : Function) → IsThinFunction f → AllBelow (length f.values) (defined_values f ++ used_values f)
values_below f thin =
    let n : ℕ = length f.values in
    let all = function_below f thin in
    let params = All-map (λ (id : ℕ). id < n) (λ (p : Param). p.value.0) f.params (All-weaker (λ (p : Param). (p.kind ≡ Int 32) × (p.value.0 < n)) (λ (p : Param). p.value.0 < n) (λ p h. h.1) f.params thin.params) in
    let results = all_below n (λ (instr : Instr). result_of instr.result) (all_instrs f) (All-weaker (IsBelow n (length f.labels)) (λ (instr : Instr). AllBelow n (result_of instr.result)) (λ instr h. h.0) (all_instrs f) all) in
    let uses = all_below n (λ (instr : Instr). flat_map register_of (operands instr.op)) (all_instrs f) (All-weaker (IsBelow n (length f.labels)) (λ (instr : Instr). AllBelow n (flat_map register_of (operands instr.op))) (λ instr h. h.1.0) (all_instrs f) all) in
    both_below n (defined_values f) (used_values f) (both_below n (map (λ (p : Param). p.value.0) f.params) (flat_map (λ (instr : Instr). result_of instr.result) (all_instrs f)) params results) uses

-- its blocks and the blocks that it names stand in its table of labels
pub labels_below : (f : Function) → IsThinFunction f → AllBelow (length f.labels) (defined_blocks f ++ used_blocks f)
labels_below f thin =
    let n : ℕ = length f.labels in
    let own = All-map (λ (id : ℕ). id < n) (λ (block : Block). block.id.0) f.blocks (All-weaker (IsThinBlock (length f.values) n) (λ (block : Block). block.id.0 < n) (λ block h. h.0) f.blocks thin.blocks) in
    let named = all_below n (λ (instr : Instr). targets instr.op ++ sources instr.op) (all_instrs f) (All-weaker (IsBelow (length f.values) n) (λ (instr : Instr). AllBelow n (targets instr.op ++ sources instr.op)) (λ instr h. h.1.1) (all_instrs f) (function_below f thin)) in
    both_below n (defined_blocks f) (used_blocks f) own named
