-- A step that enters a block goes along an edge.
use Rattle.std.specs.Prelude.{◌≡◌, ℕ, ◌==◌, List, [], ◌∷◌, map, ◌⊎◌, Bool, true, false, cond, Option, Some, None, slice_get, Contains, refl}
use Rattle.std.proofs.Common.{arith, inl, inr, sym, subst, ◌∙◌}
use Rattle.std.proofs.lemmas.List.Elements.{Contains-append_right}
use Rattle.scev_base.specs.Residue.{residue}
use Rattle.ir_model.specs.declared.types.IrType.TheVariants.{Int}
use Rattle.ir_model.specs.declared.op.Case.{Case}
use Rattle.ir_model.specs.declared.op.Op.{Op}
use Rattle.ir_model.specs.declared.op.Op.TheVariants.{Jump, Branch, Switch, Ret}
use Rattle.ir_model.specs.declared.function.Instr.{Instr}
use Rattle.ir_model.specs.declared.function.Block.{Block}
use Rattle.ir_model.specs.declared.function.Function.{Function}
use Rattle.ir_meaning.specs.declared.value.Value.{Value}
use Rattle.ir_meaning.specs.declared.value.Value.TheVariants as value
use Rattle.ir_meaning.specs.Phases as phase
use Rattle.ir_meaning.specs.State.{Registers, State}
use Rattle.ir_meaning.specs.Operands.{operand_value}
use Rattle.ir_model.specs.Shapes.{block_of}
use Rattle.ir_meaning.specs.Step.{Way, Enters, Leaves, by_value, branched, case_target, switched, way, instr_at}
use Rattle.ir_meaning.proofs.ListPlaces.{contains_in_all}
use Rattle.ir_meaning.proofs.RegisterChanges.{from_and_then}
use Rattle.ir_model.specs.Shapes.{targets}
use Rattle.ir_model.specs.Walks.{Edge}

one_of_two : (there else_there b : ℕ) (test : Bool) → Enters (cond test else_there there) ≡ Enters b → Contains (there ∷ else_there ∷ []) b
one_of_two there else_there b true e = (1, omega arith, cc)
one_of_two there else_there b false e = (0, omega arith, cc)

branch_names : (x : Value) (there else_there b : ℕ) → branched x there else_there ≡ Enters b → Contains (there ∷ else_there ∷ []) b
branch_names (value.Number n) there else_there b e = one_of_two there else_there b (n == 0) e
branch_names _ there else_there b e = cc

-- a switch goes to the other block or to that of a case
target_named : (w : ℕ) (cases : List Case) (other x : ℕ) → (case_target w cases other x ≡ other) ⊎ Contains (map (λ (one : Case). one.to.0) cases) (case_target w cases other x)
target_named w [] other x = inl refl
target_named w (one ∷ cases) other x =
    first (residue w one.number == x) (target_named w cases other x)
  where
    first : (here : Bool) → (case_target w cases other x ≡ other) ⊎ Contains (map (λ (one : Case). one.to.0) cases) (case_target w cases other x) → (cond here one.to.0 (case_target w cases other x) ≡ other) ⊎ Contains (map (λ (one : Case). one.to.0) (one ∷ cases)) (cond here one.to.0 (case_target w cases other x))
    first true rest = inr (0, omega arith, refl)
    first false (inl e) = inl e
    first false (inr h) =
        inr (Contains-append_right (one.to.0 ∷ []) (map (λ (one : Case). one.to.0) cases) (case_target w cases other x) h)

switch_names : (w : ℕ) (cases : List Case) (other : ℕ) (x : Value) (b : ℕ) → switched w cases other x ≡ Enters b → Contains (other ∷ map (λ (one : Case). one.to.0) cases) b
switch_names w cases other (value.Number x) b e = goes (target_named w cases other x) cc
  where
    goes : (case_target w cases other x ≡ other) ⊎ Contains (map (λ (one : Case). one.to.0) cases) (case_target w cases other x) → case_target w cases other x ≡ b → Contains (other ∷ map (λ (one : Case). one.to.0) cases) b
    goes (inl at) same = (0, omega arith, sym at ∙ same)
    goes (inr h) same =
        Contains-append_right (other ∷ []) (map (λ (one : Case). one.to.0) cases) b (subst (λ (k : ℕ). Contains (map (λ (one : Case). one.to.0) cases) k) same h)
switch_names w cases other _ b e = cc

-- where a way follows from an operand's value, the operand has one
value_there : (o : Option Value) (what : Value → Way) (b : ℕ) → by_value o what ≡ Enters b → (x : Value) × (what x ≡ Enters b)
value_there None what b e = cc
value_there (Some x) what b e = (x, e)

-- a terminator that leads to a block names it
way_names : (registers : Registers) (n : ℕ) (op : Op) (b : ℕ) → way registers n op ≡ Enters b → Contains (targets op) b
way_names registers n (Jump to) b e = (0, omega arith, cc)
way_names registers n (Branch test there else_there) b e =
    let x = value_there (operand_value registers n (Int 1) test) (λ (c : Value). branched c there.0 else_there.0) b e in
    branch_names x.0 there.0 else_there.0 b x.1
way_names registers n (Switch (Int w) operand other cases) b e =
    let x = value_there (operand_value registers n (Int w) operand) (λ (x : Value). switched w cases other.0 x) b e in
    switch_names w cases other.0 x.0 b x.1
way_names registers n (Ret (Some typed)) b e =
    let x = value_there (operand_value registers n typed.kind typed.value) (λ (x : Value). Leaves (phase.Returned (Some x))) b e in
    cc (x.1)
way_names registers n _ b e = cc

-- so there is an edge to it from the block in which the terminator stands
pub edge_of_entering : (f : Function) (n : ℕ) (s : State) (instr : Instr) (b : ℕ) → instr_at f s ≡ Some instr → way s.registers n instr.op ≡ Enters b → Edge f s.block b
edge_of_entering f n s instr b at leads =
    let there = from_and_then (block_of f s.block) (λ (block : Block). slice_get block.instrs s.place) instr at in
    (there.0, there.1, contains_in_all (λ (one : Instr). targets one.op) there.0.instrs s.place instr b there.2 (way_names s.registers n instr.op b leads))
