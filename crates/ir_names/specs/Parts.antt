-- The parts of an instruction that have ids, and the parts without them.
use Rattle.std.specs.Prelude.{List, [], ◌∷◌, ◌++◌, map, Option, Some, None}
use Rattle.std.specs.List.{flat_map}
use Rattle.scev_base.specs.declared.ids.BlockId.{BlockId}
use Rattle.ir_model.specs.declared.op.Operand.{Operand}
use Rattle.ir_model.specs.declared.op.TypedOperand.{TypedOperand}
use Rattle.ir_model.specs.declared.op.Case.{Case}
use Rattle.ir_model.specs.declared.function.Param.{Param}
use Rattle.ir_model.specs.Sites.{Site, operand_sites, typed_sites}
use Rattle.ir_text.specs.Sites.{bare_operand, bare_typed, bare_case}
use Rattle.ir_model.specs.Sites as site

-- a block that control goes to
abbrev pub target_sites : BlockId → List Site
target_sites to = site.UsesBlock to.0 ∷ []

abbrev pub bare_target : BlockId → BlockId
bare_target to = record { 0 = 0 }

-- a case of a switch
abbrev pub case_sites : Case → List Site
case_sites c = site.UsesBlock c.to.0 ∷ []

-- what a function returns
abbrev pub returned_sites : Option TypedOperand → List Site
returned_sites None = []
returned_sites (Some typed) = typed_sites typed

abbrev pub bare_returned : Option TypedOperand → Option TypedOperand
bare_returned None = None
bare_returned (Some typed) = Some (bare_typed typed)

-- a parameter
abbrev pub param_sites : Param → List Site
param_sites param = site.DefinesValue param.value.0 ∷ []

-- two operands
abbrev pub pair_sites : Operand × Operand → List Site
pair_sites p = operand_sites p.0 ++ operand_sites p.1

abbrev pub bare_pair : Operand × Operand → Operand × Operand
bare_pair p = (bare_operand p.0, bare_operand p.1)

-- a condition and the two operands that it selects from
abbrev pub select_sites : Operand × TypedOperand × TypedOperand → List Site
select_sites p = operand_sites p.0 ++ (typed_sites p.1 ++ typed_sites p.2)

abbrev pub bare_select : Operand × TypedOperand × TypedOperand → Operand × TypedOperand × TypedOperand
bare_select p = (bare_operand p.0, bare_typed p.1, bare_typed p.2)

-- an address and indices
abbrev pub indexed_sites : Operand × List TypedOperand → List Site
indexed_sites p = operand_sites p.0 ++ flat_map typed_sites p.1

abbrev pub bare_indexed : Operand × List TypedOperand → Operand × List TypedOperand
bare_indexed p = (bare_operand p.0, map bare_typed p.1)

-- a condition and the two blocks that it chooses from
abbrev pub branch_sites : Operand × BlockId × BlockId → List Site
branch_sites p = operand_sites p.0 ++ (site.UsesBlock p.1.0 ∷ site.UsesBlock p.2.0 ∷ [])

abbrev pub bare_branch : Operand × BlockId × BlockId → Operand × BlockId × BlockId
bare_branch p = (bare_operand p.0, bare_target p.1, bare_target p.2)

-- a value, the block of no case, and cases
abbrev pub switch_sites : Operand × BlockId × List Case → List Site
switch_sites p = operand_sites p.0 ++ (site.UsesBlock p.1.0 ∷ map (λ (c : Case). site.UsesBlock c.to.0) p.2)

abbrev pub bare_switch : Operand × BlockId × List Case → Operand × BlockId × List Case
bare_switch p = (bare_operand p.0, bare_target p.1, map bare_case p.2)
