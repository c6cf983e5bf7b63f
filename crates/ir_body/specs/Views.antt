-- Parts of operations without ids, and the ids in them.
use Rattle.std.specs.Prelude.{List, [], ◌∷◌, ◌++◌, map}
use Rattle.std.specs.List.{flat_map}
use Rattle.scev_base.specs.declared.ids.BlockId.{BlockId}
use Rattle.ir_model.specs.declared.op.Case.{Case}
use Rattle.ir_model.specs.declared.op.PhiEntry.{PhiEntry}
use Rattle.ir_model.specs.declared.op.TypedOperand.{TypedOperand}
use Rattle.ir_model.specs.Sites.{Site, UsesBlock, operand_sites, typed_sites, entry_sites, op_sites}
use Rattle.ir_text.specs.Sites.{bare_operand, bare_typed, bare_entry, bare_op, bare_case}
use Rattle.ir_body.specs.declared.operands.Two.{Two}
use Rattle.ir_body.specs.declared.operation.Operation.{Operation}

abbrev pub bare_two : Two → Two
bare_two two = record { kind = two.kind; left = bare_operand two.left; right = bare_operand two.right }

abbrev pub two_sites : Two → List Site
two_sites two = operand_sites two.left ++ operand_sites two.right

abbrev pub bare_block_name : BlockId → BlockId
bare_block_name id = record { 0 = 0 }

abbrev pub block_name_sites : BlockId → List Site
block_name_sites id = UsesBlock id.0 ∷ []

abbrev pub bare_operation : Operation → Operation
bare_operation operation = record { op = bare_op operation.op; words = operation.words }

abbrev pub operation_sites : Operation → List Site
operation_sites operation = op_sites operation.op

-- ---- cases

abbrev pub case_sites : Case → List Site
case_sites c = UsesBlock c.to.0 ∷ []

abbrev pub bare_cases : List Case → List Case
bare_cases cases = map bare_case cases

abbrev pub cases_sites : List Case → List Site
cases_sites cases = map (λ (c : Case). UsesBlock c.to.0) cases

-- ---- operands with their types, and entries of phis

abbrev pub bare_indices : List TypedOperand → List TypedOperand
bare_indices indices = map bare_typed indices

abbrev pub indices_sites : List TypedOperand → List Site
indices_sites indices = flat_map typed_sites indices

abbrev pub bare_entries : List PhiEntry → List PhiEntry
bare_entries entries = map bare_entry entries

abbrev pub entries_sites : List PhiEntry → List Site
entries_sites entries = flat_map entry_sites entries
