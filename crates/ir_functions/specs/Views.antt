-- Parts of functions without ids, and the ids in them.
use Rattle.std.specs.Prelude.{Bool, List, [], ◌∷◌, map, Option, Some, None}
use Rattle.std.specs.List.{flat_map}
use Rattle.std.specs.Option.{option_map}
use Rattle.scev_base.specs.declared.ids.ValueId.{ValueId}
use Rattle.ir_model.specs.declared.function.Param.{Param}
use Rattle.ir_model.specs.declared.function.Instr.{Instr}
use Rattle.ir_model.specs.declared.function.Block.{Block}
use Rattle.ir_model.specs.Sites.{Site, DefinesValue, instr_sites, block_sites}
use Rattle.ir_text.specs.Sites.{bare_param, bare_instr, bare_block}
use Rattle.ir_parts.specs.declared.ending.Ending.{Ending}
use Rattle.ir_body.specs.declared.operation.Operation.{Operation}
use Rattle.ir_body.specs.Views.{bare_operation, operation_sites}
use Rattle.ir_functions.specs.declared.lines.Line.{Line}

abbrev pub bare_value : ValueId → ValueId
bare_value v = record { 0 = 0 }

abbrev pub definition_sites : ValueId → List Site
definition_sites v = DefinesValue v.0 ∷ []

-- a name with whether it is written
abbrev pub bare_name : ValueId × Bool → ValueId × Bool
bare_name p = (bare_value p.0, p.1)

abbrev pub name_sites : ValueId × Bool → List Site
name_sites p = definition_sites p.0

-- a parameter with how its words end
abbrev pub bare_read_param : Param × Option Ending → Param × Option Ending
bare_read_param p = (bare_param p.0, p.1)

abbrev pub param_sites : Param × Option Ending → List Site
param_sites p = DefinesValue p.0.value.0 ∷ []

abbrev pub bare_params : List Param → List Param
bare_params params = map bare_param params

abbrev pub params_sites : List Param → List Site
params_sites params = map (λ (p : Param). DefinesValue p.value.0) params

-- ---- lines

-- an operation or none, with how it ends
abbrev pub bare_read_operation : Option Operation × Option Ending → Option Operation × Option Ending
bare_read_operation p = (option_map bare_operation p.0, p.1)

abbrev pub sites_if_any : Option Operation → List Site
sites_if_any None = []
sites_if_any (Some operation) = operation_sites operation

abbrev pub read_operation_sites : Option Operation × Option Ending → List Site
read_operation_sites p = sites_if_any p.0

abbrev pub instr_sites_if_any : Option Instr → List Site
instr_sites_if_any None = []
instr_sites_if_any (Some instr) = instr_sites instr

abbrev pub bare_line : Line → Line
bare_line line = record { instr = option_map bare_instr line.instr; tail = line.tail }

abbrev pub line_sites : Line → List Site
line_sites line = instr_sites_if_any line.instr

-- ---- what stands several times

abbrev pub bare_instrs : List Instr → List Instr
bare_instrs instrs = map bare_instr instrs

abbrev pub instrs_sites : List Instr → List Site
instrs_sites instrs = flat_map instr_sites instrs

abbrev pub bare_blocks : List Block → List Block
bare_blocks blocks = map bare_block blocks

abbrev pub blocks_sites : List Block → List Site
blocks_sites blocks = flat_map block_sites blocks
