use Rattle.std.proofs.Common.{◌≡◌, Option, map, take, unwrap_or}
use Rattle.ir_model.specs.declared.types.IrType.{IrType}
use Rattle.ir_model.specs.declared.types.IrType.TheVariants.{Void}
use Rattle.ir_model.specs.declared.function.ValueInfo.{ValueInfo}
use Rattle.ir_names.proofs.KeyNames.{text_of_key}
use Rattle.ir_names.proofs.function.value_table.Given as goal

abbrev pub invariant-loop-at : goal.invariant-loop-at
invariant-loop-at l =
    (map (λ (info : ValueInfo). info.name) l.table ≡ map text_of_key (take l.at l.names))
    × (map (λ (info : ValueInfo). info.kind) l.table
    ≡ map (λ (kind : Option IrType). unwrap_or kind Void) (take l.at l.kinds))
