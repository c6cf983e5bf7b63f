-- What is looked at in one instruction after another.
use Rattle.std.specs.Prelude.{ℕ, ◌+◌, ◌==◌, min, Bool, false, not, List, map, filter}
use Rattle.std.specs.List.{list_any}
use Rattle.ir_model.specs.declared.op.Op.{Op}
use Rattle.ir_model.specs.declared.function.Instr.{Instr}
use Rattle.ir_model.specs.declared.function.Block.{Block}
use Rattle.ir_model.specs.declared.function.Function.{Function}
use Rattle.ir_model.specs.declared.signature.Signatures.{Signatures}
use Rattle.ir_model.specs.declared.rule.Rule.{Rule}
use Rattle.ir_model.specs.declared.rule.Rule.TheVariants.{TypeMismatch, LiteralOutOfRange, BadWidth, VoidValue}
use Rattle.ir_model.specs.declared.rule.Rule.TheVariants.{DuplicateCase, PointerPredicate, CallMismatch, ReturnType}
use Rattle.ir_model.specs.declared.rule.Place.{Place}
use Rattle.ir_model.specs.Defined.{given_type}
use Rattle.ir_model.specs.Shapes.{is_void, targets}
use Rattle.ir_rules.specs.Spots.{Spot, spots, place, named_by}
use Rattle.ir_rules.specs.Types.{types_fit, literals_fit, widths_fit}
use Rattle.ir_rules.specs.Values.{is_void_value, cases_differ, misuses_pointer, call_fits, returns}
use Rattle.ir_rules.specs.Limits.{array_limit}
use Rattle.ir_rules.specs.Blocks.{late}

-- whether an instruction breaks a rule, of those that look at one alone
abbrev pub breaks : Signatures → Function → Rule → Instr → Bool
breaks signatures f TypeMismatch instr = not (types_fit f instr.op)
breaks signatures f LiteralOutOfRange instr = not (literals_fit instr.op)
breaks signatures f BadWidth instr = not (widths_fit instr.op)
breaks signatures f VoidValue instr = is_void_value instr
breaks signatures f DuplicateCase instr = not (cases_differ instr.op)
breaks signatures f PointerPredicate instr = misuses_pointer instr.op
breaks signatures f CallMismatch instr = not (call_fits signatures instr.op)
breaks signatures f ReturnType instr = not (returns f.ret instr.op)
breaks signatures f _ instr = false

-- the places of the instructions that do, in a block and in some blocks
abbrev pub breaking_spots : Signatures → Function → Rule → List Spot → List Place
breaking_spots signatures f rule spots = map place (filter (λ (spot : Spot). breaks signatures f rule spot.instr) spots)

-- whether an operation gives no value, and whether it leads to a block
abbrev pub gives_none : Op → Bool
gives_none op = is_void (given_type op)

abbrev pub op_leads_to : Op → ℕ → Bool
op_leads_to op b = list_any (λ to. to == b) (targets op)

abbrev pub leads_to : List Block → ℕ → Bool
leads_to blocks b =
    list_any (λ (block : Block). list_any (λ (instr : Instr). op_leads_to instr.op b) block.instrs) blocks

-- the places of the phis of a block that are late
abbrev pub late_places : ℕ → List Instr → List Place
late_places b instrs = map (λ (instr : Instr). named_by b instr.result) (late false instrs)

-- a size, or one more than the limit where it is above it
abbrev pub capped : ℕ → ℕ
capped size = min size (array_limit + 1)
