-- Rules on single operations: void values, cases of a switch, pointers, calls and what a function returns.
use Rattle.std.specs.Prelude.{ℕ, ◌==◌, Bool, true, false, not, ◌&&◌, ◌||◌, List, [], ◌∷◌, ◌++◌, Option, Some, None, map, find, is_some, decimal}
use Rattle.std.specs.List.{list_any}
use Rattle.std.specs.Str.{bytes_eq}
use Rattle.scev_base.specs.Residue.{residue}
use Rattle.scev_base.specs.declared.pred.Pred.{Pred}
use Rattle.scev_base.specs.declared.pred.Pred.TheVariants as pred
use Rattle.ir_model.specs.declared.types.IrType.{IrType}
use Rattle.ir_model.specs.declared.types.IrType.TheVariants.{Int}
use Rattle.ir_model.specs.declared.op.TypedOperand.{TypedOperand}
use Rattle.ir_model.specs.declared.op.Case.{Case}
use Rattle.ir_model.specs.declared.op.Op.{Op}
use Rattle.ir_model.specs.declared.op.Op.TheVariants.{Icmp, Freeze, Call, Switch, Ret}
use Rattle.ir_model.specs.declared.function.Instr.{Instr}
use Rattle.ir_model.specs.declared.function.Function.{Function}
use Rattle.ir_model.specs.declared.signature.Signature.{Signature}
use Rattle.ir_model.specs.declared.signature.Signatures.{Signatures}
use Rattle.ir_model.specs.declared.rule.Place.{Place}
use Rattle.ir_model.specs.Defined.{given_type}
use Rattle.ir_model.specs.Callees.{min_max_front, all_min_max, is_min_max}
use Rattle.ir_model.specs.Shapes.{is_void}
use Rattle.ir_rules.specs.Spots.{Spot, places_where, repeated}
use Rattle.ir_rules.specs.Types.{is_pointer, same_type, width_of}

-- ---- a void call has a result

abbrev pub is_void_value : Instr → Bool
is_void_value instr = is_some instr.result && is_void (given_type instr.op)

abbrev pub void_values : Function → List Place
void_values f = places_where (λ (spot : Spot). is_void_value spot.instr) f

-- ---- a switch has a case twice, modulo 2^w

abbrev pub is_empty : {A : Type 0} → List A → Bool
is_empty [] = true
is_empty (x ∷ xs) = false

abbrev pub cases_differ : Op → Bool
cases_differ (Switch kind value other cases) =
    is_empty (repeated (λ m n. m == n) [] (map (λ (one : Case). residue (width_of kind) one.number) cases))
cases_differ _ = true

abbrev pub duplicate_cases : Function → List Place
duplicate_cases f = places_where (λ (spot : Spot). not (cases_differ spot.instr.op)) f

-- ---- pointers are compared by another predicate than `eq` and `ne`, or frozen

abbrev pub is_equality : Pred → Bool
is_equality pred.Eq = true
is_equality pred.Ne = true
is_equality _ = false

abbrev pub misuses_pointer : Op → Bool
misuses_pointer (Icmp pred kind left right) = is_pointer kind && not (is_equality pred)
misuses_pointer (Freeze kind value) = is_pointer kind
misuses_pointer _ = false

abbrev pub pointer_predicates : Function → List Place
pointer_predicates f = places_where (λ (spot : Spot). misuses_pointer spot.instr.op) f

-- ---- a callee is no function of the module, or its types differ

abbrev pub same_types : List IrType → List IrType → Bool
same_types [] [] = true
same_types (kind ∷ kinds) (other ∷ others) = same_type kind other && same_types kinds others
same_types _ _ = false

abbrev pub kinds_of : List TypedOperand → List IrType
kinds_of args = map (λ (arg : TypedOperand). arg.kind) args

-- the function of this name: the first one
abbrev pub function_of : Signatures → List ℕ → Option Signature
function_of signatures name = find (λ (s : Signature). bytes_eq s.name name) signatures.functions

abbrev pub has_types : IrType → List IrType → Signature → Bool
has_types ret kinds signature = same_type ret signature.ret && same_types kinds signature.params

-- A function has the types of a call; where there is none, the call may stand by itself.
abbrev pub is_declared_so : Bool → IrType → List IrType → Option Signature → Bool
is_declared_so alone ret kinds None = alone
is_declared_so alone ret kinds (Some signature) = has_types ret kinds signature

-- the names of the minima and maxima of two operands of a type
abbrev pub min_max_names : IrType → List (List ℕ)
min_max_names (Int width) = map (λ kind. min_max_front kind ++ decimal width) all_min_max
min_max_names kind = []

abbrev pub is_min_max_of : IrType → List ℕ → Bool
is_min_max_of kind callee = list_any (bytes_eq callee) (min_max_names kind)

-- A minimum or a maximum is of two operands of the type that its name tells, and needs no declaration.
abbrev pub call_fits : Signatures → Op → Bool
call_fits signatures (Call ret callee args) =
    (not (is_min_max callee) || (is_min_max_of ret callee && same_types (kinds_of args) (ret ∷ ret ∷ [])))
    && is_declared_so (is_min_max callee) ret (kinds_of args) (function_of signatures callee)
call_fits signatures _ = true

abbrev pub call_mismatches : Signatures → Function → List Place
call_mismatches signatures f = places_where (λ (spot : Spot). not (call_fits signatures spot.instr.op)) f

-- ---- `ret` doesn't give the function's type

abbrev pub returns : IrType → Op → Bool
returns kind (Ret None) = is_void kind
returns kind (Ret (Some value)) = same_type kind value.kind
returns kind _ = true

abbrev pub bad_returns : Function → List Place
bad_returns f = places_where (λ (spot : Spot). not (returns f.ret spot.instr.op)) f
