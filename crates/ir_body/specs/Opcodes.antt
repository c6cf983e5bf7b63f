-- The words that instructions begin with.
use Rattle.std.specs.Prelude.{ℕ, Bool, true, false, ◌&&◌, ◌||◌, not, if◌then◌else◌, List, [], ◌∷◌, Option, Some, None, codes}
use Rattle.std.specs.Option.{option_and_then, option_or}
use Rattle.scev_base.specs.declared.pred.Pred.{Pred}
use Rattle.scev_base.specs.declared.pred.Pred.TheVariants as pred
use Rattle.ir_model.specs.declared.op.BinOp.TheVariants as binary
use Rattle.ir_model.specs.declared.op.CastOp.TheVariants as cast
use Rattle.ir_text.specs.Tokens.{Lexeme}
use Rattle.ir_parts.specs.Reading.{Read, one_at, is_word_kind, is_keyword}
use Rattle.ir_body.specs.declared.opcode.Opcode.{Opcode}
use Rattle.ir_body.specs.declared.opcode.Opcode.TheVariants.{Binary, Cast, Icmp, Select, Phi, Freeze, Alloca, Load, Store, Gep, Br, Switch, Ret, Unreachable}
use Rattle.ir_body.specs.Tables.{look_up}

-- what a call begins with
abbrev pub begins_call : Lexeme → Bool
begins_call t = is_keyword (codes "tail") t || is_keyword (codes "notail") t || is_keyword (codes "call") t

-- ---- the words of the other operations

abbrev pub binary_opcodes : List (List ℕ × Opcode)
binary_opcodes = (codes "add", Binary binary.Add) ∷ (codes "sub", Binary binary.Sub) ∷ (codes "mul", Binary binary.Mul)
    ∷ (codes "shl", Binary binary.Shl) ∷ (codes "udiv", Binary binary.Udiv) ∷ (codes "sdiv", Binary binary.Sdiv)
    ∷ (codes "lshr", Binary binary.Lshr) ∷ (codes "ashr", Binary binary.Ashr) ∷ (codes "urem", Binary binary.Urem)
    ∷ (codes "srem", Binary binary.Srem) ∷ (codes "and", Binary binary.And) ∷ (codes "xor", Binary binary.Xor)
    ∷ (codes "or", Binary binary.Or) ∷ []

abbrev pub value_opcodes : List (List ℕ × Opcode)
value_opcodes = (codes "icmp", Icmp) ∷ (codes "zext", Cast cast.Zext) ∷ (codes "sext", Cast cast.Sext)
    ∷ (codes "trunc", Cast cast.Trunc) ∷ (codes "select", Select) ∷ (codes "phi", Phi) ∷ (codes "freeze", Freeze) ∷ []

abbrev pub memory_opcodes : List (List ℕ × Opcode)
memory_opcodes = (codes "alloca", Alloca) ∷ (codes "load", Load) ∷ (codes "store", Store) ∷ (codes "getelementptr", Gep)
    ∷ []

abbrev pub ending_opcodes : List (List ℕ × Opcode)
ending_opcodes = (codes "br", Br) ∷ (codes "switch", Switch) ∷ (codes "ret", Ret)
    ∷ (codes "unreachable", Unreachable) ∷ []

unfoldable pub binary_opcode : List ℕ → Option Opcode
binary_opcode text = look_up binary_opcodes text

unfoldable pub value_opcode : List ℕ → Option Opcode
value_opcode text = look_up value_opcodes text

unfoldable pub memory_opcode : List ℕ → Option Opcode
memory_opcode text = look_up memory_opcodes text

unfoldable pub ending_opcode : List ℕ → Option Opcode
ending_opcode text = look_up ending_opcodes text

unfoldable pub opcode_of_text : List ℕ → Option Opcode
opcode_of_text text = option_or (binary_opcode text)
    (option_or (value_opcode text) (option_or (memory_opcode text) (ending_opcode text)))

-- whether a result may stand before it
abbrev pub may_have_result : Opcode → Bool
may_have_result Store = false
may_have_result Br = false
may_have_result Switch = false
may_have_result Ret = false
may_have_result Unreachable = false
may_have_result _ = true

-- the opcode, where it may stand behind a result or where none stands
abbrev pub fitting : Bool → Opcode → Option Opcode
fitting has_result code = if has_result && not (may_have_result code) then None else Some code

unfoldable pub opcode_of : Bool → Lexeme → Option Opcode
opcode_of has_result t = if is_word_kind t.kind then option_and_then (fitting has_result) (opcode_of_text t.text)
    else None

unfoldable pub opcode_at : Bool → Read Opcode
opcode_at has_result = one_at (opcode_of has_result)

abbrev pub predicates : List (List ℕ × Pred)
predicates = (codes "eq", pred.Eq) ∷ (codes "ne", pred.Ne) ∷ (codes "ugt", pred.Ugt) ∷ (codes "uge", pred.Uge)
    ∷ (codes "ult", pred.Ult) ∷ (codes "ule", pred.Ule) ∷ (codes "sgt", pred.Sgt) ∷ (codes "sge", pred.Sge)
    ∷ (codes "slt", pred.Slt) ∷ (codes "sle", pred.Sle) ∷ []

unfoldable pub predicate_of_text : List ℕ → Option Pred
predicate_of_text text = look_up predicates text

unfoldable pub predicate_of : Lexeme → Option Pred
predicate_of t = if is_word_kind t.kind then predicate_of_text t.text else None

unfoldable pub predicate_at : Read Pred
predicate_at = one_at predicate_of
