-- An operation that tokens spell is of its form.
use Rattle.std.proofs.Common.{◌≡◌, ℕ, Bool, List, [], ◌∷◌, map, Some, None, All}
use Rattle.std.proofs.lemmas.List.Elements.{All-same, All-map}
use Rattle.ir_model.specs.declared.types.IrType.{IrType}
use Rattle.ir_model.specs.declared.types.IrType.TheVariants.{Void, Int, Ptr, Array}
use Rattle.ir_model.specs.declared.op.CastOp.{CastOp}
use Rattle.ir_model.specs.declared.op.CastOp.TheVariants as cast
use Rattle.ir_model.specs.declared.op.TypedOperand.{TypedOperand}
use Rattle.ir_model.specs.declared.op.Case.{Case}
use Rattle.ir_model.specs.declared.op.Op.{Op}
use Rattle.ir_model.specs.declared.op.Op.TheVariants.{Binary, Icmp, Cast, Select, Phi, Freeze, Alloca, Load, Store, Gep, Call, Jump, Branch, Switch, Ret, Unreachable}
use Rattle.ir_model.specs.Kinds.{IsInt, IsStored, IsScalar, IsReturned, FlagKind, Wraps, Exact, Disjoint, NoFlag, flag_kind, HasFlags, HasNneg}
use Rattle.ir_model.specs.WellMade.{IsInMemory, IsFormed}
use Rattle.ir_text.specs.Tokens.{Lexeme}
use Rattle.ir_text.specs.Mentions.{Mention, ◌⊙◌, InOrder}
use Rattle.ir_text.specs.Types.{SpellsType}
use Rattle.ir_grammar.specs.Operations.{the_type, the_comma, Listing, SpellsTyped, BinaryFlags, SpellsBinaryFlags, SpellsCastFlags, Argument, SpellsArgument, SpellsEntry, SpellsCase, SpellsOp}
use Rattle.ir_read_back.proofs.Telling.{Tells, first, later, without_names, of_kind, no_less, some_told, in_order_told, listing_told}

-- ---- types and flags

in_memory : (kind : IrType) (ts : List Lexeme) → IsStored kind → SpellsType kind ts → IsInMemory kind
in_memory (Int width) ts stored spelled = tt
in_memory (Array [] width) ts stored spelled = absurd spelled
in_memory (Array (d ∷ dims) width) ts stored spelled = no_less d dims
in_memory Void ts stored spelled = absurd stored
in_memory Ptr ts stored spelled = absurd stored

in_memory_told : (kind : IrType) → Tells (IsInMemory kind) (the_type IsStored kind)
in_memory_told kind = record { holds = λ ms ts s. in_memory kind ts s.1.0 s.1.1 }

has_flags : (which : FlagKind) (flags : BinaryFlags) (ts : List Lexeme) → SpellsBinaryFlags which flags ts
    → HasFlags which flags.nuw flags.nsw flags.exact flags.disjoint
has_flags Wraps flags ts s = (s.0, s.1)
has_flags Exact flags ts s = (s.0, s.1, s.2)
has_flags Disjoint flags ts s = (s.0, s.1, s.2)
has_flags NoFlag flags ts s = (s.0, s.1, s.2, s.3)

has_nneg : (op : CastOp) (nneg : Bool) (ts : List Lexeme) → SpellsCastFlags op nneg ts → HasNneg op nneg
has_nneg cast.Zext nneg ts s = tt
has_nneg cast.Sext nneg ts s = s.0
has_nneg cast.Trunc nneg ts s = s.0

-- ---- operands with their types

abbrev pub IsTyped : TypedOperand → Type 0
IsTyped typed = IsScalar typed.kind

typed_told : (typed : TypedOperand) → Tells (IsScalar typed.kind) (SpellsTyped typed)
typed_told typed = first (of_kind IsScalar typed.kind)

indices_told : (indices : List TypedOperand)
    → Tells (All IsTyped indices) (InOrder (λ index. the_comma ⊙ SpellsTyped index) indices)
indices_told =
    in_order_told IsTyped (λ index. the_comma ⊙ SpellsTyped index) (λ index. later (typed_told index))

abbrev IsTypedArgument : Argument → Type 0
IsTypedArgument arg = IsTyped arg.typed

arguments_told : (arguments : List Argument) → Tells (All IsTypedArgument arguments) (Listing SpellsArgument arguments)
arguments_told =
    listing_told IsTypedArgument SpellsArgument (λ arg. first (of_kind IsScalar arg.typed.kind))

arguments_typed : (args : List TypedOperand) (arguments : List Argument)
    → args ≡ map (λ (arg : Argument). arg.typed) arguments
    → All IsTypedArgument arguments → All IsTyped args
arguments_typed args arguments are all =
    All-same IsTyped args (map (λ (arg : Argument). arg.typed) arguments) are
    (All-map IsTyped (λ (arg : Argument). arg.typed) arguments all)

cases_told : (cases : List Case) → Tells (All (λ (c : Case). IsScalar c.kind) cases) (InOrder SpellsCase cases)
cases_told =
    in_order_told (λ (c : Case). IsScalar c.kind) SpellsCase (λ c. first (of_kind IsScalar c.kind))

-- ---- operations

pub formed_op : (op : Op) (words : List (List ℕ)) (ms : List Mention) (ts : List Lexeme) → SpellsOp op words ms ts
    → IsFormed op
formed_op (Binary op nuw nsw exact disjoint kind left right) words ms ts (none, s) =
    let flags : BinaryFlags = record { nuw = nuw; nsw = nsw; exact = exact; disjoint = disjoint } in (
      (later (later (first (of_kind IsScalar kind)))).holds ms ts s,
      (later (first (without_names (has_flags (flag_kind op) flags)))).holds ms ts s,
    )
formed_op (Icmp pred kind left right) words ms ts (none, s) =
    (later (later (later (first (of_kind IsScalar kind))))).holds ms ts s
formed_op (Cast op nneg from value to) words ms ts (none, s) = (
  (later (later (first (typed_told (record { kind = from; value = value }))))).holds ms ts s,
  (later (later (later (later (of_kind IsScalar to))))).holds ms ts s,
  (later (first (without_names (has_nneg op nneg)))).holds ms ts s,
)
formed_op (Select cond left right) words ms ts (none, s) = (
  (later (later (later (later (first (typed_told left)))))).holds ms ts s,
  (later (later (later (later (later (later (typed_told right))))))).holds ms ts s,
)
formed_op (Phi kind entries) words ms ts (none, s) = (
  (later (first (of_kind IsScalar kind))).holds ms ts s,
  (later (later (some_told SpellsEntry entries))).holds ms ts s,
)
formed_op (Freeze kind value) words ms ts (none, s) =
    (later (typed_told (record { kind = kind; value = value }))).holds ms ts s
formed_op (Alloca kind) words ms ts (align, are, s) = (later (first (in_memory_told kind))).holds ms ts s
formed_op (Load kind from) words ms ts (align, are, s) = (later (first (of_kind IsInt kind))).holds ms ts s
formed_op (Store kind value to) words ms ts (align, are, s) = (later (first (of_kind IsInt kind))).holds ms ts s
formed_op (Gep inbounds kind base indices) words ms ts (none, s) = (
  (later (later (first (in_memory_told kind)))).holds ms ts s,
  (later (later (later (later (later (indices_told indices)))))).holds ms ts s,
)
formed_op (Call ret callee args) words ms ts (tail, before, after, arguments, are, same, callee_is, s) = (
  (later (later (later (first (of_kind IsReturned ret))))).holds ms ts s,
  arguments_typed args arguments same
      ((later (later (later (later (later (later (first (arguments_told arguments)))))))).holds ms ts s),
)
formed_op (Jump to) words ms ts s = tt
formed_op (Branch cond there other) words ms ts s = tt
formed_op (Switch kind value other cases) words ms ts (none, s) = (
  (later (first (typed_told (record { kind = kind; value = value })))).holds ms ts s,
  (later (later (later (later (later (first (cases_told cases))))))).holds ms ts s,
)
formed_op (Ret None) words ms ts s = tt
formed_op (Ret (Some typed)) words ms ts (none, s) = (later (typed_told typed)).holds ms ts s
formed_op Unreachable words ms ts s = tt
