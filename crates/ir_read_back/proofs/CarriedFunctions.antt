-- What a function mentions stands in its tokens.
use Rattle.std.proofs.Common.{◌≡◌, ◌+◌, ◌≤◌, true, List, [], ◌∷◌, length, Option, Some, None, ◌⊎◌, inl, inr, sym, ap, ◌∙◌, arith}
use Rattle.std.proofs.lemmas.Bool.{false≢true}
use Rattle.scev_base.specs.declared.ids.ValueId.{ValueId}
use Rattle.ir_model.specs.declared.types.IrType.{IrType}
use Rattle.ir_model.specs.declared.types.IrType.TheVariants.{Void, Int, Ptr, Array}
use Rattle.ir_model.specs.declared.op.Op.{Op}
use Rattle.ir_model.specs.declared.op.Op.TheVariants.{Store, Call}
use Rattle.ir_model.specs.declared.function.Param.{Param}
use Rattle.ir_model.specs.declared.function.Instr.{Instr}
use Rattle.ir_model.specs.declared.function.Block.{Block}
use Rattle.ir_model.specs.declared.function.Function.{Function}
use Rattle.ir_text.specs.Tokens.{Lexeme}
use Rattle.ir_text.specs.Mentions.{Mention, defines_value, defines_block, unwritten, DefinesValue, DefinesBlock}
use Rattle.ir_model.specs.Kinds.{IsScalar}
use Rattle.ir_grammar.specs.Operations.{the_type}
use Rattle.ir_model.specs.Shapes.{is_terminator, MayHaveResult, GivesValue}
use Rattle.ir_grammar.specs.Functions.{SpellsResult, SpellsInstr, SpellsLine, SpellsInstrs, SpellsBlock, SpellsParam, SpellsFunction}
use Rattle.ir_read_back.proofs.Carried.{Carries, Carried, silent_carries, unwritten_carries, new_value_carries, new_block_carries, quiet, ◌⊳◌, carried_even, fixed_word, carried_in_order, carried_listing, carried_op}

-- ---- results

ends_and_gives_none : (op : Op) → is_terminator op ≡ true → MayHaveResult op → ⊥
ends_and_gives_none (Store kind value to) ends may = may
ends_and_gives_none _ ends may = false≢true (sym may ∙ ends)

ends_and_has_no_value : (op : Op) → is_terminator op ≡ true → GivesValue op → ⊥
ends_and_has_no_value (Call ret callee args) ends gives = false≢true ends
ends_and_has_no_value (Store kind value to) ends gives = gives
ends_and_has_no_value _ ends gives = false≢true (sym gives ∙ ends)

carried_value : Carried 0 0 defines_value
carried_value = record { holds = new_value_carries }

weaker : (ms : List Mention) (ts : List Lexeme) → Carries 0 0 ms ts → Carries 1 0 ms ts
weaker ms ts carries = record { room = omega (arith, carries.room); bytes = carries.bytes }

-- A result may be a mention without a token.
result_carries : (op : Op) (result : Option ValueId) (ms : List Mention) (ts : List Lexeme)
    → SpellsResult op result ms ts → Carries 1 0 ms ts
result_carries op None ms ts spelled = weaker ms ts (silent_carries ms ts spelled.1.0)
result_carries op (Some v) ms ts (zero, inl (may, s)) =
    weaker ms ts ((carried_value ⊳ quiet).holds ms ts s)
result_carries op (Some v) ms ts (zero, inr (gives, s)) = unwritten_carries (DefinesValue None) tt ms ts s

-- What ends a block has none.
no_result_carries : (op : Op) (result : Option ValueId) (ms : List Mention) (ts : List Lexeme)
    → is_terminator op ≡ true → SpellsResult op result ms ts → Carries 0 0 ms ts
no_result_carries op None ms ts ends spelled = silent_carries ms ts spelled.1.0
no_result_carries op (Some v) ms ts ends (zero, inl (may, s)) = absurd (ends_and_gives_none op ends may)
no_result_carries op (Some v) ms ts ends (zero, inr (gives, s)) = absurd (ends_and_has_no_value op ends gives)

-- ---- instructions

carried_instr : (instr : Instr) → Carried 0 0 (SpellsInstr instr)
carried_instr instr =
    let result : Carried 1 0 (SpellsResult instr.op instr.result) =
    record { holds = result_carries instr.op instr.result } in
    carried_even (result ⊳ carried_op instr.op instr.words ⊳ quiet)

carried_line : (instr : Instr) → Carried 0 0 (SpellsLine instr)
carried_line instr = quiet ⊳ carried_instr instr

carried_last : (instr : Instr) → is_terminator instr.op ≡ true → Carried 0 1 (SpellsLine instr)
carried_last instr ends =
    let result : Carried 0 0 (SpellsResult instr.op instr.result) =
    record { holds = λ ms ts. no_result_carries instr.op instr.result ms ts ends } in
    quiet ⊳ result ⊳ carried_op instr.op instr.words ⊳ quiet

-- ---- blocks

instrs_carry : (instrs : List Instr) (ms : List Mention) (ts : List Lexeme) → SpellsInstrs instrs ms ts
    → Carries 0 1 ms ts
instrs_carry [] ms ts spelled = absurd spelled
instrs_carry (last ∷ []) ms ts (ends, spelled) = (carried_last last ends).holds ms ts spelled
instrs_carry (instr ∷ next ∷ more) ms ts (goes_on, spelled) =
    let rest : Carried 0 1 (SpellsInstrs (next ∷ more)) = record { holds = instrs_carry (next ∷ more) } in
    (carried_line instr ⊳ rest).holds ms ts spelled

label_carries : (ms : List Mention) (ts : List Lexeme) → defines_block ms ts ⊎ unwritten (DefinesBlock None) ms ts
    → Carries 1 0 ms ts
label_carries ms ts (inl s) = weaker ms ts (new_block_carries ms ts s)
label_carries ms ts (inr s) = unwritten_carries (DefinesBlock None) tt ms ts s

carried_block : (block : Block) → Carried 0 0 (SpellsBlock block)
carried_block block =
    let label : Carried 1 0 (λ ms ts. (block.id.0 ≡ 0)
    × (defines_block ms ts ⊎ unwritten (DefinesBlock None) ms ts)) =
    record { holds = λ ms ts s. label_carries ms ts s.1 } in
    let instrs : Carried 0 1 (SpellsInstrs block.instrs) = record { holds = instrs_carry block.instrs } in
    carried_even (label ⊳ instrs)

-- ---- functions

name_carries : (ms : List Mention) (ts : List Lexeme) → defines_value ms ts ⊎ unwritten (DefinesValue None) ms ts
    → Carries 1 0 ms ts
name_carries ms ts (inl s) = weaker ms ts (new_value_carries ms ts s)
name_carries ms ts (inr s) = unwritten_carries (DefinesValue None) tt ms ts s

type_carries : (kind : IrType) (ms : List Mention) (ts : List Lexeme) → the_type IsScalar kind ms ts
    → Carries 0 1 ms ts
type_carries kind ms ts s = record { room = type_room kind ms ts s; bytes = (silent_carries ms ts s.0).bytes }
  where
    type_room : (kind : IrType) (ms : List Mention) (ts : List Lexeme) → the_type IsScalar kind ms ts
        → length ms + 1 ≤ length ts + 0
    type_room (Int width) ms ts s = omega (arith, ap length s.0, ap length s.1.1.1)
    type_room Ptr ms ts s = omega (arith, ap length s.0, ap length s.1.1)
    type_room Void ms ts s = absurd s.1.0
    type_room (Array dims width) ms ts s = absurd s.1.0

carried_param : (param : Param) → Carried 0 0 (SpellsParam param)
carried_param param =
    let kind : Carried 0 1 (the_type IsScalar param.kind) = record { holds = type_carries param.kind } in
    let name : Carried 1 0 (λ ms ts. (param.value.0 ≡ 0)
    × (defines_value ms ts ⊎ unwritten (DefinesValue None) ms ts)) =
    record { holds = λ ms ts s. name_carries ms ts s.1 } in
    carried_even (kind ⊳ quiet ⊳ name)

-- A function has a token more than mentions.
pub function_carries : (f : Function) (ms : List Mention) (ts : List Lexeme) → SpellsFunction f ms ts
    → Carries 0 1 ms ts
function_carries f ms ts (before, after, _, _, _, _, spelled) =
    (fixed_word ⊳ quiet ⊳ quiet ⊳ quiet ⊳ quiet ⊳ carried_listing SpellsParam carried_param f.params ⊳ quiet ⊳ quiet
    ⊳ quiet ⊳ quiet ⊳ carried_in_order SpellsBlock carried_block f.blocks ⊳ quiet).holds ms ts spelled
