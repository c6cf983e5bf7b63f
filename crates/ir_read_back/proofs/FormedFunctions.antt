-- A function that tokens spell is of its form.
use Rattle.std.proofs.Common.{◌≢◌, List, [], ◌∷◌, Option, Some, None, All, inl, inr, refl}
use Rattle.scev_base.specs.declared.ids.ValueId.{ValueId}
use Rattle.ir_model.specs.declared.op.Op.{Op}
use Rattle.ir_model.specs.declared.op.Op.TheVariants.{Call}
use Rattle.ir_model.specs.declared.function.Param.{Param}
use Rattle.ir_model.specs.declared.function.Instr.{Instr}
use Rattle.ir_model.specs.declared.function.Block.{Block}
use Rattle.ir_model.specs.declared.function.Function.{Function}
use Rattle.ir_model.specs.Kinds.{IsScalar, IsReturned}
use Rattle.ir_model.specs.Shapes.{MayHaveResult, GivesValue}
use Rattle.ir_model.specs.WellMade.{IsFormed, IsResultOf, IsFormedInstr, AreFormed}
use Rattle.ir_text.specs.Tokens.{Lexeme}
use Rattle.ir_text.specs.Mentions.{Mention, InOrder}
use Rattle.ir_grammar.specs.Operations.{SpellsOp, Listing}
use Rattle.ir_grammar.specs.Functions.{SpellsResult, SpellsLine, SpellsInstrs, SpellsBlock, SpellsParam, SpellsFunction}
use Rattle.ir_read_back.proofs.Telling.{Tells, first, later, of_kind, in_order_told, listing_told}
use Rattle.ir_read_back.proofs.FormedOps.{formed_op}

-- What a function is whose types and instructions are of their forms.
pub record IsFormedFunction (f : Function) : Type 0 where
  pub ret : IsReturned f.ret
  pub params : All (λ (p : Param). IsScalar p.kind) f.params
  pub some_block : f.blocks ≢ []
  pub blocks : All (λ (block : Block). AreFormed block.instrs) f.blocks

-- ---- instructions

may_have_result : (op : Op) → GivesValue op → MayHaveResult op
may_have_result (Call ret callee args) gives = refl
may_have_result _ gives = gives

formed_result : (op : Op) (result : Option ValueId) (ms : List Mention) (ts : List Lexeme)
    → SpellsResult op result ms ts → IsResultOf op result
formed_result op None ms ts s = s.0
formed_result op (Some v) ms ts (zero, inl (may, s)) = may
formed_result op (Some v) ms ts (zero, inr (gives, s)) = may_have_result op gives

formed_line : (instr : Instr) (ms : List Mention) (ts : List Lexeme) → SpellsLine instr ms ts → IsFormedInstr instr
formed_line instr ms ts s =
    let op : Tells (IsFormed instr.op) (SpellsOp instr.op instr.words) =
    record { holds = formed_op instr.op instr.words } in
    let result : Tells (IsResultOf instr.op instr.result) (SpellsResult instr.op instr.result) =
    record { holds = formed_result instr.op instr.result } in
    record { op = (later (later (first op))).holds ms ts s; result = (later (first result)).holds ms ts s }

formed_instrs : (instrs : List Instr) (ms : List Mention) (ts : List Lexeme) → SpellsInstrs instrs ms ts
    → AreFormed instrs
formed_instrs [] ms ts s = absurd s
formed_instrs (last ∷ []) ms ts (ends, s) = (formed_line last ms ts s, ends)
formed_instrs (instr ∷ next ∷ more) ms ts (goes_on, s) =
    (formed_line instr s.0 s.3.0 s.3.3, goes_on, formed_instrs (next ∷ more) s.1 s.3.1 s.3.4)

-- ---- functions

block_told : (block : Block) → Tells (AreFormed block.instrs) (SpellsBlock block)
block_told block =
    let instrs : Tells (AreFormed block.instrs) (SpellsInstrs block.instrs) =
    record { holds = formed_instrs block.instrs } in
    later instrs

params_told : (params : List Param) → Tells (All (λ (p : Param). IsScalar p.kind) params) (Listing SpellsParam params)
params_told =
    listing_told (λ (p : Param). IsScalar p.kind) SpellsParam (λ p. first (of_kind IsScalar p.kind))

blocks_told : (blocks : List Block)
    → Tells (All (λ (block : Block). AreFormed block.instrs) blocks) (InOrder SpellsBlock blocks)
blocks_told = in_order_told (λ (block : Block). AreFormed block.instrs) SpellsBlock block_told

pub formed_function : (f : Function) (ms : List Mention) (ts : List Lexeme) → SpellsFunction f ms ts
    → IsFormedFunction f
formed_function f ms ts (before, after, words, some_block, values, labels, s) = record {
  ret = (later (later (first (of_kind IsReturned f.ret)))).holds ms ts s;
  params = (later (later (later (later (later (first (params_told f.params))))))).holds ms ts s;
  some_block = some_block;
  blocks = (later (later (later (later (later (later (later (later (later (later (first (blocks_told f.blocks)))))))))))
      ).holds ms ts s;
}
