-- Forms don't look at ids: what is of its form without its ids is so with them.
use Rattle.std.proofs.Common.{◌≡◌, ◌≢◌, List, [], ◌∷◌, map, Option, Some, None, All, refl, sym, ap, ◌∙◌}
use Rattle.std.proofs.lemmas.List.Elements.{All-nil, All-cons, All-head, All-tail, All-weaker}
use Rattle.scev_base.specs.declared.ids.ValueId.{ValueId}
use Rattle.ir_model.specs.declared.op.Case.{Case}
use Rattle.ir_model.specs.declared.op.Op.{Op}
use Rattle.ir_model.specs.declared.op.Op.TheVariants.{Phi, Gep, Call, Switch, Ret}
use Rattle.ir_model.specs.declared.function.Param.{Param}
use Rattle.ir_model.specs.declared.function.Instr.{Instr}
use Rattle.ir_model.specs.declared.function.Block.{Block}
use Rattle.ir_model.specs.declared.function.Function.{Function}
use Rattle.ir_model.specs.Kinds.{IsScalar}
use Rattle.ir_model.specs.Shapes.{is_terminator, MayHaveResult, GivesValue}
use Rattle.ir_model.specs.WellMade.{IsFormed, IsResultOf, IsFormedInstr, AreFormed}
use Rattle.ir_text.specs.Sites.{bare_typed, bare_entry, bare_case, bare_op, bare_result, bare_instr, bare_block, bare_param, bare_function}
use Rattle.ir_read_back.proofs.FormedOps.{IsTyped}
use Rattle.ir_read_back.proofs.FormedFunctions.{IsFormedFunction}

-- ---- lists

all_of_images : {X Y : Type 0} (P : Y → Type 0) (f : X → Y) (xs : List X) → All P (map f xs) → All (λ x. P (f x)) xs
all_of_images P f [] all = All-nil (λ x. P (f x))
all_of_images P f (x ∷ xs) all =
    All-cons (λ y. P (f y)) x xs (All-head P (f x) (map f xs) all)
    (all_of_images P f xs (All-tail P (f x) (map f xs) all))

some_images : {X Y : Type 0} (f : X → Y) (xs : List X) → map f xs ≢ [] → xs ≢ []
some_images f xs some none = some (ap (map f) none)

-- ---- operations

formed_with_ids : (op : Op) → IsFormed (bare_op op) → IsFormed op
formed_with_ids (Phi kind entries) h = (h.0, some_images bare_entry entries h.1)
formed_with_ids (Gep inbounds kind base indices) h = (h.0, all_of_images IsTyped bare_typed indices h.1)
formed_with_ids (Call ret callee args) h = (h.0, all_of_images IsTyped bare_typed args h.1)
formed_with_ids (Switch kind value other cases) h =
    (h.0, all_of_images (λ (c : Case). IsScalar c.kind) bare_case cases h.1)
formed_with_ids (Ret None) h = h
formed_with_ids (Ret (Some typed)) h = h
formed_with_ids _ h = h

ends_with_ids : (op : Op) → is_terminator (bare_op op) ≡ is_terminator op
ends_with_ids (Ret None) = refl
ends_with_ids (Ret (Some typed)) = refl
ends_with_ids _ = refl

may_with_ids : (op : Op) → MayHaveResult (bare_op op) → MayHaveResult op
may_with_ids (Ret None) h = h
may_with_ids (Ret (Some typed)) h = h
may_with_ids _ h = h

gives_without_ids : (op : Op) → GivesValue op → GivesValue (bare_op op)
gives_without_ids (Ret None) h = h
gives_without_ids (Ret (Some typed)) h = h
gives_without_ids _ h = h

-- ---- instructions

result_with_ids : (op : Op) (result : Option ValueId) → IsResultOf (bare_op op) (bare_result result)
    → IsResultOf op result
result_with_ids op None h = λ gives. h (gives_without_ids op gives)
result_with_ids op (Some v) h = may_with_ids op h

instr_with_ids : (instr : Instr) → IsFormedInstr (bare_instr instr) → IsFormedInstr instr
instr_with_ids instr h =
    record { op = formed_with_ids instr.op h.op; result = result_with_ids instr.op instr.result h.result }

instrs_with_ids : (instrs : List Instr) → AreFormed (map bare_instr instrs) → AreFormed instrs
instrs_with_ids [] h = absurd h
instrs_with_ids (last ∷ []) h = (instr_with_ids last h.0, sym (ends_with_ids last.op) ∙ h.1)
instrs_with_ids (instr ∷ next ∷ more) h =
    (instr_with_ids instr h.0, sym (ends_with_ids instr.op) ∙ h.1, instrs_with_ids (next ∷ more) h.2)

-- ---- functions

abbrev IsFormedBlock : Block → Type 0
IsFormedBlock block = AreFormed block.instrs

pub function_with_ids : (f : Function) → IsFormedFunction (bare_function f) → IsFormedFunction f
function_with_ids f h = record {
  ret = h.ret;
  params = all_of_images (λ (p : Param). IsScalar p.kind) bare_param f.params h.params;
  some_block = some_images bare_block f.blocks h.some_block;
  blocks = All-weaker (λ block. IsFormedBlock (bare_block block)) IsFormedBlock
      (λ block formed. instrs_with_ids block.instrs formed) f.blocks
      (all_of_images IsFormedBlock bare_block f.blocks h.blocks);
}
