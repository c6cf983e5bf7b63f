-- A function is told by what it is without ids, and by its ids in text order: they are put back one after another.
use Rattle.std.proofs.Common.{◌≡◌, List, [], ◌∷◌, ◌++◌, map, Option, Some, None, refl, sym, ap, ◌∙◌, append_assoc}
use Rattle.std.proofs.lemmas.List.{append-nil}
use Rattle.std.specs.List.{flat_map}
use Rattle.scev_base.specs.declared.ids.ValueId.{ValueId}
use Rattle.scev_base.specs.declared.ids.BlockId.{BlockId}
use Rattle.ir_model.specs.declared.op.Operand.{Operand}
use Rattle.ir_model.specs.declared.op.Operand.TheVariants as operand
use Rattle.ir_model.specs.declared.op.TypedOperand.{TypedOperand}
use Rattle.ir_model.specs.declared.op.PhiEntry.{PhiEntry}
use Rattle.ir_model.specs.declared.op.Case.{Case}
use Rattle.ir_model.specs.declared.op.Op.{Op}
use Rattle.ir_model.specs.declared.op.Op.TheVariants.{Binary, Icmp, Cast, Select, Phi, Freeze, Alloca, Load, Store, Gep, Call, Jump, Branch, Switch, Ret, Unreachable}
use Rattle.ir_model.specs.declared.function.Param.{Param}
use Rattle.ir_model.specs.declared.function.Instr.{Instr}
use Rattle.ir_model.specs.declared.function.Block.{Block}
use Rattle.ir_model.specs.declared.function.Function.{Function}
use Rattle.ir_model.specs.Sites.{Site, DefinesValue, UsesValue, DefinesBlock, UsesBlock, UsesGlobal, operand_sites, typed_sites, entry_sites, op_sites, result_sites, instr_sites, block_sites, function_sites}
use Rattle.ir_text.specs.Sites.{bare_operand, bare_typed, bare_entry, bare_case, bare_op, bare_result, bare_instr, bare_block, bare_param}

-- what takes its ids from the front of a list, and the ids that are left
abbrev Refills : Type 0 → Type 0
Refills A = A → List Site → A × List Site

-- the ids of a thing, put back into the thing without them, make the thing
abbrev Restores : {A : Type 0} → Refills A → (A → A) → (A → List Site) → Type 0
Restores {A} refill bare sites = (x : A) (rest : List Site) → refill (bare x) (sites x ++ rest) ≡ (x, rest)

-- ---- lists

abbrev refill_list : {A : Type 0} → Refills A → Refills (List A)
refill_list refill [] ids = ([], ids)
refill_list refill (x ∷ xs) ids =
    let first = refill x ids in
    let others = refill_list refill xs first.1 in
    (first.0 ∷ others.0, others.1)

list_restored : {A : Type 0} (refill : Refills A) (bare : A → A) (sites : A → List Site) → Restores refill bare sites
    → Restores (refill_list refill) (map bare) (flat_map sites)
list_restored refill bare sites each [] rest = refl
list_restored refill bare sites each (x ∷ xs) rest =
    rw (
      append_assoc (sites x) (flat_map sites xs) rest,
      each x (flat_map sites xs ++ rest),
      list_restored refill bare sites each xs rest,
    ) refl

-- ---- operands and what holds them

abbrev refill_operand : Refills Operand
refill_operand (operand.Reg v) (UsesValue id ∷ ids) = (operand.Reg (record { 0 = id }), ids)
refill_operand (operand.Global g) (UsesGlobal id ∷ ids) = (operand.Global id, ids)
refill_operand other ids = (other, ids)

operand_restored : Restores refill_operand bare_operand operand_sites
operand_restored (operand.Reg v) rest = refl
operand_restored (operand.Num n) rest = refl
operand_restored operand.Null rest = refl
operand_restored (operand.Global g) rest = refl
operand_restored operand.Undef rest = refl
operand_restored operand.Poison rest = refl

abbrev refill_typed : Refills TypedOperand
refill_typed typed ids = let value = refill_operand typed.value ids in (record typed { value = value.0 }, value.1)

typed_restored : Restores refill_typed bare_typed typed_sites
typed_restored typed rest = rw (operand_restored typed.value rest) refl

-- the id of a block
abbrev block_id : List Site → BlockId × List Site
block_id (UsesBlock id ∷ ids) = (record { 0 = id }, ids)
block_id (DefinesBlock id ∷ ids) = (record { 0 = id }, ids)
block_id ids = (record { 0 = 0 }, ids)

abbrev refill_entry : Refills PhiEntry
refill_entry entry ids =
    let value = refill_operand entry.value ids in
    let from = block_id value.1 in
    (record { value = value.0; from = from.0 }, from.1)

entry_restored : Restores refill_entry bare_entry entry_sites
entry_restored entry rest =
    rw (
      append_assoc (operand_sites entry.value) (UsesBlock entry.from.0 ∷ []) rest,
      operand_restored entry.value (UsesBlock entry.from.0 ∷ rest),
    ) refl

abbrev refill_case : Refills Case
refill_case c ids = let to = block_id ids in (record c { to = to.0 }, to.1)

abbrev case_site : Case → List Site
case_site c = UsesBlock c.to.0 ∷ []

case_restored : Restores refill_case bare_case case_site
case_restored c rest = refl

case_sites : (cases : List Case) → map (λ (c : Case). UsesBlock c.to.0) cases ≡ flat_map case_site cases
case_sites [] = refl
case_sites (c ∷ cases) = ap (λ (ids : List Site). UsesBlock c.to.0 ∷ ids) (case_sites cases)

-- ---- operations

abbrev refill_op : Refills Op
refill_op (Binary op nuw nsw exact disjoint kind left right) ids =
    let l = refill_operand left ids in
    let r = refill_operand right l.1 in
    (Binary op nuw nsw exact disjoint kind l.0 r.0, r.1)
refill_op (Icmp pred kind left right) ids =
    let l = refill_operand left ids in
    let r = refill_operand right l.1 in
    (Icmp pred kind l.0 r.0, r.1)
refill_op (Cast op nneg from value to) ids = let v = refill_operand value ids in (Cast op nneg from v.0 to, v.1)
refill_op (Select cond left right) ids =
    let c = refill_operand cond ids in
    let l = refill_typed left c.1 in
    let r = refill_typed right l.1 in
    (Select c.0 l.0 r.0, r.1)
refill_op (Phi kind entries) ids = let es = refill_list refill_entry entries ids in (Phi kind es.0, es.1)
refill_op (Freeze kind value) ids = let v = refill_operand value ids in (Freeze kind v.0, v.1)
refill_op (Alloca kind) ids = (Alloca kind, ids)
refill_op (Load kind from) ids = let f = refill_operand from ids in (Load kind f.0, f.1)
refill_op (Store kind value to) ids =
    let v = refill_operand value ids in
    let t = refill_operand to v.1 in
    (Store kind v.0 t.0, t.1)
refill_op (Gep inbounds kind base indices) ids =
    let b = refill_operand base ids in
    let is = refill_list refill_typed indices b.1 in
    (Gep inbounds kind b.0 is.0, is.1)
refill_op (Call ret callee args) ids =
    let found = refill_list refill_typed args ids in
    (Call ret callee found.0, found.1)
refill_op (Jump to) ids = let t = block_id ids in (Jump t.0, t.1)
refill_op (Branch cond there other) ids =
    let c = refill_operand cond ids in
    let t = block_id c.1 in
    let o = block_id t.1 in
    (Branch c.0 t.0 o.0, o.1)
refill_op (Switch kind value other cases) ids =
    let v = refill_operand value ids in
    let o = block_id v.1 in
    let cs = refill_list refill_case cases o.1 in
    (Switch kind v.0 o.0 cs.0, cs.1)
refill_op (Ret None) ids = (Ret None, ids)
refill_op (Ret (Some typed)) ids = let v = refill_typed typed ids in (Ret (Some v.0), v.1)
refill_op Unreachable ids = (Unreachable, ids)

op_restored : Restores refill_op bare_op op_sites
op_restored (Binary op nuw nsw exact disjoint kind left right) rest =
    rw (
      append_assoc (operand_sites left) (operand_sites right) rest,
      operand_restored left (operand_sites right ++ rest),
      operand_restored right rest,
    ) refl
op_restored (Icmp pred kind left right) rest =
    rw (
      append_assoc (operand_sites left) (operand_sites right) rest,
      operand_restored left (operand_sites right ++ rest),
      operand_restored right rest,
    ) refl
op_restored (Cast op nneg from value to) rest = rw (operand_restored value rest) refl
op_restored (Select cond left right) rest =
    rw (
      append_assoc (operand_sites cond) (typed_sites left ++ typed_sites right) rest,
      append_assoc (typed_sites left) (typed_sites right) rest,
      operand_restored cond (typed_sites left ++ (typed_sites right ++ rest)),
      operand_restored left.value (typed_sites right ++ rest),
      operand_restored right.value rest,
    ) refl
op_restored (Phi kind entries) rest = rw (list_restored refill_entry bare_entry entry_sites entry_restored entries rest)
    refl
op_restored (Freeze kind value) rest = rw (operand_restored value rest) refl
op_restored (Alloca kind) rest = refl
op_restored (Load kind from) rest = rw (operand_restored from rest) refl
op_restored (Store kind value to) rest =
    rw (
      append_assoc (operand_sites value) (operand_sites to) rest,
      operand_restored value (operand_sites to ++ rest),
      operand_restored to rest,
    ) refl
op_restored (Gep inbounds kind base indices) rest =
    rw (
      append_assoc (operand_sites base) (flat_map typed_sites indices) rest,
      operand_restored base (flat_map typed_sites indices ++ rest),
      list_restored refill_typed bare_typed typed_sites typed_restored indices rest,
    ) refl
op_restored (Call ret callee args) rest =
    rw (list_restored refill_typed bare_typed typed_sites typed_restored args rest) refl
op_restored (Jump to) rest = refl
op_restored (Branch cond there other) rest =
    rw (
      append_assoc (operand_sites cond) (UsesBlock there.0 ∷ UsesBlock other.0 ∷ []) rest,
      operand_restored cond (UsesBlock there.0 ∷ UsesBlock other.0 ∷ rest),
    ) refl
op_restored (Switch kind value other cases) rest =
    rw (
      case_sites cases,
      append_assoc (operand_sites value) (UsesBlock other.0 ∷ flat_map case_site cases) rest,
      operand_restored value (UsesBlock other.0 ∷ (flat_map case_site cases ++ rest)),
      list_restored refill_case bare_case case_site case_restored cases rest,
    ) refl
op_restored (Ret None) rest = refl
op_restored (Ret (Some typed)) rest = rw (operand_restored typed.value rest) refl
op_restored Unreachable rest = refl

-- ---- instructions, blocks, parameters

abbrev value_id : List Site → ValueId × List Site
value_id (DefinesValue id ∷ ids) = (record { 0 = id }, ids)
value_id ids = (record { 0 = 0 }, ids)

abbrev refill_result : Refills (Option ValueId)
refill_result None ids = (None, ids)
refill_result (Some v) ids = let id = value_id ids in (Some id.0, id.1)

result_restored : Restores refill_result bare_result result_sites
result_restored None rest = refl
result_restored (Some v) rest = refl

abbrev refill_instr : Refills Instr
refill_instr instr ids =
    let result = refill_result instr.result ids in
    let op = refill_op instr.op result.1 in
    (record instr { result = result.0; op = op.0 }, op.1)

instr_restored : Restores refill_instr bare_instr instr_sites
instr_restored instr rest =
    rw (
      append_assoc (result_sites instr.result) (op_sites instr.op) rest,
      result_restored instr.result (op_sites instr.op ++ rest),
      op_restored instr.op rest,
    ) refl

abbrev refill_block : Refills Block
refill_block block ids =
    let id = block_id ids in
    let instrs = refill_list refill_instr block.instrs id.1 in
    (record { id = id.0; instrs = instrs.0 }, instrs.1)

block_restored : Restores refill_block bare_block block_sites
block_restored block rest =
    rw (list_restored refill_instr bare_instr instr_sites instr_restored block.instrs rest) refl

abbrev refill_param : Refills Param
refill_param param ids = let id = value_id ids in (record param { value = id.0 }, id.1)

abbrev param_site : Param → List Site
param_site param = DefinesValue param.value.0 ∷ []

param_restored : Restores refill_param bare_param param_site
param_restored param rest = refl

param_sites : (params : List Param) → map (λ (p : Param). DefinesValue p.value.0) params ≡ flat_map param_site params
param_sites [] = refl
param_sites (p ∷ params) = ap (λ (ids : List Site). DefinesValue p.value.0 ∷ ids) (param_sites params)

-- ---- functions

-- parameters and blocks
abbrev refill_body : Refills (List Param × List Block)
refill_body body ids =
    let params = refill_list refill_param body.0 ids in
    let blocks = refill_list refill_block body.1 params.1 in
    ((params.0, blocks.0), blocks.1)

body_restored : (f : Function) → refill_body (map bare_param f.params, map bare_block f.blocks) (function_sites f)
    ≡ ((f.params, f.blocks), [])
body_restored f =
    let blocks : List Site = flat_map block_sites f.blocks in
    let none : blocks ++ [] ≡ blocks = append-nil blocks in
    rw (
      param_sites f.params,
      sym none,
      list_restored refill_param bare_param param_site param_restored f.params (flat_map block_sites f.blocks ++ []),
      list_restored refill_block bare_block block_sites block_restored f.blocks [],
    ) refl

-- Functions with the same parameters and blocks without ids, and with the same ids, have the same parameters and
-- blocks.
pub same_body : (f g : Function) → map bare_param f.params ≡ map bare_param g.params
    → map bare_block f.blocks ≡ map bare_block g.blocks → function_sites f ≡ function_sites g
    → (f.params ≡ g.params) × (f.blocks ≡ g.blocks)
same_body f g params blocks ids =
    let both : ((f.params, f.blocks), []) ≡ ((g.params, g.blocks), []) =
    sym (body_restored f) ∙ (ap (λ (ps : List Param). refill_body (ps, map bare_block f.blocks) (function_sites f))
    params
    ∙ (ap (λ (bs : List Block). refill_body (map bare_param g.params, bs) (function_sites f)) blocks
    ∙ (ap (refill_body (map bare_param g.params, map bare_block g.blocks)) ids ∙ body_restored g))) in (
      ap (λ (b : (List Param × List Block) × List Site). b.0.0) both,
      ap (λ (b : (List Param × List Block) × List Site). b.0.1) both,
    )
