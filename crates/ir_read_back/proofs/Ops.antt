-- Every operation is printed as the same one, with its numbers as they are printed.
use Rattle.std.proofs.Common.{ℕ, List, Some, None}
use Rattle.ir_model.specs.declared.op.Op.{Op}
use Rattle.ir_model.specs.declared.op.Op.TheVariants.{Binary, Icmp, Cast, Select, Phi, Freeze, Alloca, Load, Store, Gep, Call, Jump, Branch, Switch, Ret, Unreachable}
use Rattle.ir_model.specs.Sites.{op_sites}
use Rattle.ir_grammar.specs.Printing.{Shown}
use Rattle.ir_read_back.proofs.Named.{Names, AreShown}
use Rattle.ir_read_back.proofs.PlainOps.{OpRewrites, binary_rewrites, icmp_rewrites, cast_rewrites, select_rewrites, phi_rewrites, freeze_rewrites}
use Rattle.ir_read_back.proofs.MemoryOps.{alloca_rewrites, load_rewrites, store_rewrites, gep_rewrites}
use Rattle.ir_read_back.proofs.CallOps.{call_rewrites}
use Rattle.ir_read_back.proofs.ControlOps.{jump_rewrites, branch_rewrites, switch_rewrites, ret_rewrites, ret_none_rewrites, unreachable_rewrites}

pub op_rewrites : (shown : Shown) (names : Names) (op : Op) (words : List (List ℕ))
    → AreShown shown names (op_sites op)
    → OpRewrites shown names op words
op_rewrites shown names (Binary op nuw nsw exact disjoint kind left right) words are =
    binary_rewrites shown names words op nuw nsw exact disjoint kind left right are
op_rewrites shown names (Icmp pred kind left right) words are =
    icmp_rewrites shown names words pred kind left right are
op_rewrites shown names (Cast op nneg from value to) words are =
    cast_rewrites shown names words op nneg from value to are
op_rewrites shown names (Select cond left right) words are = select_rewrites shown names words cond left right are
op_rewrites shown names (Phi kind entries) words are = phi_rewrites shown names words kind entries are
op_rewrites shown names (Freeze kind value) words are = freeze_rewrites shown names words kind value are
op_rewrites shown names (Alloca kind) words are = alloca_rewrites shown names words kind
op_rewrites shown names (Load kind from) words are = load_rewrites shown names words kind from are
op_rewrites shown names (Store kind value to) words are = store_rewrites shown names words kind value to are
op_rewrites shown names (Gep inbounds kind base indices) words are =
    gep_rewrites shown names words inbounds kind base indices are
op_rewrites shown names (Call ret callee args) words are = call_rewrites shown names ret callee args words are
op_rewrites shown names (Jump to) words are = jump_rewrites shown names words to are
op_rewrites shown names (Branch cond there other) words are =
    branch_rewrites shown names words cond there other are
op_rewrites shown names (Switch kind value other cases) words are =
    switch_rewrites shown names words kind value other cases are
op_rewrites shown names (Ret None) words are = ret_none_rewrites shown names words
op_rewrites shown names (Ret (Some typed)) words are = ret_rewrites shown names words typed are
op_rewrites shown names Unreachable words are = unreachable_rewrites shown names words
