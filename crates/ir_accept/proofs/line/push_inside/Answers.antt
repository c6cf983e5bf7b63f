use Rattle.std.proofs.Common.{sym}
use Rattle.ir_accept.proofs.FunctionLists.{ids_of}
use Rattle.ir_accept.proofs.line.push_inside.Goals as goal

pub push_within-requires : goal.push_within-requires
push_within-requires c = record {
  ids = ids_of c.args.m.now c.args.fault.function.0 c.in-Some.f.now c.requires.ids (sym c.in-Some.ensures);
}
