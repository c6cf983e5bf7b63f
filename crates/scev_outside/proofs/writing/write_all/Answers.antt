use Rattle.std.proofs.Common.{arith, length-take, length-drop}
use Rattle.std.proofs.lemmas.Result.{err_from_is_err_and}
use Rattle.scev_outside.proofs.BytesLemmas.{Appended-take-add, AppendedFront-take}
use Rattle.scev_outside.proofs.writing.write_all.Goals as goal

pub returns-in_err-written-clause-front : goal.returns-in_err-written-clause-front
returns-in_err-written-clause-front g c =
    let p = err_from_is_err_and c.from_residual.result c.from_residual.ensures.1 in
    rw p.1
    (AppendedFront-take _ _ _ c.loop-written.written c.args.bytes.now c.loop-written.invariant.appended c.in_err-written.ensures.kept)

pub loop-written-preserved : goal.loop-written-preserved
loop-written-preserved g c = record {
  within = grind (arith, length-take, length-drop, c.in_ok-written.ensures.within, c.loop-written.invariant.within);
  appended = Appended-take-add _ _ _ c.loop-written.written _ c.args.bytes.now c.loop-written.invariant.appended c.in_ok-written.ensures.appended;
  count = omega (arith, c.in_ok-written.ensures.count);
}
