use Rattle.std.proofs.Common.{sym}
use Rattle.ir_eval.proofs.Named.{named_runs, named_wide}
use Rattle.ir_eval.proofs.Fitting.{begun_fit}
use Rattle.ir_eval.proofs.eval.evaluate.Goals as goal

pub begin-requires : goal.begin-requires
begin-requires c =
    rw c.as_slice.ensures
    (named_wide c.args.m.now c.requires.well_made c.requires.accepted _ c.in-Some.f.now (sym c.in-Some.ensures))

pub outcome-requires-clause-runnable : goal.outcome-requires-clause-runnable
outcome-requires-clause-runnable c =
    named_runs c.args.m.now c.requires.well_made c.requires.accepted _ c.in-Some.f.now (sym c.in-Some.ensures)

pub outcome-requires-clause-fit : goal.outcome-requires-clause-fit
outcome-requires-clause-fit c =
    let said = rw c.in-Some-2.is at c.in_ok-args.ensures.some in
    rw (← c.as_slice.ensures) (begun_fit _ _ _ (c.in-Some-2.args.items, _) said).0
