use Rattle.std.proofs.Common.{codes, decimal, ◌++◌}
use Rattle.scev_tool.proofs.Adding.{OnErr-from_fact, OnOk-append, OnErr-after, AppendedFront-more, AppendedFront-after}
use Rattle.scev_tool.proofs.message.write_place.Goals as goal

pub returns-in_err-write_all-clause-front : goal.returns-in_err-write_all-clause-front
returns-in_err-write_all-clause-front g c =
    let taken = g.E.Sink.taken in
    OnErr-from_fact c.from_residual.result
    (AppendedFront-more (taken c.args.err.now) (taken c.write_all.new.sink) c.args.before.now
    (decimal c.args.at ++ codes "\n") c.in_err-write_all.ensures.front)

pub returns-in_err-write_all-2-clause-front : goal.returns-in_err-write_all-2-clause-front
returns-in_err-write_all-2-clause-front g c =
    let taken = g.E.Sink.taken in
    let digits = rw (c.as_bytes.ensures.value, c.format.ensures.text) at c.in_err-write_all-2.ensures.front in
    OnErr-from_fact c.from_residual-in_err-write_all-2.result
    (AppendedFront-after (taken c.args.err.now) (taken c.write_all.new.sink) (taken c.write_all-2.new.sink)
    c.args.before.now (decimal c.args.at ++ codes "\n") c.in_ok-write_all.ensures.whole
    (AppendedFront-more (taken c.write_all.new.sink) (taken c.write_all-2.new.sink) (decimal c.args.at) (codes "\n")
    digits))

pub returns-clause-whole : goal.returns-clause-whole
returns-clause-whole g c =
    let taken = g.E.Sink.taken in
    let digits = rw (c.as_bytes.ensures.value, c.format.ensures.text) at c.in_ok-write_all-2.ensures.whole in
    OnOk-append c.write_all-3.result (taken c.args.err.now) (taken c.write_all.new.sink) (taken c.write_all-3.new.sink)
    c.args.before.now (decimal c.args.at ++ codes "\n") c.in_ok-write_all.ensures.whole
    (OnOk-append c.write_all-3.result (taken c.write_all.new.sink) (taken c.write_all-2.new.sink)
    (taken c.write_all-3.new.sink) (decimal c.args.at) (codes "\n") digits c.write_all-3.ensures.whole)

pub returns-clause-front : goal.returns-clause-front
returns-clause-front g c =
    let taken = g.E.Sink.taken in
    let digits = rw (c.as_bytes.ensures.value, c.format.ensures.text) at c.in_ok-write_all-2.ensures.whole in
    OnErr-after c.write_all-3.result (taken c.args.err.now) (taken c.write_all.new.sink) (taken c.write_all-3.new.sink)
    c.args.before.now (decimal c.args.at ++ codes "\n") c.in_ok-write_all.ensures.whole
    (OnErr-after c.write_all-3.result (taken c.write_all.new.sink) (taken c.write_all-2.new.sink)
    (taken c.write_all-3.new.sink) (decimal c.args.at) (codes "\n") digits c.write_all-3.ensures.front)
