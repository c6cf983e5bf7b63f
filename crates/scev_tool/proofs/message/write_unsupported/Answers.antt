use Rattle.std.proofs.Common.{ℕ, List, codes, decimal, ◌++◌}
use Rattle.std.specs.Prelude.{[], unwrap_or, slice_get}
use Rattle.ir_grammar.specs.Spelled.{left_out}
use Rattle.scev_tool.proofs.Adding.{OnErr-from_fact, OnOk-append, OnErr-after, AppendedFront-more, AppendedFront-after}
use Rattle.scev_tool.proofs.message.write_unsupported.Goals as goal

-- what is left out, and what stands behind it
abbrev name_of : ℕ → List ℕ
name_of word = unwrap_or (slice_get left_out word) []

abbrev placed_at : ℕ → List ℕ
placed_at at = codes " at " ++ (decimal at ++ codes "\n")

pub returns-in_err-write_all-clause-front : goal.returns-in_err-write_all-clause-front
returns-in_err-write_all-clause-front g c =
    let taken = g.E.Sink.taken in
    OnErr-from_fact c.from_residual.result
    (AppendedFront-more (taken c.args.err.now) (taken c.write_all.new.sink) (codes "scev: unsupported ")
    (name_of c.args.word ++ placed_at c.args.at) c.in_err-write_all.ensures.front)

pub returns-in_err-write_all-2-clause-front : goal.returns-in_err-write_all-2-clause-front
returns-in_err-write_all-2-clause-front g c =
    let taken = g.E.Sink.taken in
    let name = rw c.word_text.ensures at c.in_err-write_all-2.ensures.front in
    OnErr-from_fact c.from_residual-in_err-write_all-2.result
    (AppendedFront-after (taken c.args.err.now) (taken c.write_all.new.sink) (taken c.write_all-2.new.sink)
    (codes "scev: unsupported ") (name_of c.args.word ++ placed_at c.args.at) c.in_ok-write_all.ensures.whole
    (AppendedFront-more (taken c.write_all.new.sink) (taken c.write_all-2.new.sink) (name_of c.args.word)
    (placed_at c.args.at) name))

pub returns-clause-whole : goal.returns-clause-whole
returns-clause-whole g c =
    let taken = g.E.Sink.taken in
    let name = rw c.word_text.ensures at c.in_ok-write_all-2.ensures.whole in
    OnOk-append c.write_place.result (taken c.args.err.now) (taken c.write_all.new.sink) (taken c.write_place.new.err)
    (codes "scev: unsupported ") (name_of c.args.word ++ placed_at c.args.at) c.in_ok-write_all.ensures.whole
    (OnOk-append c.write_place.result (taken c.write_all.new.sink) (taken c.write_all-2.new.sink)
    (taken c.write_place.new.err) (name_of c.args.word) (placed_at c.args.at) name c.write_place.ensures.whole)

pub returns-clause-front : goal.returns-clause-front
returns-clause-front g c =
    let taken = g.E.Sink.taken in
    let name = rw c.word_text.ensures at c.in_ok-write_all-2.ensures.whole in
    OnErr-after c.write_place.result (taken c.args.err.now) (taken c.write_all.new.sink) (taken c.write_place.new.err)
    (codes "scev: unsupported ") (name_of c.args.word ++ placed_at c.args.at) c.in_ok-write_all.ensures.whole
    (OnErr-after c.write_place.result (taken c.write_all.new.sink) (taken c.write_all-2.new.sink)
    (taken c.write_place.new.err) (name_of c.args.word) (placed_at c.args.at) name c.write_place.ensures.front)
