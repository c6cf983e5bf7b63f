use Rattle.std.proofs.Common.{◌≡◌, ◌<◌, ◌+◌, ◌++◌, ◌∷◌, ℕ, List, [], length, get_or, take, sym, ap, ◌∙◌, subst, arith}
use Rattle.std.proofs.lemmas.List.{take_all, take_more}
use Rattle.value_view.specs.declared.reading.Reading.{Reading}
use Rattle.value_exprs.specs.View.{View}
use Rattle.value_groups.proofs.Depending.{AreReads, AreReads_none, AreReads_more, blank}
use Rattle.value_groups.proofs.dependence.depends.Goals as goal

pub loop-reading-init : goal.loop-reading-init
loop-reading-init c = rw c.new-row.ensures.items (AreReads_none c.args.view.now)

pub loop-reading-preserved : goal.loop-reading-preserved
loop-reading-preserved c =
    let view : View = c.args.view.now in
    let reads : List Reading = c.args.reads.now in
    let i : ℕ = c.loop-reading.reading-index in
    let reading : Reading = get_or reads i blank in
    let row : List ℕ = c.loop-reading.row.items in
    let more : List ℕ = c.in_ok-note_left.ensures.0 in
    let within : i < length reads = c.loop-reading-test.true in
    let now : c.note_left.new.row.items ≡ (row ++ reading.register.0 ∷ []) ++ more =
    c.in_ok-note_left.ensures.1 ∙ ap (λ (xs : List ℕ). xs ++ more) c.in_ok-push.ensures.items in
    let longer : AreReads view (take i reads ++ reading ∷ []) ((row ++ reading.register.0 ∷ []) ++ more) =
    AreReads_more view (take i reads) reading row more c.loop-reading.invariant c.in_ok-note_left.ensures.2 in
    subst (AreReads view (take (i + 1) reads)) (sym now)
    (subst (λ (read : List Reading). AreReads view read ((row ++ reading.register.0 ∷ []) ++ more))
    (sym (take_more reads i blank within)) longer)

pub returns : goal.returns
returns c =
    let view : View = c.args.view.now in
    let reads : List Reading = c.args.reads.now in
    let row : List ℕ = c.loop-reading.row.items in
    let all : take c.loop-reading.reading-index reads ≡ reads =
    take_all c.loop-reading.reading-index reads (omega arith) in
    subst (AreReads view reads) (sym c.from_vec.ensures)
    (subst (λ (read : List Reading). AreReads view read row) all c.loop-reading.invariant)
