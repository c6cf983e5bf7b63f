use Rattle.std.proofs.Common.{◌≡◌, ℕ, ◌+◌, ◌<◌, Bool, false, List, length, refl, sym, ap, ◌∙◌, subst, arith}
use Rattle.std.proofs.lemmas.Bool.{both_ways}
use Rattle.std.proofs.lemmas.List.{length-replicate}
use Rattle.ir_model.specs.declared.function.Function.{Function}
use Rattle.ir_model.specs.WellMade.{HasIds}
use Rattle.natural_loops.specs.Sides.{IsExit}
use Rattle.natural_loops.specs.Table.{RegionParts, loop_of}
use Rattle.natural_loops.proofs.LatchMarks.{edge_labelled}
use Rattle.natural_loops.proofs.Marking.{AreMarks_skip, AreMarks_more, AreMarks_all}
use Rattle.natural_loops.proofs.ExitMarks.{exit_from, exit_marked, exit_leaves, below_cases}
use Rattle.natural_loops.proofs.exits.exit_marks.Goals as goal
use Rattle.natural_loops.proofs.exits.exit_marks.Goals.{then-holds+then-leaves, else-holds}
use Rattle.natural_loops.proofs.exits.exit_marks.Goals.{else-holds-via-then-holds+else-leaves}
use Rattle.natural_loops.proofs.exits.exit_marks.Goals.{else-holds-via-else-holds}

pub loop-b-preserved : goal.loop-b-preserved
loop-b-preserved c =
    let f : Function = c.args.c.now.function in
    let region : RegionParts = c.args.region.now in
    let size : c.len-b-end.result ≡ length f.labels = c.len-b-end.ensures
    ∙ ap (λ (row : List Bool). length row) c.in_ok-marks.ensures ∙ length-replicate c.len.result false ∙ c.len.ensures
    ∙ ap (λ (g : Function). length g.labels) c.function.ensures.value in
    let n = c.loop-b.b in
    let count : ℕ = length f.labels in
    let P : ℕ → Type 0 = IsExit f (loop_of region) in
    let Seen : ℕ → Type 0 = λ k. k < n in
    let Later : ℕ → Type 0 = λ k. k < n + 1 in
    let marks = c.loop-b.marks in
    let inv = c.loop-b.invariant in
    elim c.if-holds.branch [
      | then-holds+then-leaves w ↦
          let are = w.succs.ensures f w.flow.ensures in
          let exit = exit_from f region n w.succs.result.now are (sym c.holds.ensures ∙ w.if-holds.true)
          (w.leaves.ensures.0 w.if-leaves.true) in
          let within : n < count = omega (arith, c.loop-b-test.true, size) in
          rw (w.marks-is, w.set.ensures)
          (AreMarks_more P count Seen Later marks n (below_cases n) inv within exit)
      | else-holds w ↦
          rw w.marks-is
          (AreMarks_skip P count Seen Later marks n (below_cases n) inv
          (λ exit.
          elim w.else-holds.branch [
            | else-holds-via-then-holds+else-leaves v ↦
                both_ways v.leaves.result v.if-leaves.false
                (v.leaves.ensures.1
                (exit_leaves f region n v.succs.result.now (v.succs.ensures f v.flow.ensures) exit))
            | else-holds-via-else-holds v ↦
                both_ways c.holds.result v.if-holds.false
                (c.holds.ensures ∙ exit_marked f region n _ refl exit)
          ]))
    ]

pub returns : goal.returns
returns c =
    let f : Function = c.args.c.now.function in
    let region : RegionParts = c.args.region.now in
    let ids : HasIds f = subst HasIds c.function.ensures.value c.function.ensures.well_made.ids in
    let P : ℕ → Type 0 = IsExit f (loop_of region) in
    let size : c.len-b-end.result ≡ length f.labels = c.len-b-end.ensures
    ∙ ap (λ (row : List Bool). length row) c.in_ok-marks.ensures ∙ length-replicate c.len.result false ∙ c.len.ensures
    ∙ ap (λ (g : Function). length g.labels) c.function.ensures.value in
    let n = c.loop-b.b in
    let Seen : ℕ → Type 0 = λ k. k < n in
    let all : n ≡ length f.labels = omega (arith, size, c.loop-b-test.false, c.loop-b.auto.b-end) in
    AreMarks_all P (length f.labels) Seen c.loop-b.marks
    (λ b exit. let within : b < length f.labels = edge_labelled f ids b exit.1 exit.2 in omega (arith, within, all))
    c.loop-b.invariant
