use Rattle.std.proofs.Common.{◌≡◌, ◌<◌, ℕ, false, List, length, get_or, take, sym, ap, ◌∙◌, subst, arith}
use Rattle.std.proofs.lemmas.Bool.{both_ways}
use Rattle.std.proofs.lemmas.List.{take_more, take_all, length-replicate}
use Rattle.std.proofs.lemmas.List.Elements.{Contains-get_or}
use Rattle.scev_base.specs.declared.ids.BlockId.{BlockId}
use Rattle.ir_model.specs.declared.function.Function.{Function}
use Rattle.natural_loops.specs.Backward.{IsBackEdge}
use Rattle.natural_loops.specs.Sides.{AreInTextOrder}
use Rattle.natural_loops.proofs.Finding.{AreFoundBehind, AreFoundBehind_none, AreFoundBehind_skip, AreFoundBehind_more}
use Rattle.natural_loops.proofs.Finding.{AreFoundBehind_all}
use Rattle.natural_loops.proofs.blocks.blocks_of.Goals as goal
use Rattle.natural_loops.proofs.blocks.blocks_of.Goals.{then-not-get+in_ok-collect, else-not-get}

-- a latch of the list
back_edge : (f : Function) (h : ℕ) (latches : List BlockId) (i : ℕ) (d : BlockId)
    → AreInTextOrder f (λ b. IsBackEdge f b h) latches → i < length latches → IsBackEdge f (get_or latches i d).0 h
back_edge f h latches i d are within = (are.each (get_or latches i d)).0 (Contains-get_or latches i d within)

pub set-requires : goal.set-requires
set-requires c =
    let n = length c.args.backward.now in
    let size : length c.in_ok-marks.marks ≡ n = ap length c.in_ok-marks.ensures ∙ length-replicate n false in
    omega (arith, size, c.requires.header, c.requires.backward.size)

pub collect-requires-clause-size : goal.collect-requires-clause-size
collect-requires-clause-size c = c.loop-latch.invariant.size

pub collect-requires-clause-root : goal.collect-requires-clause-root
collect-requires-clause-root c =
    let f : Function = c.args.c.now.function in
    let h = c.args.h.0 in
    let d : BlockId = record { 0 = 0 } in
    let back = back_edge f h c.args.latches.now c.loop-latch.latch-index d c.requires.latches c.loop-latch-test.true in
    c.requires.backward.closed h _ ((c.requires.backward.arcs _ h).1 (back.reachable, back.edge))

pub collect-requires-clause-unmarked : goal.collect-requires-clause-unmarked
collect-requires-clause-unmarked c marked =
    both_ways c.get.result c.if-not-get.true (c.get.ensures ∙ marked)

pub loop-latch-init : goal.loop-latch-init
loop-latch-init c =
    let f : Function = c.args.c.now.function in
    let graph = c.args.backward.now in
    let within : c.args.h.0 < length graph = omega (arith, c.requires.header, c.requires.backward.size) in
    rw (c.set.ensures, c.in_ok-marks.ensures)
    (AreFoundBehind_none f c.args.h.0 graph c.requires.reachable within)

pub loop-latch-preserved : goal.loop-latch-preserved
loop-latch-preserved c =
    let f : Function = c.args.c.now.function in
    let h = c.args.h.0 in
    let graph = c.args.backward.now in
    let latches = c.args.latches.now in
    let i = c.loop-latch.latch-index in
    let d : BlockId = record { 0 = 0 } in
    let latch = get_or latches i d in
    let marks = c.loop-latch.marks in
    rw (take_more latches i d c.loop-latch-test.true)
    (elim c.if-not-get.branch [
      | then-not-get+in_ok-collect w ↦
          let back = back_edge f h latches i d c.requires.latches c.loop-latch-test.true in
          rw w.marks-is
          (AreFoundBehind_more f h graph c.requires.backward (take i latches) marks w.collect.new.marks latch
          w.in_ok-collect.field-0 back w.in_ok-collect.ensures c.loop-latch.invariant)
      | else-not-get w ↦
          rw w.marks-is
          (AreFoundBehind_skip f h graph (take i latches) marks latch (sym c.get.ensures ∙ w.if-not-get.false)
          c.loop-latch.invariant)
    ])

pub returns : goal.returns
returns c =
    let f : Function = c.args.c.now.function in
    let h = c.args.h.0 in
    let graph = c.args.backward.now in
    let latches = c.args.latches.now in
    let marks = c.loop-latch.marks in
    let all : take c.loop-latch.latch-index latches ≡ latches =
    take_all c.loop-latch.latch-index latches c.loop-latch-test.false in
    AreFoundBehind_all f h graph latches marks c.requires.latches
    (subst (λ (blocks : List BlockId). AreFoundBehind f h graph blocks marks) all c.loop-latch.invariant)
