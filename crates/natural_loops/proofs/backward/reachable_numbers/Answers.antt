use Rattle.std.proofs.Common.{◌≡◌, ℕ, ◌+◌, List, [], ◌∷◌, ◌++◌, length, Vec, Global, sym, ap, ◌∙◌, subst, arith}
use Rattle.std.proofs.lemmas.Bool.{both_ways}
use Rattle.ir_model.specs.declared.function.Function.{Function}
use Rattle.natural_loops.proofs.Backwards.{AreReachableBelow, AreReachableBelow_none, AreReachableBelow_skip}
use Rattle.natural_loops.proofs.Backwards.{AreReachableBelow_more}
use Rattle.natural_loops.proofs.backward.reachable_numbers.Goals as goal
use Rattle.natural_loops.proofs.backward.reachable_numbers.Goals.{then-reachable+in_ok-push, else-reachable}

pub loop-b-init : goal.loop-b-init
loop-b-init c =
    let f : Function = c.args.c.now.function in
    subst (λ (nodes : List ℕ). AreReachableBelow f 0 nodes) (sym c.new-nodes.ensures.items) (AreReachableBelow_none f)

pub loop-b-preserved : goal.loop-b-preserved
loop-b-preserved c =
    let f : Function = c.args.c.now.function in
    let n = c.loop-b.b in
    let nodes = c.loop-b.nodes.items in
    let reached = c.reachable.ensures f c.flow-flow.ensures in
    let P : List ℕ → Type 0 = λ found. AreReachableBelow f (n + 1) found in
    elim c.if-reachable.branch [
      | then-reachable+in_ok-push w ↦
          let is : c.if-reachable.nodes.items ≡ nodes ++ n ∷ [] = ap (λ (v : Vec ℕ Global). v.items) w.nodes-is
          ∙ w.in_ok-push.ensures.items in
          subst P (sym is) (AreReachableBelow_more f n nodes (reached.0 w.if-reachable.true) c.loop-b.invariant)
      | else-reachable w ↦
          let is : c.if-reachable.nodes.items ≡ nodes = ap (λ (v : Vec ℕ Global). v.items) w.nodes-is in
          subst P (sym is)
          (AreReachableBelow_skip f n nodes
          (λ reachable. both_ways c.reachable.result w.if-reachable.false (reached.1 reachable)) c.loop-b.invariant)
    ]

pub returns : goal.returns
returns c =
    let f : Function = c.args.c.now.function in
    let count : c.len-b-end.result ≡ length f.labels = c.len-b-end.ensures ∙ ap (λ (g : Function). length g.labels)
    c.function.ensures.value in
    let all : c.loop-b.b ≡ length f.labels = omega (arith, count, c.loop-b-test.false, c.loop-b.auto.b-end) in
    subst (λ (n : ℕ). AreReachableBelow f n c.loop-b.nodes.items) all c.loop-b.invariant
