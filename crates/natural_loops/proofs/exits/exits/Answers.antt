use Rattle.std.proofs.Common.{◌≡◌, ◌≢◌, ◌↔◌, ◌<◌, ◌⊎◌, ℕ, Bool, List, All, AllPairs, Contains, IfOk, Result, Ok, Err}
use Rattle.std.proofs.Common.{length, get_or, sym, subst}
use Rattle.std.proofs.lemmas.Bool.{both_ways}
use Rattle.std.proofs.lemmas.List.Elements.{All-weaker, Contains-get_or}
use Rattle.scev_base.specs.declared.ids.BlockId.{BlockId}
use Rattle.ir_model.specs.declared.function.Function.{Function}
use Rattle.ir_model.specs.Shapes.{entry}
use Rattle.ir_model.specs.Walks.{Edge}
use Rattle.ir_model.specs.WellMade.{HasIds}
use Rattle.flow_graph.specs.Graph.{IsMarked}
use Rattle.ssa_check.specs.Checked.{Dominates}
use Rattle.loop_regions.specs.Loops.{Loop}
use Rattle.natural_loops.specs.Sides.{IsExit, IsPassedEachTurn, AreExits}
use Rattle.natural_loops.specs.Table.{loop_of}
use Rattle.natural_loops.proofs.Bodies.{entry_is_no_target}
use Rattle.natural_loops.proofs.LatchMarks.{edge_labelled}
use Rattle.natural_loops.proofs.Listing.{in_order_same}
use Rattle.natural_loops.proofs.ExitOrder.{exits_apart, exits_chain, exits_passed, exits_other}
use Rattle.natural_loops.proofs.exits.exits.Goals as goal

-- what follows from three clauses on the value of an answer
all_three : {X E : Type 0} (r : Result X E) (A B C D : X → Type 0) → IfOk r A → IfOk r B → IfOk r C
    → ((x : X) → A x → B x → C x → D x) → IfOk r D
all_three (Ok x) A B C D a b c step = step x a b c
all_three (Err e) A B C D a b c step = a

-- nothing leads to the entry
first : (f g : Function) → g ≡ f → ((a : ℕ) → Edge g a (entry g.blocks) → ⊥) → (a : ℕ) → Edge f a (entry f.blocks) → ⊥
first f g is never = subst (λ (h : Function). (a : ℕ) → Edge h a (entry h.blocks) → ⊥) is never

-- the marked ones are passed each turn
marked_passed : (f : Function) (l : Loop) (marks : List Bool) (blocks found : List BlockId) → found ≡ blocks
    → ((b : ℕ) → IsMarked marks b ↔ IsPassedEachTurn f l b) → All (λ b. IsMarked marks b.0) found
    → All (λ b. IsPassedEachTurn f l b.0) blocks
marked_passed f l marks blocks found are each all =
    subst (λ (xs : List BlockId). All (λ b. IsPassedEachTurn f l b.0) xs) are
    (All-weaker (λ b. IsMarked marks b.0) (λ b. IsPassedEachTurn f l b.0) (λ b marked. (each b.0).0 marked) found all)

passed_marked : (f : Function) (l : Loop) (marks : List Bool) (blocks found : List BlockId) → found ≡ blocks
    → ((b : ℕ) → IsMarked marks b ↔ IsPassedEachTurn f l b) → All (λ b. IsPassedEachTurn f l b.0) blocks
    → All (λ b. IsMarked marks b.0) found
passed_marked f l marks blocks found are each all =
    subst (λ (xs : List BlockId). All (λ b. IsMarked marks b.0) xs) (sym are)
    (All-weaker (λ b. IsPassedEachTurn f l b.0) (λ b. IsMarked marks b.0) (λ b passed. (each b.0).1 passed) blocks all)

pub in_order-requires-clause-labels : goal.in_order-requires-clause-labels
in_order-requires-clause-labels c =
    let f : Function = c.args.c.now.function in
    let l : Loop = loop_of c.args.region.now in
    let exits = c.in_ok-exits.exits in
    let are = in_order_same f (IsMarked c.in_ok-marks.marks) (IsExit f l) exits c.in_ok-marks.ensures
    c.in_ok-exits.ensures in
    let ids : HasIds f = subst HasIds c.function.ensures.value c.function.ensures.well_made.ids in
    let each : All (λ b. b.0 < length f.labels) exits = λ k d within.
    let b = get_or exits k d in
    let exit = (are.each b).0 (Contains-get_or exits k d within) in
    edge_labelled f ids b.0 exit.1 exit.2 in
    subst (λ (xs : List BlockId). All (λ b. b.0 < length f.labels) xs) (sym c.as_slice-then-all_marked.ensures) each

pub in_order-requires-clause-apart : goal.in_order-requires-clause-apart
in_order-requires-clause-apart c =
    let f : Function = c.args.c.now.function in
    let l : Loop = loop_of c.args.region.now in
    let exits = c.in_ok-exits.exits in
    let g : Function = c.function.result.now in
    let never = first f g c.function.ensures.value
    (entry_is_no_target c.args.c.now.signatures g c.function.ensures.accepted) in
    let are = in_order_same f (IsMarked c.in_ok-marks.marks) (IsExit f l) exits c.in_ok-marks.ensures
    c.in_ok-exits.ensures in
    subst (λ (xs : List BlockId). AllPairs (λ a b. a.0 ≢ b.0) xs) (sym c.as_slice-then-all_marked.ensures)
    (exits_apart f never l c.requires.loop_.is_loop exits are)

pub in_order-requires-clause-chain : goal.in_order-requires-clause-chain
in_order-requires-clause-chain c =
    let f : Function = c.args.c.now.function in
    let l : Loop = loop_of c.args.region.now in
    let exits = c.in_ok-exits.exits in
    let g : Function = c.function.result.now in
    let never = first f g c.function.ensures.value
    (entry_is_no_target c.args.c.now.signatures g c.function.ensures.accepted) in
    let are = in_order_same f (IsMarked c.in_ok-marks.marks) (IsExit f l) exits c.in_ok-marks.ensures
    c.in_ok-exits.ensures in
    let all = marked_passed f l c.args.passed.now exits c.as_slice.result.now c.as_slice.ensures c.requires.passed
    (c.all_marked.ensures.0 c.if-all_marked.true) in
    subst (λ (xs : List BlockId). AllPairs (λ a b. Dominates f a.0 b.0 ⊎ Dominates f b.0 a.0) xs)
    (sym c.as_slice-then-all_marked.ensures) (exits_chain f never l c.requires.loop_.is_loop exits are all)

pub returns-then-all_marked : goal.returns-then-all_marked
returns-then-all_marked c =
    let f : Function = c.args.c.now.function in
    let l : Loop = loop_of c.args.region.now in
    let exits = c.in_ok-exits.exits in
    let g : Function = c.function.result.now in
    let never = first f g c.function.ensures.value
    (entry_is_no_target c.args.c.now.signatures g c.function.ensures.accepted) in
    let are = in_order_same f (IsMarked c.in_ok-marks.marks) (IsExit f l) exits c.in_ok-marks.ensures
    c.in_ok-exits.ensures in
    let all = marked_passed f l c.args.passed.now exits c.as_slice.result.now c.as_slice.ensures c.requires.passed
    (c.all_marked.ensures.0 c.if-all_marked.true) in
    let slice = c.as_slice-then-all_marked.ensures in
    all_three c.in_order.result
    (λ found. (b : BlockId) → Contains found b ↔ Contains c.as_slice-then-all_marked.result.now b)
    (λ found. AllPairs (λ a b. a.0 ≢ b.0) found) (λ found. AllPairs (λ a b. Dominates f a.0 b.0) found)
    (λ found. AreExits f l found) c.in_order.ensures.same c.in_order.ensures.apart c.in_order.ensures.ordered
    (λ found same apart ordered.
    exits_passed f never l c.requires.loop_.is_loop exits are all found
    (λ b. subst (λ (xs : List BlockId). Contains found b ↔ Contains xs b) slice (same b)) apart ordered)

pub returns : goal.returns
returns c =
    let f : Function = c.args.c.now.function in
    let l : Loop = loop_of c.args.region.now in
    let exits = c.in_ok-exits.exits in
    let g : Function = c.function.result.now in
    let never = first f g c.function.ensures.value
    (entry_is_no_target c.args.c.now.signatures g c.function.ensures.accepted) in
    let are = in_order_same f (IsMarked c.in_ok-marks.marks) (IsExit f l) exits c.in_ok-marks.ensures
    c.in_ok-exits.ensures in
    exits_other f never l c.requires.loop_.is_loop exits are
    (λ all.
    both_ways c.all_marked.result c.if-all_marked.false
    (c.all_marked.ensures.1
    (passed_marked f l c.args.passed.now exits c.as_slice.result.now c.as_slice.ensures c.requires.passed all)))
