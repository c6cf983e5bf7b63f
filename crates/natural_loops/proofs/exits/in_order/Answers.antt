use Rattle.std.proofs.Common.{◌≡◌, ◌↔◌, ◌≤◌, List, All, Contains, length, get_or, take}
use Rattle.std.proofs.Common.{slice_get, Some, subst}
use Rattle.std.specs.List.{insert}
use Rattle.std.proofs.lemmas.List.{take_all}
use Rattle.scev_base.specs.declared.ids.BlockId.{BlockId as Block}
use Rattle.ir_model.specs.declared.function.Function.{Function}
use Rattle.ssa_check.specs.Checked.{Dominates}
use Rattle.natural_loops.proofs.Ordering.{ordered_insert, apart_insert, same_insert}
use Rattle.natural_loops.proofs.exits.in_order.Goals as goal

pub loop-b-preserved : goal.loop-b-preserved
loop-b-preserved c =
    let f : Function = c.args.c.now.function in
    let blocks = c.args.blocks.now in
    let i = c.loop-b.b-index in
    let d : Block = record { 0 = 0 } in
    let b = get_or blocks i d in
    let found = c.loop-b.found.items in
    let at = c.place-at.result in
    let inv = c.loop-b.invariant in
    let within = c.loop-b-test.true in
    let seen : c.as_slice.result.now ≡ found = c.as_slice.ensures.value in
    let fits : at ≤ length found = subst (λ (xs : List Block). at ≤ length xs) seen c.place-at.ensures.within in
    let none = subst (λ (xs : List Block). All (λ x. Dominates f b.0 x.0 → ⊥) (take at xs)) seen
    c.place-at.ensures.before in
    let first = subst (λ (xs : List Block). (x : Block) → slice_get xs at ≡ Some x → Dominates f b.0 x.0) seen
    c.place-at.ensures.found in
    let is : c.insert.new.self.items ≡ insert found at b = c.in_ok-insert.ensures.items in
    record {
      same = λ x. rw is (same_insert f blocks found i at d within fits inv.same x);
      ordered = rw is
          (ordered_insert f blocks found i at d within fits inv.same c.requires.chain none first inv.ordered);
      apart = rw is (apart_insert f blocks found i at d within fits inv.same c.requires.apart inv.apart);
    }

pub returns-clause-same : goal.returns-clause-same
returns-clause-same c b =
    let all = take_all c.loop-b.b-index c.args.blocks.now c.loop-b-test.false in
    let is : c.from_vec.result ≡ c.loop-b.found.items = c.from_vec.ensures in
    rw is (subst (λ (xs : List Block). Contains c.loop-b.found.items b ↔ Contains xs b) all (c.loop-b.invariant.same b))

pub returns-clause-ordered : goal.returns-clause-ordered
returns-clause-ordered c =
    let is : c.from_vec.result ≡ c.loop-b.found.items = c.from_vec.ensures in
    rw is c.loop-b.invariant.ordered
