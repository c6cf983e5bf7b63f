use Rattle.std.proofs.Common.{◌==◌, ◌&&◌, ◌+◌, ℕ, Bool, false, List, cond, get_or, sym, ap}
use Rattle.std.proofs.Common.{◌∙◌, arith}
use Rattle.value_groups.proofs.Counting.{phis_more, phis_most, length_none, AreCountedBelow_none, AreCountedBelow_more}
use Rattle.value_groups.proofs.counts.numbered.Goals as goal

pub loop-v-init : goal.loop-v-init
loop-v-init c =
    let turns : List Bool = c.args.turns.now in
    let components : List ℕ = c.args.components.now in
    record {
      places = rw c.new-places.ensures.items (AreCountedBelow_none turns components);
      counts = λ k. rw (c.requires.none k) (sym (length_none turns components k));
    }

pub note-requires-clause-small : goal.note-requires-clause-small
note-requires-clause-small c =
    let turns : List Bool = c.args.turns.now in
    let components : List ℕ = c.args.components.now in
    let component : ℕ = get_or components c.loop-v.v 0 in
    let is = c.counted-count.ensures ∙ c.loop-v.invariant.counts component in
    omega (arith, is, phis_most turns components component c.loop-v.v)

pub loop-v-preserved : goal.loop-v-preserved
loop-v-preserved c =
    let turns : List Bool = c.args.turns.now in
    let components : List ℕ = c.args.components.now in
    let v : ℕ = c.loop-v.v in
    let component : ℕ = get_or components v 0 in
    record {
      places = rw c.in_ok-push.ensures.items
          (AreCountedBelow_more turns components c.loop-v.places.items v c.counted-count.result
          (c.counted-count.ensures ∙ c.loop-v.invariant.counts component) c.loop-v.invariant.places);
      counts = λ k. c.in_ok-note.ensures k
          ∙ (ap (λ (n : ℕ). n + cond (get_or turns v false && (component == k)) 1 0) (c.loop-v.invariant.counts k)
          ∙ sym (phis_more turns components k v));
    }
