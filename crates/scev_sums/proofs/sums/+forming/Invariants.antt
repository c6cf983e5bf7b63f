use Rattle.std.proofs.Common.{◌≡◌, suc, ◌+◌, ◌*◌, length, map, drop}
use Rattle.scev_arena.specs.Meaning.{meanings, terms_at}
use Rattle.scev_forms.specs.Sums as forms
use Rattle.scev_sums.specs.Answers.{trees_at}
use Rattle.scev_sums.specs.Levels.{former}
use Rattle.scev_sums.proofs.Groups.{IsAdding}
use Rattle.scev_sums.proofs.Placing.{IsPlacing}
use Rattle.scev_sums.proofs.Recurrences.{IsMultiplying}
use Rattle.scev_sums.proofs.Turns.{IsTurning}
use Rattle.scev_sums.proofs.sums.+forming.Given as goal

-- A call at the level below begins at the highest rank again; all others go to a lower rank at the same level.
abbrev pub decreases-formed : goal.decreases-formed
decreases-formed l = 16 * l.at.loops

abbrev pub decreases-formed_within : goal.decreases-formed_within
decreases-formed_within l = 16 * l.at.loops + 1

abbrev pub decreases-sum_by : goal.decreases-sum_by
decreases-sum_by l = 16 * l.at.loops + 2

abbrev pub decreases-product_by : goal.decreases-product_by
decreases-product_by l = 16 * l.at.loops + 2

abbrev pub decreases-stepped : goal.decreases-stepped
decreases-stepped l = 16 * l.at.loops + 3

abbrev pub decreases-places_of : goal.decreases-places_of
decreases-places_of l = 16 * l.at.loops + 4

abbrev pub decreases-carried : goal.decreases-carried
decreases-carried l = 16 * l.at.loops + 5

abbrev pub decreases-parts_sum : goal.decreases-parts_sum
decreases-parts_sum l = 16 * l.at.loops + 6

abbrev pub decreases-parts_multiple : goal.decreases-parts_multiple
decreases-parts_multiple l = 16 * l.at.loops + 6

abbrev pub decreases-parts_times : goal.decreases-parts_times
decreases-parts_times l = 16 * l.at.loops + 7

abbrev pub decreases-parts_with : goal.decreases-parts_with
decreases-parts_with l = 16 * l.at.loops + 8

abbrev pub decreases-monomial_parts : goal.decreases-monomial_parts
decreases-monomial_parts l = 16 * l.at.loops + 9

abbrev pub decreases-group_parts : goal.decreases-group_parts
decreases-group_parts l = 16 * l.at.loops + 10

abbrev pub decreases-gather_once : goal.decreases-gather_once
decreases-gather_once l = 16 * l.at.loops + 11

abbrev pub decreases-gathered : goal.decreases-gathered
decreases-gathered l = 16 * l.at.loops + 12

-- What is still to be done of what is there gives the same as the whole.
abbrev pub invariant-places_of-loop-step : goal.invariant-places_of-loop-step
invariant-places_of-loop-step l =
    let form = former l.nest l.at in
    let w = l.at.width.bits in record {
      placing : IsPlacing form w (forms.places_by form w l.steps (trees_at l.fn.arena l.fn.operands.items)) l.fn.arena
          l.arena l.places.items (drop l.step-index l.steps);
      count : length l.places.items ≡ length l.fn.operands.items + l.step-index;
    }

abbrev pub invariant-parts_times-loop-rec : goal.invariant-parts_times-loop-rec
invariant-parts_times-loop-rec l =
    let form = former l.nest l.at in
    let w = l.at.width.bits in
    IsMultiplying form w l.l.0
    (forms.parts_times form w l.l.0 (trees_at l.fn.arena l.fn.first) (map (trees_at l.fn.arena) l.recs))
    l.fn.arena l.arena l.parts.items (drop l.rec-index l.recs)

abbrev pub invariant-group_parts-loop-term : goal.invariant-group_parts-loop-term
invariant-group_parts-loop-term l =
    let form = former l.nest l.at in
    let w = l.at.width.bits in
    IsAdding form w l.l.0 (forms.group_parts form w l.l.0 (terms_at (meanings l.fn.arena) l.fn.group))
    l.fn.arena l.arena l.parts.items (drop l.term-index l.others)

abbrev pub decreases-gathered-loop-terms : goal.decreases-gathered-loop-terms
decreases-gathered-loop-terms l = l.left

abbrev pub invariant-gathered-loop-terms : goal.invariant-gathered-loop-terms
invariant-gathered-loop-terms l =
    IsTurning (former l.nest l.at) l.nest l.at.width.bits
    (forms.gathered (former l.nest l.at) l.nest l.at.width.bits (suc (length l.nest))
    (terms_at (meanings l.fn.arena) l.fn.terms))
    l.fn.arena l.arena l.terms l.left
