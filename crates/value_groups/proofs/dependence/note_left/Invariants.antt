use Rattle.std.proofs.Common.{◌≡◌, ◌++◌, ℕ, List}
use Rattle.value_exprs.specs.View.{number_of_loop}
use Rattle.value_exprs.specs.WellMade.{IsListed}
use Rattle.value_groups.proofs.Leaving.{IsLeftUpTo, height_at}
use Rattle.value_groups.proofs.dependence.note_left.Given as goal

abbrev pub invariant-loop-at : goal.invariant-loop-at
invariant-loop-at l = record {
  listed : IsListed l.view l.at;
  more : (more : List ℕ) × (l.row.items ≡ l.initial.row.items ++ more)
      × IsLeftUpTo l.view l.reading.register.0 (number_of_loop l.reading.place) l.at more;
}

abbrev pub decreases-loop-at : goal.decreases-loop-at
decreases-loop-at l = height_at l.view l.at
