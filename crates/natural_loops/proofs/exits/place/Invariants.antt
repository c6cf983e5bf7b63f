use Rattle.std.proofs.Common.{All, take}
use Rattle.ssa_check.specs.Checked.{Dominates}
use Rattle.natural_loops.proofs.exits.place.Given as goal

abbrev pub invariant-loop-at : goal.invariant-loop-at
invariant-loop-at l = All (λ a. Dominates l.c.function l.b.0 a.0 → ⊥) (take l.at l.blocks)
