use Rattle.std.proofs.Common.{◌≡◌, ℕ, List, map, take, length}
use Rattle.scev_arena.specs.declared.node.Node as declared
use Rattle.scev_forms.specs.Sums as sums
use Rattle.scev_sums.specs.Answers.{AreTreesOfAt, trees_at}
use Rattle.scev_sums.proofs.parts.results_of.Given as goal

abbrev pub invariant-loop-place : goal.invariant-loop-place
invariant-loop-place l = record {
  trees : (nodes : List declared.Node) (w : ℕ) → AreTreesOfAt nodes w l.places → AreTreesOfAt nodes w l.ids.items;
  count : length l.ids.items ≡ l.place-index;
  results : (nodes : List declared.Node) (w : ℕ)
      → trees_at nodes l.ids.items ≡ map (sums.at_place w (trees_at nodes l.places)) (take l.place-index l.results);
}
