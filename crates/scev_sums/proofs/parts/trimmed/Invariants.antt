use Rattle.std.proofs.Common.{◌≡◌, ◌≤◌, length, map, vec_len}
use Rattle.scev_arena.specs.Meaning.{tree_of}
use Rattle.scev_forms.specs.Gather as gather
use Rattle.scev_sums.specs.Answers.{AreTreesOfAt}
use Rattle.scev_sums.proofs.parts.trimmed.Given as goal

abbrev pub invariant-loop-parts : goal.invariant-loop-parts
invariant-loop-parts l = record {
  trees : AreTreesOfAt l.arena l.fn.w.bits l.parts.items;
  same : gather.trimmed (map (tree_of l.arena) l.parts.items)
      ≡ gather.trimmed (map (tree_of l.arena) l.initial.parts.items);
  some : 1 ≤ length l.initial.parts.items → 1 ≤ length l.parts.items;
}

abbrev pub decreases-loop-parts : goal.decreases-loop-parts
decreases-loop-parts l = vec_len l.parts
