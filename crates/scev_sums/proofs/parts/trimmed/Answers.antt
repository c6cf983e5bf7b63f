use Rattle.std.proofs.Common.{◌-◌, ◌≤◌, take, length, sym, ap, ◌∙◌, subst, arith}
use Rattle.std.proofs.lemmas.List.{length-take}
use Rattle.scev_forms.specs.Gather.{trimmed}
use Rattle.scev_sums.specs.Answers.{AreTreesOfAt, trees_at}
use Rattle.scev_sums.proofs.Held.{trees_before, last_tree}
use Rattle.scev_sums.proofs.Trimming.{last_apart, trimmed_once, trimmed_all}
use Rattle.scev_sums.proofs.parts.trimmed.Goals as goal

pub is_zero-requires : goal.is_zero-requires
is_zero-requires c =
    let nodes = c.args.arena.now in
    let w = c.args.w.bits in
    let parts = c.loop-parts.parts in
    let last = c.index.result.now in
    let n = c.len-in-loop-parts.result in
    let apart = last_apart parts.items last parts.len n parts.ok.0 c.len-in-loop-parts.ensures
    (omega arith) c.index.ensures in
    let front = take (parts.len - 1) parts.items in
    (last_tree nodes w front last (subst (AreTreesOfAt nodes w) apart c.loop-parts.invariant.trees)).0

pub loop-parts-preserved : goal.loop-parts-preserved
loop-parts-preserved c =
    let nodes = c.args.arena.now in
    let w = c.args.w.bits in
    let parts = c.loop-parts.parts in
    let last = c.index.result.now in
    let n = c.len-in-loop-parts.result in
    let apart = last_apart parts.items last parts.len n parts.ok.0 c.len-in-loop-parts.ensures
    (omega arith) c.index.ensures in
    let front = take (parts.len - 1) parts.items in
    let left = c.pop.ensures.rest in
    let many : 1 ≤ length front = let e = length-take (parts.len - 1) parts.items in omega arith in
    record {
      trees = subst (AreTreesOfAt nodes w) (sym left)
          (trees_before nodes w front last (subst (AreTreesOfAt nodes w) apart c.loop-parts.invariant.trees));
      same =
          ap (λ l. trimmed (trees_at nodes l)) left
          ∙ trimmed_once nodes front last many (sym c.if-is_zero.ensures)
          ∙ ap (λ l. trimmed (trees_at nodes l)) (sym apart)
          ∙ c.loop-parts.invariant.same;
      some = λ _. subst (λ l. 1 ≤ length l) (sym left) many;
    }

pub returns-else-is_zero-clause-parts : goal.returns-else-is_zero-clause-parts
returns-else-is_zero-clause-parts c =
    let nodes = c.args.arena.now in
    let parts = c.loop-parts.parts in
    let last = c.index.result.now in
    let n = c.len-in-loop-parts.result in
    let apart = last_apart parts.items last parts.len n parts.ok.0 c.len-in-loop-parts.ensures
    (omega arith) c.index.ensures in
    let front = take (parts.len - 1) parts.items in (
      c.loop-parts.invariant.trees,
      ap (trees_at nodes) apart
          ∙ sym (trimmed_all nodes front last (sym c.if-is_zero.ensures))
          ∙ ap (λ l. trimmed (trees_at nodes l)) (sym apart)
          ∙ c.loop-parts.invariant.same,
    )
