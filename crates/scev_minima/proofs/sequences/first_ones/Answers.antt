use Rattle.std.proofs.Common.{◌≡◌, ◌+◌, eqb, drop, sym, ap, subst, ◌∙◌}
use Rattle.std.specs.List.{list_any}
use Rattle.scev_arena.specs.Meaning.{tree_of}
use Rattle.scev_forms.specs.Minima.{is_among}
use Rattle.scev_sums.specs.Answers.{AreTreesOfAt, trees_at}
use Rattle.scev_sums.proofs.Reading.{id_at}
use Rattle.scev_sums.proofs.Held.{tree_among, trees_and_last}
use Rattle.scev_minima.specs.Sequences.{reversed}
use Rattle.scev_minima.proofs.FirstOnes.{among_told, ones_with, ones_more, ones_without}
use Rattle.scev_minima.proofs.sequences.first_ones.Goals as goal
use Rattle.scev_minima.proofs.sequences.first_ones.Goals.{then-not-contains+in_ok-push, else-not-contains}

pub loop-id-preserved : goal.loop-id-preserved
loop-id-preserved c =
    let nodes = c.args.arena.now in
    let w = c.args.w.bits in
    let ids = c.args.ids.now in
    let at = c.loop-id.id-index in
    let id = id_at ids at in
    let found = c.loop-id.found.items in
    let before = c.loop-id.invariant in
    let held = tree_among nodes w ids at (record { 0 = 0 }) c.requires c.loop-id-test.true in
    let told : is_among (tree_of nodes id) (reversed (trees_at nodes found)) ≡ c.contains.result =
    among_told nodes c.len.ensures.arena w id held found before.trees
    ∙ ap (list_any (λ x. eqb x.0 id.0)) (sym c.deref.ensures.value)
    ∙ sym c.contains.ensures.value in
    elim c.if-not-contains.branch [
      | then-not-contains+in_ok-push v ↦
          let pushed = ap (λ l. l.items) v.found-is ∙ v.in_ok-push.ensures.items in
          record {
            trees = subst (AreTreesOfAt nodes w) (sym pushed) (trees_and_last nodes w found id before.trees held);
            ones =
                ap (λ l. ones_with nodes l (drop (at + 1) ids)) pushed
                ∙ ones_more nodes found ids at c.loop-id-test.true (told ∙ v.if-not-contains.true)
                ∙ before.ones;
          }
      | else-not-contains v ↦
          let same = ap (λ l. l.items) v.found-is in
          record {
            trees = subst (AreTreesOfAt nodes w) (sym same) before.trees;
            ones =
                ap (λ l. ones_with nodes l (drop (at + 1) ids)) same
                ∙ ones_without nodes found ids at c.loop-id-test.true (told ∙ v.if-not-contains.false)
                ∙ before.ones;
          }
    ]
