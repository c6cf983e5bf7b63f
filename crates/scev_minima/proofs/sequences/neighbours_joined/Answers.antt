use Rattle.std.proofs.Common.{◌≡◌, ◌+◌, ◌-◌, ◌<◌, length, drop, sym, ap, ap₂, subst, ◌∙◌, arith}
use Rattle.std.proofs.lemmas.List.{at_drop_more}
use Rattle.scev_forms.specs.Atoms.{number_of}
use Rattle.scev_forms.specs.Minima as forms
use Rattle.scev_sums.specs.Answers.{AreTreesOfAt, trees_at}
use Rattle.scev_sums.proofs.Growth.{goes_on_again, wide_goes_on, same_tree_goes_on}
use Rattle.scev_sums.proofs.Held.{tree_among}
use Rattle.scev_sums.proofs.Reading.{id_at}
use Rattle.scev_minima.proofs.Backwards.{turned, trees_turned, turned_held}
use Rattle.scev_minima.proofs.sequences.neighbours_joined.Goals as goal

pub put_before-requires-clause-tree : goal.put_before-requires-clause-tree
put_before-requires-clause-tree c =
    let w = c.args.w.bits in
    let at = c.loop-i.i - 1 in
    let ids = c.args.ids.now in
    let within : at < length ids = let end = c.loop-i.auto.i in let some = c.loop-i-test.true in omega arith in
    wide_goes_on c.args.arena.now c.loop-i.arena c.loop-i.invariant.grows w (id_at ids at)
    (tree_among c.args.arena.now w ids at (record { 0 = 0 }) c.requires within)

pub loop-i-preserved : goal.loop-i-preserved
loop-i-preserved c =
    let first = c.args.arena.now in
    let old = c.loop-i.arena in
    let new = c.put_before.new.arena in
    let w = c.args.w.bits in
    let ids = c.args.ids.now in
    let i = c.loop-i.i in
    let at = i - 1 in
    let id = id_at ids at in
    let before = c.loop-i.invariant in
    let end = c.loop-i.auto.i in
    let some = c.loop-i-test.true in
    let within : at < length ids = omega arith in
    let next : i ≡ at + 1 = omega arith in
    let held = tree_among first w ids at (record { 0 = 0 }) c.requires within in
    let same = same_tree_goes_on first old before.grows id held.0 in
    record {
      grows = goes_on_again first old new before.grows c.in_ok-put_before.ensures.grows;
      trees = c.in_ok-put_before.ensures.trees;
      parts =
          c.in_ok-put_before.ensures.parts
          ∙ ap₂ (λ tree trees. forms.tree_before w tree (number_of tree) trees) same
          (before.parts ∙ ap (λ k. forms.neighbours_joined w (trees_at first (drop k ids))) next)
          ∙ sym (at_drop_more (λ l. forms.neighbours_joined w (trees_at first l)) ids at (record { 0 = 0 }) within);
    }

pub returns-clause-parts : goal.returns-clause-parts
returns-clause-parts c =
    let first = c.args.arena.now in
    let new = c.loop-i.arena in
    let w = c.args.w.bits in
    let found = c.loop-i.found.items in
    let before = c.loop-i.invariant in
    let is = c.reverse.ensures.items ∙ sym (turned found) in
    let none : c.loop-i.i ≡ 0 = let past = c.loop-i-test.false in omega arith in (
      subst (AreTreesOfAt new w) (sym is) (turned_held new w found before.trees),
      ap (trees_at new) is
          ∙ trees_turned new found
          ∙ before.parts
          ∙ ap (λ k. forms.neighbours_joined w (trees_at first (drop k c.args.ids.now))) none,
    )
