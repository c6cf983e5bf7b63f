use Rattle.std.proofs.Common.{List, sym, ap, ◌∙◌}
use Rattle.scev_tree.specs.Tree.{Tree}
use Rattle.scev_forms.specs.Outcome.{Outcome, Done, next, tested}
use Rattle.scev_forms.specs.Sums.{recurrence}
use Rattle.scev_sums.specs.Answers.{trees_at}
use Rattle.scev_sums.proofs.Growth.{trees_go_on, same_trees_go_on}
use Rattle.scev_sums.proofs.parts.tested_parts.Goals as goal

pub returns-clause-parts : goal.returns-clause-parts
returns-clause-parts c =
    let old = c.args.arena.now in
    let new = c.recurrence.new.arena in
    let w = c.args.w.bits in
    let ids = c.args.parts.items in
    let trees = trees_at old ids in
    let rec = c.in_ok-id.ensures.tree.1
    ∙ ap (λ l. recurrence w c.args.l.0 (trees_at old l)) c.deref.ensures.value in
    let grown = c.recurrence.ensures.grows in
    let after : Outcome Tree → Outcome (List Tree) = λ outcome. next outcome (λ _. Done trees) in (
      trees,
      ap after (ap tested (sym rec) ∙ c.in_ok-tested.ensures.1),
      (trees_go_on old new grown w ids c.requires, same_trees_go_on old new grown w ids c.requires),
    )
