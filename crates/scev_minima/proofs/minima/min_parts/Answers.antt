use Rattle.std.proofs.Common.{◌≡◌, false, ◌==◌, [], IfOk, vec_len, sym, ap, ◌∙◌, subst, arith}
use Rattle.std.proofs.lemmas.Bool.{false≢true}
use Rattle.std.proofs.lemmas.Bool.Decides.{Decides-eqb}
use Rattle.scev_tree.specs.Tree as tree
use Rattle.scev_forms.specs.Minima as forms
use Rattle.scev_sums.specs.Answers.{AreTreesOfAt, AreAt, trees_at}
use Rattle.scev_sums.proofs.Growth.{trees_go_on, same_trees_go_on}
use Rattle.scev_minima.specs.Kinds.{kind_of}
use Rattle.scev_minima.proofs.MinParts.{with_constant, some_trees}
use Rattle.scev_minima.proofs.minima.min_parts.Goals as goal
use Rattle.scev_minima.proofs.minima.min_parts.Goals.{After-deref, then-is_empty, else-is_empty}
use Rattle.scev_minima.proofs.minima.min_parts.Goals.{else-n-neutral-via-else-n-neutral}
use Rattle.scev_minima.proofs.minima.min_parts.Goals.{else-n-neutral-via-then-n-neutral+else-n-absorbing}
use Rattle.scev_minima.proofs.minima.min_parts.Goals.{
  else-n-neutral-via-then-n-neutral+then-n-absorbing+else-not-is_empty,
}

pub with_tree-requires-clause-trees : goal.with_tree-requires-clause-trees
with_tree-requires-clause-trees c =
    subst (AreTreesOfAt c.constant.new.arena c.args.w.bits) (sym c.deref.ensures.value)
    (trees_go_on c.args.arena.now c.constant.new.arena c.constant.ensures.grows c.args.w.bits c.args.others.items
    c.requires)

-- there are others, and the number is neither the one that is always chosen nor the one that never is
apart : (c : After-deref) → (trees_at c.args.arena.now c.args.others.items ≡ [] → ⊥)
    × (c.in-Some.n ≡ forms.absorbing (kind_of c.args.kind) c.args.w.bits → ⊥)
    × (c.in-Some.n ≡ forms.neutral (kind_of c.args.kind) c.args.w.bits → ⊥)
apart c =
    let others = c.args.others in
    let n = c.in-Some.n in
    elim c.if-is_empty.branch [
      | then-is_empty w ↦ absurd (false≢true (sym c.if-n-absorbing-2.false ∙ w.value-is ∙ w.if-is_empty.true))
      | else-is_empty w ↦
          let filled : false ≡ (vec_len others == 0) = sym w.if-is_empty.false ∙ c.is_empty-2.ensures in
          let all = w.absorbing-else-is_empty in
          let some = some_trees c.args.arena.now others.items
          (λ none. false≢true (filled ∙ (Decides-eqb (vec_len others) 0).1 (omega (arith, none, others.ok.0)))) in
          let not_all = λ (e : n ≡ forms.absorbing (kind_of c.args.kind) c.args.w.bits).
          false≢true (sym c.if-n-absorbing-2.false ∙ w.value-is ∙ (Decides-eqb n all.result).1 (e ∙ sym all.ensures)) in
          elim c.else-n-neutral.branch [
            | else-n-neutral-via-then-n-neutral+then-n-absorbing+else-not-is_empty u ↦
                absurd (false≢true (filled ∙ sym u.is_empty.ensures ∙ u.if-not-is_empty.false))
            | else-n-neutral-via-then-n-neutral+else-n-absorbing u ↦
                absurd (not_all (u.if-n-absorbing.false ∙ u.absorbing.ensures))
            | else-n-neutral-via-else-n-neutral u ↦
                (some, not_all, λ e. u.if-n-neutral.false (e ∙ sym c.neutral.ensures))
          ]
    ]

pub returns-clause-parts : goal.returns-clause-parts
returns-clause-parts c =
    let old = c.args.arena.now in
    let new = c.constant.new.arena in
    let w = c.args.w.bits in
    let k = kind_of c.args.kind in
    let n = c.in-Some.n in
    let others = c.args.others.items in
    let differs = apart (goal.at.returns-clause-parts c).After-deref in
    subst (λ l. IfOk c.with_tree.result (λ ids. AreAt new w ids.items l))
    (
    ap (λ t. forms.with_tree t (trees_at new c.deref.result.now)) c.in_ok-id.ensures.tree.1
    ∙ ap (forms.with_tree (tree.constant w n))
    (ap (trees_at new) c.deref.ensures.value ∙ same_trees_go_on old new c.constant.ensures.grows w others c.requires)
    ∙ sym (with_constant k w n (trees_at old others) differs.0 differs.1 differs.2)
    ∙ sym (ap (λ o. forms.min_parts_of k w o (trees_at old others)) c.in-Some.is)
    )
    c.with_tree.ensures
