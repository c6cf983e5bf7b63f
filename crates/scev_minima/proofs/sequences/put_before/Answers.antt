use Rattle.std.proofs.Common.{◌≡◌, ◌-◌, min, List, [], ◌∷◌, ◌++◌, take, Result, Ok, Err, OnOk, IfOk}
use Rattle.std.proofs.Common.{sym, ap, ◌∙◌, subst}
use Rattle.scev_base.specs.declared.ids.ExprId.{ExprId}
use Rattle.scev_tree.specs.Tree.{constant}
use Rattle.scev_arena.specs.Meaning.{tree_of}
use Rattle.scev_forms.specs.Atoms.{number_of}
use Rattle.scev_forms.specs.Minima.{tree_before}
use Rattle.scev_sums.specs.Answers.{IsAt, AreTreesOfAt, trees_at}
use Rattle.scev_minima.specs.Sequences.{reversed, first_number}
use Rattle.scev_minima.proofs.Joined.{IsPut, put_no_number, put_before_none, put_joined, same_put}
use Rattle.scev_minima.proofs.sequences.put_before.Goals as goal
use Rattle.scev_minima.proofs.sequences.put_before.Goals.{in-Some+in-Some-number_of+in_ok-before}
use Rattle.scev_minima.proofs.sequences.put_before.Goals.{in-Some+in_default-number_of, in_default}

-- what is put in place, before it is pushed
put : (c : goal.After-push)
    → IsPut c.args.arena.now c.match-last_number.arena c.args.w.bits c.args.id c.args.found.now.items
    (c.match-last_number.found.items ++ c.match-last_number.before ∷ [])
put c =
    let nodes = c.args.arena.now in
    let w = c.args.w.bits in
    let id = c.args.id in
    let ids = c.args.found.now.items in
    let number = ap (λ l. first_number (reversed (trees_at nodes l))) (sym c.deref.ensures.value)
    ∙ sym c.last_number.ensures in
    elim c.match-last_number.branch [
      | in-Some+in-Some-number_of+in_ok-before v ↦
          let n = v.in-Some-number_of.n in
          let m = v.in-Some.m in
          let there : IsAt v.constant.new.arena w v.in_ok-before.before (constant w (min n m)) =
          (v.in_ok-before.ensures.tree.0, v.in_ok-before.ensures.tree.1 ∙ ap (constant w) v.min.ensures) in
          let front = v.pop.ensures.rest ∙ ap (λ k. take (k - 1) ids) c.args.found.now.ok.0 in
          same_put nodes w id ids v.arena-is (ap (λ l. l.items) v.found-is) v.before-is
          (put_joined nodes w id ids c.requires.tree c.requires.trees v.constant.new.arena v.constant.ensures.grows n m
          v.pop.new.self.items v.in_ok-before.before (sym v.number_of.ensures ∙ v.in-Some-number_of.is)
          (number ∙ v.in-Some.is) front there)
      | in-Some+in_default-number_of v ↦
          same_put nodes w id ids v.arena-is (ap (λ l. l.items) v.found-is) v.before-is
          (put_no_number nodes w id ids c.requires.tree c.requires.trees
          (sym v.number_of.ensures ∙ v.in_default-number_of.is))
      | in_default v ↦
          same_put nodes w id ids v.arena-is (ap (λ l. l.items) v.found-is) v.before-is
          (put_before_none nodes w id ids c.requires.tree c.requires.trees c.len.ensures.arena
          (number ∙ v.in_default.is))
    ]

-- what a push that finds memory adds
pushed : {E : Type 0} (result : Result (Unit {0}) E) (P : List ExprId → Type 0) (old new : List ExprId)
    → OnOk result (new ≡ old)
    → P old
    → IfOk result (λ _. P new)
pushed (Ok done) P old new is held = subst P (sym is) held
pushed (Err error) P old new is held = tt

pub returns-clause-trees : goal.returns-clause-trees
returns-clause-trees c =
    pushed c.push.result (AreTreesOfAt c.match-last_number.arena c.args.w.bits)
    (c.match-last_number.found.items ++ c.match-last_number.before ∷ []) c.push.new.places.items c.push.ensures
    (put c).trees

pub returns-clause-parts : goal.returns-clause-parts
returns-clause-parts c =
    let nodes = c.args.arena.now in
    let tree = tree_of nodes c.args.id in
    let others = reversed (trees_at nodes c.args.found.now.items) in
    pushed c.push.result
    (λ ids. reversed (trees_at c.match-last_number.arena ids)
    ≡ tree_before c.args.w.bits tree (number_of tree) others)
    (c.match-last_number.found.items ++ c.match-last_number.before ∷ []) c.push.new.places.items c.push.ensures
    (put c).parts
