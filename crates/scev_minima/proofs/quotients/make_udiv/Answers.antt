use Rattle.std.proofs.Common.{◌≡◌, rules, ◌/◌, Some, Ok, refl, sym, ap, ◌∙◌, subst, arith}
use Rattle.scev_tree.specs.Tree.{width_of, constant}
use Rattle.scev_arena.specs.Meaning.{tree_of}
use Rattle.scev_forms.specs.Atoms.{number_of}
use Rattle.scev_forms.specs.Quotients.{tree_quotient}
use Rattle.scev_sums.specs.Answers.{IsAt, Tells}
use Rattle.scev_sums.proofs.Telling.{told_same}
use Rattle.scev_minima.proofs.Divided.{by_no_number, of_numbers, by_zero, by_one, by_many}
use Rattle.scev_minima.proofs.Valued.{quotient_told}
use Rattle.scev_minima.proofs.quotients.make_udiv.Goals as goal

pub returns-in_default-None-clause-tree : goal.returns-in_default-None-clause-tree
returns-in_default-None-clause-tree c =
    let nodes = c.args.arena.now in
    let new = c.quotient_atom.new.arena in
    let left = tree_of nodes c.args.left in
    let right = tree_of nodes c.args.right in
    let w = c.width-w.result.bits in
    let none = sym c.number_of-2.ensures ∙ c.in_default-None.is-1 in
    subst (λ w. Tells (IsAt new w) (tree_quotient w left right) c.quotient_atom.result) c.width-w.ensures.width
    (told_same (IsAt new w) _ _ c.quotient_atom.result (by_no_number w left right none) c.quotient_atom.ensures.tree)

pub returns-in_default-None-clause-value : goal.returns-in_default-None-clause-value
returns-in_default-None-clause-value c =
    let nodes = c.args.arena.now in
    quotient_told nodes c.width-w.ensures.arena (width_of (tree_of nodes c.args.left)) c.args.left c.args.right
    (c.requires.left, refl) (c.requires.right, c.requires.width) c.quotient_atom.new.arena c.quotient_atom.result
    (returns-in_default-None-clause-tree c)

pub returns-in_ok-constant-in-Some-clause-tree : goal.returns-in_ok-constant-in-Some-clause-tree
returns-in_ok-constant-in-Some-clause-tree c =
    let nodes = c.args.arena.now in
    let new = c.constant.new.arena in
    let left = tree_of nodes c.args.left in
    let right = tree_of nodes c.args.right in
    let w = width_of left in
    let m = c.in-Some-Some.m in
    let n = c.in-Some-Some.n in
    let formed = of_numbers w left right n (sym c.in-Some-Some.ensures) m (sym c.in-Some-Some.ensures')
    c.in-Some.ensures.0 in
    let told = subst (λ v. IsAt new v c.in_ok-constant-in-Some.field-0 (constant v c.in-Some.quotient))
    c.width-w.ensures.width c.in_ok-constant-in-Some.ensures.tree in
    (constant w (m / n), formed, (told.0, told.1 ∙ ap (constant w) c.in-Some.ensures.1))

pub returns-in_ok-constant-in-Some-clause-value : goal.returns-in_ok-constant-in-Some-clause-value
returns-in_ok-constant-in-Some-clause-value c =
    let nodes = c.args.arena.now in
    quotient_told nodes c.width-w.ensures.arena (width_of (tree_of nodes c.args.left)) c.args.left c.args.right
    (c.requires.left, refl) (c.requires.right, c.requires.width) c.constant.new.arena
    (Ok c.in_ok-constant-in-Some.field-0) (returns-in_ok-constant-in-Some-clause-tree c)

pub returns-in-None-clause-tree : goal.returns-in-None-clause-tree
returns-in-None-clause-tree c =
    let nodes = c.args.arena.now in
    let new = c.quotient_atom-in-None.new.arena in
    let result = c.quotient_atom-in-None.result in
    let left = tree_of nodes c.args.left in
    let right = tree_of nodes c.args.right in
    let w = c.width-w.result.bits in
    let m = c.in-Some-Some.m in
    let n = c.in-Some-Some.n in
    let none : n ≡ 0 = let never = c.in-None.ensures in omega arith in
    subst (λ w. Tells (IsAt new w) (tree_quotient w left right) result) c.width-w.ensures.width
    (told_same (IsAt new w) _ _ result
    (by_zero w left right n (sym c.in-Some-Some.ensures) m (sym c.in-Some-Some.ensures') none)
    c.quotient_atom-in-None.ensures.tree)

pub returns-in-None-Some-eq1-clause-tree : goal.returns-in-None-Some-eq1-clause-tree
returns-in-None-Some-eq1-clause-tree c =
    let nodes = c.args.arena.now in
    let left = tree_of nodes c.args.left in
    let right = tree_of nodes c.args.right in
    let one : number_of right ≡ Some 1 = search rules in
    let formed = by_one (width_of left) left right 1 one (sym c.in-None-Some-eq1.ensures') refl in
    (left, formed, ((c.requires.left, refl), refl))

pub returns-in-None-Some-clause-tree : goal.returns-in-None-Some-clause-tree
returns-in-None-Some-clause-tree c =
    let nodes = c.args.arena.now in
    let new = c.by_number.new.arena in
    let left = tree_of nodes c.args.left in
    let right = tree_of nodes c.args.right in
    let w = c.width-w.result.bits in
    let n = c.in-None-Some.n in
    subst (λ w. Tells (IsAt new w) (tree_quotient w left right) c.by_number.result) c.width-w.ensures.width
    (told_same (IsAt new w) _ _ c.by_number.result
    (by_many w left right n (sym c.in-None-Some.ensures) (sym c.in-None-Some.ensures') c.in-None-Some.n-test.1)
    c.by_number.ensures.tree)

pub returns-in-None-Some-clause-value : goal.returns-in-None-Some-clause-value
returns-in-None-Some-clause-value c =
    let nodes = c.args.arena.now in
    quotient_told nodes c.width-w.ensures.arena (width_of (tree_of nodes c.args.left)) c.args.left c.args.right
    (c.requires.left, refl) (c.requires.right, c.requires.width) c.by_number.new.arena c.by_number.result
    (returns-in-None-Some-clause-tree c)
