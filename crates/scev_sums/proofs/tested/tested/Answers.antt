use Rattle.std.proofs.Common.{◌≡◌, Err, refl, sym, ap, ◌∙◌, subst}
use Rattle.scev_tree.specs.Tree.{Tree}
use Rattle.scev_arena.specs.Meaning.{tree_of}
use Rattle.scev_forms.specs.Outcome.{tested, unless}
use Rattle.scev_sums.specs.Answers.{Tells}
use Rattle.scev_sums.proofs.Telling.{told_limit}
use Rattle.scev_sums.proofs.tested.tested.Goals as goal

pub returns-in-None : goal.returns-in-None
unfolding tested
returns-in-None c =
    let tree = tree_of c.args.arena.now c.args.id in
    (tree, ap (λ limit. unless limit tree) (sym c.limit.ensures ∙ c.in-None.is), refl)

pub returns-in-Some : goal.returns-in-Some
unfolding tested
returns-in-Some c =
    let tree = tree_of c.args.arena.now c.args.id in
    let refused = ap (λ limit. unless limit tree) (sym c.limit.ensures ∙ c.in-Some.is) in
    let Is : Unit {0} → Tree → Type 0 = λ _ formed. formed ≡ tree in
    subst (λ error. Tells Is (tested tree) (Err error)) (sym c.of_limit.ensures)
    (told_limit Is (tested tree) c.in-Some.limit refused)
