-- What is answered of a value at a turn, given what is formed.
use Rattle.std.proofs.Common.{◌≡◌, ℕ, Bool, true, false, cond, List, Option, Some, None, Result}
use Rattle.std.proofs.Common.{Ok, Err, refl, sym, ◌∙◌, subst}
use Rattle.scev_base.specs.declared.ids.ExprId.{ExprId}
use Rattle.scev_tree.specs.Tree.{Tree, width_of}
use Rattle.scev_tree.specs.Value.{tree_value}
use Rattle.scev_arena.specs.declared.node.Node.{Node}
use Rattle.scev_arena.specs.Meaning.{tree_of}
use Rattle.scev_arena.specs.Standing.{IsArena, IsTreeAt}
use Rattle.scev_forms.specs.Turns.{at_turn, is_hindered, tree_at_turn}
use Rattle.scev_forms.proofs.TurnValues.{turn_stands}
use Rattle.scev_sums.specs.declared.error.FoldError.{FoldError}
use Rattle.scev_sums.specs.Answers.{Tells, IsAt}
use Rattle.scev_sums.proofs.Making.{canonical_at}
use Rattle.scev_sums.proofs.Refusals.{IsHanded, refused_whole}
use Rattle.scev_fold.specs.Turns.{IsSome, TellsIfAny, HasValueAtTurn}

module _ {A : Type 0} (Is : A → Tree → Type 0) (parents : List (Option ℕ)) (l : ℕ) (count tree : Tree) {b : Bool}
    (test : b ≡ is_hindered parents l count tree) where
  -- nothing is formed where something hinders
  pub none_told : b ≡ true → TellsIfAny Is (at_turn parents l count tree) (Ok None)
  none_told hinders =
      subst (λ x. TellsIfAny Is (cond x None (Some (tree_at_turn parents l count tree))) (Ok None))
      (sym hinders ∙ test) refl

  module _ (clear : b ≡ false) where
    pub found_told : (found : A) → Tells Is (tree_at_turn parents l count tree) (Ok found)
        → TellsIfAny Is (at_turn parents l count tree) (Ok (Some found))
    found_told found told =
        subst (λ x. TellsIfAny Is (cond x None (Some (tree_at_turn parents l count tree))) (Ok (Some found)))
        (sym clear ∙ test) told

    pub refusal_told : {error : FoldError} (result : Result (Option A) FoldError)
        → Tells Is (tree_at_turn parents l count tree) (Err error)
        → IsHanded error result
        → TellsIfAny Is (at_turn parents l count tree) result
    refusal_told result told handed =
        subst (λ x. TellsIfAny Is (cond x None (Some (tree_at_turn parents l count tree))) result)
        (sym clear ∙ test) (refused_whole Is (IsSome Is) refl told handed)

-- what is formed has the value
pub value_found : (old new : List Node) (w : ℕ) (parents : List (Option ℕ)) (l : ℕ) (count id found : ExprId) {b : Bool}
    → IsArena old
    → IsTreeAt old count
    → IsTreeAt old id
    → b ≡ is_hindered parents l (tree_of old count) (tree_of old id)
    → b ≡ false
    → Tells (IsAt new w) (tree_at_turn parents l (tree_of old count) (tree_of old id)) (Ok found)
    → HasValueAtTurn old new l count id found
value_found old new w parents l count id found arena counted there test clear told =
    let tree = canonical_at old (width_of (tree_of old id)) id arena (there, refl) in
    let turns_of = canonical_at old (width_of (tree_of old count)) count arena (counted, refl) in
    λ held turns n time is.
    subst (λ t. tree_value held turns t ≡ Some n) (sym told.2.1)
    ((turn_stands held turns parents l (tree_of old count) (tree_of old id) told.0 tree.1 turns_of.1 (sym test ∙ clear)
    told.1).1 time n is)
