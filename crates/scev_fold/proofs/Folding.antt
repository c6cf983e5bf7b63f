-- How several trees are taken together one after another, over the places of an arena.
use Rattle.std.proofs.Common.{◌≡◌, ℕ, List, [], ◌∷◌, Result, refl, sym, ap, ◌∙◌, subst}
use Rattle.scev_base.specs.declared.ids.ExprId.{ExprId}
use Rattle.scev_tree.specs.declared.kind.Kind.{Kind}
use Rattle.scev_tree.specs.Tree.{Tree}
use Rattle.scev_arena.specs.declared.node.Node.{Node}
use Rattle.scev_arena.specs.Meaning.{tree_of}
use Rattle.scev_forms.specs.Outcome.{Outcome, Done, next}
use Rattle.scev_forms.specs.Minima.{tree_minimum, tree_sequence}
use Rattle.scev_forms.specs.Turns.{minimum_of_all, sequence_of_all}
use Rattle.scev_sums.specs.declared.error.FoldError.{FoldError}
use Rattle.scev_sums.specs.Answers.{GoesOn, IsAt, IsTreeOfAt, Tells, trees_at}
use Rattle.scev_sums.proofs.Growth.{goes_on_again, same_tree_goes_on}
use Rattle.scev_sums.proofs.Refusals.{LeadsOn, led_on}
use Rattle.scev_casts.proofs.Cutting.{IsCutting}

-- A tree is taken together with further ones, from the left.
pub record IsFold (pick : Tree → Tree → Outcome Tree) (fold : Tree → List Tree → Outcome Tree) : Type 0 where
  pub none : (tree : Tree) → fold tree [] ≡ Done tree
  pub more : (tree other : Tree) (trees : List Tree)
      → fold tree (other ∷ trees) ≡ next (pick tree other) (λ found. fold found trees)

pub minimum_folds : (k : Kind) (w : ℕ) → IsFold (tree_minimum k w) (minimum_of_all k w)
unfolding minimum_of_all
minimum_folds k w = record { none = λ tree. refl; more = λ tree other trees. refl }

pub sequence_folds : (w : ℕ) → IsFold (tree_sequence w) (sequence_of_all w)
unfolding sequence_of_all
sequence_folds w = record { none = λ tree. refl; more = λ tree other trees. refl }

-- what is told of one width is told of one that is the same
pub told_wide : {v w : ℕ} (new : List Node) (form : ℕ → Outcome Tree) (result : Result ExprId FoldError)
    → v ≡ w
    → Tells (IsAt new v) (form v) result
    → Tells (IsAt new w) (form w) result
told_wide new form result e told = subst (λ u. Tells (IsAt new u) (form u) result) e told

-- the trees that are left
module _ {pick : Tree → Tree → Outcome Tree} {fold : Tree → List Tree → Outcome Tree} (folds : IsFold pick fold)
    (w : ℕ) (ids : List ExprId) {whole : Outcome Tree} {first old : List Node} {least : ExprId}
    (folding : IsCutting (λ tree. fold tree (trees_at first ids)) w whole first old least)
  where
    -- no tree is left
    pub none_left : ids ≡ [] → whole ≡ Done (tree_of old least)
    none_left e =
        sym folding.same ∙ ap (λ l. fold (tree_of old least) (trees_at first l)) e ∙ folds.none (tree_of old least)

    module _ {id : ExprId} {others : List ExprId} (left : ids ≡ id ∷ others) (there : IsTreeOfAt first w id) where
      -- the next tree leads on to the whole
      pub next_leads :
          LeadsOn (pick (tree_of old least) (tree_of old id)) (λ tree. fold tree (trees_at first others)) whole
      next_leads =
          let rest = λ (tree : Tree). fold tree (trees_at first others) in record {
            leads = ap (λ t. next (pick (tree_of old least) t) rest)
                (same_tree_goes_on first old folding.grows id there.0)
                ∙ sym (folds.more (tree_of old least) (tree_of first id) (trees_at first others))
                ∙ ap (λ l. fold (tree_of old least) (trees_at first l)) (sym left)
                ∙ folding.same;
          }

      pub next_taken : {new : List Node} {more : ExprId} → GoesOn old new
          → (tree : Tree) × (pick (tree_of old least) (tree_of old id) ≡ Done tree) × IsAt new w more tree
          → IsCutting (λ tree. fold tree (trees_at first others)) w whole first new more
      next_taken {new} grows told = record {
        grows = goes_on_again first old new folding.grows grows;
        tree = told.2.0;
        same = ap (λ tree. fold tree (trees_at first others)) told.2.1 ∙ led_on told.0 next_leads told.1;
      }
