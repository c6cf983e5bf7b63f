-- The numbers among trees at places: they fit, and what is chosen of them does.
use Rattle.std.proofs.Common.{◌≡◌, ℕ, ◌<◌, ◌^◌, true, false, List, Option, Some, None, IfSome, refl, sym, subst}
use Rattle.std.specs.Option.{is_some}
use Rattle.std.proofs.lemmas.Bool.{false≢true}
use Rattle.scev_base.specs.declared.ids.ExprId.{ExprId}
use Rattle.scev_tree.specs.Tree.{Tree}
use Rattle.scev_arena.specs.declared.node.Node.{Node}
use Rattle.scev_arena.specs.Meaning.{tree_of}
use Rattle.scev_arena.specs.Standing.{IsArena}
use Rattle.scev_forms.specs.Atoms.{number_of}
use Rattle.scev_forms.specs.Minima.{IsMinimum, with_number, with_tree, unless_number}
use Rattle.scev_forms.proofs.Atoms.{number_value}
use Rattle.scev_forms.proofs.Choices.{kind_chooses}
use Rattle.scev_sums.specs.Answers.{IsTreeOfAt}
use Rattle.scev_sums.proofs.Making.{canonical_at}
use Rattle.scev_minima.specs.declared.kinds.MinKind.{MinKind}
use Rattle.scev_minima.specs.declared.kinds.MinKind.TheVariants as min
use Rattle.scev_minima.specs.Kinds.{kind_of}

-- the kind of a minimum or maximum is one
pub kind_is : (k : MinKind) → IsMinimum (kind_of k)
kind_is min.Smax = tt
kind_is min.Umax = tt
kind_is min.Smin = tt
kind_is min.Umin = tt

-- the number of a tree fits its width
pub number_fits : (nodes : List Node) (w : ℕ) (id : ExprId) → IsArena nodes → IsTreeOfAt nodes w id
    → IfSome (number_of (tree_of nodes id)) (λ n. n < 2 ^ w)
number_fits nodes w id arena h =
    elim (number_of (tree_of nodes id)) as (λ o. number_of (tree_of nodes id) ≡ o → IfSome o (λ n. n < 2 ^ w)) [
      | None ↦ λ e. tt
      | Some n ↦ λ e.
          let canonical = canonical_at nodes w id arena h in
          subst (λ v. n < 2 ^ v) canonical.0
          (number_value (λ _. None) (λ _. 0) (tree_of nodes id) n canonical.1 e).1
    ] refl

-- what is chosen of numbers that fit fits
pub chosen_fits : (k : MinKind) (w : ℕ) (o found : Option ℕ) → 0 < w
    → IfSome o (λ n. n < 2 ^ w)
    → IfSome found (λ n. n < 2 ^ w)
    → IfSome (with_number (kind_of k) w o found) (λ n. n < 2 ^ w)
chosen_fits k w None found some h h' = h'
chosen_fits k w (Some n) None some h h' = h
chosen_fits k w (Some n) (Some m) some h h' = (kind_chooses (kind_of k) w (kind_is k) some).closed n m h h'

-- a tree that is no number is one more
pub one_more : (o : Option ℕ) (tree : Tree) (trees : List Tree) → is_some o ≡ false
    → unless_number o tree trees ≡ with_tree tree trees
one_more None tree trees h = refl
one_more (Some n) tree trees h = absurd (false≢true (sym h))

-- a number isn't
pub none_more : (o : Option ℕ) (tree : Tree) (trees : List Tree) → is_some o ≡ true
    → unless_number o tree trees ≡ trees
none_more None tree trees h = absurd (false≢true h)
none_more (Some n) tree trees h = refl
