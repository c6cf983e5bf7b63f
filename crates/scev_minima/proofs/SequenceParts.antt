-- The parts of a sequential minimum, of trees at places.
use Rattle.std.proofs.Common.{◌≡◌, ℕ, List, [], ◌∷◌, ◌++◌, None, Some, sym, ap, ap₂, ◌∙◌, subst}
use Rattle.std.proofs.lemmas.Bool.{cond_both}
use Rattle.std.proofs.lemmas.List.{map-append}
use Rattle.scev_base.specs.declared.ids.ExprId.{ExprId}
use Rattle.scev_tree.specs.declared.kind.Kind.TheVariants as kind
use Rattle.scev_tree.specs.Tree.{Tree}
use Rattle.scev_arena.specs.declared.node.Node.{Node}
use Rattle.scev_arena.specs.Meaning.{tree_of}
use Rattle.scev_forms.specs.Trees.{IsTreeOf}
use Rattle.scev_forms.specs.Gather.{is_zero}
use Rattle.scev_forms.specs.Atoms.{number_of}
use Rattle.scev_forms.specs.Minima.{flattened, first_ones, least_before, number_before, tree_before}
use Rattle.scev_forms.specs.Minima.{neighbours_joined, from_zero, sequence_parts}
use Rattle.scev_forms.proofs.Flat.{NotEmpty, both_not_empty, flattened_not_empty}
use Rattle.scev_sums.specs.Answers.{trees_at}

-- ---- there is one

-- of some trees there is a first one
some_first : (trees : List Tree) → NotEmpty trees → NotEmpty (first_ones [] trees)
some_first [] some = absurd some
some_first (tree ∷ trees) some = tt

-- neighbours are joined to some
some_number : (w n : ℕ) (trees : List Tree) → NotEmpty (number_before w n trees)
some_number w n [] = tt
some_number w n (tree ∷ trees) =
    elim (number_of tree) as (λ o. NotEmpty (least_before w n tree o trees)) [ None ↦ tt | Some m ↦ tt ]

-- whatever they are
some_joined : (w : ℕ) (trees : List Tree) → NotEmpty trees → NotEmpty (neighbours_joined w trees)
some_joined w [] some = absurd some
some_joined w (tree ∷ trees) some =
    elim (number_of tree) as (λ o. NotEmpty (tree_before w tree o (neighbours_joined w trees))) [
      | None ↦ tt
      | Some n ↦ some_number w n (neighbours_joined w trees)
    ]

-- a first 0 is one
some_from_zero : (trees : List Tree) → NotEmpty trees → NotEmpty (from_zero trees)
some_from_zero [] some = absurd some
some_from_zero (tree ∷ trees) some = cond_both (is_zero tree) (tree ∷ []) (tree ∷ trees) NotEmpty (λ _. tt) (λ _. tt)

-- so a sequential minimum has a part
some_part : (w : ℕ) (first second : Tree) → IsTreeOf w first → NotEmpty (sequence_parts w first second)
some_part w first second is =
    let xs = flattened kind.Seq first in
    let ys = flattened kind.Seq second in
    let ones = first_ones [] (xs ++ ys) in
    let some = both_not_empty xs ys (flattened_not_empty kind.Seq w first tt is) in
    some_from_zero (neighbours_joined w ones) (some_joined w ones (some_first (xs ++ ys) some))

-- so places of them are some
pub some_place : (nodes : List Node) (w : ℕ) (first second : Tree) (ids : List ExprId) → IsTreeOf w first
    → trees_at nodes ids ≡ sequence_parts w first second
    → ids ≡ []
    → ⊥
some_place nodes w first second ids is formed none =
    subst NotEmpty (sym formed ∙ ap (trees_at nodes) none) (some_part w first second is)

-- ---- what is formed

-- the parts, step by step
pub all_parts : (old new : List Node) (w : ℕ) (first second : Tree) (xs ys both ones joined parts : List ExprId)
    → trees_at old xs ≡ flattened kind.Seq first
    → trees_at old ys ≡ flattened kind.Seq second
    → both ≡ xs ++ ys
    → trees_at old ones ≡ first_ones [] (trees_at old both)
    → trees_at new joined ≡ neighbours_joined w (trees_at old ones)
    → trees_at new parts ≡ from_zero (trees_at new joined)
    → trees_at new parts ≡ sequence_parts w first second
all_parts old new w first second xs ys both ones joined parts f s whole one join from =
    let flat : trees_at old both ≡ flattened kind.Seq first ++ flattened kind.Seq second =
    ap (trees_at old) whole ∙ map-append (tree_of old) xs ys ∙ ap₂ (λ l k. l ++ k) f s in
    from ∙ ap from_zero (join ∙ ap (neighbours_joined w) (one ∙ ap (first_ones []) flat))
