-- What a phi adds in each turn of a loop makes one list of parts.
use Rattle.std.proofs.Common.{◌≡◌, ℕ, zero, ◌⊎◌, List, [], ◌∷◌, Option, Some, refl, sym, ap, ◌∙◌, subst, inl, inr}
use Rattle.scev_base.specs.declared.ids.LoopId.{LoopId}
use Rattle.scev_tree.specs.declared.kind.Kind.TheVariants as kind
use Rattle.scev_tree.specs.Tree.{Tree, Terms, Parts, polynomial, atom, parts_of, trees_of}
use Rattle.scev_tree.specs.Invariant.{IsInvariant}
use Rattle.scev_forms.specs.Atoms.{alone}
use Rattle.scev_forms.proofs.Atoms.{alone_is}
use Rattle.value_exprs.specs.Advance.{IsAdvance, rest_of}

-- trees as parts, and back
trees_again : (trees : List Tree) → trees_of (parts_of trees) ≡ trees
trees_again [] = refl
trees_again (tree ∷ trees) = ap (λ list. tree ∷ list) (trees_again trees)

-- trees that make the same parts are the same
same_trees : (left right : List Tree) → parts_of left ≡ parts_of right → left ≡ right
same_trees left right h = sym (trees_again left) ∙ ap trees_of h ∙ trees_again right

-- a recurrence of a loop isn't invariant in it
recurrence_moves : (parents : List (Option ℕ)) (l : LoopId) (w : ℕ) (parts : Parts) (tree : Tree)
    → alone tree ≡ Some (atom (kind.Rec l) w parts)
    → IsInvariant parents l.0 tree
    → ⊥
recurrence_moves parents l w parts tree one stays =
    let whole = subst (IsInvariant parents l.0) (alone_is tree (atom (kind.Rec l) w parts) one) stays in
    whole.0.0.0 (zero, refl)

-- the parts behind the start, for what is added in each turn
abbrev AreSteps : List (Option ℕ) → LoopId → ℕ → Terms → List Tree → Type 0
AreSteps parents l w rest steps =
    (IsInvariant parents l.0 (polynomial w rest) × (steps ≡ polynomial w rest ∷ []))
    ⊎ (alone (polynomial w rest) ≡ Some (atom (kind.Rec l) w (parts_of steps)))

-- they are one list
same_steps : (parents : List (Option ℕ)) (l : LoopId) (w : ℕ) (rest : Terms) (left right : List Tree)
    → AreSteps parents l w rest left
    → AreSteps parents l w rest right
    → left ≡ right
same_steps parents l w rest left right (inl (stays, is)) (inl (stays', is')) = is ∙ sym is'
same_steps parents l w rest left right (inl (stays, is)) (inr one) =
    absurd (recurrence_moves parents l w (parts_of right) (polynomial w rest) one stays)
same_steps parents l w rest left right (inr one) (inl (stays, is)) =
    absurd (recurrence_moves parents l w (parts_of left) (polynomial w rest) one stays)
same_steps parents l w rest left right (inr one) (inr one') = same_trees left right cc

-- so is what the operand of a phi gives
pub one_advance : (parents : List (Option ℕ)) (l : LoopId) (v w : ℕ) (next : Tree) (left right : List Tree)
    → IsAdvance parents l v w next left
    → IsAdvance parents l v w next right
    → left ≡ right
one_advance parents l v w next left right a b =
    let whole : polynomial w a.all ≡ polynomial w b.all = sym a.is ∙ b.is in
    let same_all : a.all ≡ b.all = cc in
    let split : Some a.rest ≡ Some b.rest = sym a.split ∙ ap (rest_of v) same_all ∙ b.split in
    let same_rest : a.rest ≡ b.rest = cc in
    same_steps parents l w b.rest left right
    (subst (λ rest. AreSteps parents l w rest left) same_rest a.parts) b.parts
