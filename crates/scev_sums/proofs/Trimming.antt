-- Parts at the end that are 0, one after another.
use Rattle.std.proofs.Common.{◌≡◌, ℕ, ◌+◌, ◌-◌, ◌<◌, ◌≤◌, true, false, if◌then◌else◌, List, [], ◌∷◌, ◌++◌, length}
use Rattle.std.proofs.Common.{get_or, take, refl, sym, ap, ◌∙◌, arith}
use Rattle.std.proofs.lemmas.List.{map_push, take_more, take_all}
use Rattle.scev_base.specs.declared.ids.ExprId.{ExprId}
use Rattle.scev_tree.specs.Tree.{Tree}
use Rattle.scev_arena.specs.declared.node.Node.{Node}
use Rattle.scev_arena.specs.Meaning.{tree_of}
use Rattle.scev_forms.specs.Gather.{is_zero, before_others, without_zeros, trimmed}
use Rattle.scev_sums.specs.Answers.{trees_at}

-- a list is the one before its last item, and that item
pub last_apart : {A : Type 0} (xs : List A) (x : A) (n m : ℕ) → n ≡ length xs → m ≡ n → 1 < n
    → x ≡ get_or xs (m - 1) x
    → xs ≡ take (n - 1) xs ++ x ∷ []
last_apart xs x n m many same some read =
    let k = n - 1 in
    sym (take_all (k + 1) xs (omega arith))
    ∙ take_more xs k x (omega arith)
    ∙ ap (λ y. take k xs ++ y ∷ []) (sym (read ∙ ap (λ j. get_or xs (j - 1) x) same))

-- a tree at the end that is 0 goes
gone : (trees : List Tree) (last : Tree) → is_zero last ≡ true
    → without_zeros (trees ++ last ∷ []) ≡ without_zeros trees
gone [] last zero = ap (λ b. if b then [] else last ∷ []) zero
gone (tree ∷ trees) last zero = ap (before_others tree) (gone trees last zero)

before_last : (tree : Tree) (trees : List Tree) (last : Tree)
    → before_others tree (trees ++ last ∷ []) ≡ tree ∷ (trees ++ last ∷ [])
before_last tree [] last = refl
before_last tree (other ∷ trees) last = refl

-- another one stays, with all before it
stays : (trees : List Tree) (last : Tree) → is_zero last ≡ false
    → without_zeros (trees ++ last ∷ []) ≡ trees ++ last ∷ []
stays [] last other = ap (λ b. if b then [] else last ∷ []) other
stays (tree ∷ trees) last other = ap (before_others tree) (stays trees last other) ∙ before_last tree trees last

module _ (nodes : List Node) where
  -- parts behind the first one, without the last one, which is 0
  pub trimmed_once : (ids : List ExprId) (last : ExprId) → 1 ≤ length ids
      → is_zero (tree_of nodes last) ≡ true
      → trimmed (trees_at nodes ids) ≡ trimmed (trees_at nodes (ids ++ last ∷ []))
  trimmed_once [] last some zero = absurd (omega arith)
  trimmed_once (id ∷ ids) last some zero =
      ap (λ trees. tree_of nodes id ∷ trees) (sym (
      ap without_zeros (map_push (tree_of nodes) ids last) ∙ gone (trees_at nodes ids) (tree_of nodes last) zero
      ))

  -- parts of which the last one isn't 0
  pub trimmed_all : (ids : List ExprId) (last : ExprId) → is_zero (tree_of nodes last) ≡ false
      → trimmed (trees_at nodes (ids ++ last ∷ [])) ≡ trees_at nodes (ids ++ last ∷ [])
  trimmed_all [] last other = refl
  trimmed_all (id ∷ ids) last other =
      let whole = map_push (tree_of nodes) ids last in
      ap (λ trees. tree_of nodes id ∷ trees) (
      ap without_zeros whole ∙ stays (trees_at nodes ids) (tree_of nodes last) other ∙ sym whole
      )
