-- Neighbouring numbers joined, over the trees at places.
use Rattle.std.proofs.Common.{◌≡◌, ℕ, ◌-◌, ◌%◌, ◌^◌, ◌<◌, ◌==◌, min, if◌then◌else◌}
use Rattle.std.proofs.Common.{List, [], ◌∷◌, ◌++◌, length, take, None, Some, slice_get}
use Rattle.std.proofs.Common.{refl, sym, ap, ap₂, ◌∙◌, subst, arith}
use Rattle.std.proofs.lemmas.Bool.{ne_eqb}
use Rattle.std.proofs.lemmas.Nat.{pow_pos}
use Rattle.std.proofs.Math.Nat.{mod-eq_of_lt}
use Rattle.scev_base.specs.declared.ids.ExprId.{ExprId}
use Rattle.scev_tree.specs.Tree.{Tree, polynomial, no_terms, term, no_factors, constant, width_of}
use Rattle.scev_tree.specs.Canonical.{IsCanonical}
use Rattle.scev_arena.specs.declared.node.Node.{Node}
use Rattle.scev_arena.specs.Meaning.{tree_of}
use Rattle.scev_arena.specs.Standing.{IsArena}
use Rattle.scev_forms.specs.Trees.{IsTreeOf}
use Rattle.scev_forms.specs.Atoms.{number_of}
use Rattle.scev_forms.specs.Minima.{least_before, number_before, tree_before}
use Rattle.scev_sums.specs.Answers.{GoesOn, IsTreeOfAt, IsAt, AreTreesOfAt, trees_at}
use Rattle.scev_sums.proofs.Growth.{trees_go_on, same_trees_go_on}
use Rattle.scev_sums.proofs.Held.{trees_and_last, trees_before}
use Rattle.scev_sums.proofs.Making.{canonical_at}
use Rattle.scev_minima.specs.Sequences.{reversed, first_number}
use Rattle.scev_minima.proofs.Backwards.{split_last, none_last, last_first}

-- ---- constants

-- the tree of a number below the modulus
small_constant : (w n : ℕ) → n < 2 ^ w → 0 < n → constant w n ≡ polynomial w (term no_factors n no_terms)
small_constant w n small some =
    let same : n % 2 ^ w ≡ n = mod-eq_of_lt small in
    ap (λ k. if k == 0 then polynomial w no_terms else polynomial w (term no_factors k no_terms)) same
    ∙ ap (λ b. if b then polynomial w no_terms else polynomial w (term no_factors n no_terms))
    (ne_eqb n 0 (λ none. omega arith))

-- a canonical tree that is a number is its constant
number_is : (tree : Tree) (n : ℕ) → IsCanonical tree → number_of tree ≡ Some n → tree ≡ constant (width_of tree) n
number_is (polynomial w no_terms) n canonical e =
    let none : 0 ≡ n = cc e in
    let low : 0 % 2 ^ w ≡ 0 = mod-eq_of_lt (pow_pos w) in
    sym (
    ap (constant w) (sym none)
    ∙ ap (λ k. if k == 0 then polynomial w no_terms else polynomial w (term no_factors k no_terms)) low
    )
number_is (polynomial w (term no_factors m no_terms)) n canonical e =
    let same : m ≡ n = cc e in
    sym (small_constant w m canonical.3 canonical.2) ∙ ap (constant w) same
number_is (polynomial w _) n canonical e = absurd cc

-- ---- a tree before others

module _ (w : ℕ) (tree : Tree) where
  -- one that is no number
  no_number_before : (trees : List Tree) → number_of tree ≡ None
      → tree ∷ trees ≡ tree_before w tree (number_of tree) trees
  no_number_before trees none = sym (ap (λ o. tree_before w tree o trees) none)

  -- one before no number
  number_alone : (n : ℕ) (trees : List Tree) → tree ≡ constant w n → first_number trees ≡ None
      → tree ∷ trees ≡ number_before w n trees
  number_alone n [] is none = ap (λ t. t ∷ []) is
  number_alone n (other ∷ trees) is none =
      ap (λ t. t ∷ other ∷ trees) is ∙ sym (ap (λ o. least_before w n other o trees) none)

  -- whatever the tree is
  before_no_number : (trees : List Tree) → IsTreeOf w tree → first_number trees ≡ None
      → tree ∷ trees ≡ tree_before w tree (number_of tree) trees
  before_no_number trees is none =
      elim (number_of tree) as (λ o. number_of tree ≡ o → tree ∷ trees ≡ tree_before w tree o trees) [
        | None ↦ λ _. refl
        | Some n ↦ λ e.
            number_alone n trees (number_is tree n is.1 e ∙ ap (λ v. constant v n) is.0) none
      ] refl

  -- a number before a number
  number_before_number : (n m : ℕ) (other : Tree) (trees : List Tree)
      → number_of tree ≡ Some n
      → number_of other ≡ Some m
      → constant w (min n m) ∷ trees ≡ tree_before w tree (number_of tree) (other ∷ trees)
  number_before_number n m other trees e f =
      sym (
      ap (λ o. tree_before w tree o (other ∷ trees)) e
      ∙ ap (λ o. least_before w n other o trees) f
      )

-- ---- at places

-- The tree stands before the others, which stand from the last to the first.
pub record IsPut (old new : List Node) (w : ℕ) (id : ExprId) (ids put : List ExprId) : Type 0 where
  pub trees : AreTreesOfAt new w put
  pub parts : reversed (trees_at new put)
      ≡ tree_before w (tree_of old id) (number_of (tree_of old id)) (reversed (trees_at old ids))

module _ (nodes : List Node) (w : ℕ) (id : ExprId) (ids : List ExprId) (h : IsTreeOfAt nodes w id)
    (hs : AreTreesOfAt nodes w ids) where
  -- as it is
  as_it_is : tree_of nodes id ∷ reversed (trees_at nodes ids)
      ≡ tree_before w (tree_of nodes id) (number_of (tree_of nodes id)) (reversed (trees_at nodes ids))
      → IsPut nodes nodes w id ids (ids ++ id ∷ [])
  as_it_is same = record {
    trees = trees_and_last nodes w ids id hs h;
    parts = last_first nodes ids id ∙ same;
  }

  -- so it is put, if it is no number
  pub put_no_number : number_of (tree_of nodes id) ≡ None → IsPut nodes nodes w id ids (ids ++ id ∷ [])
  put_no_number none = as_it_is (no_number_before w (tree_of nodes id) (reversed (trees_at nodes ids)) none)

  -- or if the one that it stands before isn't
  pub put_before_none : IsArena nodes → first_number (reversed (trees_at nodes ids)) ≡ None
      → IsPut nodes nodes w id ids (ids ++ id ∷ [])
  put_before_none arena none =
      as_it_is (before_no_number w (tree_of nodes id) (reversed (trees_at nodes ids)) (canonical_at nodes w id arena h)
      none)

  -- there is a last tree, if that is a number
  some_last : (m : ℕ) → first_number (reversed (trees_at nodes ids)) ≡ Some m
      → (last : ExprId) × (Some last ≡ slice_get ids (length ids - 1))
  some_last m e =
      elim (slice_get ids (length ids - 1)) as (λ o. o ≡ slice_get ids (length ids - 1)
      → (last : ExprId) × (Some last ≡ slice_get ids (length ids - 1))) [
        | None ↦ λ none.
            let empty = ap (λ l. first_number (reversed (trees_at nodes l))) (none_last ids none) in
            absurd (cc (e, empty))
        | Some last ↦ λ is. (last, is)
      ] refl

  -- joined with the number that it stands before
  pub put_joined : (new : List Node) → GoesOn nodes new → (n m : ℕ) (rest : List ExprId) (before : ExprId)
      → number_of (tree_of nodes id) ≡ Some n
      → first_number (reversed (trees_at nodes ids)) ≡ Some m
      → rest ≡ take (length ids - 1) ids
      → IsAt new w before (constant w (min n m))
      → IsPut nodes new w id ids (rest ++ before ∷ [])
  put_joined new grows n m rest before e f front there =
      let last = some_last m f in
      let split : ids ≡ rest ++ last.0 ∷ [] = split_last ids last.0 last.1
      ∙ ap (λ l. l ++ last.0 ∷ []) (sym front) in
      let held = trees_before nodes w rest last.0 (subst (AreTreesOfAt nodes w) split hs) in
      let turned : reversed (trees_at nodes ids) ≡ tree_of nodes last.0 ∷ reversed (trees_at nodes rest) =
      ap (λ l. reversed (trees_at nodes l)) split ∙ last_first nodes rest last.0 in
      let number : number_of (tree_of nodes last.0) ≡ Some m = sym (ap first_number turned) ∙ f in
      let tree = tree_of nodes id in
      record {
        trees = trees_and_last new w rest before (trees_go_on nodes new grows w rest held) there.0;
        parts = last_first new rest before
            ∙ ap₂ (λ t l. t ∷ reversed l) there.1 (same_trees_go_on nodes new grows w rest held)
            ∙ number_before_number w tree n m (tree_of nodes last.0) (reversed (trees_at nodes rest)) e number
            ∙ ap (tree_before w tree (number_of tree)) (sym turned);
      }

-- the same of what it is known as
pub same_put : (old : List Node) (w : ℕ) (id : ExprId) (ids : List ExprId) {new here : List Node}
    {put rest : List ExprId} {before one : ExprId}
    → here ≡ new
    → put ≡ rest
    → before ≡ one
    → IsPut old new w id ids (rest ++ one ∷ [])
    → IsPut old here w id ids (put ++ before ∷ [])
same_put old w id ids {new = new} {put = put} {rest = rest} {before = before} nodes front last is =
    subst (λ l. IsPut old l w id ids (put ++ before ∷ [])) (sym nodes)
    (subst (λ l. IsPut old new w id ids (l ++ before ∷ [])) (sym front)
    (subst (λ x. IsPut old new w id ids (rest ++ x ∷ [])) (sym last) is))
