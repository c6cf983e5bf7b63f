-- What places hold stays as nodes are added.
use Rattle.std.proofs.Common.{◌≡◌, ℕ, suc, ◌+◌, ◌<◌, List, [], ◌∷◌, ◌++◌, length, take, fold, Some, slice_get, refl, sym, ap, ◌∙◌, arith, append_assoc}
use Rattle.std.proofs.lemmas.List.{append-nil}
use Rattle.std.proofs.lemmas.List.Sums.{fold-append}
use Rattle.scev_base.specs.declared.ids.ExprId.{ExprId}
use Rattle.scev_arena.specs.declared.node.Node.{Node}
use Rattle.scev_arena.specs.Meaning.{Meant, node_meant, with_meant, meanings, tree_in, atom_in, tree_of, atom_of}
use Rattle.scev_arena.proofs.Places.{place_before, place_behind, take_front}

-- behind what is known stands what is added
added : (ys : List Node) (meant : List Meant) → (rest : List Meant) × (fold with_meant meant ys ≡ meant ++ rest)
added [] meant = ([], sym (append-nil meant))
added (y ∷ ys) meant =
    let later = added ys (with_meant meant y) in
    (node_meant meant y ∷ later.0, later.1 ∙ append_assoc meant (node_meant meant y ∷ []) later.0)

-- what places hold, and then what is added
pub grown : (nodes more : List Node) → (rest : List Meant) × (meanings (nodes ++ more) ≡ meanings nodes ++ rest)
grown nodes more =
    let later = added more (meanings nodes) in (later.0, fold-append with_meant [] nodes more ∙ later.1)

-- one node more
pub one_more : (nodes : List Node) (n : Node)
    → meanings (nodes ++ n ∷ []) ≡ meanings nodes ++ node_meant (meanings nodes) n ∷ []
one_more nodes n = fold-append with_meant [] nodes (n ∷ [])

pub length_behind : {A : Type 0} (xs : List A) (y : A) → length (xs ++ y ∷ []) ≡ suc (length xs)
length_behind [] y = refl
length_behind (x ∷ xs) y = ap suc (length_behind xs y)

as_many_added : (ys : List Node) (meant : List Meant) → length (fold with_meant meant ys) ≡ length meant + length ys
as_many_added [] meant = omega arith
as_many_added (y ∷ ys) meant =
    let rest = as_many_added ys (with_meant meant y) in
    let one = length_behind meant (node_meant meant y) in
    omega arith

-- each node's place holds something
pub as_many : (nodes : List Node) → length (meanings nodes) ≡ length nodes
as_many nodes = let e = as_many_added nodes [] in omega arith

-- what is known of the first places
pub front_stays : (nodes more : List Node) → take (length nodes) (meanings (nodes ++ more)) ≡ meanings nodes
front_stays nodes more =
    let later = grown nodes more in
    ap (λ k. take k (meanings (nodes ++ more))) (sym (as_many nodes))
    ∙ ap (take (length (meanings nodes))) later.1
    ∙ take_front (meanings nodes) later.0

-- What a place holds stays.
pub place_stays : (nodes more : List Node) (i : ℕ) → i < length nodes
    → slice_get (meanings (nodes ++ more)) i ≡ slice_get (meanings nodes) i
place_stays nodes more i h =
    let later = grown nodes more in
    let many = as_many nodes in
    ap (λ l. slice_get l i) later.1 ∙ place_before (meanings nodes) later.0 i (omega arith)

pub tree_stays : (nodes more : List Node) (id : ExprId) → id.0 < length nodes
    → tree_of (nodes ++ more) id ≡ tree_of nodes id
tree_stays nodes more id h = ap tree_in (place_stays nodes more id.0 h)

pub atom_stays : (nodes more : List Node) (id : ExprId) → id.0 < length nodes
    → atom_of (nodes ++ more) id ≡ atom_of nodes id
atom_stays nodes more id h = ap atom_in (place_stays nodes more id.0 h)

-- What the last place holds.
pub last_holds : (nodes : List Node) (n : Node) (i : ℕ) → i ≡ length nodes
    → slice_get (meanings (nodes ++ n ∷ [])) i ≡ Some (node_meant (meanings nodes) n)
last_holds nodes n i e =
    let held = node_meant (meanings nodes) n in
    ap (λ l. slice_get l i) (one_more nodes n)
    ∙ ap (slice_get (meanings nodes ++ held ∷ [])) (e ∙ sym (as_many nodes))
    ∙ place_behind (meanings nodes) held []
