-- Induction over the nodes of an arena.
use Rattle.std.proofs.Common.{◌≡◌, ℕ, ◌≤◌, List, [], ◌∷◌, ◌++◌, length, Some, slice_get, sym, ◌∙◌, subst, arith, append_assoc}
use Rattle.std.proofs.lemmas.List.{append-nil}
use Rattle.scev_arena.specs.declared.node.Node.{Node}
use Rattle.scev_arena.specs.Standing.{MayStand, IsArena}
use Rattle.scev_arena.proofs.Places.{place_before, place_behind, place_within, take_front, take_before}

-- the front of an arena is one
pub front_is_arena : (xs ys : List Node) → IsArena (xs ++ ys) → IsArena xs
front_is_arena xs ys arena = record {
  stand = λ i n e.
      let within = place_within xs i n e in
      let less : i ≤ length xs = omega arith in
      subst (λ l. MayStand l n) (take_before xs ys i less) (arena.stand i n (place_before xs ys i within ∙ e));
  distinct = λ i j n e f.
      arena.distinct i j n (place_before xs ys i (place_within xs i n e) ∙ e)
      (place_before xs ys j (place_within xs j n f) ∙ f);
}

-- what the last node of an arena meets
pub last_stands : (before : List Node) (n : Node) → IsArena (before ++ n ∷ []) → MayStand before n
last_stands before n arena =
    subst (λ l. MayStand l n) (take_front before (n ∷ [])) (arena.stand (length before) n (place_behind before n []))

-- the last node of an arena is none of those before it
pub last_is_new : (before : List Node) (n : Node) → IsArena (before ++ n ∷ [])
    → (i : ℕ)
    → slice_get before i ≡ Some n
    → ⊥
last_is_new before n arena i e =
    let within = place_within before i n e in
    let same = arena.distinct i (length before) n (place_before before (n ∷ []) i within ∙ e)
    (place_behind before n []) in
    omega arith

go : (P : List Node → Type 0)
    → ((before : List Node) (n : Node) → IsArena (before ++ n ∷ []) → P before → P (before ++ n ∷ []))
    → (rest before : List Node)
    → IsArena (before ++ rest)
    → P before
    → P (before ++ rest)
go P more [] before arena h = subst P (sym (append-nil before)) h
go P more (n ∷ rest) before arena h =
    let e : (before ++ n ∷ []) ++ rest ≡ before ++ n ∷ rest = append_assoc before (n ∷ []) rest in
    let whole : IsArena ((before ++ n ∷ []) ++ rest) = subst IsArena (sym e) arena in
    let next : P (before ++ n ∷ []) = more before n (front_is_arena (before ++ n ∷ []) rest whole) h in
    subst P e (go P more rest (before ++ n ∷ []) whole next)

-- What holds of no nodes, and of one node more where it holds of those before, holds of an arena.
pub by_nodes : (P : List Node → Type 0)
    → P []
    → ((before : List Node) (n : Node) → IsArena (before ++ n ∷ []) → P before → P (before ++ n ∷ []))
    → (nodes : List Node)
    → IsArena nodes
    → P nodes
by_nodes P none more nodes arena = go P more nodes [] arena none
