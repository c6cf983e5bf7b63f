-- A node that is interned stands at its place, and an arena stays one.
use Rattle.std.proofs.Common.{◌≡◌, ℕ, ◌<◌, ◌≤◌, ◌⊎◌, inl, inr, suc, ◌+◌, Bool, true, false, not, ◌||◌}
use Rattle.std.proofs.Common.{if◌then◌else◌, List, [], ◌∷◌, ◌++◌, length, take, Some, slice_get, refl, sym, ap, ◌∙◌}
use Rattle.std.proofs.Common.{subst, arith}
use Rattle.std.specs.List.{list_any, position_or_len, Contains}
use Rattle.std.proofs.lemmas.Bool.{false≢true}
use Rattle.std.proofs.lemmas.Map.Keys.{any_passes_from_place}
use Rattle.std.proofs.lemmas.Option.{slice_get-get_or}
use Rattle.scev_base.specs.declared.ids.ExprId.{ExprId}
use Rattle.scev_arena.specs.declared.node.Node.{Node}
use Rattle.scev_arena.specs.Nodes.{same_node}
use Rattle.scev_arena.specs.Standing.{MayStand, IsArena, IsGrown}
use Rattle.scev_arena.specs.NodeLaws.{same_node_decides}
use Rattle.scev_arena.proofs.Places.{place_of_more, take_front, take_before}

-- the nodes with one that is new
abbrev pub with_node : List Node → Node → List Node
with_node old n = if list_any (same_node n) old then old else old ++ n ∷ []

-- no place holds a node that no test finds
absent : (old : List Node) (n : Node) → list_any (same_node n) old ≡ false → (i : ℕ) → slice_get old i ≡ Some n → ⊥
absent old n unfound i e =
    let passes = any_passes_from_place (same_node n) old i n e ((same_node_decides n n).1 refl) in
    false≢true (sym unfound ∙ passes)

no_member : (old : List Node) (n : Node) → list_any (same_node n) old ≡ false → Contains old n → ⊥
no_member old n unfound member =
    absent old n unfound member.0 (slice_get-get_or old member.0 n member.1 ∙ ap Some member.2)

-- what stands before a choice
pub behind : {A : Type 0} (b : Bool) (x : A) (xs ys : List A)
    → x ∷ (if b then xs else ys) ≡ (if b then x ∷ xs else x ∷ ys)
behind true x xs ys = refl
behind false x xs ys = refl

-- the first place that the test finds, or else the new last one, holds the node
pub stored_node : (old : List Node) (n : Node)
    → slice_get (with_node old n) (position_or_len (same_node n) old) ≡ Some n
stored_node [] n = refl
stored_node (k ∷ ks) n = by_test (same_node n k) refl (stored_node ks n)
  where
    by_test : (b : Bool) → same_node n k ≡ b
        → slice_get (with_node ks n) (position_or_len (same_node n) ks) ≡ Some n
        → slice_get (if b || list_any (same_node n) ks then k ∷ ks else k ∷ (ks ++ n ∷ []))
        (if not b then 1 + position_or_len (same_node n) ks else 0) ≡ Some n
    by_test true same later = ap Some (sym ((same_node_decides n k).0 same))
    by_test false other later =
        let next : 1 + position_or_len (same_node n) ks ≡ suc (position_or_len (same_node n) ks) = omega arith in
        ap (slice_get (if list_any (same_node n) ks then k ∷ ks else k ∷ (ks ++ n ∷ []))) next
        ∙ ap (λ l. slice_get l (suc (position_or_len (same_node n) ks)))
        (sym (behind (list_any (same_node n) ks) k ks (ks ++ n ∷ [])))
        ∙ later

-- An arena with a node that is new and may stand is an arena.
grown_arena : (old : List Node) (n : Node) → IsArena old → MayStand old n
    → ((i : ℕ) → slice_get old i ≡ Some n → ⊥)
    → IsArena (old ++ n ∷ [])
grown_arena old n arena may new = record { stand = stand; distinct = distinct }
  where
    stand : (i : ℕ) (m : Node) → slice_get (old ++ n ∷ []) i ≡ Some m → MayStand (take i (old ++ n ∷ [])) m
    stand i m e =
        elim (place_of_more old n m i e) [
          | inl here ↦
              let less : i ≤ length old = let h = here.0 in omega arith in
              subst (λ l. MayStand l m) (sym (take_before old (n ∷ []) i less)) (arena.stand i m here.1)
          | inr last ↦
              let front : take i (old ++ n ∷ []) ≡ old =
              ap (λ k. take k (old ++ n ∷ [])) last.0 ∙ take_front old (n ∷ []) in
              subst (λ l. MayStand l m) (sym front) (subst (MayStand old) last.1 may)
        ]

    distinct : (i j : ℕ) (m : Node)
        → slice_get (old ++ n ∷ []) i ≡ Some m
        → slice_get (old ++ n ∷ []) j ≡ Some m
        → i ≡ j
    distinct i j m e f =
        elim (place_of_more old n m i e) [
          | inl here ↦ elim (place_of_more old n m j f) [
            | inl here_too ↦ arena.distinct i j m here.1 here_too.1
            | inr last ↦ absurd (new i (here.1 ∙ ap Some (sym last.1)))
          ]
          | inr last ↦ elim (place_of_more old n m j f) [
            | inl here ↦ absurd (new j (here.1 ∙ ap Some (sym last.1)))
            | inr last_too ↦ last.0 ∙ sym last_too.0
          ]
        ]

-- An arena stays one.
pub interned_arena : (old new : List Node) (n : Node)
    → new ≡ with_node old n
    → IsArena old
    → MayStand old n
    → IsArena new
interned_arena old new n e arena may = subst IsArena (sym e) (by_test (list_any (same_node n) old) refl)
  where
    by_test : (b : Bool) → list_any (same_node n) old ≡ b → IsArena (if b then old else old ++ n ∷ [])
    by_test true found = arena
    by_test false unfound = grown_arena old n arena may (absent old n unfound)

-- The arena has grown by the node, if that is new.
pub interned_grows : (old new : List Node) (n : Node) (id : ExprId) → new ≡ with_node old n
    → slice_get new id.0 ≡ Some n
    → IsGrown old n new id
interned_grows old new n id e there =
    subst (λ l. IsGrown old n l id) (sym e)
    (by_test (list_any (same_node n) old) refl (ap (λ l. slice_get l id.0) (sym e) ∙ there))
  where
    last_place : list_any (same_node n) old ≡ false
        → (((id.0 < length old) × (slice_get old id.0 ≡ Some n)) ⊎ ((id.0 ≡ length old) × (n ≡ n)))
        → id.0 ≡ length old
    last_place unfound (inl here) = absurd (absent old n unfound id.0 here.1)
    last_place unfound (inr last) = last.0

    by_test : (b : Bool) → list_any (same_node n) old ≡ b
        → slice_get (if b then old else old ++ n ∷ []) id.0 ≡ Some n
        → IsGrown old n (if b then old else old ++ n ∷ []) id
    by_test true found at = inl (at, refl)
    by_test false unfound at = inr ((no_member old n unfound, refl), last_place unfound (place_of_more old n n id.0 at))
