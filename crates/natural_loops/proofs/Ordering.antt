-- Blocks of which one dominates the other, of each two, in that order: with one more in its place.
use Rattle.std.proofs.Common.{◌≡◌, ◌≢◌, ◌↔◌, ◌⊎◌, ℕ, ◌+◌, ◌<◌, ◌≤◌, List, [], ◌∷◌, ◌++◌, All, AllPairs, Contains}
use Rattle.std.proofs.Common.{length}
use Rattle.std.proofs.Common.{get_or, take, slice_get, Some, sym, ◌∙◌, subst, inl, inr, arith, length-take-le}
use Rattle.std.specs.List.{insert}
use Rattle.std.proofs.lemmas.Bool.{cases_eq}
use Rattle.std.proofs.lemmas.Option.{slice_get-get_or}
use Rattle.std.proofs.lemmas.List.{take_more, get_or-take, get_or_default}
use Rattle.std.proofs.lemmas.List.Elements.{Contains-push, Contains-push_cases, Contains-append_left, Contains-get_or}
use Rattle.std.proofs.lemmas.List.Elements.{All-get_or}
use Rattle.scev_base.specs.declared.ids.BlockId.{BlockId}
use Rattle.ir_model.specs.declared.function.Function.{Function}
use Rattle.ssa_check.specs.Checked.{Dominates}
use Rattle.ssa_check.proofs.Dominance.{dominates_along}
use Rattle.natural_loops.proofs.Inserted.{insert_contains, contains_old, contains_new, AllPairs-insert}

module _ (f : Function) (blocks found : List BlockId) (i at : ℕ) (d : BlockId) (within : i < length blocks)
    (fits : at ≤ length found) (same : (x : BlockId) → Contains found x ↔ Contains (take i blocks) x)
  where
    abbrev b : BlockId
    b = get_or blocks i d

    pub same_insert : (x : BlockId) → Contains (insert found at b) x ↔ Contains (take (i + 1) blocks) x
    same_insert x =
        let front = take_more blocks i d within in (
          (λ there.
              subst (λ (xs : List BlockId). Contains xs x) (sym front)
              (elim (insert_contains found at b x there) [
                | inl old ↦ Contains-append_left (take i blocks) (b ∷ []) x ((same x).0 old)
                | inr is ↦
                    subst (λ (y : BlockId). Contains (take i blocks ++ b ∷ []) y) is (Contains-push (take i blocks) b)
              ])),
          (λ there.
              elim (Contains-push_cases (take i blocks) b x
              (subst (λ (xs : List BlockId). Contains xs x) front there)) [
                | inl old ↦ contains_old found at b x ((same x).1 old)
                | inr is ↦ subst (λ (y : BlockId). Contains (insert found at b) y) is (contains_new found at b)
              ]),
        )

    -- what holds of each two of the blocks holds of one that was found and the new one
    earlier : (R : BlockId → BlockId → Type 0) → AllPairs R blocks → (x : BlockId) → Contains found x → R x b
    earlier R pairs x there =
        let place = (same x).0 there in
        let size : length (take i blocks) ≡ i = length-take-le i blocks (omega (arith, within)) in
        let low : place.0 < i = omega (arith, place.1, size) in
        let is : get_or blocks place.0 d ≡ x = get_or_default blocks place.0 d x (omega (arith, low, within))
        ∙ sym (get_or-take i blocks place.0 x low) ∙ place.2 in
        subst (λ (y : BlockId). R y b) is (pairs place.0 i d low within)

    pub apart_insert : AllPairs (λ x y. x.0 ≢ y.0) blocks → AllPairs (λ x y. x.0 ≢ y.0) found
        → AllPairs (λ x y. x.0 ≢ y.0) (insert found at b)
    apart_insert pairs old =
        let R : BlockId → BlockId → Type 0 = λ x y. x.0 ≢ y.0 in
        AllPairs-insert R found at b fits old
        (λ k e low. earlier R pairs (get_or found k e) (Contains-get_or found k e (omega (arith, low, fits))))
        (λ k e high top is. earlier R pairs (get_or found k e) (Contains-get_or found k e top) (sym is))

    pub ordered_insert : AllPairs (λ x y. Dominates f x.0 y.0 ⊎ Dominates f y.0 x.0) blocks
        → All (λ x. Dominates f b.0 x.0 → ⊥) (take at found)
        → ((x : BlockId) → slice_get found at ≡ Some x → Dominates f b.0 x.0)
        → AllPairs (λ x y. Dominates f x.0 y.0) found → AllPairs (λ x y. Dominates f x.0 y.0) (insert found at b)
    ordered_insert chain none first old =
        let R : BlockId → BlockId → Type 0 = λ x y. Dominates f x.0 y.0 in
        let C : BlockId → BlockId → Type 0 = λ x y. Dominates f x.0 y.0 ⊎ Dominates f y.0 x.0 in
        let N : BlockId → Type 0 = λ x. Dominates f b.0 x.0 → ⊥ in
        let size : length (take at found) ≡ at = length-take-le at found fits in
        AllPairs-insert R found at b fits old
        (λ k e low.
        elim (earlier C chain (get_or found k e) (Contains-get_or found k e (omega (arith, low, fits)))) [
          | inl there ↦ there
          | inr back ↦
              let never : N (get_or found k e) = subst N (get_or-take at found k e low)
              (All-get_or N (take at found) k e (omega (arith, low, size)) none) in
              absurd (never back)
        ])
        (λ k e high top.
        let here = first (get_or found at e) (slice_get-get_or found at e (omega (arith, high, top))) in
        elim (cases_eq k at) [
          | inl is ↦ subst (λ (j : ℕ). Dominates f b.0 (get_or found j e).0) (sym is) here
          | inr apart ↦
              dominates_along f b.0 (get_or found at e).0 (get_or found k e).0 here
              (old at k e (omega (arith, high, apart)) top)
        ])
