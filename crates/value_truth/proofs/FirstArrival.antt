-- Where values are available, by first arrivals: of two values neither is available where the other one is defined,
-- unless it is defined there first.
use Rattle.std.proofs.Common.{◌≡◌, ◌⊎◌, ℕ, ◌<◌, ◌≤◌, Bool, true, false, if◌then◌else◌, List, ◌∷◌, Option, Some, None}
use Rattle.std.proofs.Common.{Contains}
use Rattle.std.proofs.Common.{refl, sym, ap, ◌∙◌, subst, inl, inr, arith}
use Rattle.std.proofs.lemmas.Option.{same_Some}
use Rattle.scev_base.specs.declared.ids.BlockId.{BlockId}
use Rattle.ir_model.specs.declared.function.Function.{Function}
use Rattle.ir_model.specs.Places.{given_at, is_param, place_of}
use Rattle.ir_model.specs.Walks.{Trail, Reachable}
use Rattle.ir_rules.specs.Uses.{HasPassed}
use Rattle.ssa_check.specs.declared.definitions.Definition.TheVariants.{Parameter, At}
use Rattle.ssa_check.specs.Tables.{at_place, definition_of}
use Rattle.ssa_check.proofs.Elements.{contains_later}
use Rattle.ssa_check.proofs.Trails.{arrives, reaches}
use Rattle.ssa_check.proofs.Dominance.{part_before}
use Rattle.value_truth.specs.Available.{IsAvailable}

-- a definition at a place is that of no parameter, and the place of the value
place_is : (param : Bool) (o : Option (BlockId × ℕ)) (d : BlockId) (i : ℕ)
    → (if param then Parameter else at_place o) ≡ At d i
    → (param ≡ false) × ((if param then None else o) ≡ Some (d, i))
place_is true o d i e = absurd (cc)
place_is false None d i e = absurd (cc)
place_is false (Some (b, j)) d i e = (refl, cc)

module _ (f : Function) (v : ℕ) (d : BlockId) (i : ℕ) (is : definition_of f v ≡ At d i) where
  pub place : (is_param f.params v ≡ false) × (place_of f v ≡ Some (d, i))
  place = place_is (is_param f.params v) (given_at f.blocks v) d i is

  pub passed_at : (before : List ℕ) (b index : ℕ) → HasPassed f v before b index
      → Contains before d.0 ⊎ ((d.0 ≡ b) × (i < index))
  passed_at before b index (inl param) = absurd (cc (place.0, param))
  passed_at before b index (inr (at, j, there, passed)) =
      let same = same_Some (d, i) (at, j) (sym place.1 ∙ there) in
      let block : at.0 ≡ d.0 = ap (λ (pair : BlockId × ℕ). pair.0.0) (sym same) in
      let index' : j ≡ i = ap (λ (pair : BlockId × ℕ). pair.1) (sym same) in
      elim passed [
        | inl earlier ↦ inl (subst (Contains before) block earlier)
        | inr here ↦ inr (sym block ∙ here.0, subst (λ (k : ℕ). k < index) index' here.1)
      ]

  pub at_passed : (before : List ℕ) (b index : ℕ) → Contains before d.0 ⊎ ((d.0 ≡ b) × (i < index))
      → HasPassed f v before b index
  at_passed before b index known = inr (d, i, place.1, known)

  -- a walk that has passed it has reached its block
  pub passed_reachable : (before : List ℕ) (b index : ℕ) → Trail f (b ∷ before) → HasPassed f v before b index
      → Reachable f d.0
  passed_reachable before b index trail passed =
      elim (passed_at before b index passed) [
        | inl earlier ↦
            let part = part_before f trail d.0 earlier in
            reaches f d.0 part.before part.is
        | inr here ↦ subst (Reachable f) (sym here.0) (reaches f b before trail)
      ]

module _ (f : Function) (u v : ℕ) (du dv : BlockId) (iu iv : ℕ) (u_is : definition_of f u ≡ At du iu)
    (v_is : definition_of f v ≡ At dv iv) where
  pub not_both : (ju jv : ℕ) → IsAvailable f u dv.0 jv → IsAvailable f v du.0 ju → jv ≤ iv → ju ≤ iu
      → Reachable f dv.0 → ⊥
  not_both ju jv u_there v_there before_v before_u reachable =
      let arrival = arrives f dv.0 reachable in
      elim (passed_at f u du iu u_is arrival.0 dv.0 jv (u_there arrival.0 arrival.1)) [
        | inl earlier ↦
            let part = part_before f arrival.1 du.0 earlier in
            elim (passed_at f v dv iv v_is part.before du.0 ju (v_there part.before part.is)) [
              | inl again ↦ arrival.2 (part.within dv.0 (contains_later du.0 part.before dv.0 again))
              | inr same ↦ arrival.2 (subst (Contains arrival.0) (sym same.0) earlier)
            ]
        | inr same ↦
            let trail = subst (λ (b : ℕ). Trail f (b ∷ arrival.0)) (sym same.0) arrival.1 in
            elim (passed_at f v dv iv v_is arrival.0 du.0 ju (v_there arrival.0 trail)) [
              | inl again ↦ arrival.2 again
              | inr less ↦ absurd (omega (arith, same.1, less.1, before_v, before_u))
            ]
      ]
