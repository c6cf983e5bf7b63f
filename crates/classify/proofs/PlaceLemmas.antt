-- Places of instructions, one instruction more and one block more.
use Rattle.std.specs.Prelude.{◌≡◌, ℕ, zero, suc, ◌+◌, ◌<◌, ◌⊎◌, List, [], ◌∷◌, ◌++◌, length, take, get_or, replicate}
use Rattle.std.specs.Prelude.{Option, Some, None, slice_get, slice_set, refl}
use Rattle.std.proofs.Common.{ap, sym, ◌∙◌, subst, arith, inl, inr, length-set}
use Rattle.std.proofs.lemmas.Bool.{cases_eq}
use Rattle.std.proofs.lemmas.List.{take_more, length-take-le, get_or-replicate, length-replicate}
use Rattle.std.proofs.lemmas.Option.{none-some, same_Some, slice_get_within, slice_get-get_or}
use Rattle.scev_base.specs.declared.ids.ValueId.{ValueId}
use Rattle.ir_model.specs.declared.function.Instr.{Instr}
use Rattle.ir_model.specs.declared.function.Block.{Block}
use Rattle.flow_graph.proofs.ListLemmas.{slice_get-set_same, slice_get-set_other, slice_get_push, slice_get-append}
use Rattle.classify.specs.Places.{placed, IsGivenIn, ArePlaced, ArePlaces}

-- an element of a list with one more is one of the list, or the last one
pub pushed_at : {X : Type 0} (xs : List X) (x y : X) (k : ℕ) → slice_get (xs ++ x ∷ []) k ≡ Some y
    → (slice_get xs k ≡ Some y) ⊎ ((k ≡ length xs) × (x ≡ y))
pushed_at [] x y zero at = inr (refl, same_Some x y at)
pushed_at [] x y (suc k) at = absurd (none-some y at)
pushed_at (z ∷ zs) x y zero at = inl at
pushed_at (z ∷ zs) x y (suc k) at =
    elim (pushed_at zs x y k at) [
      | inl there ↦ inl there
      | inr last ↦ inr (ap suc last.0, last.1)
    ]

pub ArePlaced_none : (block : ℕ) (places : List (Option (ℕ × ℕ))) → ArePlaced block [] places places
ArePlaced_none block places = record {
  count = refl;
  given = λ v place at. inl at;
  none = λ v at. (at, λ k given. absurd (none-some given.0 given.1));
}

given_push : (instrs : List Instr) (x : Instr) (v k : ℕ) → IsGivenIn instrs v k → IsGivenIn (instrs ++ x ∷ []) v k
given_push instrs x v k given = (given.0, slice_get-append instrs (x ∷ []) k given.0 given.1, given.2)

-- an instruction that doesn't give the register adds none that does
not_given_push : (instrs : List Instr) (x : Instr) (v : ℕ) → (x.result ≡ Some (record { 0 = v }) → ⊥)
    → ((k : ℕ) → IsGivenIn instrs v k → ⊥) → (k : ℕ) → IsGivenIn (instrs ++ x ∷ []) v k → ⊥
not_given_push instrs x v other before k given =
    elim (pushed_at instrs x given.0 k given.1) [
      | inl there ↦ before k (given.0, there, given.2)
      | inr last ↦ other (ap (λ (i : Instr). i.result) last.1 ∙ given.2)
    ]

same_number : (v w : ValueId) → Some v ≡ Some w → v.0 ≡ w.0
same_number v w e = ap (λ (u : ValueId). u.0) (same_Some v w e)

abbrev register : ℕ → Option ValueId
register n = Some (record { 0 = n })

-- one instruction more
pub ArePlaced_push : (block : ℕ) (instrs : List Instr) (x : Instr) (result : Option ValueId) (old new : List (Option (ℕ × ℕ)))
    → x.result ≡ result → ArePlaced block instrs old new
    → ArePlaced block (instrs ++ x ∷ []) old (placed new result (block, length instrs))
ArePlaced_push block instrs x None old new is to = record {
  count = to.count;
  given = λ v place at.
      elim (to.given v place at) [
        | inl before ↦ inl before
        | inr there ↦ inr (there.0, given_push instrs x v place.1 there.1)
      ];
  none = λ v at. ((to.none v at).0, not_given_push instrs x v (λ e. absurd (none-some (record { 0 = v }) (sym is ∙ e))) (to.none v at).1);
}
ArePlaced_push block instrs x (Some r) old new is to =
    let after : List (Option (ℕ × ℕ)) = slice_set new r.0 (Some (block, length instrs)) in
    let size : length after ≡ length new = length-set new r.0 (Some (block, length instrs)) in
    record {
      count = size ∙ to.count;
      given = λ v place at.
          elim (cases_eq v r.0) [
            | inl same ↦
                let inside : r.0 < length new = omega (arith, same, size, slice_get_within after v (Some place) at) in
                let here = slice_get-set_same new r.0 (Some (block, length instrs)) inside in
                let is_place : (block, length instrs) ≡ place = same_Some (block, length instrs) place (same_Some (Some (block, length instrs)) (Some place) (sym here ∙ ap (slice_get after) (sym same) ∙ at)) in
                let gives : x.result ≡ Some (record { 0 = v }) = is ∙ ap register (sym same) in
                inr (
                  sym (ap (λ (p : ℕ × ℕ). p.0) is_place),
                  subst (λ (p : ℕ × ℕ). IsGivenIn (instrs ++ x ∷ []) v p.1) is_place (x, slice_get_push instrs x, gives),
                )
            | inr apart ↦
                elim (to.given v place (sym (slice_get-set_other new r.0 v (Some (block, length instrs)) apart) ∙ at)) [
                  | inl before ↦ inl before
                  | inr there ↦ inr (there.0, given_push instrs x v place.1 there.1)
                ]
          ];
      none = λ v at.
          elim (cases_eq v r.0) [
            | inl same ↦
                let inside : r.0 < length new = omega (arith, same, size, slice_get_within after v None at) in
                let here = slice_get-set_same new r.0 (Some (block, length instrs)) inside in
                absurd (none-some (block, length instrs) (sym (same_Some (Some (block, length instrs)) None (sym here ∙ ap (slice_get after) (sym same) ∙ at))))
            | inr apart ↦
                let before = to.none v (sym (slice_get-set_other new r.0 v (Some (block, length instrs)) apart) ∙ at) in
                (before.0, not_given_push instrs x v (λ e. apart (sym (same_number r (record { 0 = v }) (sym is ∙ e)))) before.1)
          ];
    }

-- the step of a walk along the instructions of a block
pub ArePlaced_more : (block i : ℕ) (instrs : List Instr) (x : Instr) (old new : List (Option (ℕ × ℕ)))
    → i < length instrs → x ≡ get_or instrs i x → ArePlaced block (take i instrs) old new
    → ArePlaced block (take (i + 1) instrs) old (placed new x.result (block, i))
ArePlaced_more block i instrs x old new within is to =
    let size : length (take i instrs) ≡ i = length-take-le i instrs (omega (arith, within)) in
    let pushed = ArePlaced_push block (take i instrs) x x.result old new refl to in
    let all : take i instrs ++ x ∷ [] ≡ take (i + 1) instrs = ap (λ (y : Instr). take i instrs ++ y ∷ []) is ∙ sym (take_more instrs i x within) in
    subst (λ (xs : List Instr). ArePlaced block xs old (placed new x.result (block, i))) all (subst (λ (k : ℕ). ArePlaced block (take i instrs ++ x ∷ []) old (placed new x.result (block, k))) size pushed)

no_place : (n v : ℕ) (place : ℕ × ℕ) → slice_get (replicate n None) v ≡ Some (Some place) → ⊥
no_place n v place at =
    let empty : Option (ℕ × ℕ) = None in
    let within = slice_get_within (replicate n empty) v (Some place) at in
    let small : v < n = omega (arith, within, length-replicate n empty) in
    none-some place (sym (get_or-replicate n v empty empty small) ∙ same_Some (get_or (replicate n empty) v empty) (Some place) (sym (slice_get-get_or (replicate n empty) v empty within) ∙ at))

pub ArePlaces_none : (n : ℕ) → ArePlaces [] (replicate n None)
ArePlaces_none n = record {
  given = λ v place at. absurd (no_place n v place at);
  none = λ v place at given. absurd (none-some given.0 given.2);
}

-- one block more
pub ArePlaces_push : (blocks : List Block) (x : Block) (old new : List (Option (ℕ × ℕ))) → ArePlaces blocks old
    → ArePlaced (length blocks) x.instrs old new → ArePlaces (blocks ++ x ∷ []) new
ArePlaces_push blocks x old new so to = record {
  given = λ v place at.
      elim (to.given v place at) [
        | inl before ↦
            let given = so.given v place before in
            (given.0, given.1, slice_get-append blocks (x ∷ []) place.0 given.0 given.2, given.3, given.4)
        | inr there ↦
            let found : slice_get (blocks ++ x ∷ []) place.0 ≡ Some x = ap (slice_get (blocks ++ x ∷ [])) there.0 ∙ slice_get_push blocks x in
            (x, there.1.0, found, there.1.1, there.1.2)
      ];
  none = λ v place at given.
      elim (pushed_at blocks x given.0 place.0 given.2) [
        | inl there ↦ so.none v place (to.none v at).0 (given.0, given.1, there, given.3, given.4)
        | inr last ↦ (to.none v at).1 place.1 (given.1, ap (λ (b : Block). slice_get b.instrs place.1) last.1 ∙ given.3, given.4)
      ];
}

-- the step of a walk along the blocks
pub ArePlaces_more : (i : ℕ) (blocks : List Block) (x : Block) (old new : List (Option (ℕ × ℕ))) → i < length blocks
    → x ≡ get_or blocks i x → ArePlaces (take i blocks) old → ArePlaced i x.instrs old new
    → ArePlaces (take (i + 1) blocks) new
ArePlaces_more i blocks x old new within is so to =
    let size : length (take i blocks) ≡ i = length-take-le i blocks (omega (arith, within)) in
    let all : take i blocks ++ x ∷ [] ≡ take (i + 1) blocks = ap (λ (y : Block). take i blocks ++ y ∷ []) is ∙ sym (take_more blocks i x within) in
    subst (λ (xs : List Block). ArePlaces xs new) all (ArePlaces_push (take i blocks) x old new so (subst (λ (k : ℕ). ArePlaced k x.instrs old new) (sym size) to))
