-- Where a run stands in the block of a use, no turn has begun since the value's definition was entered.
use Rattle.std.proofs.Common.{◌≡◌, ◌≢◌, ℕ, ◌<◌, Bool, true, false, if◌then◌else◌, List, Option, Some, None, Contains}
use Rattle.std.proofs.Common.{slice_get, refl, sym, ap, ◌∙◌, subst, inl, inr, arith}
use Rattle.std.proofs.lemmas.Bool.{cases_lt}
use Rattle.std.proofs.lemmas.Option.{same_Some}
use Rattle.scev_base.specs.declared.ids.BlockId.{BlockId}
use Rattle.ir_model.specs.declared.function.Function.{Function}
use Rattle.ir_model.specs.declared.signature.Signatures.{Signatures}
use Rattle.ir_model.specs.Places.{given_at, is_param}
use Rattle.ir_model.specs.Walks.{Reachable}
use Rattle.ir_rules.specs.Accepted.{IsAccepted}
use Rattle.ir_rules.specs.Uses.{Use, uses, HasPassed, IsBroken}
use Rattle.ir_meaning.specs.Run.{Run, last}
use Rattle.ssa_check.specs.declared.definitions.Definition.TheVariants.{Parameter, At}
use Rattle.ssa_check.specs.Tables.{at_place, definition_of}
use Rattle.loop_regions.specs.Loops.{Loop, IsLoop}
use Rattle.loop_turns.specs.Since.{NoTurnSince}
use Rattle.ssa_check.proofs.Trails.{Avoids, arrives, reaches}
use Rattle.natural_loops.proofs.Bodies.{entry_is_no_target}
use Rattle.loop_turns.proofs.RunTrails.{run_is_walked}
use Rattle.loop_turns.proofs.SinceEntered.{since_entered}

-- a definition at a place is that of no parameter
place_is : (param : Bool) (o : Option (BlockId × ℕ)) (d : BlockId) (i : ℕ)
    → (if param then Parameter else at_place o) ≡ At d i
    → (param ≡ false) × ((if param then None else o) ≡ Some (d, i))
place_is true o d i e = absurd (cc)
place_is false None d i e = absurd (cc)
place_is false (Some (b, j)) d i e = (refl, cc)

-- a walk to another block that hasn't entered that of the definition hasn't passed the definition
not_passed : (f : Function) (v : ℕ) (d : BlockId) (i : ℕ) → definition_of f v ≡ At d i → (before : List ℕ)
    → (b index : ℕ) → d.0 ≢ b → (Contains before d.0 → ⊥) → HasPassed f v before b index → ⊥
not_passed f v d i is before b index apart none passed =
    let place = place_is (is_param f.params v) (given_at f.blocks v) d i is in
    elim passed [
      | inl param ↦ absurd (cc (place.0, param))
      | inr at ↦
          let same = same_Some (d, i) (at.0, at.1) (sym place.1 ∙ at.2) in
          let block : d.0 ≡ at.0.0 = ap (λ (place : BlockId × ℕ). place.0.0) same in
          elim at.3 [
            | inl there ↦ none (subst (Contains before) (sym block) there)
            | inr behind ↦ apart (block ∙ behind.0)
          ]
    ]

-- a walk past the block of the definition breaks a use in another block
past_breaks : (f : Function) (use_ : Use) (d : BlockId) (i : ℕ) → definition_of f use_.value ≡ At d i
    → d.0 ≢ use_.block → Avoids f d.0 use_.block → IsBroken f use_
past_breaks f use_ d i is apart past = (
  past.0,
  past.1,
  not_passed f use_.value d i is past.0 use_.block use_.index apart past.2,
)

pub no_turn_since : (signatures : Signatures) (f : Function) (l : Loop) (k : ℕ) (use_ : Use) (d : BlockId) (i : ℕ)
    (r : Run f) → IsAccepted signatures f → IsLoop f l → slice_get (uses f) k ≡ Some use_
    → definition_of f use_.value ≡ At d i → Contains l.blocks d.0 → (last f r).block ≡ use_.block
    → NoTurnSince l d.0 (last f r).trail
no_turn_since signatures f l k use_ d i r accepted is_loop at is held stands =
    let never = entry_is_no_target signatures f accepted in
    let walked = run_is_walked f r in
    let passed : (last f r).block ≢ d.0 → Avoids f d.0 (last f r).block → ⊥ =
    λ other past.
    let apart : d.0 ≢ use_.block = λ e. other (stands ∙ sym e) in
    accepted.uses k use_ at (past_breaks f use_ d i is apart (subst (Avoids f d.0) stands past)) in
    subst (NoTurnSince l d.0) (sym walked.1) (since_entered f never l is_loop.region d.0 held walked.2 passed)

-- a definition in the block of a use stands before it: a walk that first arrives there passes it in no other way
pub defined_before : (signatures : Signatures) (f : Function) (k : ℕ) (use_ : Use) (d : BlockId) (i : ℕ) (r : Run f)
    → IsAccepted signatures f → slice_get (uses f) k ≡ Some use_ → definition_of f use_.value ≡ At d i
    → (last f r).block ≡ use_.block → d.0 ≡ use_.block → i < use_.index
defined_before signatures f k use_ d i r accepted at is stands own =
    let walked = run_is_walked f r in
    let reached : Reachable f use_.block =
    subst (Reachable f) stands (reaches f (last f r).block walked.0 walked.2) in
    let arrival = arrives f use_.block reached in
    let place = place_is (is_param f.params use_.value) (given_at f.blocks use_.value) d i is in
    elim (cases_lt i use_.index) [
      | inl less ↦ less
      | inr late ↦
          absurd (accepted.uses k use_ at (
            arrival.0,
            arrival.1,
            λ passed.
                elim passed [
                  | inl param ↦ cc (place.0, param)
                  | inr there ↦
                      let same = same_Some (d, i) (there.0, there.1) (sym place.1 ∙ there.2) in
                      let block : d.0 ≡ there.0.0 = ap (λ (pair : BlockId × ℕ). pair.0.0) same in
                      let index : i ≡ there.1 = ap (λ (pair : BlockId × ℕ). pair.1) same in
                      elim there.3 [
                        | inl earlier ↦ arrival.2 (subst (Contains arrival.0) (sym block ∙ own) earlier)
                        | inr behind ↦
                            let before = behind.1 in
                            omega (arith, index, late, before)
                      ]
                ],
          ))
    ]
