-- A walk that can't have come to its end past a block of a loop hasn't entered the loop's header since that block.
use Rattle.std.proofs.Common.{◌≡◌, ◌≢◌, ℕ, List, [], ◌∷◌, Contains, refl, sym, ap, ◌∙◌, subst, inl, inr}
use Rattle.std.proofs.lemmas.Bool.{cases_eq}
use Rattle.ir_model.specs.declared.function.Function.{Function}
use Rattle.ir_model.specs.Shapes.{entry}
use Rattle.ir_model.specs.Walks.{Edge, Trail}
use Rattle.ir_model.specs.Walks.Trail.{begins, enters}
use Rattle.loop_regions.specs.Loops.{Loop, IsRegion}
use Rattle.loop_turns.specs.Since.{NoTurnSince}
use Rattle.ssa_check.proofs.Elements.{contains_none, contains_cases}
use Rattle.ssa_check.proofs.Trails.{newest, Avoids, avoids_at_entry, arrives}
use Rattle.loop_regions.proofs.TurnSteps.{turn_stays}
use Rattle.natural_loops.proofs.Bodies.{header_dominates}
use Rattle.natural_loops.proofs.Trailing.{dominator_before}

-- nothing was entered since a block that was entered last
since_last : (l : Loop) (d b : ℕ) (older : List ℕ) → b ≡ d → NoTurnSince l d (b ∷ older)
since_last l d b older e =
    subst (λ (k : ℕ). NoTurnSince l k (b ∷ older)) e
    (record {
      since = [];
      older = older;
      is = refl;
      last = contains_none b;
      header = contains_none l.header;
      same = refl;
    })

-- one more block, which is neither that one nor the header, begins no turn
since_more : (l : Loop) (d b : ℕ) (trail : List ℕ) → b ≢ d → b ≢ l.header → NoTurnSince l d trail
    → NoTurnSince l d (b ∷ trail)
since_more l d b trail apart other before = record {
  since = b ∷ before.since;
  older = before.older;
  is = ap (λ (xs : List ℕ). b ∷ xs) before.is;
  last = λ there.
      elim (contains_cases b before.since d there) [ inl e ↦ apart e | inr earlier ↦ before.last earlier ];
  header = λ there.
      elim (contains_cases b before.since l.header there) [ inl e ↦ other e | inr earlier ↦ before.header earlier ];
  same = turn_stays l trail b other ∙ before.same;
}

module _ (f : Function) (never : (a : ℕ) → Edge f a (entry f.blocks) → ⊥) (l : Loop) (region : IsRegion f l) where
  module _ (d : ℕ) (held : Contains l.blocks d) where
    -- where a walk first arrives at the header, it hasn't entered any block of the loop
    arrives_past : Avoids f d l.header
    arrives_past =
        let arrival = arrives f l.header (region.reachable l.header region.header) in
        let dominates = header_dominates f never l region d held in (
          arrival.0,
          arrival.1,
          (λ there. arrival.2 (dominator_before f l.header d dominates arrival.1 there)),
        )

    -- a walk that has come past the block has done so one edge further, too
    past_along : (b to : ℕ) → b ≢ d → Edge f b to → Avoids f d b → Avoids f d to
    past_along b to apart edge past = (
      b ∷ past.0,
      enters past.1 edge,
      (λ there. elim (contains_cases b past.0 d there) [ inl e ↦ apart e | inr earlier ↦ past.2 earlier ]),
    )

    -- If no walk comes past the block to where the trail ends, then the trail has entered the block, and not the header
    -- since: a walk that first arrives at the header could go on as the trail did.
    pub since_entered : {xs : List ℕ} → Trail f xs → (newest xs ≢ d → Avoids f d (newest xs) → ⊥)
        → NoTurnSince l d xs
    since_entered begins passed =
        elim (cases_eq (entry f.blocks) d) [
          | inl e ↦ since_last l d (entry f.blocks) [] e
          | inr apart ↦ absurd (passed apart (avoids_at_entry f d (entry f.blocks) refl))
        ]
    since_entered (enters {b} {to} {trail} before edge) passed =
        elim (cases_eq to d) [
          | inl e ↦ since_last l d to (b ∷ trail) e
          | inr apart ↦
              let other : to ≢ l.header = λ e. passed apart (subst (Avoids f d) (sym e) arrives_past) in
              since_more l d to (b ∷ trail) apart other
              (since_entered before (λ earlier past. passed apart (past_along b to earlier edge past)))
        ]
