-- What is told of two loops of a nest is so.
use Rattle.std.proofs.Common.{◌≡◌, ℕ, zero, suc, ◌<◌, ◌≤◌, ◌⊎◌, inl, inr, Bool, true, false, ◌||◌, ◌==◌}
use Rattle.std.proofs.Common.{List, length, Option, Some, None, slice_get, refl, ap, arith}
use Rattle.std.proofs.lemmas.Bool.{eqb-true, eq-eqb, ne_eqb, or_cases, or_from, or_left, or_right}
use Rattle.scev_base.specs.Nest.{Climbs, Contains, IsOutermost, HasDepth, IsNest}
use Rattle.scev_base.proofs.NestLemmas.{steps_below, climbs_below, contained_by_parent}
use Rattle.scev_forms.specs.Gather.{around, steps_out, depth_of, is_met, stands_in}
use Rattle.scev_arena.proofs.Places.{at_place, place_past}

-- the loop around another one is its parent
parent_around : (o : Option (Option ℕ)) (parent : ℕ) → around o ≡ Some parent → o ≡ Some (Some parent)
parent_around None parent e = absurd (cc e)
parent_around (Some o) parent e = ap Some e

-- ---- depths

-- the steps of a walk out, where the limit allows as many
steps_of_walk : (parents : List (Option ℕ)) (most n l top : ℕ) → Climbs parents n l top → IsOutermost parents top
    → n ≤ most
    → steps_out parents most (around (slice_get parents l)) ≡ n
steps_of_walk parents zero zero l top walk end few = refl
steps_of_walk parents (suc most) zero l top walk end few = rw (walk, end) refl
steps_of_walk parents zero (suc n) l top walk end few = absurd (omega arith)
steps_of_walk parents (suc most) (suc n) l top walk end few =
    rw (walk.1) (ap suc (steps_of_walk parents most n walk.0 top walk.2 end (omega arith)))

pub has_depth : (parents : List (Option ℕ)) (l : ℕ) → IsNest parents → l < length parents
    → HasDepth parents l (depth_of parents l)
has_depth parents l nest listed =
    let out = nest.ends l listed in
    let n = out.1.0 in
    let top = out.1.1 in
    let walk = out.1.3 in
    let end = out.1.4 in
    let below = steps_below parents n l top walk end in
    let steps = steps_of_walk parents (length parents) n l top walk end (omega arith) in
    (n, top, omega arith, walk, end)

-- ---- what is met on the way out

module _ (parents : List (Option ℕ)) (outer : ℕ) where
  -- what is met contains where the way begins
  met_contains : (most : ℕ) (at : Option ℕ) → is_met parents outer most at ≡ true
      → (l : ℕ) × (at ≡ Some l) × Contains parents outer l
  met_contains zero at met = absurd (cc met)
  met_contains (suc most) None met = absurd (cc met)
  met_contains (suc most) (Some l) met =
      elim (or_cases (l == outer) (is_met parents outer most (around (slice_get parents l))) met) [
        | inl same ↦ (l, refl, (0, eqb-true l outer same))
        | inr later ↦
            let rest = met_contains most (around (slice_get parents l)) later in
            let step = parent_around (slice_get parents l) rest.0 rest.1 in
            (l, refl, contained_by_parent parents outer l rest.0 step rest.2)
      ]

  -- a walk meets its end, where the limit allows as many steps
  walk_meets : (most n l : ℕ) → Climbs parents n l outer → n < most → is_met parents outer most (Some l) ≡ true
  walk_meets zero n l walk few = absurd (omega arith)
  walk_meets (suc most) zero l walk few =
      or_left (l == outer) (is_met parents outer most (around (slice_get parents l))) (eq-eqb l outer walk)
  walk_meets (suc most) (suc n) l walk few =
      or_right (l == outer) (is_met parents outer most (around (slice_get parents l)))
      (rw (walk.1) (walk_meets most n walk.0 walk.2 (omega arith)))

  -- what isn't a loop of the nest is met nowhere
  never_met : IsNest parents → length parents ≤ outer
      → (most : ℕ) (at : Option ℕ)
      → ((l : ℕ) → at ≡ Some l → l < length parents)
      → is_met parents outer most at ≡ false
  never_met nest past zero at listed = refl
  never_met nest past (suc most) None listed = refl
  never_met nest past (suc most) (Some l) listed =
      let less = listed l refl in
      or_from (l == outer) (is_met parents outer most (around (slice_get parents l)))
      (ne_eqb l outer (λ e. omega arith))
      (never_met nest past most (around (slice_get parents l))
      (λ parent e. nest.within l parent (parent_around (slice_get parents l) parent e)))

  -- nothing is met where the way has no beginning
  none_met : (most : ℕ) → is_met parents outer most None ≡ false
  none_met zero = refl
  none_met (suc most) = refl

-- ---- containment

pub told_contains : (parents : List (Option ℕ)) (outer inner : ℕ) → stands_in parents outer inner ≡ true
    → Contains parents outer inner
told_contains parents outer inner told =
    elim (or_cases (inner == outer) (is_met parents outer (length parents) (around (slice_get parents inner))) told) [
      | inl same ↦ (0, eqb-true inner outer same)
      | inr met ↦
          let rest = met_contains parents outer (length parents) (around (slice_get parents inner)) met in
          let step = parent_around (slice_get parents inner) rest.0 rest.1 in
          contained_by_parent parents outer inner rest.0 step rest.2
    ]

-- a walk to a loop of the nest has at most as many steps as there are loops
steps_within : (parents : List (Option ℕ)) (n outer inner : ℕ) → IsNest parents → outer < length parents
    → Climbs parents n inner outer
    → n < length parents
steps_within parents n outer inner nest listed walk = by_parent (slice_get parents outer) refl
  where
    by_parent : (o : Option (Option ℕ)) → slice_get parents outer ≡ o → n < length parents
    by_parent None e = let there = at_place parents outer listed in absurd (cc (e, there.1))
    by_parent (Some None) e = steps_below parents n inner outer walk e
    by_parent (Some (Some parent)) e =
        let below = climbs_below parents n inner outer parent nest walk e in omega arith

pub contains_told : (parents : List (Option ℕ)) (outer inner : ℕ) → IsNest parents → outer < length parents
    → Contains parents outer inner
    → stands_in parents outer inner ≡ true
contains_told parents outer inner nest listed inside = by_steps inside.0 inside.1
  where
    by_steps : (n : ℕ) → Climbs parents n inner outer → stands_in parents outer inner ≡ true
    by_steps zero walk =
        or_left (inner == outer) (is_met parents outer (length parents) (around (slice_get parents inner)))
        (eq-eqb inner outer walk)
    by_steps (suc n) walk =
        let few = steps_within parents (suc n) outer inner nest listed walk in
        or_right (inner == outer) (is_met parents outer (length parents) (around (slice_get parents inner)))
        (rw (walk.1) (walk_meets parents outer (length parents) n walk.0 walk.2 (omega arith)))

-- what isn't met doesn't count
or_none : (b met : Bool) → met ≡ false → (b || met) ≡ b
or_none true met e = refl
or_none false met e = e

-- a loop that isn't in the nest contains itself alone, and no other contains it
pub outside_alone : (parents : List (Option ℕ)) (outer inner : ℕ) → IsNest parents
    → (length parents ≤ outer) ⊎ (length parents ≤ inner)
    → stands_in parents outer inner ≡ (inner == outer)
outside_alone parents outer inner nest outside =
    or_none (inner == outer) (is_met parents outer (length parents) (around (slice_get parents inner)))
    (elim outside [
      | inl past ↦ never_met parents outer nest past (length parents) (around (slice_get parents inner))
          (λ l e. nest.within inner l (parent_around (slice_get parents inner) l e))
      | inr past ↦ rw (place_past parents inner past) (none_met parents outer (length parents))
    ])
