-- Loops that an operand leaves, from the innermost one that holds its definition on.
use Rattle.std.proofs.Common.{◌≡◌, ◌↔◌, ℕ, zero, suc, ◌<◌, ◌⊎◌, ◌++◌, List, [], ◌∷◌, length, map}
use Rattle.std.proofs.Common.{Contains, Option, Some, None, refl, sym, ap, ◌∙◌, subst, inl, inr, arith}
use Rattle.std.proofs.lemmas.Bool.{cases_eq}
use Rattle.std.proofs.lemmas.Option.{slice_get-get_or}
use Rattle.std.proofs.lemmas.List.Elements.{Contains-append_left, Contains-append_right, Contains-append_cases}
use Rattle.std.specs.List.{slice_get}
use Rattle.scev_base.specs.declared.ids.LoopId.{LoopId}
use Rattle.scev_base.specs.declared.ids.ValueId.{ValueId}
use Rattle.scev_base.specs.Nest.{IsNest}
use Rattle.scev_base.specs.Nest as nest
use Rattle.scev_base.proofs.NestLemmas.{height, height_falls, contains_again, contains_parent, contained_by_parent}
use Rattle.scev_base.proofs.NestLemmas.{outermost_alone}
use Rattle.value_exprs.specs.View.{View, Holds, Leaves, conditions_of, home, number_of_loop, outside}
use Rattle.value_exprs.specs.WellMade.{IsListed}
use Rattle.value_groups.specs.Reads.{IsReadLeaving}

-- ---- numbers of registers

abbrev pub numbers : List ValueId → List ℕ
numbers registers = map (λ (x : ValueId). x.0) registers

numbers_has : (registers : List ValueId) (x : ValueId) → Contains registers x → Contains (numbers registers) x.0
numbers_has [] x there = absurd (omega (arith, there.1))
numbers_has (y ∷ ys) x (zero, within, is) = (zero, omega arith, ap (λ (z : ValueId). z.0) is)
numbers_has (y ∷ ys) x (suc k, within, is) =
    let later = numbers_has ys x (k, omega arith, is) in
    (suc later.0, omega (arith, later.1), later.2)

numbers_only : (registers : List ValueId) (x : ℕ) → Contains (numbers registers) x
    → Contains registers (record { 0 = x })
numbers_only [] x there = absurd (omega (arith, there.1))
numbers_only (y ∷ ys) x (zero, within, is) =
    (zero, omega arith, ap {B = ValueId} (λ (n : ℕ). record { 0 = n }) is)
numbers_only (y ∷ ys) x (suc k, within, is) =
    let later = numbers_only ys x (k, omega arith, is) in
    (suc later.0, omega (arith, later.1), later.2)

-- ---- the loop around one

around_is : (view : View) (l : LoopId) (next : Option ℕ) → l.0 < length view.parents → next ≡ outside view l
    → slice_get view.parents l.0 ≡ Some next
around_is view l next within is = slice_get-get_or view.parents l.0 None within ∙ ap Some (sym is)

-- what holds the loop around one holds it
holds_inside : (view : View) (l : LoopId) (next : Option LoopId)
    → slice_get view.parents l.0 ≡ Some (number_of_loop next) → (k : ℕ) → Holds view k (number_of_loop next)
    → nest.Contains view.parents k l.0
holds_inside view l None is k h = absurd h
holds_inside view l (Some p) is k h = contained_by_parent view.parents k l.0 p.0 is h

-- what holds a loop is the loop, or holds the one around it
holds_around : (view : View) (l : LoopId) (next : Option LoopId)
    → slice_get view.parents l.0 ≡ Some (number_of_loop next) → (k : ℕ) → nest.Contains view.parents k l.0
    → (l.0 ≡ k → ⊥) → Holds view k (number_of_loop next)
holds_around view l None is k h other = outermost_alone view.parents k l.0 is other h
holds_around view l (Some p) is k h other = contains_parent view.parents k l.0 p.0 is other h

-- the loop around one is of the nest
listed : (view : View) (l : LoopId) (next : Option LoopId) → IsNest view.parents
    → slice_get view.parents l.0 ≡ Some (number_of_loop next) → IsListed view next
listed view l None nested is = tt
listed view l (Some p) nested is = nested.within l.0 p.0 is

pub around_listed : (view : View) (l : LoopId) (next : Option LoopId) → IsNest view.parents
    → l.0 < length view.parents → number_of_loop next ≡ outside view l → IsListed view next
around_listed view l next nested within is =
    listed view l next nested (around_is view l (number_of_loop next) within is)

-- how many loops there are from one on, up to a limit
abbrev pub height_at : View → Option LoopId → ℕ
height_at view None = 0
height_at view (Some l) = suc (height view.parents (length view.parents) l.0)

lower : (view : View) (l : LoopId) (next : Option LoopId) → IsNest view.parents
    → slice_get view.parents l.0 ≡ Some (number_of_loop next) → height_at view next < height_at view (Some l)
lower view l None nested is = omega arith
lower view l (Some p) nested is =
    let falls = height_falls view.parents l.0 p.0 nested is in
    omega (arith, falls)

pub height_at_falls : (view : View) (l : LoopId) (next : Option LoopId) → IsNest view.parents
    → l.0 < length view.parents → number_of_loop next ≡ outside view l → height_at view next < height_at view (Some l)
height_at_falls view l next nested within is =
    lower view l next nested (around_is view l (number_of_loop next) within is)

-- ---- the loops up to one

-- These are the registers that the conditions read of the loops that an operand leaves, but for those that hold a loop.
pub record IsLeftUpTo (view : View) (v : ℕ) (place : Option ℕ) (at : Option LoopId) (more : List ℕ) : Type 0 where
  pub sound : (x : ℕ) → Contains more x → IsReadLeaving view v place x
  pub all : (l x : ℕ) → Leaves view v place l → Contains (conditions_of view l) (record { 0 = x })
      → Contains more x ⊎ Holds view l (number_of_loop at)
  pub home : (l : ℕ) → Holds view l (number_of_loop at) → Holds view l (number_of_loop (home view v))

pub IsLeftUpTo_none : (view : View) (v : ℕ) (place : Option ℕ) → IsLeftUpTo view v place (home view v) []
IsLeftUpTo_none view v place = record {
  sound = λ x there. absurd (omega (arith, there.1));
  all = λ l x leaves there. inr leaves.0;
  home = λ l h. h;
}

pub IsLeftUpTo_more : (view : View) (v : ℕ) (place : Option ℕ) (l : LoopId) (next : Option LoopId) (more : List ℕ)
    → l.0 < length view.parents → number_of_loop next ≡ outside view l → (Holds view l.0 place → ⊥)
    → IsLeftUpTo view v place (Some l) more
    → IsLeftUpTo view v place next (more ++ numbers (conditions_of view l.0))
IsLeftUpTo_more view v place l next more within around apart to =
    let is = around_is view l (number_of_loop next) within around in
    let conditions = conditions_of view l.0 in
    record {
      sound = λ x there.
          elim (Contains-append_cases more (numbers conditions) x there) [
            | inl before ↦ to.sound x before
            | inr here ↦ (l.0, (to.home l.0 (0, refl), apart), numbers_only conditions x here)
          ];
      all = λ k x leaves there.
          elim (to.all k x leaves there) [
            | inl before ↦ inl (Contains-append_left more (numbers conditions) x before)
            | inr inside ↦
                elim (cases_eq l.0 k) [
                  | inl e ↦ inl (Contains-append_right more (numbers conditions) x
                      (numbers_has conditions (record { 0 = x })
                      (subst (λ (n : ℕ). Contains (conditions_of view n) (record { 0 = x })) (sym e) there)))
                  | inr other ↦ inr (holds_around view l next is k inside other)
                ]
          ];
      home = λ k h. to.home k (holds_inside view l next is k h);
    }

-- where an operand leaves no loop that holds this one, these are all
pub all_left : (view : View) (v : ℕ) (place : Option ℕ) (at : Option LoopId) (more : List ℕ)
    → IsLeftUpTo view v place at more → ((l : ℕ) → Leaves view v place l → Holds view l (number_of_loop at) → ⊥)
    → (x : ℕ) → Contains more x ↔ IsReadLeaving view v place x
all_left view v place at more to none x = (
  to.sound x,
  (λ read.
      elim (to.all read.0 x read.1 read.2) [
        | inl there ↦ there
        | inr inside ↦ absurd (none read.0 read.1 inside)
      ]),
)

-- an operand leaves no loop that holds one that holds the place
pub none_beyond : (view : View) (v : ℕ) (place : Option ℕ) (l : ℕ) → Holds view l place → (k : ℕ)
    → Leaves view v place k → nest.Contains view.parents k l → ⊥
none_beyond view v None l held k leaves inside = held
none_beyond view v (Some inner) l held k leaves inside = leaves.1 (contains_again view.parents k l inner inside held)
