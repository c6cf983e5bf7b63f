-- A module is refused at one rule at most, in one function and at one place; and one that is accepted at none.
use Rattle.std.proofs.Common.{◌≡◌, ℕ, Some, None, Option, slice_get, sym, ap, ◌∙◌, inl, inr, subst}
use Rattle.std.proofs.lemmas.Bool.{cases_order}
use Rattle.ir_model.specs.declared.function.Function.{Function}
use Rattle.ir_model.specs.declared.item.Module.{Module}
use Rattle.ir_model.specs.declared.signature.Signatures.{Signatures}
use Rattle.ir_model.specs.declared.rule.Rule.{Rule}
use Rattle.ir_model.specs.declared.rule.Place.{Place}
use Rattle.ir_model.specs.declared.rule.Place.TheVariants.{UseIn}
use Rattle.ir_model.specs.Places.{signatures_of}
use Rattle.ir_rules.specs.Uses.{Use, uses, IsFirstBroken}
use Rattle.ir_rules.specs.Rules.{first_broken, first_item_broken}
use Rattle.ir_rules.specs.Accepted.{IsAccepted, IsBrokenAt, functions_of, IsAcceptedModule, IsFault}

-- What is some isn't none.
some_none : {A : Type 0} {o : Option A} {x : A} → o ≡ Some x → o ≡ None → ⊥
some_none is none = cc

-- ---- a function

-- The first use that is broken is one.
one_use : (f : Function) (a b : Use) → IsFirstBroken f a → IsFirstBroken f b → a ≡ b
one_use f a b first other =
    elim (cases_order first.at other.at) [
      | inl same ↦ (
          let is : Some a ≡ Some b = sym first.is ∙ (ap (slice_get (uses f)) same ∙ other.is) in cc
          )
      | inr (inl before) ↦ absurd (other.first first.at a before first.is first.broken)
      | inr (inr behind) ↦ absurd (first.first other.at b behind other.is other.broken)
    ]

-- What is some pair is one.
one_pair : (o : Option (Rule × Place)) (rule other : Rule) (place at : Place) → o ≡ Some (rule, place)
    → o ≡ Some (other, at) → (rule ≡ other) × (place ≡ at)
one_pair o rule other place at is same =
    let both : (rule, place) ≡ (other, at) = some_is (sym is ∙ same) in
    (ap (λ (p : Rule × Place). p.0) both, ap (λ (p : Rule × Place). p.1) both)
  where
    some_is : {p q : Rule × Place} → Some p ≡ Some q → p ≡ q
    some_is e = cc

-- A function breaks one rule first, at one place.
one_broken : (signatures : Signatures) (f : Function) (rule other : Rule) (place at : Place)
    → IsBrokenAt signatures f rule place → IsBrokenAt signatures f other at → (rule ≡ other) × (place ≡ at)
one_broken signatures f rule other place at (inl shape) (inl same) =
    one_pair (first_broken signatures f) rule other place at shape same
one_broken signatures f rule other place at (inl shape) (inr uses_) = absurd (some_none shape uses_.0)
one_broken signatures f rule other place at (inr uses_) (inl shape) = absurd (some_none shape uses_.0)
one_broken signatures f rule other place at (inr a) (inr b) = (
  a.1 ∙ sym b.1,
  a.4 ∙ (ap (λ (use_ : Use). UseIn (record { 0 = use_.value }) (record { 0 = use_.user }))
      (one_use f a.2 b.2 a.3 b.3) ∙ sym b.4),
)

-- A function that is accepted breaks none.
not_broken : (signatures : Signatures) (f : Function) (rule : Rule) (place : Place) → IsAccepted signatures f
    → IsBrokenAt signatures f rule place → ⊥
not_broken signatures f rule place accepted (inl shape) = some_none shape accepted.shape
not_broken signatures f rule place accepted (inr a) = accepted.uses a.3.at a.2 a.3.is a.3.broken

-- ---- a module

-- A module is refused at one rule at most, in one function and at one place.
pub one_fault : (m : Module) (rule other : Rule) (number k : ℕ) (place at : Place) → IsFault m rule number place
    → IsFault m other k at → (rule ≡ other) × (number ≡ k) × (place ≡ at)
one_fault m rule other number k place at (inl items) (inl same) =
    let both = one_pair (first_item_broken m) rule other place at items.0 same.0 in
    (both.0, items.1 ∙ sym same.1, both.1)
one_fault m rule other number k place at (inl items) (inr inside) = absurd (some_none items.0 inside.items)
one_fault m rule other number k place at (inr inside) (inl items) = absurd (some_none items.0 inside.items)
one_fault m rule other number k place at (inr a) (inr b) =
    elim (cases_order number k) [
      | inl same ↦ (
          let is : Some a.function ≡ Some b.function =
          sym a.at ∙ (ap (slice_get (functions_of m)) same ∙ b.at) in
          let one : a.function ≡ b.function = cc in
          let broken = subst (λ f. IsBrokenAt (signatures_of m) f rule place) one a.broken in
          let both = one_broken (signatures_of m) b.function rule other place at broken b.broken in
          (both.0, same, both.1)
          )
      | inr (inl before) ↦ absurd (not_broken (signatures_of m) a.function rule place
          (b.first number a.function before a.at) a.broken)
      | inr (inr behind) ↦ absurd (not_broken (signatures_of m) b.function other at
          (a.first k b.function behind b.at) b.broken)
    ]

-- A module that is accepted is refused at no rule.
pub not_accepted : (m : Module) (rule : Rule) (number : ℕ) (place : Place) → IsAcceptedModule m
    → IsFault m rule number place → ⊥
not_accepted m rule number place accepted (inl items) = some_none items.0 accepted.items
not_accepted m rule number place accepted (inr a) =
    not_broken (signatures_of m) a.function rule place (accepted.functions number a.function a.at) a.broken
