-- What is reported of a phi, from what was found of its register.
use Rattle.std.specs.Prelude.{◌≡◌, ℕ, List, Option, Some, None, IfSome, IfNone, Contains, slice_get, map, filter, Bool}
use Rattle.std.proofs.Common.{ap, subst, refl}
use Rattle.std.proofs.lemmas.List.Elements.{All-filter, All-contains, All-contains_itself}
use Rattle.std.proofs.lemmas.Option.{slice_get_within, get_or_from_slice_get}
use Rattle.scev_base.specs.declared.ids.BlockId.{BlockId}
use Rattle.ir_model.specs.declared.function.Instr.{Instr}
use Rattle.ir_model.specs.declared.function.Function.{Function}
use Rattle.ir_model.specs.Shapes.{is_phi}
use Rattle.ir_meaning.specs.Thin.{IsThinFunction}
use Rattle.ir_meaning.proofs.ListPlaces.{contained_at, kept_at}
use Rattle.loop_regions.specs.OneBlock.{one_block}
use Rattle.scev_tree.specs.Tree.{affine}
use Rattle.classify.specs.Recurrence.{phis, IsRecurrence, IsAnswer, IsPhiOf}
use Rattle.classify.specs.Truth.{IsTrueOf}
use Rattle.classify.proofs.DefinedOnce.{only_in_block}
use Rattle.classify.proofs.RecurrenceTruth.{true_by_header}

-- what stands at a place of a list is in it, and what passes a test was in the list before
pub contains_at : {X : Type 0} (xs : List X) (k : ℕ) (x : X) → slice_get xs k ≡ Some x → Contains xs x
contains_at xs k x at = (k, slice_get_within xs k x at, get_or_from_slice_get xs k x x at)

contained_before : {X : Type 0} (test : X → Bool) (xs : List X) (x : X) → Contains (filter test xs) x → Contains xs x
contained_before test xs x =
    All-contains (Contains xs) (filter test xs) x (All-filter test (Contains xs) xs (All-contains_itself xs))

-- what was found of a register: a recurrence of the header of some loop, or that there is none
abbrev pub Found : Function → List BlockId → ℕ → ℕ × ℕ → Type 0
Found f headers p found = (b : ℕ) × Contains headers (record { 0 = b }) × IsRecurrence f b p found.0 found.1

abbrev pub NoneFound : Function → List BlockId → ℕ → Type 0
NoneFound f headers p = (b first step : ℕ) → Contains headers (record { 0 = b }) → IsRecurrence f b p first step → ⊥

-- a recurrence is a phi of its block
phi_of : (f : Function) (b p first step : ℕ) → IsRecurrence f b p first step → IsPhiOf f b p
phi_of f b p first step r =
    let at = contained_at r.block.instrs r.phi.0 r.phi.1 in
    let kept = kept_at (λ (instr : Instr). is_phi instr.op) r.block.instrs at.0 r.phi.0 at.1 (ap is_phi r.phi.3) in
    (r.block, r.is_block, r.phi.0, contains_at (phis r.block.instrs) kept.0 r.phi.0 kept.1, r.phi.2)

-- of one block alone
one_phi : (f : Function) (a b p first step : ℕ) → IsRecurrence f a p first step → IsPhiOf f b p → a ≡ b
one_phi f a b p first step r phi =
    let at = contained_at r.block.instrs r.phi.0 r.phi.1 in
    let at' = contained_at phi.0.instrs phi.2 (contained_before (λ (instr : Instr). is_phi instr.op) phi.0.instrs phi.2 phi.3) in
    only_in_block f a b p at.0 at'.0 r.block phi.0 r.phi.0 phi.2 r.names r.is_block phi.1 at.1 r.phi.2 at'.1 phi.4

module _ (f : Function) (headers : List BlockId) (p : ℕ) where
  pub answer_exact : (answer : Option (ℕ × ℕ)) → IfSome answer (Found f headers p)
      → IfNone answer (NoneFound f headers p) → (b : ℕ) → Contains headers (record { 0 = b }) → IsPhiOf f b p
      → IsAnswer f b p answer
  answer_exact None some none b header phi = λ first step r. none b first step header r
  answer_exact (Some found) some none b header phi =
      subst (λ (a : ℕ). IsRecurrence f a p found.0 found.1) (one_phi f some.0 b p found.0 found.1 some.2 phi) some.2

  pub answer_other : (answer : Option (ℕ × ℕ)) → IfSome answer (Found f headers p)
      → ((b : ℕ) → Contains headers (record { 0 = b }) → IsPhiOf f b p → ⊥) → answer ≡ None
  answer_other None some never = refl
  answer_other (Some found) some never =
      absurd (never some.0 some.1 (phi_of f some.0 p found.0 found.1 some.2))

  pub answer_holds : IsThinFunction f → (answer : Option (ℕ × ℕ)) → IfSome answer (Found f headers p)
      → IfNone answer (NoneFound f headers p) → (first step b k : ℕ) → answer ≡ Some (first, step)
      → slice_get headers k ≡ Some (record { 0 = b }) → IsPhiOf f b p
      → IsTrueOf f (map (λ header. one_block header.0) headers) p (affine 32 k first step)
  answer_holds thin answer some none first step b k is at phi =
      let exact = answer_exact answer some none b (contains_at headers k (record { 0 = b }) at) phi in
      true_by_header f headers b p k first step thin (subst (IsAnswer f b p) is exact) at
