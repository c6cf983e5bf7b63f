-- A phi of an accepted function has an entry for each edge that leads to its block, and the first block has no phi.
use Rattle.std.proofs.Common.{◌≡◌, ◌≢◌, ℕ, ◌==◌, ◌<◌, Bool, true, false, not, List, [], ◌∷◌, ◌++◌, map, filter, find}
use Rattle.std.proofs.Common.{count_by, Option, Some, Contains, slice_get, option_map, refl, sym, ap, ◌∙◌, subst, inl}
use Rattle.std.proofs.Common.{inr, arith}
use Rattle.std.specs.List.{list_any}
use Rattle.std.proofs.lemmas.Bool.{cases_Bool, cond-true, eqb-true, eq-eqb, not-true, true≢false, false≢true, and_parts}
use Rattle.std.proofs.lemmas.Bool.{or_left, or_right}
use Rattle.std.proofs.lemmas.List.Elements.{Contains-append_left, Contains-append_right}
use Rattle.std.proofs.lemmas.List.Folds.{Any-from_list_any}
use Rattle.ir_model.specs.declared.types.IrType.{IrType}
use Rattle.ir_model.specs.declared.op.Op.{Op}
use Rattle.ir_model.specs.declared.op.Op.TheVariants.{Phi}
use Rattle.ir_model.specs.declared.op.PhiEntry.{PhiEntry}
use Rattle.ir_model.specs.declared.function.Instr.{Instr}
use Rattle.ir_model.specs.declared.function.Block.{Block}
use Rattle.ir_model.specs.declared.function.Function.{Function}
use Rattle.ir_model.specs.declared.signature.Signatures.{Signatures}
use Rattle.ir_model.specs.declared.rule.Rule.TheVariants as rule
use Rattle.ir_model.specs.declared.rule.Place.TheVariants.{BlockAt}
use Rattle.ir_model.specs.Shapes.{entry, block_of, targets, is_phi, leading_phis}
use Rattle.ir_model.specs.Walks.{successors, Edge}
use Rattle.ir_model.specs.WellMade.{IsFormed, IsWellMade}
use Rattle.ir_meaning.proofs.ListPlaces.{found_there}
use Rattle.ir_meaning.specs.Step.{entry_from}
use Rattle.ir_rules.specs.Accepted.{IsAccepted}
use Rattle.ir_rules.specs.Blocks.{is_target, incoming, occurs, same_numbers, entries_agree, entries_fit}
use Rattle.ir_rules.specs.Spots.{Spot, block_spots, spots}
use Rattle.never_stuck.proofs.Accepted.{unbroken, block_in, any_of_map, holds_of_unless, none_leads, facts_at}
use Rattle.never_stuck.proofs.DefinedOnce.{count_no, counted}
use Rattle.never_stuck.proofs.Elements.{contains_at, map_has, map_only, flat_map_has, flat_map_only, filter_has}
use Rattle.never_stuck.proofs.Elements.{filter_only, any_found, none_of_any, one_of_all}
use Rattle.never_stuck.proofs.Sound.{StandsIn}

-- ---- what counts in both of two lists

some_counted : {X : Type 0} (p : X → Bool) (xs : List X) → 0 < count_by p xs → list_any p xs ≡ true
some_counted p [] some = absurd (omega arith)
some_counted p (x ∷ xs) some =
    elim (cases_Bool (p x)) [
      | inl passes ↦ or_left (p x) (list_any p xs) passes
      | inr fails ↦ or_right (p x) (list_any p xs) (some_counted p xs (omega (arith, count_no p x xs fails, some)))
    ]

occurs_there : (n : ℕ) (ns : List ℕ) → Contains ns n → 0 < occurs n ns
occurs_there n ns there = counted (λ (other : ℕ). other == n) ns n there (eq-eqb n n refl)

same_occurs : (ms ns : List ℕ) → same_numbers ms ns ≡ true → (n : ℕ) → Contains (ms ++ ns) n
    → occurs n ms ≡ occurs n ns
same_occurs ms ns same n there =
    eqb-true (occurs n ms) (occurs n ns) (one_of_all (λ (n : ℕ). occurs n ms == occurs n ns) (ms ++ ns) n same there)

-- ---- edges that lead to a block

abbrev leading_from : ℕ → Block → List ℕ
leading_from b block = map (λ (to : ℕ). block.id.0) (filter (λ to. to == b) (successors block.instrs))

comes_in : (f : Function) (a b : ℕ) → Edge f a b → Contains (incoming f b) a
comes_in f a b edge =
    let from = block_in f a edge.0 edge.1 in
    let kept = filter_has (λ (to : ℕ). to == b) (successors edge.0.instrs) b edge.2 (eq-eqb b b refl) in
    let own : Contains (leading_from b edge.0) edge.0.id.0 =
    map_has (λ (to : ℕ). edge.0.id.0) (filter (λ to. to == b) (successors edge.0.instrs)) b kept in
    flat_map_has (leading_from b) f.blocks edge.0 a from.0
    (subst (λ (n : ℕ). Contains (leading_from b edge.0) n) from.1 own)

abbrev sources_of : List PhiEntry → List ℕ
sources_of entries = map (λ (one : PhiEntry). one.from.0) entries

-- the first entry from a block that leads there
entry_of : (entries : List PhiEntry) (coming : List ℕ) → same_numbers (sources_of entries) coming ≡ true
    → (a : ℕ) → Contains coming a
    → (one : PhiEntry) × (find (λ (one : PhiEntry). one.from.0 == a) entries ≡ Some one)
entry_of entries coming same a there =
    let as_often = same_occurs (sources_of entries) coming same a
    (Contains-append_right (sources_of entries) coming a there) in
    let some = some_counted (λ (n : ℕ). n == a) (sources_of entries)
    (omega (arith, as_often, occurs_there a coming there)) in
    any_found (λ (one : PhiEntry). one.from.0 == a) entries
    (sym (any_of_map (λ (n : ℕ). n == a) (λ (one : PhiEntry). one.from.0) entries) ∙ some)

-- ---- the first block

first_block : (blocks : List Block) → blocks ≢ []
    → (block : Block) × (find (λ (one : Block). one.id.0 == entry blocks) blocks ≡ Some block)
first_block [] some = absurd (some refl)
first_block (block ∷ blocks) some = (
  block,
  cond-true (block.id.0 == block.id.0) (Some block)
      (find (λ (one : Block). one.id.0 == block.id.0) blocks) (eq-eqb block.id.0 block.id.0 refl),
)

-- a phi, by what it is made of
pub phi_shape : (op : Op) → is_phi op ≡ true → (kind : IrType) × (entries : List PhiEntry) × (op ≡ Phi kind entries)
phi_shape (Phi kind entries) is = (kind, entries, refl)
phi_shape _ is = absurd (false≢true is)

-- a phi has an entry, and so its block is led to
some_comes_in : (entries : List PhiEntry) (coming : List ℕ) → entries ≢ []
    → same_numbers (sources_of entries) coming ≡ true → (a : ℕ) × Contains coming a
some_comes_in [] coming some same = absurd (some refl)
some_comes_in (one ∷ entries) coming some same =
    let n = one.from.0 in
    let here : Contains (sources_of (one ∷ entries)) n = (0, omega arith, refl) in
    let as_often = same_occurs (sources_of (one ∷ entries)) coming same n
    (Contains-append_left (sources_of (one ∷ entries)) coming n here) in
    let any = Any-from_list_any (λ (other : ℕ). other == n) coming
    (some_counted (λ (other : ℕ). other == n) coming
    (omega (arith, as_often, occurs_there n (sources_of (one ∷ entries)) here))) in
    (any.1, (any.0, any.2, any.3))

none_leading : (instrs : List Instr) → ((instr : Instr) → slice_get instrs 0 ≡ Some instr → is_phi instr.op ≡ false)
    → leading_phis instrs ≡ []
none_leading [] other = refl
none_leading (instr ∷ instrs) other = none_leads instr instrs (other instr refl)

module _ (signatures : Signatures) (f : Function) (made : IsWellMade f) (accepted : IsAccepted signatures f) where
  -- the entries of a phi are as many from each block as lead there
  sources_lead : (b i : ℕ) (block : Block) (phi : Instr) (kind : IrType) (entries : List PhiEntry)
      → StandsIn f b i block phi → phi.op ≡ Phi kind entries
      → same_numbers (sources_of entries) (incoming f b) ≡ true
  sources_lead b i block phi kind entries stands is =
      let facts = facts_at signatures f made accepted b i block phi stands in
      let fit : entries_fit f b (Phi kind entries) ≡ true = subst (λ (op : Op). entries_fit f b op ≡ true) is
      facts.entries in
      (and_parts (same_numbers (sources_of entries) (incoming f b)) (entries_agree kind entries) fit).0

  pub entry_for : (a b : ℕ) (block : Block) (i : ℕ) (phi : Instr) (kind : IrType) (entries : List PhiEntry)
      → Edge f a b → StandsIn f b i block phi → phi.op ≡ Phi kind entries
      → (entry : PhiEntry) × Contains entries entry × (entry.from.0 ≡ a) × (entry_from a entries ≡ Some entry.value)
  entry_for a b block i phi kind entries edge stands is =
      let found = entry_of entries (incoming f b) (sources_lead b i block phi kind entries stands is) a
      (comes_in f a b edge) in
      let there = found_there (λ (one : PhiEntry). one.from.0 == a) entries found.0 found.1 in (
        found.0,
        contains_at entries there.0 found.0 there.1,
        eqb-true found.0.from.0 a there.2,
        ap (λ (o : Option PhiEntry). option_map (λ (one : PhiEntry). one.value) o) found.1,
      )

  -- nothing leads to the first block
  none_comes_in : (a : ℕ) → Contains (incoming f (entry f.blocks)) a → ⊥
  none_comes_in a there =
      let b = entry f.blocks in
      let from = flat_map_only (leading_from b) f.blocks a there in
      let kept = map_only (λ (to : ℕ). from.0.id.0) (filter (λ to. to == b) (successors from.0.instrs)) a from.2 in
      let to = filter_only (λ (to : ℕ). to == b) (successors from.0.instrs) kept.0 kept.1 in
      let leads = flat_map_only (λ (instr : Instr). targets instr.op) from.0.instrs kept.0 to.0 in
      let spot : Spot = record { block = from.0.id.0; instr = leads.0 } in
      let in_it : Contains (spots f) spot =
      flat_map_has block_spots f.blocks from.0 spot from.1
      (map_has (λ (instr : Instr). record { block = from.0.id.0; instr = instr }) from.0.instrs leads.0 leads.1) in
      let none : is_target f b ≡ false =
      not-true (is_target f b) (holds_of_unless (not (is_target f b)) (BlockAt (record { 0 = b }))
      (unbroken signatures f accepted 5 rule.EntryHasPredecessor refl)) in
      let other = none_of_any (λ (one : Spot). list_any (λ to. to == b) (targets one.instr.op)) (spots f) spot none
      in_it in
      let apart = none_of_any (λ (to : ℕ). to == b) (targets leads.0.op) kept.0 other leads.2 in
      true≢false (sym to.1 ∙ apart)

  first_no_phi : (block : Block) → block_of f (entry f.blocks) ≡ Some block → (instr : Instr)
      → slice_get block.instrs 0 ≡ Some instr → is_phi instr.op ≡ false
  first_no_phi block at instr there =
      elim (cases_Bool (is_phi instr.op)) [
        | inl is ↦
            let stands : StandsIn f (entry f.blocks) 0 block instr = record { block = at; instr = there } in
            let phi = phi_shape instr.op is in
            let formed : IsFormed (Phi phi.0 phi.1) = subst IsFormed phi.2
            (facts_at signatures f made accepted (entry f.blocks) 0 block instr stands).formed.op in
            let source = some_comes_in phi.1 (incoming f (entry f.blocks)) formed.1
            (sources_lead (entry f.blocks) 0 block instr phi.0 phi.1 stands phi.2) in
            absurd (none_comes_in source.0 source.1)
        | inr other ↦ other
      ]

  pub entry_block : (block : Block) × (block_of f (entry f.blocks) ≡ Some block) × (leading_phis block.instrs ≡ [])
  entry_block =
      let first = first_block f.blocks made.some_block in
      (first.0, first.1, none_leading first.0.instrs (first_no_phi first.0 first.1))
