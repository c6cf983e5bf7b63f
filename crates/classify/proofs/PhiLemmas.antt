-- What a recurrence says of the instructions that give its registers, and how it follows from them.
use Rattle.std.specs.Prelude.{◌≡◌, ◌≢◌, ◌==◌, ℕ, Bool, true, false, not, List, [], ◌∷◌, Option, None, IfSome, IfNone}
use Rattle.std.specs.Prelude.{All, Contains}
use Rattle.std.specs.Bool.{then_some}
use Rattle.std.proofs.Common.{ap, sym, subst, ◌∙◌, refl}
use Rattle.std.proofs.lemmas.Bool.{both_ways, eq-eqb, eqb-true}
use Rattle.std.proofs.lemmas.Option.{same_Some}
use Rattle.scev_base.specs.declared.ids.BlockId.{BlockId}
use Rattle.ir_model.specs.declared.types.IrType.TheVariants.{Int}
use Rattle.ir_model.specs.declared.op.Operand.TheVariants as operand
use Rattle.ir_model.specs.declared.op.PhiEntry.{PhiEntry}
use Rattle.ir_model.specs.declared.op.Op.TheVariants.{Phi}
use Rattle.ir_model.specs.declared.function.Instr.{Instr}
use Rattle.ir_model.specs.declared.function.Block.{Block}
use Rattle.ir_model.specs.declared.function.Function.{Function}
use Rattle.ir_model.specs.Shapes.{block_of, leading_phis}
use Rattle.classify.specs.Names.{NamesAreOnce}
use Rattle.classify.specs.Definitions.{IsGivenAt}
use Rattle.classify.specs.Recurrence.{phis, IsNumeral, Increments, Has, entries_from, other_entries, IsRecurrence}
use Rattle.classify.proofs.GivenLemmas.{IsGivenBy, given_at, as_named, found_by_name}
use Rattle.classify.proofs.OneAnswer.{same_entries, same_next}

-- the one entry of a phi from its own block
abbrev pub IsBack : Block → List PhiEntry → ℕ → Type 0
IsBack block entries next =
    entries_from block.id.0 entries ≡ record { value = operand.Reg (record { 0 = next }); from = block.id } ∷ []

abbrev pub StartsOutside : Block → List PhiEntry → ℕ → Type 0
StartsOutside block entries first = All (λ entry. IsNumeral first entry.value) (other_entries block.id.0 entries)

-- what an option gives where it is a certain one
pub none_left : {X : Type 0} (o : Option X) (P : Type 0) → o ≡ None → P → IfNone o P
none_left o P e h = rw e h

pub some_when : {X : Type 0} (o : Option X) (b : Bool) (x : X) (P : X → Type 0) → o ≡ then_some b x → (b ≡ true → P x)
    → IfSome o P
some_when o true x P e h = rw e (h refl)
some_when o false x P e h = rw e tt

pub none_unless : {X : Type 0} (o : Option X) (b : Bool) (x : X) (P : Type 0) → o ≡ then_some b x → (b ≡ false → P)
    → IfNone o P
none_unless o true x P e h = rw e tt
none_unless o false x P e h = rw e (h refl)

-- what a test of two numbers says
pub equal : (a b : ℕ) → false ≡ not (a == b) → a ≡ b
equal a b h = go (a == b) refl h
  where
    go : (t : Bool) → (a == b) ≡ t → false ≡ not t → a ≡ b
    go true e h = eqb-true a b e
    go false e h = cc

pub unequal : (a b : ℕ) → true ≡ not (a == b) → a ≡ b → ⊥
unequal a b h same = both_ways (not (a == b)) (ap not (eq-eqb a b same)) (sym h)

-- what no instruction gives is no recurrence
pub phi_is_given : (f : Function) (b p first step : ℕ) → IsRecurrence f b p first step
    → (place : ℕ × ℕ) × IsGivenAt f p place
phi_is_given f b p first step r = given_at f b p r.block (Phi (Int 32) r.entries) r.is_block r.phi

module _ (f : Function) (p : ℕ) (block : Block) (phi : Instr) (given : IsGivenBy f p block phi) (b first step : ℕ) (r : IsRecurrence f b p first step) where
  phi_named : (block.id.0 ≡ b) × (block ≡ r.block) × (phi.op ≡ Phi (Int 32) r.entries)
  phi_named = as_named f b p block r.block phi (Phi (Int 32) r.entries) r.names given r.is_block r.phi

  pub block_named : record { 0 = b } ≡ block.id
  block_named = sym (ap (λ (a : ℕ). record { 0 = a }) phi_named.0)

  pub has_entries : (entries : List PhiEntry) × (phi.op ≡ Phi (Int 32) entries)
  has_entries = (r.entries, phi_named.2)

  pub phis_first : phis block.instrs ≡ leading_phis block.instrs
  phis_first = subst (λ (x : Block). phis x.instrs ≡ leading_phis x.instrs) (sym phi_named.1) r.phis_first

  module _ (entries : List PhiEntry) (is : phi.op ≡ Phi (Int 32) entries) where
    same : r.entries ≡ entries
    same = same_entries r.entries entries (sym phi_named.2 ∙ is)

    pub back : IsBack block entries r.next
    back =
        subst (λ (a : BlockId). entries_from a.0 entries ≡ record { value = operand.Reg (record { 0 = r.next }); from = a } ∷ []) block_named (subst (λ (es : List PhiEntry). entries_from b es ≡ record { value = operand.Reg (record { 0 = r.next }); from = record { 0 = b } } ∷ []) same r.back)

    pub outside : other_entries block.id.0 entries ≢ []
    outside =
        subst (λ (a : BlockId). other_entries a.0 entries ≢ []) block_named (subst (λ (es : List PhiEntry). other_entries b es ≢ []) same r.outside)

    pub starts : StartsOutside block entries first
    starts =
        subst (λ (a : BlockId). All (λ entry. IsNumeral first entry.value) (other_entries a.0 entries)) block_named (subst (λ (es : List PhiEntry). All (λ entry. IsNumeral first entry.value) (other_entries b es)) same r.starts)

    module _ (next : ℕ) (to : IsBack block entries next) where
      next_is : r.next ≡ next
      next_is =
          same_next block.id.0 r.next next (entries_from block.id.0 entries) back to

      next_adds : Has r.block next r.increment
      next_adds = subst (λ (v : ℕ). Has r.block v r.increment) next_is r.adds

      pub next_is_given : (place : ℕ × ℕ) × IsGivenAt f next place
      next_is_given = given_at f b next r.block r.increment r.is_block next_adds

      module _ (other : Block) (add : Instr) (given' : IsGivenBy f next other add) where
        add_named : (other.id.0 ≡ b) × (other ≡ r.block) × (add.op ≡ r.increment)
        add_named = as_named f b next other r.block add r.increment r.names given' r.is_block next_adds

        pub same_block : other.id.0 ≡ block.id.0
        same_block = add_named.0 ∙ sym phi_named.0

        pub increments : Increments p step add.op
        increments = subst (Increments p step) (sym add_named.2) r.increments

-- the parts of a recurrence make one
pub recurrence_of : (f : Function) (p : ℕ) (block : Block) (phi : Instr) (entries : List PhiEntry) (next : ℕ) (other : Block) (add : Instr) (first step : ℕ)
    → NamesAreOnce f → IsGivenBy f p block phi → phi.op ≡ Phi (Int 32) entries
    → phis block.instrs ≡ leading_phis block.instrs → IsBack block entries next → other_entries block.id.0 entries ≢ []
    → StartsOutside block entries first → IsGivenBy f next other add → other.id.0 ≡ block.id.0
    → Increments p step add.op → IsRecurrence f block.id.0 p first step
recurrence_of f p block phi entries next other add first step names given is phis_first back outside starts given' id increments =
    let found = found_by_name f block names given.0 in
    let found' = found_by_name f other names given'.0 in
    let one : other ≡ block = same_Some other block (sym found' ∙ ap (λ (a : ℕ). block_of f a) id ∙ found) in
    record {
      names = names;
      block = block;
      is_block = found;
      phis_first = phis_first;
      entries = entries;
      phi = (phi, given.1, given.2, is);
      next = next;
      back = back;
      increment = add.op;
      increments = increments;
      adds = (add, subst (λ (x : Block). Contains x.instrs add) one given'.1, given'.2, refl);
      outside = outside;
      starts = starts;
    }
