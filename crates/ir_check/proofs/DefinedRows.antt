-- What the rows tell, once definitions are in them.
use Rattle.std.proofs.Common.{◌≡◌, ℕ, ◌==◌, ◌<◌, Bool, true, false, ◌||◌, List, [], ◌∷◌, ◌++◌, length, replicate}
use Rattle.std.proofs.Common.{get_or, set, slice_get, refl, sym, ap, ◌∙◌, inl, inr, arith, get_or-set_same}
use Rattle.std.proofs.Common.{get_or-set_other}
use Rattle.std.specs.List.{list_any, flat_map}
use Rattle.std.proofs.lemmas.Bool.{cases_Bool, cases_eq, eq-eqb, ne_eqb, cases_lt}
use Rattle.std.proofs.lemmas.List.{get_or_past, get_or-replicate, length-replicate}
use Rattle.std.proofs.lemmas.List.Concat.{flat_map_single}
use Rattle.ir_model.specs.declared.function.Param.{Param}
use Rattle.ir_model.specs.declared.function.Function.{Function}
use Rattle.ir_model.specs.declared.rule.Place.{Place}
use Rattle.ir_model.specs.declared.rule.Place.TheVariants.{Value, BlockAt, UseIn, Item}
use Rattle.ir_rules.specs.Spots.{repeated}
use Rattle.ir_rules.specs.Names.{same_place, block_definitions, definitions}
use Rattle.ir_check.specs.declared.defined.Defined.{Defined}
use Rattle.ir_check.specs.Definitions.{has_place, with_place, HasRoom, first_again, with_places, HaveRoom}

-- ---- one place more

bit_more : (bits : List Bool) (v w : ℕ) → w < length bits
    → get_or (set bits w true) v false ≡ ((v == w) || get_or bits v false)
bit_more bits v w within =
    elim (cases_eq v w) [
      | inl same ↦ rw (same, eq-eqb w w refl) (get_or-set_same bits w true false within)
      | inr apart ↦ rw (ne_eqb v w apart) (get_or-set_other bits w v true false apart)
    ]

pub has-with : (d : Defined) (at p : Place) → HasRoom d at
    → has_place (with_place d at) p ≡ (same_place p at || has_place d p)
has-with d (Value w) (Value v) room = bit_more d.values v.0 w.0 room
has-with d (Value w) (BlockAt b) room = refl
has-with d (Value w) (UseIn v b) room = refl
has-with d (Value w) (Item i) room = refl
has-with d (BlockAt c) (Value v) room = refl
has-with d (BlockAt c) (BlockAt b) room = bit_more d.blocks b.0 c.0 room
has-with d (BlockAt c) (UseIn v b) room = refl
has-with d (BlockAt c) (Item i) room = refl
has-with d (UseIn w c) (Value v) room = refl
has-with d (UseIn w c) (BlockAt b) room = refl
has-with d (UseIn w c) (UseIn v b) room = refl
has-with d (UseIn w c) (Item i) room = refl
has-with d (Item j) (Value v) room = refl
has-with d (Item j) (BlockAt b) room = refl
has-with d (Item j) (UseIn v b) room = refl
has-with d (Item j) (Item i) room = refl

-- ---- many places

-- The rows know a list of places.
abbrev pub Knows : Defined → List Place → Type 0
Knows d before = (p : Place) → has_place d p ≡ list_any (same_place p) before

Knows-more : (d : Defined) (before : List Place) (at : Place) → Knows d before → HasRoom d at
    → Knows (with_place d at) (at ∷ before)
Knows-more d before at known room p = has-with d at p room ∙ ap (λ rest. same_place p at || rest) (known p)

-- The first place that was defined before is the first that is repeated.
pub again-repeated : (d : Defined) (before places : List Place) → Knows d before → HaveRoom d places
    → first_again d places ≡ slice_get (repeated same_place before places) 0
again-repeated d before [] known room = refl
again-repeated d before (at ∷ places) known room =
    elim (cases_Bool (has_place d at)) [
      | inl old ↦ simp (old, sym (known at) ∙ old)
      | inr new ↦
          simp (new, sym (known at) ∙ new)
          (again-repeated (with_place d at) (at ∷ before) places (Knows-more d before at known room.0) room.1)
    ]

pub or_none : (a : Bool) → a ≡ (a || false)
or_none true = refl
or_none false = refl

or_turned : (a b c : Bool) → ((a || b) || c) ≡ (b || (a || c))
or_turned true true c = refl
or_turned true false c = refl
or_turned false true c = refl
or_turned false false c = refl

pub has-all : (d : Defined) (places : List Place) → HaveRoom d places → (p : Place)
    → has_place (with_places d places) p ≡ (has_place d p || list_any (same_place p) places)
has-all d [] room p = or_none (has_place d p)
has-all d (at ∷ places) room p =
    has-all (with_place d at) places room.1 p
    ∙ ap (λ first. first || list_any (same_place p) places) (has-with d at p room.0)
    ∙ or_turned (same_place p at) (has_place d p) (list_any (same_place p) places)

-- ---- rows of no bit

abbrev pub none : ℕ → ℕ → Defined
none values blocks = record { values = replicate values false; blocks = replicate blocks false }

no_bit : (n i : ℕ) → get_or (replicate n false) i false ≡ false
no_bit n i =
    elim (cases_lt i n) [
      | inl within ↦ get_or-replicate n i false false within
      | inr past ↦ get_or_past (replicate n false) i false (omega (arith, length-replicate n false))
    ]

pub Knows-none : (values blocks : ℕ) → Knows (none values blocks) []
Knows-none values blocks (Value v) = no_bit values v.0
Knows-none values blocks (BlockAt b) = no_bit blocks b.0
Knows-none values blocks (UseIn v b) = refl
Knows-none values blocks (Item i) = refl

-- ---- what a function defines

pub definitions_parts : (f : Function)
    → definitions f ≡ flat_map (λ (p : Param). Value p.value ∷ []) f.params ++ flat_map block_definitions f.blocks
definitions_parts f =
    ap (λ params. params ++ flat_map block_definitions f.blocks)
    (sym (flat_map_single (λ (p : Param). Value p.value) f.params))
