-- The first instruction that breaks a rule, one instruction or one block at a time.
use Rattle.std.proofs.Common.{◌≡◌, ℕ, zero, suc, true, false, List, [], ◌∷◌, ◌++◌, Option, Some, None, map, filter}
use Rattle.std.proofs.Common.{flat_map, slice_get, drop, refl, sym}
use Rattle.std.proofs.lemmas.Option.{none-some, same_Some}
use Rattle.std.proofs.lemmas.List.{map-append}
use Rattle.std.proofs.lemmas.List.Elements.{filter-append}
use Rattle.ir_model.specs.declared.function.Instr.{Instr}
use Rattle.ir_model.specs.declared.function.Block.{Block}
use Rattle.ir_model.specs.declared.function.Function.{Function}
use Rattle.ir_model.specs.declared.signature.Signatures.{Signatures}
use Rattle.ir_model.specs.declared.rule.Rule.{Rule}
use Rattle.ir_model.specs.declared.rule.Place.{Place}
use Rattle.ir_rules.specs.Spots.{Spot, block_spots, place, named_by}
use Rattle.ir_check.specs.Instrs.{breaks, breaking_spots}

-- the spots of some instructions of a block
abbrev pub spots_in : ℕ → List Instr → List Spot
spots_in b instrs = map (λ (instr : Instr). record { block = b; instr = instr }) instrs

-- the first place among the instructions of a list
abbrev pub first_of : Signatures → Function → Rule → ℕ → List Instr → Option Place
first_of signatures f rule b instrs = slice_get (breaking_spots signatures f rule (spots_in b instrs)) 0

pub first_behind : (signatures : Signatures) (f : Function) (rule : Rule) (b : ℕ) (instrs : List Instr)
    (i : ℕ) (instr : Instr)
    → slice_get instrs i ≡ Some instr → breaks signatures f rule instr ≡ false
    → first_of signatures f rule b (drop i instrs) ≡ first_of signatures f rule b (drop (suc i) instrs)
first_behind signatures f rule b [] i instr is keeps = absurd (none-some _ is)
first_behind signatures f rule b (first ∷ instrs) zero instr is keeps =
    rw (same_Some _ _ is, keeps) refl
first_behind signatures f rule b (first ∷ instrs) (suc i) instr is keeps =
    first_behind signatures f rule b instrs i instr is keeps

pub first_here : (signatures : Signatures) (f : Function) (rule : Rule) (b : ℕ) (instrs : List Instr)
    (i : ℕ) (instr : Instr)
    → slice_get instrs i ≡ Some instr → breaks signatures f rule instr ≡ true
    → first_of signatures f rule b (drop i instrs) ≡ Some (named_by b instr.result)
first_here signatures f rule b [] i instr is broken = absurd (none-some _ is)
first_here signatures f rule b (first ∷ instrs) zero instr is broken = rw (same_Some _ _ is, broken) refl
first_here signatures f rule b (first ∷ instrs) (suc i) instr is broken =
    first_here signatures f rule b instrs i instr is broken

-- the first place among the instructions of some blocks
abbrev pub first_in : Signatures → Function → Rule → List Block → Option Place
first_in signatures f rule blocks = slice_get (breaking_spots signatures f rule (flat_map block_spots blocks)) 0

none_here : (here more : List Place) → slice_get here 0 ≡ None → slice_get (here ++ more) 0 ≡ slice_get more 0
none_here [] more none = refl
none_here (place ∷ here) more none = absurd (none-some _ (sym none))

some_here : (here more : List Place) (place : Place) → slice_get here 0 ≡ Some place
    → slice_get (here ++ more) 0 ≡ Some place
some_here [] more place is = absurd (none-some _ is)
some_here (first ∷ here) more place is = is

breaking_append : (signatures : Signatures) (f : Function) (rule : Rule) (here more : List Spot)
    → breaking_spots signatures f rule (here ++ more)
    ≡ breaking_spots signatures f rule here ++ breaking_spots signatures f rule more
breaking_append signatures f rule here more =
    rw (filter-append (λ (spot : Spot). breaks signatures f rule spot.instr) here more)
    (map-append place (filter (λ (spot : Spot). breaks signatures f rule spot.instr) here)
    (filter (λ (spot : Spot). breaks signatures f rule spot.instr) more))

pub block_behind : (signatures : Signatures) (f : Function) (rule : Rule) (blocks : List Block) (i : ℕ) (block : Block)
    → slice_get blocks i ≡ Some block
    → slice_get (breaking_spots signatures f rule (block_spots block)) 0 ≡ None
    → first_in signatures f rule (drop i blocks) ≡ first_in signatures f rule (drop (suc i) blocks)
block_behind signatures f rule [] i block is none = absurd (none-some _ is)
block_behind signatures f rule (first ∷ blocks) zero block is none =
    rw (same_Some _ _ is, breaking_append signatures f rule (block_spots block) (flat_map block_spots blocks))
    (none_here (breaking_spots signatures f rule (block_spots block))
    (breaking_spots signatures f rule (flat_map block_spots blocks)) none)
block_behind signatures f rule (first ∷ blocks) (suc i) block is none =
    block_behind signatures f rule blocks i block is none

pub block_here : (signatures : Signatures) (f : Function) (rule : Rule) (blocks : List Block) (i : ℕ)
    (block : Block) (place : Place)
    → slice_get blocks i ≡ Some block
    → slice_get (breaking_spots signatures f rule (block_spots block)) 0 ≡ Some place
    → first_in signatures f rule (drop i blocks) ≡ Some place
block_here signatures f rule [] i block place is here = absurd (none-some _ is)
block_here signatures f rule (first ∷ blocks) zero block place is here =
    rw (same_Some _ _ is, breaking_append signatures f rule (block_spots block) (flat_map block_spots blocks))
    (some_here (breaking_spots signatures f rule (block_spots block))
    (breaking_spots signatures f rule (flat_map block_spots blocks)) place here)
block_here signatures f rule (first ∷ blocks) (suc i) block place is here =
    block_here signatures f rule blocks i block place is here
