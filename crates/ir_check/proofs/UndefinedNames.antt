-- The names of a function that aren't defined, block by block.
use Rattle.std.proofs.Common.{◌≡◌, ℕ, List, [], ◌∷◌, ◌++◌, map, refl, sym, ap, ◌∙◌}
use Rattle.std.specs.Prelude.{nat_lt}
use Rattle.std.specs.List.{flat_map}
use Rattle.std.proofs.lemmas.Grind.{flat_map-append}
use Rattle.ir_model.specs.declared.function.Instr.{Instr}
use Rattle.ir_model.specs.declared.function.Block.{Block}
use Rattle.ir_model.specs.declared.function.Function.{Function}
use Rattle.ir_model.specs.declared.signature.Signatures.{Signatures}
use Rattle.ir_model.specs.declared.rule.Place.{Place}
use Rattle.ir_model.specs.declared.rule.Place.TheVariants.{BlockAt, UseIn}
use Rattle.ir_model.specs.Sites.{Site, DefinesValue, UsesValue, DefinesBlock, UsesBlock, UsesGlobal, op_sites}
use Rattle.ir_rules.specs.Spots.{Spot, block_spots, place}
use Rattle.ir_rules.specs.Names.{unless, undefined_at, undefined_names}
use Rattle.ir_check.specs.declared.defined.Defined.{Defined}
use Rattle.ir_check.specs.Definitions.{Defines}
use Rattle.ir_check.specs.Undefined.{undefined_site, undefined_instr, undefined_block}

module _ (d : Defined) (globals : ℕ) (f : Function) (signatures : Signatures) (known : Defines d f)
    (count : signatures.globals ≡ globals) where
  same_site : (spot : Spot) (site : Site)
      → undefined_at signatures f spot site ≡ undefined_site d globals (record { 0 = spot.block }) (place spot) site
  same_site spot (DefinesValue v) = refl
  same_site spot (UsesValue v) =
      ap (λ t. unless t (UseIn (record { 0 = v }) (record { 0 = spot.block }))) (sym (known.values v))
  same_site spot (DefinesBlock b) = refl
  same_site spot (UsesBlock b) = ap (λ t. unless t (BlockAt (record { 0 = b }))) (sym (known.blocks b))
  same_site spot (UsesGlobal g) = ap (λ n. unless (nat_lt g n) (place spot)) count

  same_sites : (spot : Spot) (sites : List Site)
      → flat_map (undefined_at signatures f spot) sites
      ≡ flat_map (undefined_site d globals (record { 0 = spot.block }) (place spot)) sites
  same_sites spot [] = refl
  same_sites spot (site ∷ sites) =
      let here = undefined_site d globals (record { 0 = spot.block }) (place spot) site in
      ap (λ places. places ++ flat_map (undefined_at signatures f spot) sites) (same_site spot site)
      ∙ ap (λ rest. here ++ rest) (same_sites spot sites)

  abbrev at_spot : Spot → List Place
  at_spot spot = flat_map (undefined_at signatures f spot) (op_sites spot.instr.op)

  same_instrs : (block : Block) (instrs : List Instr)
      → flat_map at_spot (map (λ (instr : Instr). record { block = block.id.0; instr = instr }) instrs)
      ≡ flat_map (undefined_instr d globals block.id) instrs
  same_instrs block [] = refl
  same_instrs block (instr ∷ instrs) =
      let spots : List Spot = map (λ (instr : Instr). record { block = block.id.0; instr = instr }) instrs in
      let spot : Spot = record { block = block.id.0; instr = instr } in
      ap (λ here. here ++ flat_map at_spot spots) (same_sites spot (op_sites instr.op))
      ∙ ap (λ rest. undefined_instr d globals block.id instr ++ rest) (same_instrs block instrs)

  same_blocks : (blocks : List Block)
      → flat_map at_spot (flat_map block_spots blocks) ≡ flat_map (undefined_block d globals) blocks
  same_blocks [] = refl
  same_blocks (block ∷ blocks) =
      flat_map-append at_spot (block_spots block) (flat_map block_spots blocks)
      ∙ ap (λ here. here ++ flat_map at_spot (flat_map block_spots blocks)) (same_instrs block block.instrs)
      ∙ ap (λ rest. undefined_block d globals block ++ rest) (same_blocks blocks)

  pub same_undefined : undefined_names signatures f ≡ flat_map (undefined_block d globals) f.blocks
  same_undefined = same_blocks f.blocks
