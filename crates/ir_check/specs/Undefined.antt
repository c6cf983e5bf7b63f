-- The places at which what is named isn't defined, as the rows of what is defined have it.
use Rattle.std.specs.Prelude.{ℕ, false, List, [], Option, flat_map, nat_lt, slice_get, slice_index_or}
use Rattle.scev_base.specs.declared.ids.BlockId.{BlockId}
use Rattle.ir_model.specs.declared.function.Instr.{Instr}
use Rattle.ir_model.specs.declared.function.Block.{Block}
use Rattle.ir_model.specs.declared.rule.Place.{Place}
use Rattle.ir_model.specs.declared.rule.Place.TheVariants.{BlockAt, UseIn}
use Rattle.ir_model.specs.Sites.{Site, UsesValue, UsesBlock, UsesGlobal, op_sites}
use Rattle.ir_rules.specs.Spots.{named_by}
use Rattle.ir_rules.specs.Names.{unless}
use Rattle.ir_check.specs.declared.defined.Defined.{Defined}
use Rattle.ir_check.specs.declared.undefined.Scope.{Scope}

-- at a site of an instruction of a block, with so many globals
abbrev pub undefined_site : Defined → ℕ → BlockId → Place → Site → List Place
undefined_site defined globals block own (UsesValue v) =
    unless (slice_index_or defined.values v false) (UseIn (record { 0 = v }) block)
undefined_site defined globals block own (UsesBlock b) =
    unless (slice_index_or defined.blocks b false) (BlockAt (record { 0 = b }))
undefined_site defined globals block own (UsesGlobal g) = unless (nat_lt g globals) own
undefined_site defined globals block own _ = []

-- of an instruction and of a block
abbrev pub undefined_instr : Defined → ℕ → BlockId → Instr → List Place
undefined_instr defined globals block instr =
    flat_map (undefined_site defined globals block (named_by block.0 instr.result)) (op_sites instr.op)

abbrev pub undefined_block : Defined → ℕ → Block → List Place
undefined_block defined globals block = flat_map (undefined_instr defined globals block.id) block.instrs

-- the first place at some sites of an instruction
unfoldable pub first_at : Scope → List Site → Option Place
first_at scope sites =
    slice_get (flat_map (undefined_site scope.defined.now scope.globals scope.block scope.own) sites) 0
