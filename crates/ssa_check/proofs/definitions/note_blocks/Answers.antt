use Rattle.std.proofs.Common.{◌≡◌, ℕ, List, Option, length, get_or, drop}
use Rattle.ir_model.specs.declared.function.Instr.{Instr}
use Rattle.scev_base.specs.declared.ids.BlockId.{BlockId}
use Rattle.ir_model.specs.Places.{in_block}
use Rattle.ssa_check.specs.declared.definitions.Definition.{Definition}
use Rattle.ssa_check.specs.declared.definitions.Definition.TheVariants.{Nowhere}
use Rattle.ssa_check.specs.Tables.{at_place}
use Rattle.ssa_check.proofs.BackLemmas.{drop_back}
use Rattle.ssa_check.proofs.DefinitionLemmas.{given_in, are_noted_more}
use Rattle.ssa_check.proofs.definitions.note_blocks.Goals as goal

new_notes : (old new : List Definition) (b : BlockId) (given instrs : List Instr) → given ≡ instrs
    → ((v : ℕ) (later : Option (BlockId × ℕ)) → get_or old v Nowhere ≡ at_place later
    → get_or new v Nowhere ≡ at_place (in_block b (given_in given v) later))
    → (v : ℕ) (later : Option (BlockId × ℕ)) → get_or old v Nowhere ≡ at_place later
    → get_or new v Nowhere ≡ at_place (in_block b (given_in instrs v) later)
new_notes old new b given instrs is noted = rw is at noted

pub loop-i-preserved : goal.loop-i-preserved
loop-i-preserved c =
    let blocks = c.args.blocks.now in
    let i = c.loop-i.i in
    let block = c.index-blocks-i.result in
    let old = c.loop-i.table.items in
    let new = c.note_instrs.new.table.items in
    let count = length c.args.table.now.items in
    let noted =
    new_notes old new block.id c.as_slice.result.now block.instrs c.as_slice.ensures c.note_instrs.ensures.noted in
    rw (drop_back blocks i block c.loop-i-test.true c.loop-i.auto.i c.index-blocks-i.is)
    (are_noted_more count block (drop i blocks) old new c.note_instrs.ensures.size noted c.loop-i.invariant)
