use Rattle.std.proofs.Common.{◌≡◌, ◌<◌, ℕ, All, length, sym, subst, arith}
use Rattle.ir_model.specs.declared.function.Block.{Block}
use Rattle.ir_model.specs.declared.function.Param.{Param}
use Rattle.ssa_check.specs.Tables.{AreWithin}
use Rattle.ssa_check.proofs.DefinitionLemmas.{defined_in_table, params_in_table}
use Rattle.ssa_check.proofs.definitions.Definitions.of.Goals as goal

pub note_blocks-requires-clause-within : goal.note_blocks-requires-clause-within
note_blocks-requires-clause-within c =
    let f = c.args.f.now in
    let size : length f.values ≡ length c.in_ok-table.table.items = omega (arith, c.in_ok-table.ensures.len) in
    let all : All (λ (block : Block). AreWithin (length c.in_ok-table.table.items) block.instrs) f.blocks =
    subst (λ (n : ℕ). All (λ (block : Block). AreWithin n block.instrs) f.blocks) size
    (defined_in_table f c.requires) in
    subst (All (λ (block : Block). AreWithin (length c.in_ok-table.table.items) block.instrs))
    (sym c.as_slice.ensures) all

pub note_params-requires : goal.note_params-requires
note_params-requires c =
    let f = c.args.f.now in
    let table = c.note_blocks.new.table.items in
    let size : length f.values ≡ length table = omega (arith, c.in_ok-table.ensures.len, c.note_blocks.ensures.size) in
    let all : All (λ (p : Param). p.value.0 < length table) f.params =
    subst (λ (n : ℕ). All (λ (p : Param). p.value.0 < n) f.params) size (params_in_table f c.requires) in
    subst (All (λ (p : Param). p.value.0 < length table)) (sym c.as_slice-2.ensures) all
