use Rattle.ir_model.specs.Defined.{param_type, block_type}
use Rattle.ir_names.proofs.KindLemmas.{are_noted}
use Rattle.ir_names.proofs.types.types.Goals as goal

pub returns-clause-kinds : goal.returns-clause-kinds
returns-clause-kinds c = are_noted c.args.count _ c.note_params.new.kinds _ (param_type c.args.params.now)
    (block_type c.args.blocks.now) c.in_ok-kinds.ensures c.in_ok-note_params.ensures c.in_ok-note_blocks.ensures
