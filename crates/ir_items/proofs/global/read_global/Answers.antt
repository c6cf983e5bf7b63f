use Rattle.ir_model.specs.declared.item.Global_.{Global_}
use Rattle.ir_grammar.specs.Items.{SpellsGlobal}
use Rattle.ir_parts.proofs.Told.{tells_view}
use Rattle.ir_items.specs.declared.global_ending.GlobalEnding.{GlobalEnding}
use Rattle.ir_items.specs.GlobalReading.{global_at}
use Rattle.ir_items.proofs.GlobalReaders.{ended_globals}
use Rattle.ir_items.proofs.GlobalSpelled.{global_of_ended, ended_of_global}
use Rattle.ir_items.proofs.global.read_global.Goals as goal

pub returns-clause-sentence : goal.returns-clause-sentence
unfolding global_at
returns-clause-sentence c =
    tells_view (λ (ended : Global_ × GlobalEnding). ended.0) SpellsGlobal global_of_ended ended_of_global ended_globals
    c.args.tokens.now c.args.from c.requires c.global.result c.global.ensures.value
