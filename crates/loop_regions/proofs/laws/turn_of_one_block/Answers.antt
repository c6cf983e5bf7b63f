use Rattle.loop_regions.proofs.TurnSteps.{one_block_again, one_block_anew, turn_stays}
use Rattle.loop_regions.specs.OneBlock.{one_block}
use Rattle.loop_regions.proofs.laws.turn_of_one_block.Goals as goal

pub returns-clause-again : goal.returns-clause-again
returns-clause-again c = one_block_again

pub returns-clause-anew : goal.returns-clause-anew
returns-clause-anew c = one_block_anew

pub returns-clause-elsewhere : goal.returns-clause-elsewhere
returns-clause-elsewhere c b other trail = turn_stays (one_block b) trail other
