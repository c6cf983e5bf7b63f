use Rattle.loop_regions.proofs.FullLoops.{loop_of_one, no_other_loop, back_of_loop}
use Rattle.loop_regions.proofs.laws.one_block_is_loop.Goals as goal

pub returns-clause-full : goal.returns-clause-full
returns-clause-full c = loop_of_one

pub returns-clause-alone : goal.returns-clause-alone
returns-clause-alone c = no_other_loop

pub returns-clause-back : goal.returns-clause-back
returns-clause-back c = back_of_loop
