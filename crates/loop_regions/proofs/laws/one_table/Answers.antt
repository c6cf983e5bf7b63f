use Rattle.loop_regions.proofs.OneTable as table
use Rattle.loop_regions.proofs.laws.one_table.Goals as goal

pub returns : goal.returns
returns c = table.one_table
