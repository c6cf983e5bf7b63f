-- The law of one report.
use Rattle.scev_tool.proofs.OneReport as report
use Rattle.scev_tool.proofs.laws.one_report.Goals as goal

pub returns : goal.returns
returns c = report.one_report
