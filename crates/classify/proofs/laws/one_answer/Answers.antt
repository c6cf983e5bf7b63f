-- The law of one answer.
use Rattle.classify.proofs.OneAnswer as answers
use Rattle.classify.proofs.laws.one_answer.Goals as goal

pub returns : goal.returns
returns c = answers.one_answer
