use Rattle.scev_tree.proofs.Values.{with_term_value}
use Rattle.scev_tree.proofs.laws.terms_are_added.Goals as goal

pub returns : goal.returns
returns c = with_term_value
