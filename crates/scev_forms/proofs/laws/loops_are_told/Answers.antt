use Rattle.scev_forms.proofs.Loops.{told_contains, contains_told, has_depth, outside_alone}
use Rattle.scev_forms.proofs.laws.loops_are_told.Goals as goal

pub returns-clause-containing : goal.returns-clause-containing
returns-clause-containing c = λ parents outer inner nest outer_listed inner_listed. (
  told_contains parents outer inner,
  contains_told parents outer inner nest outer_listed,
)

pub returns-clause-depth : goal.returns-clause-depth
returns-clause-depth c = has_depth

pub returns-clause-outside : goal.returns-clause-outside
returns-clause-outside c = outside_alone
