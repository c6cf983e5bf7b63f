use Rattle.std.proofs.Common.{arith}
use Rattle.value_numbers.proofs.Pairs.{pair_computed}
use Rattle.value_numbers.proofs.Conversions.{conversion_computed}
use Rattle.value_numbers.proofs.laws.rows_keep_the_value.Goals as goal

pub returns-clause-pair : goal.returns-clause-pair
returns-clause-pair c parents w op p left right x y tree registers choice z held turns width typed by l r formed gives
    first second =
    pair_computed held turns parents w (omega (arith, width.0)) x y tree l r registers choice z p left right formed
    first second op typed by gives

pub returns-clause-cast : goal.returns-clause-cast
returns-clause-cast c parents v w op how of x tree registers choice z held turns from to widths typed by is formed gives
    told =
    conversion_computed held turns parents v w (omega (arith, from.0)) (omega (arith, to.0)) how x tree widths is formed
    registers choice z of told op typed by gives
