use Rattle.std.proofs.Common.{◌-◌, ◌^◌, ◌<◌, ◌≤ℤ◌, ◌-ℤ◌, pos, neg_ℤ, arith, rules}
use Rattle.std.proofs.lemmas.Int.{ints, to_z-of_z}
use mir.Syntax.{w128}
use mir.Val.{SFits}
use Rattle.ir_check.proofs.Ranges.{in_range_above}
use Rattle.ir_check.proofs.literals.is_in_range.Goals as goal

pub returns-then-half-number : goal.returns-then-half-number
returns-then-half-number c =
    let h : SFits w128 c.half-half.result = search rules in
    let n : SFits w128 c.args.number = c.ranges.number in
    let some : 0 < c.args.width = omega arith in
    let least : neg_ℤ (pos (2 ^ (c.args.width - 1))) ≤ℤ c.args.number = omega (arith, ints) in
    let d : SFits w128 (c.args.number -ℤ c.half-half.result) = search rules in
    rw (
      to_z-of_z w128 c.args.number n,
      to_z-of_z w128 c.half-half.result h,
      to_z-of_z w128 (c.args.number -ℤ c.half-half.result) d,
      c.half-half.ensures.value,
    )
    (in_range_above c.args.width c.args.number some least)
