use Rattle.std.proofs.Common.{◌≤◌, arith}
use mir.Syntax.{w128}
use Rattle.std.proofs.lemmas.Int.{to_z-of_z}
use Rattle.scev_base.proofs.BitLemmas.{residue_of_bits}
use Rattle.ir_printer.proofs.numeral.residue.Goals as goal

pub returns-clause-value : goal.returns-clause-value
returns-clause-value c =
    let small : c.args.width ≤ 128 = let less = c.requires in omega arith in
    rw (c.cast_unsigned.ensures, c.modulus.ensures.value, to_z-of_z w128 c.args.n c.ranges.n)
    (residue_of_bits c.args.n c.args.width small c.ranges.n)
