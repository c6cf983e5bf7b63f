use Rattle.std.proofs.Common.{arith}
use Rattle.scev_sums.proofs.Making.{rec_told}
use Rattle.scev_sums.proofs.make.make_rec.Goals as goal

pub returns-clause-value : goal.returns-clause-value
returns-clause-value c =
    rec_told c.args.arena.now c.len.ensures.arena c.args.w.bits (omega (arith, c.args.w.at_least_one)) c.args.l.0
    c.args.parts.now c.requires.parts c.requires.some c.rec_of.new.arena c.rec_of.result c.rec_of.ensures.tree
