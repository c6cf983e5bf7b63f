use Rattle.std.proofs.Common.{◌%◌, ◌^◌, sym, ap, ◌∙◌, arith}
use Rattle.scev_fold.proofs.NextBinomial.{shifted, moved_out}
use Rattle.scev_fold.proofs.binomials.Binomial.residue.Goals as goal

pub returns-then-self-lt64 : goal.returns-then-self-lt64
returns-then-self-lt64 c =
    let is = c.requires in
    c.trunc.ensures.value
    ∙ shifted c.args.self.odd c.args.self.twos is.0 c.args.w.bits is.4 c.args.w.at_most_64
    ∙ sym (ap (λ x. x % 2 ^ c.args.w.bits) is.1)

pub returns-else-self-lt64 : goal.returns-else-self-lt64
returns-else-self-lt64 c =
    let is = c.requires in
    moved_out c.args.self.twos is.0 c.args.w.bits (omega (arith, c.if-self-lt64.false, c.args.w.at_most_64))
    ∙ sym (ap (λ x. x % 2 ^ c.args.w.bits) is.1)
