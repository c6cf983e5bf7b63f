use Rattle.std.proofs.Common.{◌*◌, ◌∙◌}
use Rattle.rec_algebra.proofs.ResidueLemmas.{low_of_64}
use Rattle.rec_algebra.proofs.residues.ResiduesRing.mul.Goals as goal

pub returns : goal.returns
returns c =
    let width = c.args.self.now.width in
    c.trunc.ensures.value ∙ low_of_64 (c.args.left * c.args.right) width.bits width.at_most_64
