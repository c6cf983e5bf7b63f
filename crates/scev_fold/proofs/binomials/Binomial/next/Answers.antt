use Rattle.std.proofs.Common.{◌≡◌, ◌+◌, ◌-◌, ◌*◌, ◌^◌, sym, ap, ◌∙◌, arith}
use Rattle.std.specs.Int.{w64, trailing_zeros}
use Rattle.scev_fold.proofs.NextBinomial as lemma
use Rattle.scev_fold.proofs.binomials.Binomial.next.Goals as goal

pub overflow_sub-result : goal.overflow_sub-result
overflow_sub-result c =
    let is = c.requires.binomial in
    let step = lemma.next c.args.n c.args.k c.args.self.twos is.0 is.1 is.2 c.requires.below c.ranges.n.fits in
    omega (arith, step.0, c.from.ensures, c.from-2.ensures)

pub inverse_odd-requires : goal.inverse_odd-requires
inverse_odd-requires c =
    let is = c.requires.binomial in
    (lemma.by c.args.n c.args.k c.args.self.twos is.0 is.1 is.2 c.requires.below c.ranges.n.fits).odd

pub returns : goal.returns
returns c =
    let n = c.args.n in
    let k = c.args.k in
    let t = c.args.self.twos in
    let is = c.requires.binomial in
    let step = lemma.next n k t is.0 is.1 is.2 c.requires.below c.ranges.n.fits in
    let few = lemma.few n k t is.0 is.1 is.2 c.requires.below c.ranges.n.fits in
    let up = trailing_zeros w64 (n - k) in
    let down = trailing_zeros w64 (k + 1) in
    let plus = c.from.result in
    let minus = c.from-2.result in
    let twos : t + up - down ≡ t + plus - minus = omega (arith, c.from.ensures, c.from-2.ensures) in (
      step.1,
      step.2 ∙ ap (λ j. 2 ^ j * step.1) twos,
      lemma.next_odd n k t is.0 is.1 is.2 c.requires.below c.ranges.n.fits,
      omega (arith, sym twos, few, is.3),
      lemma.odd_next c.args.self.odd is.0 _ _ c.inverse_odd.result step.1 (2 ^ 64) is.4 c.inverse_odd.ensures.inverse
          step.3,
    )
