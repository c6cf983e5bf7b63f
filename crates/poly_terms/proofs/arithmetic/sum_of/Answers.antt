use Rattle.std.proofs.Common.{◌≡◌, ◌+◌, ◌%◌, ◌^◌, ℕ, sym, ap, ◌∙◌, subst}
use Rattle.poly_terms.specs.declared.error.TermError.TheVariants.{TooWide}
use Rattle.poly_terms.specs.Terms.{Polynomial, IsTooWide, HasSum, SumIsTooWide, value_of}
use Rattle.poly_terms.proofs.CoefficientLemmas.{sum_is, sum_value}
use Rattle.poly_terms.proofs.ResultLemmas.{still_ok, still_err}
use Rattle.poly_terms.proofs.arithmetic.sum_of.Goals as goal
use Rattle.poly_terms.proofs.arithmetic.sum_of.Goals.{After-within_limits}

-- What was formed, before the limits are looked at.
formed : (c : After-within_limits) → HasSum c.args.w.bits c.args.left.now c.args.right.now c.in_ok-pairs.pairs.items
formed c =
    sum_is c.args.w.bits c.args.left.now c.args.right.now c.in_ok-pairs.pairs.items c.in_ok-pairs.ensures.canonical
    c.in_ok-pairs.ensures.weight

pub returns-clause-sum : goal.returns-clause-sum
returns-clause-sum c =
    let bits = c.args.w.bits in
    let left = c.args.left.now in
    let right = c.args.right.now in
    still_ok c.within_limits.result (λ t. t ≡ record { bits = bits; pairs = c.in_ok-pairs.pairs.items })
    (λ t. HasSum bits left right t.pairs)
    (λ t e. subst (HasSum bits left right) (sym (ap (λ (p : Polynomial). p.pairs) e)) (formed c))
    c.within_limits.ensures.ok

pub returns-clause-value : goal.returns-clause-value
returns-clause-value c =
    let bits = c.args.w.bits in
    let left = c.args.left.now in
    let right = c.args.right.now in
    let pairs = c.in_ok-pairs.pairs.items in
    still_ok c.within_limits.result (λ t. t ≡ record { bits = bits; pairs = pairs })
    (λ t. (atoms : ℕ → ℕ)
    → value_of atoms t.pairs % 2 ^ bits ≡ (value_of atoms left + value_of atoms right) % 2 ^ bits)
    (λ t e atoms. ap (λ (p : Polynomial). value_of atoms p.pairs % 2 ^ bits) e
    ∙ sum_value bits left right pairs c.in_ok-pairs.ensures.weight atoms) c.within_limits.ensures.ok

pub returns-clause-too_wide : goal.returns-clause-too_wide
returns-clause-too_wide c =
    let bits = c.args.w.bits in
    let left = c.args.left.now in
    let right = c.args.right.now in
    let pairs = c.in_ok-pairs.pairs.items in
    still_err c.within_limits.result (λ _. IsTooWide pairs)
    (λ error. error ≡ TooWide → SumIsTooWide bits left right)
    (λ error wide _. (pairs, c.in_ok-pairs.ensures.canonical, formed c, wide)) c.within_limits.ensures.err
