use Rattle.std.proofs.Common.{◌+◌, ◌%◌, ◌^◌, sym, ap, ◌∙◌, add_assoc}
use Rattle.std.proofs.Math.Nat.{add-mod-mod, mod-add-mod}
use Rattle.poly_terms.specs.Terms.{coefficient_of}
use Rattle.poly_terms.proofs.laws.sum_associates.Goals as goal

pub returns : goal.returns
returns c bits left middle right first last pairs hf hl h monomial =
    let a = coefficient_of left monomial in
    let b = coefficient_of middle monomial in
    let d = coefficient_of right monomial in
    h monomial
    ∙ ap (λ k. (k + d) % 2 ^ bits) (hf monomial)
    ∙ mod-add-mod (a + b) (2 ^ bits) d
    ∙ ap (λ k. k % 2 ^ bits) (add_assoc a b d)
    ∙ sym (add-mod-mod a (b + d) (2 ^ bits))
    ∙ ap (λ k. (a + k) % 2 ^ bits) (sym (hl monomial))
