use Rattle.std.proofs.Common.{◌≡◌, ◌+◌, ◌%◌, ◌^◌, ℕ, List, ap, ◌∙◌, subst, arith}
use Rattle.scev_base.specs.declared.ids.ExprId.{ExprId}
use Rattle.poly_terms.specs.Terms.{AreReduced}
use Rattle.poly_terms.specs.Weights.{weight, row_weight, product_weight, AreCongruent}
use Rattle.poly_terms.proofs.ProductLemmas.{reduced_front, reduced_back, product_none, product_one, product_two}
use Rattle.poly_terms.proofs.ResultLemmas.{still_ok}
use Rattle.poly_terms.proofs.product.+multiply.Goals as goal

pub multiply-requires : goal.multiply-requires
multiply-requires t c =
    let whole = subst (AreReduced c.args.w.bits) c.split_at.ensures.by_index.0 c.requires.left in
    (omega (arith, c.split_at.ensures.front_len, c.in_default.len_at_least, c.decreases), (reduced_front c.args.w.bits c.split_at.result.0.now c.split_at.result.1.now whole, c.requires.right))

pub multiply-requires-in_default : goal.multiply-requires-in_default
multiply-requires-in_default t c =
    let whole = subst (AreReduced c.args.w.bits) c.split_at.ensures.by_index.0 c.requires.left in
    (omega (arith, c.split_at.ensures.back_len, c.in_default.len_at_least, c.decreases), (reduced_back c.args.w.bits c.split_at.result.0.now c.split_at.result.1.now whole, c.requires.right))

pub returns-in-empty-clause-weight : goal.returns-in-empty-clause-weight
returns-in-empty-clause-weight t c number =
    product_none c.args.w.bits number c.new.result.items c.args.left.now c.args.right.now c.new.ensures.items c.in-empty.len_below

pub returns-in-len1-clause-weight : goal.returns-in-len1-clause-weight
returns-in-len1-clause-weight t c =
    let bits = c.args.w.bits in
    let left = c.args.left.now in
    let right = c.args.right.now in
    still_ok c.multiply_row.result (λ terms. (number : List ExprId → ℕ) → AreCongruent bits (weight number terms.items) (row_weight number c.s-item.result right)) (λ terms. (number : List ExprId → ℕ) → AreCongruent bits (weight number terms.items) (product_weight number left right)) (λ terms h number. h number ∙ ap (λ k. k % 2 ^ bits) (product_one number c.s-item.result left right c.s-item.is c.in-len1.len_at_least c.in-len1.len_below)) c.multiply_row.ensures.weight

pub returns-in_ok-backs-in_default-clause-weight : goal.returns-in_ok-backs-in_default-clause-weight
returns-in_ok-backs-in_default-clause-weight t c =
    let bits = c.args.w.bits in
    let left = c.args.left.now in
    let right = c.args.right.now in
    let fronts = c.in_ok-fronts-in_default.fronts.items in
    let backs = c.in_ok-backs-in_default.backs.items in
    let halves : (number : List ExprId → ℕ) → weight number c.as_slice.result.now + weight number c.as_slice-in_default.result.now ≡ weight number fronts + weight number backs = λ number. ap (λ l. weight number l + weight number c.as_slice-in_default.result.now) c.as_slice.ensures.value ∙ ap (λ l. weight number fronts + weight number l) c.as_slice-in_default.ensures.value in
    still_ok c.merge.result (λ terms. (number : List ExprId → ℕ) → AreCongruent bits (weight number terms.items) (weight number c.as_slice.result.now + weight number c.as_slice-in_default.result.now)) (λ terms. (number : List ExprId → ℕ) → AreCongruent bits (weight number terms.items) (product_weight number left right)) (λ terms h number. product_two bits number c.split_at.result.0.now c.split_at.result.1.now left right fronts backs terms.items c.split_at.ensures.by_index.0 (c.in_ok-fronts-in_default.ensures.weight number) (c.in_ok-backs-in_default.ensures.weight number) (h number ∙ ap (λ k. k % 2 ^ bits) (halves number))) c.merge.ensures.weight
