-- The theorem on plans that are carried out, over any semiring: at each turn the result of the plan of a sum has the
-- sum of the operands' values, and that of the plan of a multiple or of a product has their product.
use Rattle.std.proofs.Common.{◌≡◌, ℕ, zero, suc, ◌+◌, List, [], ◌∷◌, length, take, drop, All, sym, ap, ◌∙◌, subst}
use Rattle.scev_base.specs.Iterated.{iterated}
use Rattle.rec_algebra.specs.Plans.{carried}
use Rattle.rec_algebra.specs.Forming.{sum_plan, multiple_plan, product_plan}
use Rattle.rec_algebra.specs.Semiring.{IsSemiring}
use Rattle.rec_algebra.specs.Values.{HasValue}
use Rattle.rec_algebra.proofs.AlgebraLemmas.{Each, list_sum, list_product, value_of_sum, value_of_product}
use Rattle.rec_algebra.proofs.PlanLemmas.{each_from_all, forms_carried, sum_forms, multiple_forms, product_forms}

module _ {A : Type 0} {Admits : A → Type 0} {plus times : A → A → A} (laws : IsSemiring Admits plus times) where
  value_of_list_sum : (turn : ℕ) (xs ys : List A) (left right : A) → Each Admits xs → Each Admits ys
      → HasValue plus turn xs left → HasValue plus turn ys right
      → HasValue plus turn (list_sum plus xs ys) (plus left right)
  value_of_list_sum turn [] ys left right hx hy vx vy = absurd vx
  value_of_list_sum turn (x ∷ xs) [] left right hx hy vx vy = absurd vy
  value_of_list_sum turn (x ∷ xs) (y ∷ ys) left right hx hy vx vy =
      value_of_sum laws turn x y xs ys hx.0 hy.0 hx.1 hy.1 ∙ ap (λ z. plus z (iterated plus turn y ys)) vx ∙ ap
      (plus left) vy

  value_of_list_product : (turn : ℕ) (xs ys : List A) (left right : A) → Each Admits xs → Each Admits ys
      → HasValue plus turn xs left → HasValue plus turn ys right
      → HasValue plus turn (list_product plus times xs ys) (times left right)
  value_of_list_product turn [] ys left right hx hy vx vy = absurd vx
  value_of_list_product turn (x ∷ xs) [] left right hx hy vx vy = absurd vy
  value_of_list_product turn (x ∷ xs) (y ∷ ys) left right hx hy vx vy =
      value_of_product laws turn x y xs ys hx.0 hy.0 hx.1 hy.1 ∙ ap (λ z. times z (iterated plus turn y ys)) vx ∙ ap
      (times left) vy

  take_each : (m : ℕ) (xs : List A) → Each Admits xs → Each Admits (take m xs)
  take_each zero xs h = tt
  take_each (suc m) [] h = tt
  take_each (suc m) (x ∷ xs) h = (h.0, take_each m xs h.1)

  drop_each : (m : ℕ) (xs : List A) → Each Admits xs → Each Admits (drop m xs)
  drop_each zero xs h = h
  drop_each (suc m) [] h = tt
  drop_each (suc m) (x ∷ xs) h = drop_each m xs h.1

  -- The parts are admitted, and as many as the plan has of its operands: first those of the first operand.
  pub sum_is_carried : (default : A) (parts : List A) (m n turn : ℕ) (left right : A) → All Admits parts
      → length parts ≡ m + n → HasValue plus turn (take m parts) left → HasValue plus turn (drop m parts) right
      → HasValue plus turn (carried plus times default (sum_plan m n) parts) (plus left right)
  sum_is_carried default parts m n turn left right admitted same vx vy =
      let each = each_from_all Admits parts admitted in
      let formed = list_sum plus (take m parts) (drop m parts) in
      let forms = sum_forms plus times default parts m n same in
      subst (λ xs. HasValue plus turn xs (plus left right))
      (sym (forms_carried plus times default parts (sum_plan m n) formed forms))
      (value_of_list_sum turn (take m parts) (drop m parts) left right (take_each m parts each)
      (drop_each m parts each) vx vy)

  -- The first part is the factor, which doesn't change from turn to turn.
  pub multiple_is_carried : (default : A) (parts : List A) (n turn : ℕ) (left right : A) → All Admits parts
      → length parts ≡ 1 + n → HasValue plus turn (take 1 parts) left → HasValue plus turn (drop 1 parts) right
      → HasValue plus turn (carried plus times default (multiple_plan n) parts) (times left right)
  multiple_is_carried default parts n turn left right admitted same vx vy =
      let each = each_from_all Admits parts admitted in
      let formed = list_product plus times (take 1 parts) (drop 1 parts) in
      let forms = multiple_forms plus times default parts n same in
      subst (λ xs. HasValue plus turn xs (times left right))
      (sym (forms_carried plus times default parts (multiple_plan n) formed forms))
      (value_of_list_product turn (take 1 parts) (drop 1 parts) left right (take_each 1 parts each)
      (drop_each 1 parts each) vx vy)

  pub product_is_carried : (default : A) (parts : List A) (m n turn : ℕ) (left right : A) → All Admits parts
      → length parts ≡ m + n → HasValue plus turn (take m parts) left → HasValue plus turn (drop m parts) right
      → HasValue plus turn (carried plus times default (product_plan m n) parts) (times left right)
  product_is_carried default parts m n turn left right admitted same vx vy =
      let each = each_from_all Admits parts admitted in
      let formed = list_product plus times (take m parts) (drop m parts) in
      let forms = product_forms plus times default parts m n same in
      subst (λ xs. HasValue plus turn xs (times left right))
      (sym (forms_carried plus times default parts (product_plan m n) formed forms))
      (value_of_list_product turn (take m parts) (drop m parts) left right (take_each m parts each)
      (drop_each m parts each) vx vy)
