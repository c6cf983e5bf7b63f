-- Sums and products of recurrences on lists of items, and their values at each turn.
use Rattle.std.proofs.Common.{◌≡◌, ℕ, zero, suc, ◌+◌, max, length, List, [], ◌∷◌, refl, sym, ap, ◌∙◌, arith}
use Rattle.scev_base.specs.Iterated.{iterated}
use Rattle.rec_algebra.specs.Semiring.{IsSemiring}

-- P holds of each item
abbrev pub Each : {A : Type 0} → (A → Type 0) → List A → Type 0
Each P [] = Unit {0}
Each P (x ∷ xs) = P x × Each P xs

-- the lists added item by item; the longer one's further items are taken over
abbrev pub list_sum : {A : Type 0} → (A → A → A) → List A → List A → List A
list_sum plus [] ys = ys
list_sum plus (x ∷ xs) [] = x ∷ xs
list_sum plus (x ∷ xs) (y ∷ ys) = plus x y ∷ list_sum plus xs ys

-- the products of one list with suffixes of a list, over the products of the list without its first item
abbrev pub product_over : {A : Type 0} → (A → A → A) → (A → A → A) → A → (List A → List A) → List A → List A
product_over plus times x below [] = []
product_over plus times x below (y ∷ ys) =
    times x y ∷ list_sum plus (list_sum plus (product_over plus times x below ys) (below (y ∷ ys))) (below ys)

-- the product of two lists by the rule
abbrev pub list_product : {A : Type 0} → (A → A → A) → (A → A → A) → List A → List A → List A
list_product plus times [] ys = []
list_product plus times (x ∷ xs) ys = product_over plus times x (list_product plus times xs) ys

module _ {A : Type 0} {Admits : A → Type 0} {plus times : A → A → A} (laws : IsSemiring Admits plus times) where
  pub value_closed : (turn : ℕ) (x : A) (xs : List A) → Admits x → Each Admits xs → Admits (iterated plus turn x xs)
  unfolding iterated
  value_closed zero x xs h hs = h
  value_closed (suc turn) x [] h hs = h
  value_closed (suc turn) x (y ∷ ys) h hs =
      laws.plus_closed _ _ (value_closed turn x (y ∷ ys) h hs) (value_closed turn y ys hs.0 hs.1)

  pub list_sum_closed : (xs ys : List A) → Each Admits xs → Each Admits ys → Each Admits (list_sum plus xs ys)
  list_sum_closed [] ys hx hy = hy
  list_sum_closed (x ∷ xs) [] hx hy = hx
  list_sum_closed (x ∷ xs) (y ∷ ys) hx hy = (laws.plus_closed x y hx.0 hy.0, list_sum_closed xs ys hx.1 hy.1)

  product_over_closed : (x : A) (below : List A → List A) (ys : List A) → Admits x
      → ((zs : List A) → Each Admits zs → Each Admits (below zs)) → Each Admits ys
      → Each Admits (product_over plus times x below ys)
  product_over_closed x below [] hx hb hy = tt
  product_over_closed x below (y ∷ ys) hx hb hy = (
    laws.times_closed x y hx hy.0,
    list_sum_closed _ _ (list_sum_closed _ _ (product_over_closed x below ys hx hb hy.1) (hb (y ∷ ys) hy)) (hb ys hy.1),
  )

  pub list_product_closed : (xs ys : List A) → Each Admits xs → Each Admits ys
      → Each Admits (list_product plus times xs ys)
  list_product_closed [] ys hx hy = tt
  list_product_closed (x ∷ xs) ys hx hy =
      product_over_closed x (list_product plus times xs) ys hx.0 (λ zs hz. list_product_closed xs zs hx.1 hz) hy

  -- (a + b) + (c + d) as (a + c) + (b + d)
  pub medial : (a b c d : A) → Admits a → Admits b → Admits c → Admits d
      → plus (plus a b) (plus c d) ≡ plus (plus a c) (plus b d)
  medial a b c d ha hb hc hd =
      laws.plus_assoc a b (plus c d) ha hb (laws.plus_closed c d hc hd)
      ∙ ap (plus a) (sym (laws.plus_assoc b c d hb hc hd) ∙ ap (λ z. plus z d) (laws.plus_comm b c hb hc)
      ∙ laws.plus_assoc c b d hc hb hd)
      ∙ sym (laws.plus_assoc a c (plus b d) ha hc (laws.plus_closed b d hb hd))

  -- (a + b) + c as (a + c) + b
  pub swap_last : (a b c : A) → Admits a → Admits b → Admits c → plus (plus a b) c ≡ plus (plus a c) b
  swap_last a b c ha hb hc =
      laws.plus_assoc a b c ha hb hc ∙ ap (plus a) (laws.plus_comm b c hb hc) ∙ sym (laws.plus_assoc a c b ha hc hb)

  -- a + ((b + c) + d) as (a + c) + (b + d)
  pub regrouped : (a b c d : A) → Admits a → Admits b → Admits c → Admits d
      → plus a (plus (plus b c) d) ≡ plus (plus a c) (plus b d)
  regrouped a b c d ha hb hc hd =
      ap (plus a) (ap (λ z. plus z d) (laws.plus_comm b c hb hc) ∙ laws.plus_assoc c b d hc hb hd)
      ∙ sym (laws.plus_assoc a c (plus b d) ha hc (laws.plus_closed b d hb hd))

  pub distributes_right : (a b c : A) → Admits a → Admits b → Admits c
      → times (plus a b) c ≡ plus (times a c) (times b c)
  distributes_right a b c ha hb hc =
      laws.times_comm (plus a b) c (laws.plus_closed a b ha hb) hc
      ∙ laws.distributes c a b hc ha hb
      ∙ ap (λ z. plus z (times c b)) (laws.times_comm c a hc ha)
      ∙ ap (plus (times a c)) (laws.times_comm c b hc hb)

  -- (a + b) · (c + d), multiplied out
  pub multiplied_out : (a b c d : A) → Admits a → Admits b → Admits c → Admits d
      → plus (times a c) (plus (plus (times a d) (times b c)) (times b d)) ≡ times (plus a b) (plus c d)
  multiplied_out a b c d ha hb hc hd =
      regrouped (times a c) (times a d) (times b c) (times b d) (laws.times_closed a c ha hc)
      (laws.times_closed a d ha hd) (laws.times_closed b c hb hc) (laws.times_closed b d hb hd)
      ∙ sym (laws.distributes (plus a b) c d (laws.plus_closed a b ha hb) hc hd
      ∙ ap (λ z. plus z (times (plus a b) d)) (distributes_right a b c ha hb hc)
      ∙ ap (plus (plus (times a c) (times b c))) (distributes_right a b d ha hb hd))

  -- A single part stays as it is.
  pub value_of_single : (turn : ℕ) (x : A) → iterated plus turn x [] ≡ x
  unfolding iterated
  value_of_single zero x = refl
  value_of_single (suc turn) x = refl

  -- The value of a sum is the sum of the values.
  pub value_of_sum : (turn : ℕ) (x y : A) (xs ys : List A) → Admits x → Admits y → Each Admits xs → Each Admits ys
      → iterated plus turn (plus x y) (list_sum plus xs ys) ≡ plus (iterated plus turn x xs) (iterated plus turn y ys)
  unfolding iterated
  value_of_sum zero x y xs ys hx hy hxs hys = refl
  value_of_sum (suc turn) x y [] [] hx hy hxs hys = refl
  value_of_sum (suc turn) x y [] (y' ∷ ys) hx hy hxs hys =
      ap (λ z. plus z (iterated plus turn y' ys))
      (value_of_sum turn x y [] (y' ∷ ys) hx hy hxs hys ∙ ap (λ z. plus z (iterated plus turn y (y' ∷ ys)))
      (value_of_single turn x))
      ∙ laws.plus_assoc _ _ _ hx (value_closed turn y (y' ∷ ys) hy hys) (value_closed turn y' ys hys.0 hys.1)
  value_of_sum (suc turn) x y (x' ∷ xs) [] hx hy hxs hys =
      ap (λ z. plus z (iterated plus turn x' xs))
      (value_of_sum turn x y (x' ∷ xs) [] hx hy hxs hys ∙ ap (plus (iterated plus turn x (x' ∷ xs)))
      (value_of_single turn y))
      ∙ swap_last _ _ _ (value_closed turn x (x' ∷ xs) hx hxs) hy (value_closed turn x' xs hxs.0 hxs.1)
  value_of_sum (suc turn) x y (x' ∷ xs) (y' ∷ ys) hx hy hxs hys =
      ap (λ z. plus z (iterated plus turn (plus x' y') (list_sum plus xs ys)))
      (value_of_sum turn x y (x' ∷ xs) (y' ∷ ys) hx hy hxs hys)
      ∙ ap (plus (plus (iterated plus turn x (x' ∷ xs)) (iterated plus turn y (y' ∷ ys))))
      (value_of_sum turn x' y' xs ys hxs.0 hys.0 hxs.1 hys.1)
      ∙ medial _ _ _ _ (value_closed turn x (x' ∷ xs) hx hxs) (value_closed turn y (y' ∷ ys) hy hys)
      (value_closed turn x' xs hxs.0 hxs.1) (value_closed turn y' ys hys.0 hys.1)

  -- the parts of a product after the first
  abbrev pub product_rest : A → List A → A → List A → List A
  product_rest x xs y ys =
      list_sum plus (list_sum plus (list_product plus times (x ∷ xs) ys) (list_product plus times xs (y ∷ ys)))
      (list_product plus times xs ys)

  -- The value of a product is the product of the values: at the next turn it is (f + Df) · (g + Dg).
  pub value_of_product : (turn : ℕ) (x y : A) (xs ys : List A) → Admits x → Admits y → Each Admits xs → Each Admits ys
      → iterated plus turn (times x y) (product_rest x xs y ys) ≡ times (iterated plus turn x xs)
      (iterated plus turn y ys)
  unfolding iterated
  value_of_product zero x y xs ys hx hy hxs hys = refl
  value_of_product (suc turn) x y [] [] hx hy hxs hys = refl
  value_of_product (suc turn) x y [] (y' ∷ ys) hx hy hxs hys =
      ap (λ z. plus z (iterated plus turn (times x y') (product_rest x [] y' ys)))
      (value_of_product turn x y [] (y' ∷ ys) hx hy hxs hys)
      ∙ ap (plus (times (iterated plus turn x []) (iterated plus turn y (y' ∷ ys))))
      (value_of_product turn x y' [] ys hx hys.0 hxs hys.1)
      ∙ sym (laws.distributes _ _ _ (value_closed turn x [] hx hxs) (value_closed turn y (y' ∷ ys) hy hys)
      (value_closed turn y' ys hys.0 hys.1))
      ∙ ap (λ z. times z (plus (iterated plus turn y (y' ∷ ys)) (iterated plus turn y' ys))) (value_of_single turn x)
  value_of_product (suc turn) x y (x' ∷ xs) [] hx hy hxs hys =
      ap (λ z. plus z (iterated plus turn (times x' y) (product_rest x' xs y [])))
      (value_of_product turn x y (x' ∷ xs) [] hx hy hxs hys)
      ∙ ap (plus (times (iterated plus turn x (x' ∷ xs)) (iterated plus turn y [])))
      (value_of_product turn x' y xs [] hxs.0 hy hxs.1 hys)
      ∙ sym (distributes_right _ _ _ (value_closed turn x (x' ∷ xs) hx hxs) (value_closed turn x' xs hxs.0 hxs.1)
      (value_closed turn y [] hy hys))
      ∙ ap (times (plus (iterated plus turn x (x' ∷ xs)) (iterated plus turn x' xs))) (value_of_single turn y)
  value_of_product (suc turn) x y (x' ∷ xs) (y' ∷ ys) hx hy hxs hys =
      let hf : Each Admits (x ∷ x' ∷ xs) = (hx, hxs) in
      let hg : Each Admits (y ∷ y' ∷ ys) = (hy, hys) in
      let first = list_product_closed (x ∷ x' ∷ xs) (y' ∷ ys) hf hys in
      let second = list_product_closed (x' ∷ xs) (y ∷ y' ∷ ys) hxs hg in
      let third = list_product_closed (x' ∷ xs) (y' ∷ ys) hxs hys in
      ap (λ z. plus z (iterated plus turn (plus (plus (times x y') (times x' y)) (times x' y'))
      (list_sum plus (list_sum plus (product_rest x (x' ∷ xs) y' ys) (product_rest x' xs y (y' ∷ ys)))
      (product_rest x' xs y' ys)))) (value_of_product turn x y (x' ∷ xs) (y' ∷ ys) hx hy hxs hys)
      ∙ ap (plus (times (iterated plus turn x (x' ∷ xs)) (iterated plus turn y (y' ∷ ys)))) (
      value_of_sum turn (plus (times x y') (times x' y)) (times x' y') _ _
      (laws.plus_closed _ _ first.0 second.0) third.0 (list_sum_closed _ _ first.1 second.1) third.1
      ∙ ap (λ z. plus z (iterated plus turn (times x' y') (product_rest x' xs y' ys)))
      (value_of_sum turn (times x y') (times x' y) _ _ first.0 second.0 first.1 second.1
      ∙ ap (λ z. plus z (iterated plus turn (times x' y) (product_rest x' xs y (y' ∷ ys))))
      (value_of_product turn x y' (x' ∷ xs) ys hx hys.0 hxs hys.1)
      ∙ ap (plus (times (iterated plus turn x (x' ∷ xs)) (iterated plus turn y' ys)))
      (value_of_product turn x' y xs (y' ∷ ys) hxs.0 hy hxs.1 hys))
      ∙ ap (plus (plus (times (iterated plus turn x (x' ∷ xs)) (iterated plus turn y' ys))
      (times (iterated plus turn x' xs) (iterated plus turn y (y' ∷ ys)))))
      (value_of_product turn x' y' xs ys hxs.0 hys.0 hxs.1 hys.1))
      ∙ multiplied_out _ _ _ _ (value_closed turn x (x' ∷ xs) hx hxs) (value_closed turn x' xs hxs.0 hxs.1)
      (value_closed turn y (y' ∷ ys) hy hys) (value_closed turn y' ys hys.0 hys.1)

pub length-list_sum : {A : Type 0} (plus : A → A → A) (xs ys : List A)
    → length (list_sum plus xs ys) ≡ max (length xs) (length ys)
length-list_sum plus [] ys = omega arith
length-list_sum plus (x ∷ xs) [] = omega arith
length-list_sum plus (x ∷ xs) (y ∷ ys) = omega (arith, length-list_sum plus xs ys)

module _ {A : Type 0} (plus times : A → A → A) where
  length-sum_of_three : (xs ys zs : List A)
      → length (list_sum plus (list_sum plus xs ys) zs) ≡ max (max (length xs) (length ys)) (length zs)
  length-sum_of_three xs ys zs = omega
      (arith, length-list_sum plus (list_sum plus xs ys) zs, length-list_sum plus xs ys)

  length-product_over_one : (x y : A) (ys : List A)
      → length (list_product plus times (x ∷ []) (y ∷ ys)) ≡ suc (length ys)
  length-product_over_one x y [] = refl
  length-product_over_one x y (y' ∷ ys) =
      let first = list_product plus times (x ∷ []) (y' ∷ ys) in
      omega (arith, length-sum_of_three first [] [], length-product_over_one x y' ys)

  length-product_over : (x x' : A) (xs : List A) (y : A) (ys : List A)
      → ((z : A) (zs : List A) → length (list_product plus times (x' ∷ xs) (z ∷ zs)) ≡ length xs + suc (length zs))
      → length (list_product plus times (x ∷ x' ∷ xs) (y ∷ ys)) ≡ suc (length xs) + suc (length ys)
  length-product_over x x' xs y [] below =
      omega (arith, length-sum_of_three [] (list_product plus times (x' ∷ xs) (y ∷ [])) [], below y [])
  length-product_over x x' xs y (y' ∷ ys) below =
      let first = list_product plus times (x ∷ x' ∷ xs) (y' ∷ ys) in
      let second = list_product plus times (x' ∷ xs) (y ∷ y' ∷ ys) in
      let third = list_product plus times (x' ∷ xs) (y' ∷ ys) in
      omega (
        arith,
        length-sum_of_three first second third,
        length-product_over x x' xs y' ys below,
        below y
            (y' ∷ ys),
        below y' ys,
      )

  pub length-list_product : (x : A) (xs : List A) (y : A) (ys : List A)
      → length (list_product plus times (x ∷ xs) (y ∷ ys)) ≡ length xs + suc (length ys)
  length-list_product x [] y ys = length-product_over_one x y ys ∙ omega arith
  length-list_product x (x' ∷ xs) y ys = length-product_over x x' xs y ys (length-list_product x' xs)
