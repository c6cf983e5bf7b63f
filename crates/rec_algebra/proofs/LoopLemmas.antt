-- One turn more of the loops that form plans and carry them out.
use Rattle.std.proofs.Common.{◌≡◌, ℕ, zero, suc, ◌+◌, ◌-◌, ◌<◌, ◌≤◌, List, [], ◌∷◌, ◌++◌, drop, get_or, slice_get, Option, refl, sym, ap, ◌∙◌, arith, get_or-drop}
use Rattle.std.specs.List.{range_with_len}
use Rattle.rec_algebra.specs.Plans.{Plan}
use Rattle.rec_algebra.specs.declared.plan.PlanStep.{PlanStep}
use Rattle.rec_algebra.specs.Forming.{Formed, joined_three, with_place, summed, multiplied, Row, product_row, product_table}

first_of_drop : {A : Type 0} (i : ℕ) (xs : List A) → slice_get (drop i xs) 0 ≡ slice_get xs i
first_of_drop zero [] = refl
first_of_drop zero (x ∷ xs) = refl
first_of_drop (suc i) [] = refl
first_of_drop (suc i) (x ∷ xs) = first_of_drop i xs

drop_one_of_drop : {A : Type 0} (i : ℕ) (xs : List A) → drop 1 (drop i xs) ≡ drop (suc i) xs
drop_one_of_drop zero xs = refl
drop_one_of_drop (suc i) [] = refl
drop_one_of_drop (suc i) (x ∷ xs) = drop_one_of_drop i xs

-- A turn reads the first parts of the lists, and leaves their rests.
summed_turn : (parts : ℕ) (formed : Formed) (count : ℕ) (first second third first' second' third' : List ℕ)
    (a b c : Option ℕ) (steps : List PlanStep) (places : List ℕ) → slice_get first 0 ≡ a → slice_get second 0 ≡ b
    → slice_get third 0 ≡ c → drop 1 first ≡ first' → drop 1 second ≡ second' → drop 1 third ≡ third'
    → let sum = joined_three parts formed.steps a b c in steps ≡ sum.steps
    → places ≡ with_place formed.places sum.place → summed parts formed (suc count) first second third ≡ summed parts
    (record { steps = steps; places = places }) count first' second' third'
unfolding summed
summed_turn parts formed count first second third first' second' third' a b c steps places ea eb ec e₁ e₂ e₃ e e' =
    let sum : Option ℕ → Option ℕ → Option ℕ → Formed = λ a b c. let sum = joined_three parts formed.steps a b c in record { steps = sum.steps; places = with_place formed.places sum.place } in
    ap (λ a. summed parts (sum a (slice_get second 0) (slice_get third 0)) count (drop 1 first) (drop 1 second)
    (drop 1 third)) ea
    ∙ ap (λ b. summed parts (sum a b (slice_get third 0)) count (drop 1 first) (drop 1 second) (drop 1 third)) eb
    ∙ ap (λ c. summed parts (sum a b c) count (drop 1 first) (drop 1 second) (drop 1 third)) ec
    ∙ ap (λ l. summed parts (sum a b c) count l (drop 1 second) (drop 1 third)) e₁
    ∙ ap (λ l. summed parts (sum a b c) count first' l (drop 1 third)) e₂
    ∙ ap (λ l. summed parts (sum a b c) count first' second' l) e₃
    ∙ ap (λ s. summed parts (record { steps = s; places = (sum a b c).places }) count first' second' third') (sym e)
    ∙ ap (λ p. summed parts (record { steps = steps; places = p }) count first' second' third') (sym e')

pub summed_one_more : (parts : ℕ) (formed : Formed) (count i : ℕ) (first second third : List ℕ) (steps : List PlanStep)
    (places : List ℕ) → i < count
    → let sum = joined_three parts formed.steps (slice_get first i) (slice_get second i)
    (slice_get third i) in steps ≡ sum.steps → places ≡ with_place formed.places sum.place
    → summed parts formed (count - i) (drop i first) (drop i second)
    (drop i third) ≡ summed parts (record { steps = steps; places = places }) (count - (i + 1)) (drop (i + 1) first)
    (drop (i + 1) second) (drop (i + 1) third)
summed_one_more parts formed count i first second third steps places inside e e' =
    let left : count - i ≡ suc (count - (i + 1)) = omega arith in
    let next : suc i ≡ i + 1 = omega arith in
    ap (λ k. summed parts formed k (drop i first) (drop i second) (drop i third)) left
    ∙ summed_turn parts formed (count - (i + 1)) (drop i first) (drop i second) (drop i third) (drop (i + 1) first)
    (drop (i + 1) second) (drop (i + 1) third) (slice_get first i) (slice_get second i)
    (slice_get third i) steps places (first_of_drop i first) (first_of_drop i second) (first_of_drop i third)
    (drop_one_of_drop i first ∙ ap (λ k. drop k first) next)
    (drop_one_of_drop i second ∙ ap (λ k. drop k second) next)
    (drop_one_of_drop i third ∙ ap (λ k. drop k third) next) e e'

pub summed_end : (parts : ℕ) (formed : Formed) (count i : ℕ) (first second third : List ℕ) → count ≤ i
    → summed parts formed (count - i) first second third ≡ formed
unfolding summed
summed_end parts formed count i first second third past =
    let none : count - i ≡ zero = omega arith in ap (λ k. summed parts formed k first second third) none

pub product_row_none : (parts : ℕ) (steps : List PlanStep) (left start count : ℕ) (below : List (List ℕ))
    → product_row parts steps left (range_with_len (start + count)
    (count - count)) below ≡ record { steps = steps; products = [] }
unfolding product_row
product_row_none parts steps left start count below =
    let none : count - count ≡ zero = omega arith in
    ap (λ k. product_row parts steps left (range_with_len (start + count) k) below) none

-- one product more at the front of a row
pub product_row_one_more : (parts : ℕ) (steps : List PlanStep) (left start count j : ℕ) (below : List (List ℕ))
    → j < count → let row = product_row parts steps left (range_with_len (start + (j + 1)) (count - (j + 1)))
    (drop (j + 1) below) in let product = multiplied parts row.steps left (start + j) (get_or row.products 0 [])
    (get_or below j []) (get_or below (j + 1) []) in product_row parts steps left (range_with_len (start + j)
    (count - j)) (drop j below) ≡ record { steps = product.steps; products = product.places ∷ row.products }
unfolding product_row
product_row_one_more parts steps left start count j below inside =
    let more : count - j ≡ suc (count - (j + 1)) = omega arith in
    let next : (start + j) + 1 ≡ start + (j + 1) = omega arith in
    let here : j + 0 ≡ j = omega arith in
    let past : suc j ≡ j + 1 = omega arith in
    let with_row : Row → List ℕ → List ℕ → Row = λ row first second. let product = multiplied parts row.steps left (start + j) (get_or row.products 0 []) first second in record { steps = product.steps; products = product.places ∷ row.products } in
    ap (λ k. product_row parts steps left (range_with_len (start + j) k) (drop j below)) more
    ∙ ap (λ k. with_row (product_row parts steps left (range_with_len k (count - (j + 1))) (drop 1 (drop j below)))
    (get_or (drop j below) 0 []) (get_or (drop j below) 1 [])) next
    ∙ ap (λ rest. with_row (product_row parts steps left (range_with_len (start + (j + 1)) (count - (j + 1))) rest)
    (get_or (drop j below) 0 []) (get_or (drop j below) 1 []))
    (drop_one_of_drop j below ∙ ap (λ k. drop k below) past)
    ∙ ap (λ first. with_row
    (product_row parts steps left (range_with_len (start + (j + 1)) (count - (j + 1))) (drop (j + 1) below)) first
    (get_or (drop j below) 1 [])) (get_or-drop j below 0 [] ∙ ap (λ k. get_or below k []) here)
    ∙ ap (λ second. with_row
    (product_row parts steps left (range_with_len (start + (j + 1)) (count - (j + 1))) (drop (j + 1) below))
    (get_or below j []) second) (get_or-drop j below 1 [])

pub product_table_none : (parts count : ℕ) (rights : List ℕ)
    → product_table parts (range_with_len count (count - count)) rights ≡ record { steps = []; products = [] }
unfolding product_table
product_table_none parts count rights =
    let none : count - count ≡ zero = omega arith in
    ap (λ k. product_table parts (range_with_len count k) rights) none

-- one row more
pub product_table_one_more : (parts count i : ℕ) (rights : List ℕ) → i < count → let below = product_table parts
    (range_with_len (i + 1) (count - (i + 1))) rights in product_table parts
    (range_with_len i (count - i)) rights ≡ product_row parts below.steps i rights below.products
unfolding product_table
product_table_one_more parts count i rights inside =
    let more : count - i ≡ suc (count - (i + 1)) = omega arith in
    ap (λ k. product_table parts (range_with_len i k) rights) more

-- A turn of the loop over a row: from the row of the suffixes after j to that of the suffixes from j on.
pub product_row_turn : (parts : ℕ) (steps : List PlanStep) (left start count j next : ℕ) (below : List (List ℕ))
    (before after : List PlanStep) (products : List (List ℕ)) (product first second third : List ℕ) → next ≡ j + 1
    → j < count → before ≡
    (product_row parts steps left (range_with_len (start + next) (count - next)) (drop next below)).steps → products ≡
    (product_row parts steps left (range_with_len (start + next) (count - next)) (drop next below)).products
    → first ≡ get_or products 0 [] → second ≡ get_or below j [] → third ≡ get_or below (j + 1) [] → after ≡
    (multiplied parts before left (start + j) first second third).steps → product ≡
    (multiplied parts before left (start + j) first second third).places → let row = product_row parts steps left
    (range_with_len (start + j) (count - j)) (drop j below) in (after ≡ row.steps) × (product ∷ products ≡ row.products)
product_row_turn parts steps left start count j next below before after products product first second third en inside eb ep e₁ e₂ e₃ ea e =
    let row = product_row parts steps left (range_with_len (start + (j + 1)) (count - (j + 1))) (drop (j + 1) below) in
    let eb' : before ≡ row.steps = eb ∙ ap
    (λ k. (product_row parts steps left (range_with_len (start + k) (count - k)) (drop k below)).steps) en in
    let ep' : products ≡ row.products = ep ∙ ap
    (λ k. (product_row parts steps left (range_with_len (start + k) (count - k)) (drop k below)).products) en in
    let same : multiplied parts before left (start + j) first second third ≡ multiplied parts row.steps left
    (start + j) (get_or row.products 0 []) (get_or below j []) (get_or below (j + 1) []) =
    ap (λ s. multiplied parts s left (start + j) first second third) eb'
    ∙ ap (λ a. multiplied parts row.steps left (start + j) a second third) (e₁ ∙ ap (λ l. get_or l 0 []) ep')
    ∙ ap (λ b. multiplied parts row.steps left (start + j) (get_or row.products 0 []) b third) e₂
    ∙ ap (λ c. multiplied parts row.steps left (start + j) (get_or row.products 0 []) (get_or below j []) c) e₃ in
    let more = product_row_one_more parts steps left start count j below inside in (
      ea ∙ ap (λ (f : Formed). f.steps) same ∙ sym (ap (λ (r : Row). r.steps) more),
      ap (λ l. l ∷ products) (e ∙ ap (λ (f : Formed). f.places) same)
          ∙ ap (λ l. (multiplied parts row.steps left (start + j) (get_or row.products 0 []) (get_or below j [])
          (get_or below (j + 1) [])).places ∷ l) ep'
          ∙ sym (ap (λ (r : Row). r.products) more),
    )

-- A turn of the loop over rows.
pub product_table_turn : (parts count i next start n : ℕ) (before after : List PlanStep)
    (products products' : List (List ℕ)) → next ≡ i + 1 → i < count
    → before ≡ (product_table parts (range_with_len next (count - next)) (range_with_len start n)).steps
    → products ≡ (product_table parts (range_with_len next (count - next)) (range_with_len start n)).products
    → after ≡ (product_row parts before i (range_with_len start n) products).steps
    → products' ≡ (product_row parts before i (range_with_len start n) products).products
    → let table = product_table parts (range_with_len i (count - i)) (range_with_len start n) in (after ≡ table.steps)
    × (products' ≡ table.products)
product_table_turn parts count i next start n before after products products' en inside eb ep ea e =
    let rights = range_with_len start n in
    let below = product_table parts (range_with_len (i + 1) (count - (i + 1))) rights in
    let eb' : before ≡ below.steps = eb ∙ ap
    (λ k. (product_table parts (range_with_len k (count - k)) rights).steps) en in
    let ep' : products ≡ below.products = ep ∙ ap
    (λ k. (product_table parts (range_with_len k (count - k)) rights).products) en in
    let same : product_row parts before i rights products ≡ product_table parts (range_with_len i (count - i)) rights =
    ap (λ s. product_row parts s i rights products) eb' ∙ ap (λ l. product_row parts below.steps i rights l) ep' ∙ sym
    (product_table_one_more parts count i rights inside) in
    (ea ∙ ap (λ (r : Row). r.steps) same, e ∙ ap (λ (r : Row). r.products) same)

pub product_table_end : (parts count i : ℕ) (rights : List ℕ) → i ≤ 0
    → product_table parts (range_with_len i (count - i)) rights ≡ product_table parts (range_with_len 0 count) rights
product_table_end parts count i rights past =
    let none : i ≡ 0 = omega arith in
    let all : count - 0 ≡ count = omega arith in
    ap (λ k. product_table parts (range_with_len k (count - k)) rights) none ∙ ap
    (λ k. product_table parts (range_with_len 0 k) rights) all

plan_of : ℕ → List PlanStep → List ℕ → Plan
plan_of parts steps results = record { parts = parts; steps = steps; results = results }

-- A plan is known by what it is made of.
pub plan_is : (plan : Plan) (parts : ℕ) (steps : List PlanStep) (results : List ℕ) → parts ≡ plan.parts
    → steps ≡ plan.steps → results ≡ plan.results → record { parts = parts; steps = steps; results = results } ≡ plan
unfolding plan_of
plan_is plan parts steps results e e' e'' =
    ap (λ p. plan_of p steps results) e ∙ ap (λ s. plan_of plan.parts s results) e'
    ∙ ap (λ r. plan_of plan.parts plan.steps r) e''

range_snoc : (start count : ℕ) → range_with_len start count ++ (start + count) ∷ [] ≡ range_with_len start (suc count)
range_snoc start zero = ap (λ k. k ∷ []) (omega arith)
range_snoc start (suc count) =
    let place : start + suc count ≡ (start + 1) + count = omega arith in
    ap (λ k. start ∷ range_with_len (start + 1) count ++ k ∷ []) place ∙ ap (λ l. start ∷ l)
    (range_snoc (start + 1) count)

pub range_one_more : (start count : ℕ)
    → range_with_len start count ++ (start + count) ∷ [] ≡ range_with_len start (count + 1)
range_one_more start count = let next : suc count ≡ count + 1 = omega arith in range_snoc start count ∙ ap
    (range_with_len start) next
