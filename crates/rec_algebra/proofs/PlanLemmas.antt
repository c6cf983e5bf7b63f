-- What the plans of a sum, of a multiple and of a product give of their operands' parts.
use Rattle.std.proofs.Common.{◌≡◌, ℕ, zero, suc, ◌+◌, ◌-◌, ◌<◌, ◌≤◌, max, List, [], ◌∷◌, ◌++◌, length, map, take, drop, get_or, All, refl, sym, ap, ◌∙◌, subst, arith, append_assoc, length-append, length-take, length-drop, get_or-take, get_or-drop, one-add}
use Rattle.std.proofs.lemmas.List.{append-nil}
use Rattle.std.proofs.lemmas.List.FromFn.{length-range_with_len}
use Rattle.std.specs.List.{range_with_len}
use Rattle.rec_algebra.specs.declared.plan.PlanStep.{PlanStep}
use Rattle.rec_algebra.specs.declared.plan.PlanStep.TheVariants as step
use Rattle.rec_algebra.specs.Plans.{Plan, IsPlan, NamesEarlier, carried}
use Rattle.rec_algebra.specs.Forming.{Formed, summed, product_table, sum_plan, multiple_plan, product_plan}
use Rattle.rec_algebra.proofs.AlgebraLemmas.{Each, list_sum, list_product, length-list_product}
use Rattle.rec_algebra.proofs.SumLemmas.{summed_operands}
use Rattle.rec_algebra.proofs.FormingLemmas as forming
use Rattle.rec_algebra.proofs.FormingLemmas.{list_sum_none, HasItem, HasItems, GoesOn}

pub each_from_all : {A : Type 0} (P : A → Type 0) (xs : List A) → All P xs → Each P xs
each_from_all P [] h = tt
each_from_all P (x ∷ xs) h = (h 0 x (omega arith), each_from_all P xs (λ k d inside. h (suc k) d (omega arith)))

pub all_from_each : {A : Type 0} (P : A → Type 0) (xs : List A) → Each P xs → All P xs
all_from_each P [] h k d inside = absurd (omega arith)
all_from_each P (x ∷ xs) h zero d inside = h.0
all_from_each P (x ∷ xs) h (suc k) d inside = all_from_each P xs h.1 k d (omega arith)

module _ {A : Type 0} (plus times : A → A → A) (default : A) (items : List A) where
  -- the plan forms these values of the items
  pub record Forms (plan : Plan) (values : List A) : Type 0 where
    pub parts : length items ≡ plan.parts
    pub goes : GoesOn plus times default items [] plan.steps
    pub has : HasItems plus times default items plan.steps plan.results values

  pub forms_plan : (plan : Plan) (values : List A) → Forms plan values → IsPlan plan
  forms_plan plan values forms = (
    subst (λ n. NamesEarlier n plan.steps) forms.parts (forms.goes.earlier tt),
    subst (λ n. All (λ place. place < n + length plan.steps) plan.results) forms.parts
        (all_from_each (λ place. place < length items + length plan.steps) plan.results
        (forming.each_inside plus times default items plan.steps plan.results values forms.has)),
  )

  pub forms_carried : (plan : Plan) (values : List A) → Forms plan values
      → carried plus times default plan items ≡ values
  forms_carried plan values forms = forming.read_items plus times default items plan.steps plan.results values forms.has

  left_parts : (m n : ℕ) → length items ≡ m + n
      → HasItems plus times default items [] (range_with_len 0 m) (take m items)
  left_parts m n same =
      let count : length (take m items) ≡ m = simp length-take (omega arith) in
      subst (λ k. HasItems plus times default items [] (range_with_len 0 k) (take m items)) count
      (forming.parts_have plus times default items 0 (take m items) (omega arith)
      (λ k inside. let below : k < m = omega arith in ap (λ j. get_or items j default) (omega arith) ∙ sym
      (get_or-take m items k default below)))

  right_parts : (m n : ℕ) → length items ≡ m + n
      → HasItems plus times default items [] (range_with_len m n) (drop m items)
  right_parts m n same =
      let count : length (drop m items) ≡ n = simp length-drop (omega arith) in
      subst (λ k. HasItems plus times default items [] (range_with_len m k) (drop m items)) count
      (forming.parts_have plus times default items m (drop m items) (omega arith)
      (λ k inside. sym (get_or-drop m items k default)))

  pub sum_forms : (m n : ℕ) → length items ≡ m + n → Forms (sum_plan m n) (list_sum plus (take m items) (drop m items))
  unfolding sum_plan
  sum_forms m n same =
      let none : Formed = record { steps = []; places = [] } in
      let over : ℕ → Plan = λ parts. let sum = summed parts none (max m n) (range_with_len 0 m)
      (range_with_len m n) [] in record { parts = parts; steps = sum.steps; results = sum.places } in
      let values = list_sum plus (take m items) (drop m items) in
      let sum = forming.summed_has plus times default items (max m n) [] [] [] (range_with_len 0 m)
      (range_with_len m n) [] (take m items) (drop m items) [] tt (left_parts m n same) (right_parts m n same) tt
      (simp length-range_with_len (omega arith)) (simp length-range_with_len (omega arith)) (omega arith) in
      let here : Forms (over (length items)) values = record {
        parts = refl;
        goes = sum.0;
        has = subst (HasItems plus times default items (over (length items)).steps (over (length items)).results)
            (list_sum_none plus values) sum.1;
      } in
      let plan : Formed → Plan = λ sum. record { parts = m + n; steps = sum.steps; results = sum.places } in
      subst (λ plan. Forms plan values) (ap plan (summed_operands m n))
      (subst (λ parts. Forms (over parts) values) same here)

  pub product_forms : (m n : ℕ) → length items ≡ m + n
      → Forms (product_plan m n) (list_product plus times (take m items) (drop m items))
  unfolding product_plan
  product_forms m n same =
      let over : ℕ → Plan = λ parts. let table = product_table parts (range_with_len 0 m)
      (range_with_len m n) in record { parts = parts; steps = table.steps; results = get_or table.products 0 [] } in
      let values = list_product plus times (take m items) (drop m items) in
      let table = product_table (length items) (range_with_len 0 m) (range_with_len m n) in
      let product = forming.product_table_has plus times default items (range_with_len 0 m) (take m items)
      (range_with_len m n) (drop m items) (left_parts m n same) (right_parts m n same) in
      let here : Forms (over (length items)) values = record {
        parts = refl;
        goes = product.0;
        has = forming.row_first plus times default items table.steps table.products (take m items)
            (drop m items) product.1;
      } in
      subst (λ parts. Forms (over parts) values) same here

  -- so many parts from this one on, multiplied by the first of all
  multiples_form : (steps : List PlanStep) (start : ℕ) (factor : A) (values : List A)
      → HasItem plus times default items steps 0 factor
      → HasItems plus times default items steps (range_with_len (1 + start) (length values)) values
      → let after = steps ++ map (λ i. step.Mul 0 (1 + i))
      (range_with_len start (length values)) in GoesOn plus times default items steps after
      × HasItems plus times default items after (range_with_len (length items + length steps) (length values))
      (map (times factor) values)
  multiples_form steps start factor [] hf hv = (
    subst (GoesOn plus times default items steps) (sym (append-nil steps))
        (forming.stays plus times default items steps),
    tt,
  )
  multiples_form steps start factor (value ∷ values) hf hv =
      let next = steps ++ step.Mul 0 (1 + start) ∷ [] in
      let one = forming.times_added plus times default items steps 0 (1 + start) factor value hf hv.0 in
      let moved : (1 + start) + 1 ≡ 1 + (start + 1) = omega arith in
      let rest : HasItems plus times default items steps
      (range_with_len (1 + (start + 1)) (length values)) values = subst
      (λ k. HasItems plus times default items steps (range_with_len k (length values)) values) moved hv.1 in
      let more = multiples_form next (start + 1) factor values (one.0.keeps 0 factor hf)
      (forming.items_kept plus times default items one.0
      (range_with_len (1 + (start + 1)) (length values)) values rest) in
      let joined : next ++ map (λ i. step.Mul 0 (1 + i)) (range_with_len (start + 1) (length values)) ≡ steps ++ map
      (λ i. step.Mul 0 (1 + i)) (range_with_len start (length (value ∷ values))) = append_assoc steps
      (step.Mul 0 (1 + start) ∷ []) (map (λ i. step.Mul 0 (1 + i)) (range_with_len (start + 1) (length values))) in
      let place : length items + length next ≡ (length items + length steps) + 1 = omega
      (arith, length-append steps (step.Mul 0 (1 + start) ∷ [])) in
      let goes = subst (GoesOn plus times default items steps) joined
      (forming.then_on plus times default items one.0 more.0) in (
        goes,
        (
          subst (λ after. HasItem plus times default items after (length items + length steps)
              (times factor value)) joined (more.0.keeps (length items + length steps) (times factor value) one.1),
          subst (λ k. HasItems plus times default items
              (steps ++ map (λ i. step.Mul 0 (1 + i)) (range_with_len start (length (value ∷ values))))
              (range_with_len k (length values)) (map (times factor) values)) place
              (subst (λ after. HasItems plus times default items after
              (range_with_len (length items + length next) (length values)) (map (times factor) values)) joined more.1),
        ),
      )

-- the product of a list of one item and a list
product_of_one : {A : Type 0} (plus times : A → A → A) (x : A) (ys : List A)
    → map (times x) ys ≡ list_product plus times (x ∷ []) ys
product_of_one plus times x [] = refl
product_of_one plus times x (y ∷ ys) =
    ap (λ rest. times x y ∷ rest)
    (product_of_one plus times x ys ∙ sym (list_sum_none plus (list_product plus times (x ∷ []) ys)) ∙ sym
    (list_sum_none plus (list_sum plus (list_product plus times (x ∷ []) ys) [])))

pub multiple_forms : {A : Type 0} (plus times : A → A → A) (default : A) (items : List A) (n : ℕ)
    → length items ≡ 1 + n
    → Forms plus times default items (multiple_plan n) (list_product plus times (take 1 items) (drop 1 items))
unfolding multiple_plan
multiple_forms plus times default [] n same = absurd (omega arith)
multiple_forms plus times default (factor ∷ values) n same =
    let items = factor ∷ values in
    let count : length values ≡ n = omega arith in
    let first : HasItem plus times default items [] 0 factor = (omega arith, refl) in
    let rest = forming.parts_have plus times default items 1 values (omega arith) (λ k inside. rw one-add refl) in
    let made = multiples_form plus times default items [] 0 factor values first rest in
    let over : ℕ → Plan = λ parts. record {
      parts = parts;
      steps = map (λ i. step.Mul 0 (1 + i))
          (range_with_len 0 (length values));
      results = range_with_len parts (length values);
    } in
    let here : (parts : ℕ) → length items + 0 ≡ parts → Forms plus times default items (over parts)
    (list_product plus times (factor ∷ []) values) = λ parts e. record {
      parts = omega arith;
      goes = made.0;
      has = subst (HasItems plus times default items (over parts).steps (range_with_len parts (length values)))
          (product_of_one plus times factor values)
          (subst (λ k. HasItems plus times default items (over parts).steps (range_with_len k (length values))
          (map (times factor) values)) e made.1);
    } in
    subst (λ k. Forms plus times default items
    (record {
      parts = 1 + k;
      steps = map (λ i. step.Mul 0 (1 + i)) (range_with_len 0 k);
      results = range_with_len
          (1 + k) k;
    }) (list_product plus times (factor ∷ []) values)) count (here (1 + length values) (omega arith))

-- With the default for a lone part, a list of parts has this value at the turn.
-- Each of the three names earlier places alone: see what it forms of some numbers.
some_items : ℕ → List ℕ
some_items count = range_with_len 0 count

some_count : (count : ℕ) → length (some_items count) ≡ count
unfolding some_items
some_count count = length-range_with_len 0 count

pub sum_is_plan : (m n : ℕ) → IsPlan (sum_plan m n)
sum_is_plan m n =
    forms_plan ◌+◌ ◌+◌ 0 (some_items (m + n)) (sum_plan m n)
    (list_sum ◌+◌ (take m (some_items (m + n))) (drop m (some_items (m + n))))
    (sum_forms ◌+◌ ◌+◌ 0 (some_items (m + n)) m n (some_count (m + n)))

pub product_is_plan : (m n : ℕ) → IsPlan (product_plan m n)
product_is_plan m n =
    forms_plan ◌+◌ ◌+◌ 0 (some_items (m + n)) (product_plan m n)
    (list_product ◌+◌ ◌+◌ (take m (some_items (m + n))) (drop m (some_items (m + n))))
    (product_forms ◌+◌ ◌+◌ 0 (some_items (m + n)) m n (some_count (m + n)))

pub multiple_is_plan : (n : ℕ) → IsPlan (multiple_plan n)
multiple_is_plan n =
    forms_plan ◌+◌ ◌+◌ 0 (some_items (1 + n)) (multiple_plan n)
    (list_product ◌+◌ ◌+◌ (take 1 (some_items (1 + n))) (drop 1 (some_items (1 + n))))
    (multiple_forms ◌+◌ ◌+◌ 0 (some_items (1 + n)) n (some_count (1 + n)))

-- How many parts the operands and the result have.
pub sum_counts : (m n : ℕ) → ((sum_plan m n).parts ≡ m + n) × (length (sum_plan m n).results ≡ max m n)
unfolding sum_plan
sum_counts m n = (refl, simp (length-append, length-drop, length-range_with_len) (omega arith))

pub multiple_counts : (n : ℕ) → ((multiple_plan n).parts ≡ 1 + n) × (length (multiple_plan n).results ≡ n)
unfolding multiple_plan
multiple_counts n = (refl, length-range_with_len (1 + n) n)

product_operands : (m n : ℕ) → (product_plan m n).parts ≡ m + n
unfolding product_plan
product_operands m n = refl

length-list_product_of : (xs ys : List ℕ) → 1 ≤ length xs → 1 ≤ length ys
    → length (list_product ◌+◌ ◌+◌ xs ys) ≡ length xs + length ys - 1
length-list_product_of [] ys some some' = absurd (omega arith)
length-list_product_of (x ∷ xs) [] some some' = absurd (omega arith)
length-list_product_of (x ∷ xs) (y ∷ ys) some some' = omega (arith, length-list_product ◌+◌ ◌+◌ x xs y ys)

pub product_counts : (m n : ℕ) → 1 ≤ m → 1 ≤ n → ((product_plan m n).parts ≡ m + n)
    × (length (product_plan m n).results ≡ m + n - 1)
product_counts m n some some' =
    let items = some_items (m + n) in
    let lefts = take m items in
    let rights = drop m items in
    let left_count : length lefts ≡ m = simp length-take (omega (arith, some_count (m + n))) in
    let right_count : length rights ≡ n = simp length-drop (omega (arith, some_count (m + n))) in
    let forms = product_forms ◌+◌ ◌+◌ 0 items m n (some_count (m + n)) in
    let same = forming.length_has ◌+◌ ◌+◌ 0 items (product_plan m n).steps (product_plan m n).results
    (list_product ◌+◌ ◌+◌ lefts rights) forms.has in
    let count = length-list_product_of lefts rights (omega (arith, left_count)) (omega (arith, right_count)) in
    (product_operands m n, omega (arith, same, count, left_count, right_count))
