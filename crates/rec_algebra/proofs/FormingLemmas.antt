-- What the steps of a plan in the making form of the operands' parts.
use Rattle.std.proofs.Common.{◌≡◌, ℕ, zero, suc, ◌+◌, ◌<◌, ◌≤◌, max, List, [], ◌∷◌, ◌++◌, length, map, drop, get_or, slice_get, Option, Some, None, refl, sym, ap, ◌∙◌, subst, arith, append_assoc, length-append, length-drop}
use Rattle.std.proofs.Math.ListN.{get_or-append}
use Rattle.std.proofs.lemmas.List.{append-nil}
use Rattle.std.proofs.Math.Seq.{get_or-append_seam}
use Rattle.std.specs.List.{range_with_len}
use Rattle.rec_algebra.specs.declared.plan.PlanStep.{PlanStep}
use Rattle.rec_algebra.specs.declared.plan.PlanStep.TheVariants as step
use Rattle.rec_algebra.specs.Plans.{IsStepBelow, NamesEarlier, step_item, place_items}
use Rattle.rec_algebra.specs.Forming.{joined, joined_three, with_place, summed, multiplied, product_row, product_table}
use Rattle.rec_algebra.proofs.AlgebraLemmas.{Each, list_sum, list_product}

pub names_one_more : (count : ℕ) (steps : List PlanStep) (next : PlanStep) → NamesEarlier count steps
    → IsStepBelow (count + length steps) next → NamesEarlier count (steps ++ next ∷ [])
names_one_more count [] next earlier below = (subst (λ n. IsStepBelow n next) (omega arith) below, tt)
names_one_more count (first ∷ rest) next earlier below =
    (earlier.0, names_one_more (suc count) rest next earlier.1 (subst (λ n. IsStepBelow n next) (omega arith) below))

pub list_sum_none : {A : Type 0} (plus : A → A → A) (xs : List A) → list_sum plus xs [] ≡ xs
list_sum_none plus [] = refl
list_sum_none plus (x ∷ xs) = refl

empty_list : {A : Type 0} (xs : List A) → length xs ≤ 0 → xs ≡ []
empty_list [] h = refl
empty_list (x ∷ xs) h = absurd (omega arith)

module _ {A : Type 0} (plus times : A → A → A) (default : A) where
  pub place_items_one_more : (items : List A) (steps : List PlanStep) (next : PlanStep)
      → place_items plus times default items
      (steps ++ next ∷ []) ≡ place_items plus times default items steps ++ step_item plus times default
      (place_items plus times default items steps) next ∷ []
  place_items_one_more items [] next = refl
  place_items_one_more items (first ∷ rest) next =
      place_items_one_more (items ++ step_item plus times default items first ∷ []) rest next

  pub length-place_items : (items : List A) (steps : List PlanStep)
      → length (place_items plus times default items steps) ≡ length items + length steps
  length-place_items items [] = omega arith
  length-place_items items (first ∷ rest) =
      length-place_items (items ++ step_item plus times default items first ∷ []) rest ∙ simp length-append
      (omega arith)

-- the sum of two items, either of which may be missing
abbrev pub item_sum : {A : Type 0} → (A → A → A) → Option A → Option A → Option A
item_sum plus None right = right
item_sum plus (Some left) None = Some left
item_sum plus (Some left) (Some right) = Some (plus left right)

-- the items with this one at their end, if it is there
abbrev pub with_item : {A : Type 0} → List A → Option A → List A
with_item items None = items
with_item items (Some item) = items ++ item ∷ []

list_sum_by_parts : {A : Type 0} (plus : A → A → A) (items xs ys zs : List A)
    → with_item items (item_sum plus (item_sum plus (slice_get xs 0) (slice_get ys 0))
    (slice_get zs 0)) ++ list_sum plus (list_sum plus (drop 1 xs) (drop 1 ys))
    (drop 1 zs) ≡ items ++ list_sum plus (list_sum plus xs ys) zs
list_sum_by_parts plus items [] [] [] = refl
list_sum_by_parts plus items [] [] (z ∷ zs) = append_assoc items (z ∷ []) zs
list_sum_by_parts plus items [] (y ∷ ys) [] = append_assoc items (y ∷ []) (list_sum plus ys []) ∙ ap
    (λ rest. items ++ y ∷ rest) (list_sum_none plus ys)
list_sum_by_parts plus items [] (y ∷ ys) (z ∷ zs) = append_assoc items (plus y z ∷ []) (list_sum plus ys zs)
list_sum_by_parts plus items (x ∷ xs) [] [] =
    append_assoc items (x ∷ []) (list_sum plus (list_sum plus xs []) []) ∙ ap (λ rest. items ++ x ∷ rest)
    (list_sum_none plus (list_sum plus xs []) ∙ list_sum_none plus xs)
list_sum_by_parts plus items (x ∷ xs) [] (z ∷ zs) =
    append_assoc items (plus x z ∷ []) (list_sum plus (list_sum plus xs []) zs) ∙ ap
    (λ rest. items ++ plus x z ∷ list_sum plus rest zs) (list_sum_none plus xs)
list_sum_by_parts plus items (x ∷ xs) (y ∷ ys) [] =
    append_assoc items (plus x y ∷ []) (list_sum plus (list_sum plus xs ys) []) ∙ ap
    (λ rest. items ++ plus x y ∷ rest) (list_sum_none plus (list_sum plus xs ys))
list_sum_by_parts plus items (x ∷ xs) (y ∷ ys) (z ∷ zs) =
    append_assoc items (plus (plus x y) z ∷ []) (list_sum plus (list_sum plus xs ys) zs)

-- After these steps the place has this item. The module's further facts are of the same operands.
module _ {A : Type 0} (plus times : A → A → A) (default : A) (items : List A) where
  abbrev pub HasItem : List PlanStep → ℕ → A → Type 0
  HasItem steps place item =
      (place < length items + length steps) × (get_or (place_items plus times default items steps) place default ≡ item)

  -- After these steps the places have these items.
  abbrev pub HasItems : List PlanStep → List ℕ → List A → Type 0
  HasItems steps [] [] = Unit {0}
  HasItems steps [] (item ∷ rest) = ⊥
  HasItems steps (place ∷ places) [] = ⊥
  HasItems steps (place ∷ places) (item ∷ rest) = HasItem steps place item × HasItems steps places rest

  -- After these steps the place has the item, or both are missing.
  abbrev pub MayHaveItem : List PlanStep → Option ℕ → Option A → Type 0
  MayHaveItem steps None None = Unit {0}
  MayHaveItem steps None (Some item) = ⊥
  MayHaveItem steps (Some place) None = ⊥
  MayHaveItem steps (Some place) (Some item) = HasItem steps place item

  -- The later steps go on from the earlier ones: what places have stays, and steps name earlier places.
  pub record GoesOn (before after : List PlanStep) : Type 0 where
    pub keeps : (place : ℕ) (item : A) → HasItem before place item → HasItem after place item
    pub earlier : NamesEarlier (length items) before → NamesEarlier (length items) after

  pub stays : (steps : List PlanStep) → GoesOn steps steps
  stays steps = record { keeps = λ place item h. h; earlier = λ h. h }

  pub then_on : {first second third : List PlanStep} → GoesOn first second → GoesOn second third → GoesOn first third
  then_on one two = record {
    keeps = λ place item h. two.keeps place item (one.keeps place item h);
    earlier = λ h. two.earlier (one.earlier h);
  }

  pub items_kept : {before after : List PlanStep} → GoesOn before after → (places : List ℕ) (values : List A)
      → HasItems before places values → HasItems after places values
  items_kept on [] [] h = tt
  items_kept on [] (value ∷ values) h = h
  items_kept on (place ∷ places) [] h = h
  items_kept on (place ∷ places) (value ∷ values) h =
      (on.keeps place value h.0, items_kept on places values h.1)

  pub may_kept : {before after : List PlanStep} → GoesOn before after → (place : Option ℕ) (value : Option A)
      → MayHaveItem before place value → MayHaveItem after place value
  may_kept on None None h = tt
  may_kept on None (Some value) h = h
  may_kept on (Some place) None h = h
  may_kept on (Some place) (Some value) h = on.keeps place value h

  one_more_kept : (steps : List PlanStep) (next : PlanStep) (place : ℕ) (item : A) → HasItem steps place item
      → HasItem (steps ++ next ∷ []) place item
  one_more_kept steps next place item h =
      let all = place_items plus times default items steps in
      let inside : place < length all = omega (arith, length-place_items plus times default items steps, h.0) in (
        omega (arith, h.0, length-append steps (next ∷ [])),
        ap (λ (l : List A). get_or l place default) (place_items_one_more plus times default items steps next)
            ∙ get_or-append all (step_item plus times default all next ∷ []) default place inside
            ∙ h.1,
      )

  one_more_has : (steps : List PlanStep) (next : PlanStep)
      → HasItem (steps ++ next ∷ []) (length items + length steps)
      (step_item plus times default (place_items plus times default items steps) next)
  one_more_has steps next =
      let all = place_items plus times default items steps in (
        omega (arith, length-append steps (next ∷ [])),
        ap (λ (l : List A). get_or l (length items + length steps) default)
            (place_items_one_more plus times default items steps next)
            ∙ ap (λ n. get_or (all ++ step_item plus times default all next ∷ []) n default)
            (sym (length-place_items plus times default items steps))
            ∙ get_or-append_seam all (step_item plus times default all next) [] default,
      )

  one_more_on : (steps : List PlanStep) (next : PlanStep) → IsStepBelow (length items + length steps) next
      → GoesOn steps (steps ++ next ∷ [])
  one_more_on steps next below = record {
    keeps = one_more_kept steps next;
    earlier = λ h. names_one_more (length items) steps next h below;
  }

  pub added : (steps : List PlanStep) (left right : ℕ) (x y : A) → HasItem steps left x → HasItem steps right y
      → GoesOn steps (steps ++ step.Add left right ∷ [])
      × HasItem (steps ++ step.Add left right ∷ []) (length items + length steps) (plus x y)
  added steps left right x y hx hy = (
    one_more_on steps (step.Add left right) (hx.0, hy.0),
    subst (HasItem (steps ++ step.Add left right ∷ []) (length items + length steps))
        (ap (plus (get_or (place_items plus times default items steps) left default)) hy.1 ∙ ap (λ z. plus z y) hx.1)
        (one_more_has steps (step.Add left right)),
  )

  pub times_added : (steps : List PlanStep) (left right : ℕ) (x y : A) → HasItem steps left x → HasItem steps right y
      → GoesOn steps (steps ++ step.Mul left right ∷ [])
      × HasItem (steps ++ step.Mul left right ∷ []) (length items + length steps) (times x y)
  times_added steps left right x y hx hy = (
    one_more_on steps (step.Mul left right) (hx.0, hy.0),
    subst (HasItem (steps ++ step.Mul left right ∷ []) (length items + length steps))
        (ap (times (get_or (place_items plus times default items steps) left default)) hy.1 ∙ ap
        (λ z. times z y) hx.1) (one_more_has steps (step.Mul left right)),
  )

  pub joined_has : (steps : List PlanStep) (left right : Option ℕ) (x y : Option A) → MayHaveItem steps left x
      → MayHaveItem steps right y → let sum = joined (length items) steps left right in GoesOn steps sum.steps
      × MayHaveItem sum.steps sum.place (item_sum plus x y)
  joined_has steps None right None y hx hy = (stays steps, hy)
  joined_has steps None right (Some x) y hx hy = absurd hx
  joined_has steps (Some left) right None y hx hy = absurd hx
  joined_has steps (Some left) None (Some x) None hx hy = (stays steps, hx)
  joined_has steps (Some left) None (Some x) (Some y) hx hy = absurd hy
  joined_has steps (Some left) (Some right) (Some x) None hx hy = absurd hy
  joined_has steps (Some left) (Some right) (Some x) (Some y) hx hy = added steps left right x y hx hy

  pub joined_three_has : (steps : List PlanStep) (first second third : Option ℕ) (x y z : Option A)
      → MayHaveItem steps first x → MayHaveItem steps second y → MayHaveItem steps third z
      → let sum = joined_three (length items) steps first second third in GoesOn steps sum.steps
      × MayHaveItem sum.steps sum.place (item_sum plus (item_sum plus x y) z)
  joined_three_has steps first second third x y z hx hy hz =
      let two = joined (length items) steps first second in
      let one = joined_has steps first second x y hx hy in
      let more = joined_has two.steps two.place third (item_sum plus x y) z one.1 (may_kept one.0 third z hz) in
      (then_on one.0 more.0, more.1)

  pub first_has : (steps : List PlanStep) (places : List ℕ) (values : List A) → HasItems steps places values
      → MayHaveItem steps (slice_get places 0) (slice_get values 0)
  first_has steps [] [] h = tt
  first_has steps [] (value ∷ values) h = absurd h
  first_has steps (place ∷ places) [] h = absurd h
  first_has steps (place ∷ places) (value ∷ values) h = h.0

  pub rest_has : (steps : List PlanStep) (places : List ℕ) (values : List A) → HasItems steps places values
      → HasItems steps (drop 1 places) (drop 1 values)
  rest_has steps [] [] h = tt
  rest_has steps [] (value ∷ values) h = absurd h
  rest_has steps (place ∷ places) [] h = absurd h
  rest_has steps (place ∷ places) (value ∷ values) h = h.1

  pub with_place_has : (steps : List PlanStep) (places : List ℕ) (values : List A) (place : Option ℕ)
      (value : Option A) → HasItems steps places values → MayHaveItem steps place value
      → HasItems steps (with_place places place) (with_item values value)
  with_place_has steps places values None None h one = h
  with_place_has steps places values None (Some value) h one = absurd one
  with_place_has steps places values (Some place) None h one = absurd one
  with_place_has steps [] [] (Some place) (Some value) h one = (one, tt)
  with_place_has steps [] (first ∷ values) (Some place) (Some value) h one = absurd h
  with_place_has steps (first ∷ places) [] (Some place) (Some value) h one = absurd h
  with_place_has steps (first ∷ places) (item ∷ values) (Some place) (Some value) h one =
      (h.0, with_place_has steps places values (Some place) (Some value) h.1 one)

  pub length_has : (steps : List PlanStep) (places : List ℕ) (values : List A) → HasItems steps places values
      → length values ≡ length places
  length_has steps [] [] h = refl
  length_has steps [] (value ∷ values) h = absurd h
  length_has steps (place ∷ places) [] h = absurd h
  length_has steps (place ∷ places) (value ∷ values) h = ap suc (length_has steps places values h.1)

  none_has : (steps : List PlanStep) (places : List ℕ) (values : List A) → HasItems steps places values
      → length places ≤ 0 → values ≡ []
  none_has steps places values h few = empty_list values (omega (arith, length_has steps places values h))

  pub summed_has : (count : ℕ) (steps : List PlanStep) (places : List ℕ) (values : List A)
      (first second third : List ℕ) (xs ys zs : List A) → HasItems steps places values → HasItems steps first xs
      → HasItems steps second ys → HasItems steps third zs → length first ≤ count → length second ≤ count
      → length third ≤ count
      → let sum = summed (length items)
      (record { steps = steps; places = places }) count first second third in GoesOn steps sum.steps
      × HasItems sum.steps sum.places (values ++ list_sum plus (list_sum plus xs ys) zs)
  unfolding summed
  summed_has zero steps places values first second third xs ys zs h hx hy hz few few' few'' = (
    stays steps,
    rw (none_has steps first xs hx few, none_has steps second ys hy few', none_has steps third zs hz few'')
        (rw append-nil h),
  )
  summed_has (suc count) steps places values first second third xs ys zs h hx hy hz few few' few'' =
      let sum = joined_three (length items) steps (slice_get first 0) (slice_get second 0) (slice_get third 0) in
      let one = joined_three_has steps (slice_get first 0) (slice_get second 0) (slice_get third 0) (slice_get xs 0)
      (slice_get ys 0) (slice_get zs 0) (first_has steps first xs hx) (first_has steps second ys hy)
      (first_has steps third zs hz) in
      let item = item_sum plus (item_sum plus (slice_get xs 0) (slice_get ys 0)) (slice_get zs 0) in
      let more = summed_has count sum.steps (with_place places sum.place) (with_item values item) (drop 1 first)
      (drop 1 second) (drop 1 third) (drop 1 xs) (drop 1 ys) (drop 1 zs)
      (with_place_has sum.steps places values sum.place item (items_kept one.0 places values h) one.1)
      (items_kept one.0 (drop 1 first) (drop 1 xs) (rest_has steps first xs hx))
      (items_kept one.0 (drop 1 second) (drop 1 ys) (rest_has steps second ys hy))
      (items_kept one.0 (drop 1 third) (drop 1 zs) (rest_has steps third zs hz)) (simp length-drop (omega arith))
      (simp length-drop (omega arith)) (simp length-drop (omega arith)) in
      (then_on one.0 more.0, rw (list_sum_by_parts plus values xs ys zs) at more.1)

  pub multiplied_has : (steps : List PlanStep) (left right : ℕ) (x y : A) (first second third : List ℕ)
      (xs ys zs : List A) → HasItem steps left x → HasItem steps right y → HasItems steps first xs
      → HasItems steps second ys → HasItems steps third zs
      → let product = multiplied (length items) steps left right first second third in GoesOn steps product.steps
      × HasItems product.steps product.places (times x y ∷ list_sum plus (list_sum plus xs ys) zs)
  unfolding multiplied
  multiplied_has steps left right x y first second third xs ys zs hl hr hx hy hz =
      let start = steps ++ step.Mul left right ∷ [] in
      let one = times_added steps left right x y hl hr in
      let more = summed_has (max (max (length first) (length second)) (length third)) start
      ((length items + length steps) ∷ []) (times x y ∷ []) first second third xs ys zs (one.1, tt)
      (items_kept one.0 first xs hx) (items_kept one.0 second ys hy) (items_kept one.0 third zs hz) (omega arith)
      (omega arith) (omega arith) in
      (then_on one.0 more.0, more.1)

  -- The row has the products of one list with each suffix of a list.
  abbrev pub HasRow : List PlanStep → List (List ℕ) → List A → List A → Type 0
  HasRow steps products xs [] = HasItems steps (get_or products 0 []) (list_product plus times xs [])
  HasRow steps products xs (y ∷ ys) =
      HasItems steps (get_or products 0 []) (list_product plus times xs (y ∷ ys)) × HasRow steps (drop 1 products) xs ys

  pub row_first : (steps : List PlanStep) (products : List (List ℕ)) (xs ys : List A) → HasRow steps products xs ys
      → HasItems steps (get_or products 0 []) (list_product plus times xs ys)
  row_first steps products xs [] h = h
  row_first steps products xs (y ∷ ys) h = h.0

  row_second : (steps : List PlanStep) (products : List (List ℕ)) (xs ys : List A)
      → HasRow steps (drop 1 products) xs ys → HasItems steps (get_or products 1 []) (list_product plus times xs ys)
  row_second steps [] xs ys h = row_first steps [] xs ys h
  row_second steps (product ∷ products) xs ys h = row_first steps products xs ys h

  row_kept : {before after : List PlanStep} → GoesOn before after → (products : List (List ℕ)) (xs ys : List A)
      → HasRow before products xs ys → HasRow after products xs ys
  row_kept on products xs [] h = items_kept on (get_or products 0 []) (list_product plus times xs []) h
  row_kept on products xs (y ∷ ys) h = (
    items_kept on (get_or products 0 []) (list_product plus times xs (y ∷ ys)) h.0,
    row_kept on (drop 1 products) xs ys h.1,
  )

  empty_row : (steps : List PlanStep) (ys : List A) → HasRow steps [] [] ys
  empty_row steps [] = tt
  empty_row steps (y ∷ ys) = (tt, empty_row steps ys)

  pub product_row_has : (steps : List PlanStep) (left : ℕ) (x : A) (xs : List A) (rights : List ℕ) (ys : List A)
      (below : List (List ℕ)) → HasItem steps left x → HasItems steps rights ys → HasRow steps below xs ys
      → let row = product_row (length items) steps left rights below in GoesOn steps row.steps
      × HasRow row.steps row.products (x ∷ xs) ys
  unfolding product_row
  product_row_has steps left x xs [] [] below hl hr hb = (stays steps, tt)
  product_row_has steps left x xs [] (y ∷ ys) below hl hr hb = absurd hr
  product_row_has steps left x xs (right ∷ rights) [] below hl hr hb = absurd hr
  product_row_has steps left x xs (right ∷ rights) (y ∷ ys) below hl hr hb =
      let row = product_row (length items) steps left rights (drop 1 below) in
      let one = product_row_has steps left x xs rights ys (drop 1 below) hl hr.1 hb.1 in
      let more = multiplied_has row.steps left right x y (get_or row.products 0 []) (get_or below 0 [])
      (get_or below 1 []) (list_product plus times (x ∷ xs) ys) (list_product plus times xs (y ∷ ys))
      (list_product plus times xs ys) (one.0.keeps left x hl) (one.0.keeps right y hr.0)
      (row_first row.steps row.products (x ∷ xs) ys one.1)
      (items_kept one.0 (get_or below 0 []) (list_product plus times xs (y ∷ ys)) hb.0)
      (items_kept one.0 (get_or below 1 []) (list_product plus times xs ys) (row_second steps below xs ys hb.1)) in
      (then_on one.0 more.0, (more.1, row_kept more.0 row.products (x ∷ xs) ys one.1))

  pub product_table_has : (lefts : List ℕ) (xs : List A) (rights : List ℕ) (ys : List A) → HasItems [] lefts xs
      → HasItems [] rights ys → let table = product_table (length items) lefts rights in GoesOn [] table.steps
      × HasRow table.steps table.products xs ys
  unfolding product_table
  product_table_has [] [] rights ys hl hr = (stays [], empty_row [] ys)
  product_table_has [] (x ∷ xs) rights ys hl hr = absurd hl
  product_table_has (left ∷ lefts) [] rights ys hl hr = absurd hl
  product_table_has (left ∷ lefts) (x ∷ xs) rights ys hl hr =
      let table = product_table (length items) lefts rights in
      let one = product_table_has lefts xs rights ys hl.1 hr in
      let more = product_row_has table.steps left x xs rights ys table.products (one.0.keeps left x hl.0)
      (items_kept one.0 rights ys hr) one.1 in
      (then_on one.0 more.0, more.1)

  -- what the places have, read off
  pub read_items : (steps : List PlanStep) (places : List ℕ) (values : List A) → HasItems steps places values
      → map (λ place. get_or (place_items plus times default items steps) place default) places ≡ values
  read_items steps [] [] h = refl
  read_items steps [] (value ∷ values) h = absurd h
  read_items steps (place ∷ places) [] h = absurd h
  read_items steps (place ∷ places) (value ∷ values) h =
      ap (λ item. item ∷ map (λ place. get_or (place_items plus times default items steps) place default) places) h.0.1
      ∙ ap (λ rest. value ∷ rest) (read_items steps places values h.1)

  pub each_inside : (steps : List PlanStep) (places : List ℕ) (values : List A) → HasItems steps places values
      → Each (λ place. place < length items + length steps) places
  each_inside steps [] values h = tt
  each_inside steps (place ∷ places) [] h = absurd h
  each_inside steps (place ∷ places) (value ∷ values) h = (h.0.0, each_inside steps places values h.1)

  -- The places of operands' parts have those parts.
  pub parts_have : (start : ℕ) (values : List A) → start + length values ≤ length items
      → ((k : ℕ) → k < length values → get_or items (start + k) default ≡ get_or values k default)
      → HasItems [] (range_with_len start (length values)) values
  parts_have start [] inside same = tt
  parts_have start (value ∷ values) inside same = (
    (omega arith, ap (λ k. get_or items k default) (omega arith) ∙ same 0 (omega arith)),
    parts_have (start + 1) values (omega arith)
        (λ k h. ap (λ j. get_or items j default) (omega arith) ∙ same (suc k) (omega arith)),
  )
