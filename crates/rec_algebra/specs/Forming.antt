-- How the plans of a sum, of a multiple and of a product of recurrences are formed.
use Rattle.std.specs.Prelude.{ℕ, zero, suc, ◌+◌, min, max, List, [], ◌∷◌, ◌++◌, length, map, drop, slice_get, slice_index_or, Option, Some, None}
use Rattle.std.specs.List.{range_with_len}
use Rattle.rec_algebra.specs.Plans.{Plan}
use Rattle.rec_algebra.specs.declared.plan.PlanStep.{PlanStep}
use Rattle.rec_algebra.specs.declared.plan.PlanStep.TheVariants as step

-- The plan of the sum of recurrences with so many parts. The parts that both have are added, and the further
-- parts of the longer one are taken over.
unfoldable pub sum_plan : ℕ → ℕ → Plan
sum_plan m n = record {
  parts = m + n;
  steps = map (λ i. step.Add i (m + i)) (range_with_len 0 (min m n));
  results = range_with_len (m + n) (min m n) ++ (drop n (range_with_len 0 m) ++ drop m (range_with_len m n));
}

-- the plan of the product of one factor and a recurrence with so many parts
unfoldable pub multiple_plan : ℕ → Plan
multiple_plan n = record {
  parts = 1 + n;
  steps = map (λ i. step.Mul 0 (1 + i)) (range_with_len 0 n);
  results = range_with_len (1 + n) n;
}

-- the steps so far, and a list of places
pub record Formed : Type 0 where
  pub steps : List PlanStep
  pub places : List ℕ

-- the steps so far, and a place that may be missing
pub record Joined : Type 0 where
  pub steps : List PlanStep
  pub place : Option ℕ

-- The sum of two places, either of which may be missing. A step is made where both are there. Its place
-- comes after so many operands' parts and the steps so far.
abbrev pub joined : ℕ → List PlanStep → Option ℕ → Option ℕ → Joined
joined parts steps None right = record { steps = steps; place = right }
joined parts steps (Some left) None = record { steps = steps; place = Some left }
joined parts steps (Some left) (Some right) = record {
  steps = steps ++ step.Add left right ∷ [];
  place = Some (parts + length steps);
}

-- the sum of three places, added from the left
abbrev pub joined_three : ℕ → List PlanStep → Option ℕ → Option ℕ → Option ℕ → Joined
joined_three parts steps first second third =
    let two = joined parts steps first second in joined parts two.steps two.place third

-- the places with this one at their end, if it is there
abbrev pub with_place : List ℕ → Option ℕ → List ℕ
with_place places None = places
with_place places (Some place) = places ++ place ∷ []

-- The first so many parts of the sum of three lists, at the end of the places. Each part is added from the
-- left of those lists' parts that are there.
unfoldable pub summed : ℕ → Formed → ℕ → List ℕ → List ℕ → List ℕ → Formed
summed parts formed zero first second third = formed
summed parts formed (suc count) first second third =
    let sum = joined_three parts formed.steps (slice_get first 0) (slice_get second 0) (slice_get third 0) in
    summed parts (record { steps = sum.steps; places = with_place formed.places sum.place }) count (drop 1 first) (drop 1 second) (drop 1 third)

-- The product of two suffixes that start at these places. The terms of its step are products formed before:
-- of the left suffix and the right one without its first part, of the left one without its first part and
-- the right one, and of both without. A term with an empty factor has no part.
unfoldable pub multiplied : ℕ → List PlanStep → ℕ → ℕ → List ℕ → List ℕ → List ℕ → Formed
multiplied parts steps left right first second third =
    let start : Formed = record { steps = steps ++ step.Mul left right ∷ []; places = (parts + length steps) ∷ [] } in
    summed parts start (max (max (length first) (length second)) (length third)) first second third

-- the steps so far, and the products of one suffix with each suffix of a list, that of the whole list first
pub record Row : Type 0 where
  pub steps : List PlanStep
  pub products : List (List ℕ)

-- the products of the suffix that starts at this place with each suffix of a list, formed from the last
-- suffix on, over the products of that suffix without its first part
unfoldable pub product_row : ℕ → List PlanStep → ℕ → List ℕ → List (List ℕ) → Row
product_row parts steps left [] below = record { steps = steps; products = [] }
product_row parts steps left (right ∷ rest) below =
    let row = product_row parts steps left rest (drop 1 below) in
    let product = multiplied parts row.steps left right (slice_index_or row.products 0 []) (slice_index_or below 0 []) (slice_index_or below 1 []) in
    record { steps = product.steps; products = product.places ∷ row.products }

-- the row of products of the whole first list, over those of its suffixes, formed from the last one on
unfoldable pub product_table : ℕ → List ℕ → List ℕ → Row
product_table parts [] rights = record { steps = []; products = [] }
product_table parts (left ∷ rest) rights =
    let below = product_table parts rest rights in
    product_row parts below.steps left rights below.products

-- the plan of the product of recurrences with so many parts
unfoldable pub product_plan : ℕ → ℕ → Plan
product_plan m n =
    let table = product_table (m + n) (range_with_len 0 m) (range_with_len m n) in
    record { parts = m + n; steps = table.steps; results = slice_index_or table.products 0 [] }
