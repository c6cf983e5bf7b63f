-- Two lists of places added part by part: the plan of a sum.
use Rattle.std.proofs.Common.{◌≡◌, ℕ, zero, suc, ◌+◌, max, min, List, [], ◌∷◌, ◌++◌, length, map, drop, sym, ap, ◌∙◌, arith, append_assoc, length-append}
use Rattle.std.proofs.lemmas.List.{append-nil}
use Rattle.std.proofs.lemmas.List.FromFn.{length-range_with_len}
use Rattle.std.specs.List.{range_with_len}
use Rattle.rec_algebra.specs.declared.plan.PlanStep.{PlanStep}
use Rattle.rec_algebra.specs.declared.plan.PlanStep.TheVariants as step
use Rattle.rec_algebra.specs.Forming.{Formed, summed}

-- a step for each pair of places
pair_steps : List ℕ → List ℕ → List PlanStep
pair_steps [] rights = []
pair_steps (left ∷ lefts) [] = []
pair_steps (left ∷ lefts) (right ∷ rights) = step.Add left right ∷ pair_steps lefts rights

formed : List PlanStep → List ℕ → Formed
formed steps places = record { steps = steps; places = places }

summed_left : (parts : ℕ) (steps : List PlanStep) (places lefts : List ℕ)
    → summed parts (formed steps places) (length lefts) lefts [] [] ≡ formed steps (places ++ lefts)
unfolding summed formed
summed_left parts steps places [] = ap (formed steps) (sym (append-nil places))
summed_left parts steps places (left ∷ lefts) =
    summed_left parts steps (places ++ left ∷ []) lefts ∙ ap (formed steps) (append_assoc places (left ∷ []) lefts)

summed_right : (parts : ℕ) (steps : List PlanStep) (places rights : List ℕ)
    → summed parts (formed steps places) (length rights) [] rights [] ≡ formed steps (places ++ rights)
unfolding summed formed
summed_right parts steps places [] = ap (formed steps) (sym (append-nil places))
summed_right parts steps places (right ∷ rights) =
    summed_right parts steps (places ++ right ∷ []) rights ∙ ap (formed steps) (append_assoc places (right ∷ []) rights)

-- the places of the sums, and the further parts of the longer list
result_places : ℕ → List ℕ → List ℕ → List ℕ
result_places start lefts rights =
    range_with_len start (min (length lefts) (length rights)) ++
    (drop (length rights) lefts ++ drop (length lefts) rights)

summed_two : (parts : ℕ) (steps : List PlanStep) (places lefts rights : List ℕ)
    → summed parts (formed steps places) (max (length lefts)
    (length rights)) lefts rights [] ≡ formed (steps ++ pair_steps lefts rights)
    (places ++ result_places (parts + length steps) lefts rights)
unfolding summed formed pair_steps result_places
summed_two parts steps places [] [] = ap (λ s. formed s places) (sym (append-nil steps)) ∙ ap (formed (steps ++ []))
    (sym (append-nil places))
summed_two parts steps places [] (right ∷ rights) =
    let count : max 0 (length (right ∷ rights)) ≡ length (right ∷ rights) = omega arith in
    let none : 0 ≡ min 0 (length (right ∷ rights)) = omega arith in
    ap (λ k. summed parts (formed steps places) k [] (right ∷ rights) []) count
    ∙ summed_right parts steps places (right ∷ rights)
    ∙ ap (λ s. formed s (places ++ right ∷ rights)) (sym (append-nil steps))
    ∙ ap (λ k. formed (steps ++ []) (places ++ (range_with_len (parts + length steps) k ++ right ∷ rights))) none
summed_two parts steps places (left ∷ lefts) [] =
    let count : max (length (left ∷ lefts)) 0 ≡ length (left ∷ lefts) = omega arith in
    let none : 0 ≡ min (length (left ∷ lefts)) 0 = omega arith in
    ap (λ k. summed parts (formed steps places) k (left ∷ lefts) [] []) count
    ∙ summed_left parts steps places (left ∷ lefts)
    ∙ ap (λ s. formed s (places ++ left ∷ lefts)) (sym (append-nil steps))
    ∙ ap (λ l. formed (steps ++ []) (places ++ l)) (sym (append-nil (left ∷ lefts)))
    ∙ ap (λ k. formed (steps ++ []) (places ++ (range_with_len (parts + length steps) k ++ (left ∷ lefts ++ [])))) none
summed_two parts steps places (left ∷ lefts) (right ∷ rights) =
    let count : max (length (left ∷ lefts)) (length (right ∷ rights)) ≡ suc
    (max (length lefts) (length rights)) = omega arith in
    let pairs : suc (min (length lefts) (length rights)) ≡ min (length (left ∷ lefts))
    (length (right ∷ rights)) = omega arith in
    let place = parts + length steps in
    let next = steps ++ step.Add left right ∷ [] in
    let further = drop (length rights) lefts ++ drop (length lefts) rights in
    let moved : parts + length next ≡ place + 1 = omega (arith, length-append steps (step.Add left right ∷ [])) in
    ap (λ k. summed parts (formed steps places) k (left ∷ lefts) (right ∷ rights) []) count
    ∙ summed_two parts next (places ++ place ∷ []) lefts rights
    ∙ ap (λ s. formed s ((places ++ place ∷ []) ++ result_places (parts + length next) lefts rights))
    (append_assoc steps (step.Add left right ∷ []) (pair_steps lefts rights))
    ∙ ap (formed (steps ++ step.Add left right ∷ pair_steps lefts rights))
    (append_assoc places (place ∷ []) (result_places (parts + length next) lefts rights)
    ∙ ap (λ k. places ++ place ∷ (range_with_len k (min (length lefts) (length rights)) ++ further)) moved
    ∙ ap (λ k. places ++ (range_with_len place k ++ further)) pairs)

pair_steps_of_ranges : (m start p q : ℕ)
    → pair_steps (range_with_len start p) (range_with_len (m + start) q) ≡ map (λ i. step.Add i (m + i))
    (range_with_len start (min p q))
unfolding pair_steps
pair_steps_of_ranges m start zero q = let none : 0 ≡ min 0 q = omega arith in ap
    (λ k. map (λ i. step.Add i (m + i)) (range_with_len start k)) none
pair_steps_of_ranges m start (suc p) zero = let none : 0 ≡ min (suc p) 0 = omega arith in ap
    (λ k. map (λ i. step.Add i (m + i)) (range_with_len start k)) none
pair_steps_of_ranges m start (suc p) (suc q) =
    let pairs : suc (min p q) ≡ min (suc p) (suc q) = omega arith in
    let moved : (m + start) + 1 ≡ m + (start + 1) = omega arith in
    ap (λ k. step.Add start (m + start) ∷ pair_steps (range_with_len (start + 1) p) (range_with_len k q)) moved
    ∙ ap (λ l. step.Add start (m + start) ∷ l) (pair_steps_of_ranges m (start + 1) p q)
    ∙ ap (λ k. map (λ i. step.Add i (m + i)) (range_with_len start k)) pairs

-- What adding the places of two operands forms.
pub summed_operands : (m n : ℕ)
    → summed (m + n) (record { steps = []; places = [] }) (max m n) (range_with_len 0 m)
    (range_with_len m n) [] ≡ record {
      steps = map (λ i. step.Add i (m + i)) (range_with_len 0 (min m n));
      places = range_with_len (m + n) (min m n) ++ (drop n (range_with_len 0 m) ++ drop m (range_with_len m n));
    }
unfolding formed result_places
summed_operands m n =
    let lefts = range_with_len 0 m in
    let rights = range_with_len m n in
    let left_count = length-range_with_len 0 m in
    let right_count = length-range_with_len m n in
    let start : m ≡ m + 0 = omega arith in
    let first : (m + n) + 0 ≡ m + n = omega arith in
    ap (λ k. summed (m + n) (formed [] []) (max k n) lefts rights []) (sym left_count)
    ∙ ap (λ k. summed (m + n) (formed [] []) (max (length lefts) k) lefts rights []) (sym right_count)
    ∙ summed_two (m + n) [] [] lefts rights
    ∙ ap (λ s. formed s (result_places ((m + n) + 0) lefts rights))
    (ap (λ k. pair_steps lefts (range_with_len k n)) start ∙ pair_steps_of_ranges m 0 m n)
    ∙ ap (formed (map (λ i. step.Add i (m + i)) (range_with_len 0 (min m n))))
    (ap (λ k. result_places k lefts rights) first
    ∙ ap (λ k. range_with_len (m + n) (min k (length rights)) ++
    (drop (length rights) lefts ++ drop k rights)) left_count
    ∙ ap (λ k. range_with_len (m + n) (min m k) ++ (drop k lefts ++ drop m rights)) right_count)
