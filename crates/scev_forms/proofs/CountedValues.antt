-- The value of a recurrence at a count: the sum of its parts, each times a binomial coefficient, or its start and its
-- step times the count.
use Rattle.std.proofs.Common.{◌≡◌, ℕ, zero, suc, ◌+◌, ◌-◌, ◌*◌, ◌%◌, ◌^◌, ◌<◌, nat_lt, true, List, [], ◌∷◌}
use Rattle.std.proofs.Common.{map, Option, Some, None, is_some, refl, sym, ap, ◌∙◌, subst, arith}
use Rattle.std.proofs.lemmas.Bool.{cond_both, ltb-true, ltb-false}
use Rattle.std.proofs.lemmas.Nat.{mul-mod_second}
use Rattle.std.proofs.Math.Nat.{mod-eq_of_lt, mod-add-mod, add-mod-mod}
use Rattle.scev_base.specs.Iterated.{iterated}
use Rattle.binomial_eval.specs.Choose.{choose}
use Rattle.binomial_eval.specs.Sums.{modular_add, binomial_sum_from, binomial_sum}
use Rattle.binomial_eval.proofs.ChooseLemmas.{choose-zero, zero_choose, choose-suc}
use Rattle.binomial_eval.proofs.SumLemmas.{sum_from-nil, sum_from-cons, iterated-sum, iterated-residue}
use Rattle.scev_tree.specs.declared.kind.Kind.TheVariants as kind
use Rattle.scev_tree.specs.Tree.{Tree, Parts, no_parts, part, constant, width_of, trees_of}
use Rattle.scev_tree.specs.Canonical.{IsCanonical}
use Rattle.scev_tree.specs.Value.{sum, product, tree_value}
use Rattle.scev_forms.specs.Outcome.{Done}
use Rattle.scev_forms.specs.Trees.{IsTreeOf, AreTreesOf}
use Rattle.scev_forms.specs.Sums.{tree_sum, tree_product}
use Rattle.scev_forms.specs.Atoms.{number_of}
use Rattle.scev_forms.specs.Casts.{extended, truncated}
use Rattle.scev_forms.specs.Turns.{is_countable, counted_parts, fitted, counted_affine, counted_by, counted}
use Rattle.scev_forms.proofs.Outcomes.{Gives, gives_next, gives_more}
use Rattle.scev_forms.proofs.Atoms.{number_fits, number_small, number_value, constant_is_tree}
use Rattle.scev_forms.proofs.Kept.{keeps_none}
use Rattle.scev_forms.proofs.Readings.{pow_more}
use Rattle.scev_forms.proofs.CutNumbers.{both_numbers}
use Rattle.scev_forms.proofs.Standing.{value_at}
use Rattle.scev_forms.proofs.Supposed.{StandsIf, formed_kept_if, constant_if, sum_if, product_if, truncated_if}
use Rattle.scev_forms.proofs.Supposed.{extended_if}

-- ---- numbers of parts

-- the number, or 0 where there is none
abbrev number_in : Option ℕ → ℕ
number_in None = 0
number_in (Some n) = n

-- the parts up to a place are numbers
abbrev AreNumbers : ℕ → List (Option ℕ) → Type 0
AreNumbers zero xs = Unit {0}
AreNumbers (suc places) [] = Unit {0}
AreNumbers (suc places) (x ∷ xs) = (x ≡ Some (number_in x)) × AreNumbers places xs

-- Where an iterated sum has a value at a turn, the first part and those up to the turn are numbers, and the value is that
-- of numbers.
iterated_numbers : (w t : ℕ) (x : Option ℕ) (xs : List (Option ℕ)) (m : ℕ)
    → iterated (sum w) t x xs ≡ Some m
    → (x ≡ Some (number_in x)) × AreNumbers t xs
    × (iterated (modular_add w) t (number_in x) (map number_in xs) ≡ m)
unfolding iterated
iterated_numbers w zero x xs m h = (h ∙ ap Some (sym (ap number_in h)), tt, ap number_in h)
iterated_numbers w (suc t) x [] m h = (h ∙ ap Some (sym (ap number_in h)), tt, ap number_in h)
iterated_numbers w (suc t) x (y ∷ ys) m h =
    let both = both_numbers (λ a b. (a + b) % 2 ^ w) (iterated (sum w) t x (y ∷ ys)) (iterated (sum w) t y ys) m h in
    let first = iterated_numbers w t x (y ∷ ys) both.0 both.2 in
    let second = iterated_numbers w t y ys both.1 both.3 in (
      first.0,
      (second.0, second.1),
      ap (λ k. (k + iterated (modular_add w) t (number_in y) (map number_in ys)) % 2 ^ w) first.2
          ∙ ap (λ k. (both.0 + k) % 2 ^ w) second.2 ∙ both.4,
    )

-- the first part at a turn, and the products of the others
turn_value : (w t first m : ℕ) (rest : List ℕ)
    → first < 2 ^ w
    → iterated (modular_add w) t first rest ≡ m
    → (first + binomial_sum_from 1 t rest) % 2 ^ w ≡ m
turn_value w t first m rest small value =
    let whole : binomial_sum t (first ∷ rest) ≡ first + binomial_sum_from 1 t rest =
    rw (sum_from-cons 0 t first rest, choose-zero t) (omega arith) in
    ap (λ k. k % 2 ^ w) (sym (iterated-sum t first rest ∙ whole)) ∙ sym (iterated-residue w t first rest small) ∙ value

-- ---- binomial coefficients

-- no more can be chosen than there are
none_chosen : (n k : ℕ) → n < k → choose n k ≡ 0
none_chosen zero k more = zero_choose k more
none_chosen (suc n) zero more = absurd (omega arith)
none_chosen (suc n) (suc k) more =
    rw (choose-suc n k, none_chosen n k (omega arith), none_chosen n (suc k) (omega arith)) refl

-- so parts behind the turn don't count
none_behind : (n place : ℕ) (ys : List ℕ) → n < place → binomial_sum_from place n ys ≡ 0
none_behind n place [] more = sum_from-nil place n
none_behind n place (y ∷ ys) more =
    rw
    (sum_from-cons place n y ys, none_chosen n place more, none_behind n (suc place) ys (omega arith))
    (omega arith)

-- there are as many ways to choose one as there are things
one_chosen : (n : ℕ) → choose n 1 ≡ n
one_chosen zero = zero_choose 1 (omega arith)
one_chosen (suc n) = rw (choose-suc n 0, choose-zero n, one_chosen n) (omega arith)

-- the sum so far, and the next product
product_more : (w s y c : ℕ) → (s % 2 ^ w + y * (c % 2 ^ w) % 2 ^ w) % 2 ^ w ≡ (s + y * c) % 2 ^ w
product_more w s y c =
    mod-add-mod s (2 ^ w) (y * (c % 2 ^ w) % 2 ^ w) ∙ ap (λ k. (s + k) % 2 ^ w) (mul-mod_second y c (2 ^ w))
    ∙ add-mod-mod s (y * c) (2 ^ w)

module _ (held : ℕ → Option ℕ) (turns : ℕ → ℕ) (w : ℕ) (some : 0 < w) where
  -- ---- at a number

  -- The parts from a place on are added, each times the binomial coefficient.
  counted_parts_if : (P : Type 0) (parents : List (Option ℕ)) (n at s : ℕ) (trees : List Tree) (sum_so_far : Tree)
      → AreTreesOf w trees
      → StandsIf held turns P w (Some (s % 2 ^ w)) sum_so_far
      → (P → AreNumbers (suc n - at) (map (tree_value held turns) trees))
      → Gives (StandsIf held turns P w
      (Some ((s + binomial_sum_from at n (map number_in (map (tree_value held turns) trees))) % 2 ^ w)))
      (counted_parts parents w n at trees sum_so_far)
  unfolding counted_parts
  counted_parts_if P parents n at s [] sum_so_far h start numbers =
      let same : s ≡ s + binomial_sum_from at n [] = omega (arith, sum_from-nil at n) in
      subst (λ k. StandsIf held turns P w (Some (k % 2 ^ w)) sum_so_far) same start
  counted_parts_if P parents n at s (tree ∷ trees) sum_so_far h start numbers =
      let y = number_in (tree_value held turns tree) in
      let ys = map number_in (map (tree_value held turns) trees) in
      let c = choose n at in
      let whole = StandsIf held turns P w (Some ((s + binomial_sum_from at n (y ∷ ys)) % 2 ^ w)) in
      let made = product w (Some y) (Some (c % 2 ^ w)) in
      let added = sum w (Some (s % 2 ^ w)) made in
      cond_both (nat_lt n at) (Done sum_so_far) _ (Gives whole)
      (λ behind.
      let same : s ≡ s + binomial_sum_from at n (y ∷ ys) =
      omega (arith, none_behind n at (y ∷ ys) (ltb-true n at behind)) in
      subst (λ k. StandsIf held turns P w (Some (k % 2 ^ w)) sum_so_far) same start)
      (λ before.
      let most = ltb-false n at before in
      let places : suc n - at ≡ suc (suc n - suc at) = omega (arith, most) in
      let its_numbers = λ (p : P). subst (λ k. AreNumbers k (map (tree_value held turns) (tree ∷ trees))) places
      (numbers p) in
      let its = StandsIf held turns P w in
      gives_next (its made) whole (tree_product parents w tree (constant w c)) _
      (product_if held turns P w some parents (Some y) (Some (c % 2 ^ w)) tree (constant w c)
      (h.0, λ p m e. (its_numbers p).0 ∙ e) (constant_if held turns P w c))
      (λ product_there one. gives_next (its added) whole (tree_sum parents w sum_so_far product_there) _
      (sum_if held turns P w some parents (Some (s % 2 ^ w)) made sum_so_far product_there start one)
      (λ more two.
      let same : s + y * c + binomial_sum_from (suc at) n ys ≡ s + binomial_sum_from at n (y ∷ ys) =
      omega (arith, sum_from-cons at n y ys) in
      subst (λ k. Gives (its (Some (k % 2 ^ w))) (counted_parts parents w n (suc at) trees more)) same
      (counted_parts_if P parents n (suc at) (s + y * c) trees more h.1
      (subst (λ k. its (Some k) more) (product_more w s y c) two)
      (λ p. (its_numbers p).1)))))

  -- a recurrence at a number that its loop is at, if P holds
  at_number_if : (P : Type 0) (parents : List (Option ℕ)) (n turn : ℕ) (first : Tree) (others : List Tree)
      → AreTreesOf w (first ∷ others)
      → (P → turn ≡ n)
      → Gives (StandsIf held turns P w
      (iterated (sum w) turn (tree_value held turns first) (map (tree_value held turns) others)))
      (counted_parts parents w n 1 others first)
  at_number_if P parents n turn first others h at =
      let x = tree_value held turns first in
      let xs = map (tree_value held turns) others in
      let y = number_in x in
      let ys = map number_in xs in
      let value = iterated (sum w) turn x xs in
      let Q = P × ((m : ℕ) × (value ≡ Some m)) in
      let number = Some ((y + binomial_sum_from 1 n ys) % 2 ^ w) in
      let all = λ (q : Q). iterated_numbers w turn x xs q.1.0 q.1.1 in
      let small = λ (q : Q). number_small held turns w first y h.0 (all q).0 in
      let places : suc n - 1 ≡ n = omega arith in
      gives_more (StandsIf held turns Q w number) (StandsIf held turns P w value)
      (counted_parts parents w n 1 others first)
      (counted_parts_if Q parents n 1 y others first h.1
      (h.0, λ q m e. (all q).0 ∙ ap Some (sym (mod-eq_of_lt (small q))) ∙ e)
      (λ q. subst (λ k. AreNumbers k xs) (at q.0 ∙ sym places) (all q).1))
      (λ tree its. (
        its.0,
        λ p m e.
            let q : Q = (p, (m, e)) in
            its.1 q m (ap Some (ap (λ k. (y + binomial_sum_from 1 k ys) % 2 ^ w) (sym (at p))
            ∙ turn_value w turn y m ys (small q) (all q).2)),
      ))

  -- ---- at another count

  -- the lowest bits of the count
  fitted_if : (P : Type 0) (parents : List (Option ℕ)) (count : Tree) (turn : ℕ)
      → IsCanonical count
      → (P → tree_value held turns count ≡ Some turn)
      → Gives (StandsIf held turns P w (Some (turn % 2 ^ w))) (fitted parents w count)
  fitted_if P parents count turn is at =
      let number = Some (turn % 2 ^ w) in
      cond_both (nat_lt (width_of count) w) (extended kind.Zext w count) (truncated parents w count)
      (Gives (StandsIf held turns P w number))
      (λ narrow.
      let less = ltb-true (width_of count) w narrow in
      extended_if held turns P w kind.Zext (Some turn) number count tt (omega arith) (refl, is) (λ p m e. at p ∙ e)
      (λ p m e.
      let fits : turn < 2 ^ w =
      omega (arith, number_fits held turns count turn (at p), pow_more (width_of count) w (omega arith)) in
      (turn, refl, ap number_in (ap Some (sym (mod-eq_of_lt fits)) ∙ e))))
      (λ wide. truncated_if held turns P w some parents (Some turn) count (ltb-false (width_of count) w wide) (refl, is)
      (λ p m e. at p ∙ e))

  -- a start, and a step times the count
  affine_if : (P : Type 0) (parents : List (Option ℕ)) (count : Tree) (turn s : ℕ) (first step : Tree)
      → IsCanonical count
      → (P → tree_value held turns count ≡ Some turn)
      → IsTreeOf w first
      → IsTreeOf w step
      → number_of step ≡ Some s
      → Gives (StandsIf held turns P w
      (iterated (sum w) turn (tree_value held turns first) (tree_value held turns step ∷ [])))
      (counted_affine parents w count first (step ∷ []))
  affine_if P parents count turn s first step is at h h' number =
      let x = tree_value held turns first in
      let whole = iterated (sum w) turn x (tree_value held turns step ∷ []) in
      let fits = Some (turn % 2 ^ w) in
      let made = product w (Some s) fits in
      let its = StandsIf held turns P w in
      let step_value = (number_value held turns step s h'.1 number).0 in
      gives_next (its fits) (its whole) (fitted parents w count) _ (fitted_if P parents count turn is at)
      (λ t one. gives_next (its made) (its whole) (tree_product parents w step t) _
      (product_if held turns P w some parents (Some s) fits step t (h', λ p m e. step_value ∙ e) one)
      (λ product_there two. formed_kept_if held turns P w whole (sum w x made) (tree_sum parents w first product_there)
      (λ p m e.
      let all = iterated_numbers w turn x (tree_value held turns step ∷ []) m e in
      let a = number_in x in
      let there : binomial_sum_from 1 turn (s ∷ []) ≡ s * turn =
      rw (sum_from-cons 1 turn s [], one_chosen turn, sum_from-nil 2 turn) (omega arith) in
      let small = number_small held turns w first a h all.0 in
      ap (λ z. sum w z made) all.0
      ∙ ap Some (ap (λ k. (a + k) % 2 ^ w) (mul-mod_second s turn (2 ^ w)) ∙ add-mod-mod a (s * turn) (2 ^ w)
      ∙ ap (λ k. (a + k) % 2 ^ w) (sym there)
      ∙ turn_value w turn a m (s ∷ []) small
      (ap (λ z. iterated (modular_add w) turn a (number_in z ∷ [])) (sym step_value) ∙ all.2)))
      (sum_if held turns P w some parents x made first product_there (h, λ p m e. e) two)))

  -- where the count is no number, there are two parts, the second one a number
  not_number_if : (P : Type 0) (parents : List (Option ℕ)) (count : Tree) (turn : ℕ) (first : Tree) (others : Parts)
      → IsCanonical count
      → (P → tree_value held turns count ≡ Some turn)
      → AreTreesOf w (first ∷ trees_of others)
      → is_countable None (part first others) ≡ true
      → Gives (StandsIf held turns P w
      (iterated (sum w) turn (tree_value held turns first) (map (tree_value held turns) (trees_of others))))
      (counted_affine parents w count first (trees_of others))
  not_number_if P parents count turn first (part step no_parts) is at h told =
      elim (number_of step) as (λ o. number_of step ≡ o → is_some o ≡ true
      → Gives (StandsIf held turns P w
      (iterated (sum w) turn (tree_value held turns first) (tree_value held turns step ∷ [])))
      (counted_affine parents w count first (step ∷ []))) [
        | None ↦ λ e no. absurd cc
        | Some s ↦ λ e yes. affine_if P parents count turn s first step is at h.0 h.1.0 e
      ] refl told
  not_number_if P parents count turn first _ is at h told = absurd cc

  -- a recurrence that has a value at the count
  pub counted_if : (P : Type 0) (parents : List (Option ℕ)) (count : Tree) (turn : ℕ) (parts : Parts)
      → IsCanonical count
      → (P → tree_value held turns count ≡ Some turn)
      → AreTreesOf w (trees_of parts)
      → is_countable (number_of count) parts ≡ true
      → Gives (StandsIf held turns P w (value_at w turn (map (tree_value held turns) (trees_of parts))))
      (counted parents w count (trees_of parts))
  unfolding counted
  counted_if P parents count turn no_parts is at h told =
      (constant_is_tree w 0, λ p. keeps_none (tree_value held turns (constant w 0)))
  counted_if P parents count turn (part first others) is at h told =
      let value = iterated (sum w) turn (tree_value held turns first) (map (tree_value held turns) (trees_of others)) in
      elim (number_of count) as (λ o. number_of count ≡ o → is_countable o (part first others) ≡ true
      → Gives (StandsIf held turns P w value) (counted_by parents w count first (trees_of others) o)) [
        | None ↦ λ e yes. not_number_if P parents count turn first others is at h yes
        | Some n ↦ λ e yes.
            at_number_if P parents n turn first (trees_of others) h
            (λ p. ap number_in (sym (at p) ∙ (number_value held turns count n is e).0))
      ] refl told
