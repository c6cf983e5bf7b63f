-- A recurrence at a turn as a sum of products.
use Rattle.std.proofs.Common.{◌≡◌, ℕ, zero, suc, ◌+◌, ◌*◌, ◌%◌, ◌^◌, ◌<◌, ◌≤◌, List, [], ◌∷◌, length, get_or, drop, drop-cons, refl, sym, ap, ◌∙◌, arith}
use Rattle.std.proofs.Math.Nat.{add-mod-mod, mod-add-mod, mod-mod, mod-eq_of_lt}
use Rattle.std.proofs.lemmas.Nat.{mul-mod_second, mod_below, pow_pos}
use Rattle.std.proofs.lemmas.List.{drop_all}
use Rattle.scev_base.specs.Iterated.{iterated}
use Rattle.scev_base.proofs.Congruence.{mod-mod_pow}
use Rattle.binomial_eval.specs.Choose.{choose}
use Rattle.binomial_eval.specs.Sums.{modular_add, binomial_sum_from, binomial_sum}
use Rattle.binomial_eval.proofs.ChooseLemmas.{choose-zero, zero_choose, choose-suc}

pub sum_from-nil : (place t : ℕ) → binomial_sum_from place t [] ≡ 0
unfolding binomial_sum_from
sum_from-nil place t = refl

pub sum_from-cons : (place t part : ℕ) (parts : List ℕ)
    → binomial_sum_from place t (part ∷ parts) ≡ part * choose t place + binomial_sum_from (suc place) t parts
unfolding binomial_sum_from
sum_from-cons place t part parts = refl

-- at turn 0 no part counts but the first
sum_from_zero : (place : ℕ) (parts : List ℕ) → binomial_sum_from (suc place) 0 parts ≡ 0
sum_from_zero place [] = sum_from-nil (suc place) 0
sum_from_zero place (part ∷ parts) =
    rw
    (sum_from-cons (suc place) 0 part parts, zero_choose (suc place) (omega arith), sum_from_zero (suc place) parts)
    (omega arith)

-- Pascal's rule in each product
sum_from_next : (place t : ℕ) (parts : List ℕ)
    → binomial_sum_from (suc place) (suc t) parts
    ≡ binomial_sum_from (suc place) t parts + binomial_sum_from place t parts
sum_from_next place t [] = rw (sum_from-nil, sum_from-nil, sum_from-nil) refl
sum_from_next place t (part ∷ parts) =
    let rule = choose-suc t place in
    let rest = sum_from_next (suc place) t parts in
    rw
    (sum_from-cons (suc place) (suc t), sum_from-cons (suc place) t, sum_from-cons place t, rule, rest)
    (omega arith)

-- the first part counts once at each turn
sum_first : (t first : ℕ) (rest : List ℕ) → binomial_sum t (first ∷ rest) ≡ first + binomial_sum_from 1 t rest
sum_first t first rest = rw (sum_from-cons 0 t first rest, choose-zero t) (omega arith)

-- the sum at the next turn
sum_next : (t first : ℕ) (rest : List ℕ)
    → binomial_sum (suc t) (first ∷ rest) ≡ binomial_sum t (first ∷ rest) + binomial_sum t rest
sum_next t first rest =
    rw (sum_first (suc t) first rest, sum_first t first rest, sum_from_next 0 t rest) (omega arith)

pub iterated-sum : (t first : ℕ) (rest : List ℕ) → iterated ◌+◌ t first rest ≡ binomial_sum t (first ∷ rest)
unfolding iterated
iterated-sum zero first rest =
    rw (sum_first 0 first rest, sum_from_zero 0 rest) (omega arith)
iterated-sum (suc t) first [] =
    rw (sum_first (suc t) first [], sum_from-nil 1 (suc t)) (omega arith)
iterated-sum (suc t) first (second ∷ rest) =
    rw
    (sum_next t first (second ∷ rest), iterated-sum t first (second ∷ rest), iterated-sum t second rest)
    refl

-- sums of numbers with the same residues, cut once or twice
same_sum : (a b c d modulus : ℕ)
    → a % modulus ≡ c % modulus
    → b % modulus ≡ d % modulus
    → (a + b) % modulus % modulus ≡ (c + d) % modulus
same_sum a b c d modulus p q =
    let left = sym (mod-add-mod a modulus b) ∙ sym (add-mod-mod (a % modulus) b modulus) in
    let right = sym (mod-add-mod c modulus d) ∙ sym (add-mod-mod (c % modulus) d modulus) in
    rw (mod-mod (a + b) modulus, left, right, p, q) refl

pub iterated-same : (w t first : ℕ) (rest : List ℕ)
    → iterated (modular_add w) t first rest % 2 ^ w ≡ iterated ◌+◌ t first rest % 2 ^ w
unfolding iterated
iterated-same w zero first rest = refl
iterated-same w (suc t) first [] = refl
iterated-same w (suc t) first (second ∷ rest) =
    let a = iterated (modular_add w) t first (second ∷ rest) in
    let b = iterated (modular_add w) t second rest in
    let c = iterated ◌+◌ t first (second ∷ rest) in
    let d = iterated ◌+◌ t second rest in
    same_sum a b c d (2 ^ w) (iterated-same w t first (second ∷ rest)) (iterated-same w t second rest)

iterated-below : (w t first : ℕ) (rest : List ℕ) → first < 2 ^ w → iterated (modular_add w) t first rest < 2 ^ w
unfolding iterated
iterated-below w zero first rest small = small
iterated-below w (suc t) first [] small = small
iterated-below w (suc t) first (second ∷ rest) small = mod_below _ (2 ^ w) (pow_pos w)

-- with residues for parts, the recurrence modulo 2^w is exactly the residue
pub iterated-residue : (w t first : ℕ) (rest : List ℕ)
    → first < 2 ^ w
    → iterated (modular_add w) t first rest ≡ iterated ◌+◌ t first rest % 2 ^ w
iterated-residue w t first rest small =
    sym (mod-eq_of_lt (iterated-below w t first rest small)) ∙ iterated-same w t first rest

-- In a loop over parts: the sum so far and the products from a place on have one residue with the sum of all.
pub record IsSumSoFar (w place t sum : ℕ) (parts : List ℕ) : Type 0 where
  total : (sum + binomial_sum_from place t (drop place parts)) % 2 ^ w ≡ binomial_sum t parts % 2 ^ w

-- before the first product
pub sum_none : (w t : ℕ) (parts : List ℕ) → IsSumSoFar w 0 t 0 parts
sum_none w t parts =
    let same : 0 + binomial_sum_from 0 t parts ≡ binomial_sum t parts = omega arith in
    record { total = rw same refl }

-- a summand may be any number of one residue
same_residue : (a b rest modulus : ℕ) → a % modulus ≡ b % modulus → (a + rest) % modulus ≡ (b + rest) % modulus
same_residue a b rest modulus e =
    let before = sym (mod-add-mod a modulus rest) in
    before ∙ ap (λ (n : ℕ). (n + rest) % modulus) e ∙ mod-add-mod b modulus rest

-- a number that is cut to 64 bits, in a sum
sum_cut : (w n rest : ℕ) → w ≤ 64 → (n % 2 ^ 64 + rest) % 2 ^ w ≡ (n + rest) % 2 ^ w
sum_cut w n rest fits =
    same_residue (n % 2 ^ 64) n rest (2 ^ w) (mod-mod_pow n w 64 fits)

-- one more product of the sum, which is cut to 64 bits twice
sum_product : (w sum part coefficient whole rest : ℕ)
    → w ≤ 64
    → coefficient ≡ whole % 2 ^ w
    → ((sum + (part * coefficient) % 2 ^ 64) % 2 ^ 64 + rest) % 2 ^ w ≡ (sum + (part * whole + rest)) % 2 ^ w
sum_product w sum part coefficient whole rest fits e =
    let cut = (part * coefficient) % 2 ^ 64 in
    let turned : sum + cut + rest ≡ cut + (sum + rest) = omega arith in
    let outer = sum_cut w (sum + cut) rest fits ∙ ap (λ (n : ℕ). n % 2 ^ w) turned in
    let inner = outer ∙ sum_cut w (part * coefficient) (sum + rest) fits in
    let product = ap (λ (n : ℕ). (part * n) % 2 ^ w) e ∙ mul-mod_second part whole (2 ^ w) in
    let all : part * whole + (sum + rest) ≡ sum + (part * whole + rest) = omega arith in
    let same = same_residue (part * coefficient) (part * whole) (sum + rest) (2 ^ w) product in
    inner ∙ same ∙ ap (λ (n : ℕ). n % 2 ^ w) all

-- the loop's next part
pub sum_more : (w place t sum coefficient : ℕ) (parts : List ℕ)
    → w ≤ 64
    → place < length parts
    → coefficient ≡ choose t place % 2 ^ w
    → IsSumSoFar w place t sum parts
    → IsSumSoFar w (place + 1) t ((sum + (get_or parts place 0 * coefficient) % 2 ^ 64) % 2 ^ 64) parts
sum_more w place t sum coefficient parts fits within e h =
    let part = get_or parts place 0 in
    let left = drop (suc place) parts in
    let next : place + 1 ≡ suc place = omega arith in
    let first = rw (drop-cons parts place 0 within, sum_from-cons place t part left) at h.total in
    let more = sum_product w sum part coefficient (choose t place) (binomial_sum_from (suc place) t left) fits e in
    record { total = rw next (more ∙ first) }

-- behind the last product
pub sum_all : (w place t sum : ℕ) (parts : List ℕ)
    → place ≡ length parts
    → IsSumSoFar w place t sum parts
    → sum % 2 ^ w ≡ binomial_sum t parts % 2 ^ w
sum_all w place t sum parts ended h =
    let nothing = drop_all place parts (omega arith) in
    let plain : sum + 0 ≡ sum = omega arith in
    rw (nothing, sum_from-nil place t, plain) at h.total

-- the sum of products, modulo 2^w, is the recurrence
pub sum_at_turn : (w t sum : ℕ) (parts : List ℕ)
    → 1 ≤ length parts
    → get_or parts 0 0 < 2 ^ w
    → sum ≡ binomial_sum t parts % 2 ^ w
    → sum ≡ iterated (modular_add w) t (get_or parts 0 0) (drop 1 parts)
sum_at_turn w t sum [] some small e = absurd (omega arith)
sum_at_turn w t sum (first ∷ rest) some small e =
    let whole = ap (λ (n : ℕ). n % 2 ^ w) (sym (iterated-sum t first rest)) in
    e ∙ whole ∙ sym (iterated-residue w t first rest small)
