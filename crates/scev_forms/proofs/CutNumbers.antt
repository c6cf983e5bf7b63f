-- The lowest bits of sums and products modulo a greater power of 2, and of iterated sums.
use Rattle.std.proofs.Common.{◌≡◌, ℕ, zero, suc, ◌+◌, ◌-◌, ◌*◌, ◌/◌, ◌%◌, ◌^◌, ◌<◌, ◌≤◌}
use Rattle.std.proofs.Common.{List, [], ◌∷◌, Option, Some, None, refl, sym, ap, ◌∙◌, ℤ, pos, negsuc, arith}
use Rattle.std.proofs.Math.Nat.{mod-add-mod, add-mod-mod, mod-eq_of_lt, div-add-mod}
use Rattle.std.proofs.lemmas.Nat.{pow_pos, mul-mod_first, mul-mod_second, mod_below}
use Rattle.scev_base.specs.Iterated.{iterated}
use Rattle.scev_base.specs.Residue.{residue}
use Rattle.scev_base.proofs.Congruence.{mod-mod_pow, mod_same, pow_split, cut_factor}
use Rattle.scev_tree.specs.Value.{lifted, sum}

-- where an operation gives a number, both sides are numbers
pub both_numbers : (op : ℕ → ℕ → ℕ) (x y : Option ℕ) (n : ℕ)
    → lifted op x y ≡ Some n
    → (i : ℕ) × (j : ℕ) × (x ≡ Some i) × (y ≡ Some j) × (op i j ≡ n)
both_numbers op None None n h = absurd cc
both_numbers op None (Some j) n h = absurd cc
both_numbers op (Some i) None n h = absurd cc
both_numbers op (Some i) (Some j) n h = (i, j, refl, refl, cc)

-- ---- sums and products

-- the lowest bits of a sum
pub sum_cut : (i j u w : ℕ) → w ≤ u → (i % 2 ^ w + j % 2 ^ w) % 2 ^ w ≡ (i + j) % 2 ^ u % 2 ^ w
sum_cut i j u w most =
    mod-add-mod i (2 ^ w) (j % 2 ^ w) ∙ add-mod-mod i j (2 ^ w) ∙ sym (mod-mod_pow (i + j) w u most)

-- a term more, whose coefficient was cut
pub term_cut : (s n p r v w : ℕ)
    → w ≤ v
    → ((s + n % 2 ^ w * p % 2 ^ w) % 2 ^ w + r) % 2 ^ w ≡ (s + (p * n % 2 ^ v + r) % 2 ^ v) % 2 ^ w
term_cut s n p r v w most =
    let m = 2 ^ w in
    let first : (s + n % m * p % m) % m ≡ (s + n * p) % m =
    ap (λ k. (s + k) % m) (mul-mod_first n p m) ∙ add-mod-mod s (n * p) m in
    let left : ((s + n % m * p % m) % m + r) % m ≡ (s + n * p + r) % m =
    ap (λ k. (k + r) % m) first ∙ mod-add-mod (s + n * p) m r in
    let inner : (p * n % 2 ^ v + r) % 2 ^ v % m ≡ (p * n + r) % m =
    mod-mod_pow (p * n % 2 ^ v + r) w v most ∙ sym (mod-add-mod (p * n % 2 ^ v) m r)
    ∙ ap (λ k. (k + r) % m) (mod-mod_pow (p * n) w v most) ∙ mod-add-mod (p * n) m r in
    let right : (s + (p * n % 2 ^ v + r) % 2 ^ v) % m ≡ (s + (p * n + r)) % m =
    sym (add-mod-mod s ((p * n % 2 ^ v + r) % 2 ^ v) m) ∙ ap (λ k. (s + k) % m) inner ∙ add-mod-mod s (p * n + r) m in
    let same : s + n * p + r ≡ s + (p * n + r) = omega arith in
    left ∙ ap (λ k. k % m) same ∙ sym right

-- a term whose coefficient becomes 0
pub none_cut : (s n p r v w : ℕ)
    → w ≤ v
    → n % 2 ^ w ≡ 0
    → s < 2 ^ w
    → (s + r) % 2 ^ w ≡ (s + (p * n % 2 ^ v + r) % 2 ^ v) % 2 ^ w
none_cut s n p r v w most none below =
    let m = 2 ^ w in
    let gone : n % m * p ≡ 0 = omega (arith, ap (λ k. k * p) none) in
    let zero_there : n % m * p % m ≡ 0 = ap (λ k. k % m) gone ∙ mod-eq_of_lt (pow_pos w) in
    let same : (s + n % m * p % m) % m ≡ s =
    let whole : s + n % m * p % m ≡ s = omega arith in
    ap (λ k. k % m) whole ∙ mod-eq_of_lt below in
    sym (ap (λ k. (k + r) % m) same) ∙ term_cut s n p r v w most

-- a factor more, that was cut
pub factor_cut : (q x y v w : ℕ)
    → w ≤ v
    → q * (x % 2 ^ w) % 2 ^ w * y % 2 ^ w ≡ q * (x * y % 2 ^ v) % 2 ^ w
factor_cut q x y v w most =
    let m = 2 ^ w in
    mul-mod_first (q * (x % m)) y m
    ∙ (let group : q * (x % m) * y ≡ q * y * (x % m) = omega arith in ap (λ k. k % m) group)
    ∙ mul-mod_second (q * y) x m
    ∙ (let group : q * y * x ≡ q * (x * y) = omega arith in ap (λ k. k % m) group)
    ∙ sym (cut_factor q (x * y) w v most)

-- ---- residues

-- a negative number's residue, by multiples
negative_cut : (k u w : ℕ) → w ≤ u → (2 ^ u - (k % 2 ^ u + 1)) % 2 ^ w ≡ 2 ^ w - (k % 2 ^ w + 1)
negative_cut k u w most =
    let m = 2 ^ w in
    let r = k % 2 ^ u in
    let split : 2 ^ u ≡ m * 2 ^ (u - w) = pow_split w u most in
    let cut : r % m ≡ k % m = mod-mod_pow k w u most in
    let below : r % m < m = mod_below r m (pow_pos w) in
    let fits : r < 2 ^ u = mod_below k (2 ^ u) (pow_pos u) in
    let whole : 2 ^ u - (r + 1) + m * (r / m + 1) ≡ m - (r % m + 1) + m * 2 ^ (u - w) =
    omega (arith, split, div-add-mod r m, below, fits) in
    let least : m - (r % m + 1) < m = omega (arith, below) in
    mod_same (2 ^ u - (r + 1)) (m - (r % m + 1)) m (r / m + 1) (2 ^ (u - w)) whole ∙ mod-eq_of_lt least
    ∙ ap (λ j. m - (j + 1)) cut

-- the lowest bits of a residue are the residue at fewer bits
pub residue_cut : (z : ℤ) (u w : ℕ) → w ≤ u → residue u z % 2 ^ w ≡ residue w z
residue_cut (pos n) u w most = mod-mod_pow n w u most
residue_cut (negsuc k) u w most = negative_cut k u w most

-- ---- iterated sums

-- where the first is a number, the second is its lowest bits
abbrev pub IsCut : ℕ → Option ℕ → Option ℕ → Type 0
IsCut w x y = (m : ℕ) → x ≡ Some m → y ≡ Some (m % 2 ^ w)

-- the same of each of two lists
abbrev pub AreCut : ℕ → List (Option ℕ) → List (Option ℕ) → Type 0
AreCut w [] [] = Unit {0}
AreCut w (x ∷ xs) (y ∷ ys) = IsCut w x y × AreCut w xs ys
AreCut w _ _ = ⊥

-- a sum of numbers that were cut
added_cut : (u w : ℕ) (x x' y y' : Option ℕ)
    → w ≤ u
    → IsCut w x y
    → IsCut w x' y'
    → IsCut w (sum u x x') (sum w y y')
added_cut u w x x' y y' most h h' m e =
    let both = both_numbers (λ a b. (a + b) % 2 ^ u) x x' m e in
    let first = h both.0 both.2 in
    let second = h' both.1 both.3 in
    ap (λ t. sum w t y') first ∙ ap (sum w (Some (both.0 % 2 ^ w))) second
    ∙ ap Some (sum_cut both.0 both.1 u w most ∙ ap (λ k. k % 2 ^ w) both.4)

-- an iterated sum of parts that were cut
pub iterated_cut : (u w t : ℕ) (x y : Option ℕ) (xs ys : List (Option ℕ))
    → w ≤ u
    → IsCut w x y
    → AreCut w xs ys
    → IsCut w (iterated (sum u) t x xs) (iterated (sum w) t y ys)
unfolding iterated
iterated_cut u w zero x y xs ys most h all = h
iterated_cut u w (suc t) x y [] [] most h all = h
iterated_cut u w (suc t) x y (x' ∷ xs) (y' ∷ ys) most h all =
    added_cut u w _ _ _ _ most (iterated_cut u w t x y (x' ∷ xs) (y' ∷ ys) most h all)
    (iterated_cut u w t x' y' xs ys most all.0 all.1)
iterated_cut u w (suc t) x y [] (y' ∷ ys) most h all = absurd all
iterated_cut u w (suc t) x y (x' ∷ xs) [] most h all = absurd all
