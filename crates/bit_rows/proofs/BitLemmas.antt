-- Bits of words.
use Rattle.std.proofs.Common.{◌≡◌, ℕ, ◌+◌, ◌*◌, ◌/◌, ◌%◌, ◌^◌, ◌<◌, ◌≤◌, ◌||◌, ◌&&◌, Bool, true, false, eqb, min, max, refl, List, length, replicate, get_or, set, sym, ◌∙◌, ap, inl, inr, arith, ext_get_or, length-set, get_or-set_same, get_or-set_other, eq-eqb, ne_eqb, w64}
use Rattle.std.proofs.lemmas.List.{length-replicate, get_or-replicate, get_or_past}
use Rattle.std.proofs.lemmas.List.FromFn.{length-map-range_with_len, get_or-map-range_with_len}
use Rattle.std.proofs.lemmas.Bool.{cases_eq, cases_lt}
use Rattle.std.proofs.lemmas.Nat.Bits.{bit_at_set_same, bit_at_set_other, bit_at_clear_same, bit_at_clear_other, bit_at-zero, bit_at-lt, bit_at_or, bit_at_and, shr_and_one}
use Rattle.std.proofs.lemmas.Bool.Decides.{nat_tests}
use Rattle.std.specs.Prelude.{bit_and, bit_or}
use Rattle.std.specs.Int.{bit_at, bit_not}
use Rattle.bit_rows.specs.Bits.{bit_of, bits_of}

pub length-bits_of : (words : List ℕ) (count : ℕ) → length (bits_of words count) ≡ count
unfolding bits_of
length-bits_of words count = length-map-range_with_len (bit_of words) 0 count

-- rows of one length hold equally many bits
pub same_count : (words more : List ℕ) (count others : ℕ) (row other : List Bool)
    → bits_of words count ≡ row → bits_of more others ≡ other → length row ≡ length other → count ≡ others
same_count words more count others row other e f len =
    sym (length-bits_of words count) ∙ ap length e ∙ len ∙ sym (ap length f) ∙ length-bits_of more others

pub get_or-bits_of : (words : List ℕ) (count k : ℕ) → k < count → get_or (bits_of words count) k false ≡ bit_of words k
unfolding bits_of
get_or-bits_of words count k h = get_or-map-range_with_len (bit_of words) 0 count k k false h (omega arith)

pub past-bits_of : (words : List ℕ) (count k : ℕ) → count ≤ k → get_or (bits_of words count) k false ≡ false
past-bits_of words count k h = get_or_past (bits_of words count) k false (omega (arith, length-bits_of words count))

-- the test `(word >> place) & 1 == 1`
pub bit_test : (words : List ℕ) (count k word : ℕ) → k < count → word ≡ get_or words (k / 64) 0
    → eqb (bit_and (word / 2 ^ (k % 64)) 1) 1 ≡ get_or (bits_of words count) k false
bit_test words count k word within read =
    ap (λ x. eqb x 1) (shr_and_one word (k % 64))
    ∙ ap (λ x. eqb (bit_at x (k % 64)) 1) read
    ∙ sym (get_or-bits_of words count k within)

pub bits_of-zeros : (n count : ℕ) → count ≤ n * 64 → bits_of (replicate n 0) count ≡ replicate count false
bits_of-zeros n count room =
    ext_get_or false _ _ (length-bits_of _ count ∙ sym (length-replicate count false))
    (λ k h.
    let within : k < count = rw length-bits_of at h in
    get_or-bits_of _ count k within
    ∙ ap (λ x. eqb (bit_at x (k % 64)) 1) (get_or-replicate n (k / 64) 0 0 (omega arith))
    ∙ ap (λ x. eqb x 1) (bit_at-zero (k % 64))
    ∙ sym (get_or-replicate count k false false within))

-- one word is replaced by another that differs from it in one bit
module _ (words : List ℕ) (count n v : ℕ) (bit : Bool) where
  pub bits_of-set : n < count → count ≤ length words * 64
      → eqb (bit_at v (n % 64)) 1 ≡ bit
      → ((i : ℕ) → i < 64 → (i ≡ n % 64 → ⊥) → bit_at v i ≡ bit_at (get_or words (n / 64) 0) i)
      → bits_of (set words (n / 64) v) count ≡ set (bits_of words count) n bit
  bits_of-set within room here others =
      let word_in : n / 64 < length words = omega arith in
      let bits : List Bool = bits_of words count in
      let n_in : n < length bits = omega (arith, length-bits_of words count) in
      ext_get_or false _ _
      (length-bits_of _ count ∙ sym (length-set bits n bit ∙ length-bits_of words count))
      (λ k h.
      let k_in : k < count = rw length-bits_of at h in
      get_or-bits_of _ count k k_in
      ∙ (elim (cases_eq k n) as (λ _. bit_of (set words (n / 64) v) k ≡ get_or (set bits n bit) k false) [
        | inl same ↦
            rw same
            (ap (λ x. eqb (bit_at x (n % 64)) 1) (get_or-set_same words (n / 64) v 0 word_in)
            ∙ here ∙ sym (get_or-set_same bits n bit false n_in))
        | inr other ↦
            (elim (cases_eq (k / 64) (n / 64)) as (λ _. bit_of (set words (n / 64) v) k ≡ bit_of words k) [
              | inl row ↦
                  ap (λ x. eqb (bit_at (get_or (set words (n / 64) v) x 0) (k % 64)) 1) row
                  ∙ ap (λ x. eqb (bit_at x (k % 64)) 1) (get_or-set_same words (n / 64) v 0 word_in)
                  ∙ ap (λ x. eqb x 1) (others (k % 64) (omega arith) (omega arith))
                  ∙ ap (λ x. eqb (bit_at (get_or words x 0) (k % 64)) 1) (sym row)
              | inr apart ↦ ap (λ x. eqb (bit_at x (k % 64)) 1) (get_or-set_other words (n / 64) (k / 64) v 0 apart)
            ])
            ∙ sym (get_or-bits_of words count k k_in)
            ∙ sym (get_or-set_other bits n k bit false other)
      ]))

-- `word | 1 << place`
pub bits_of-set_true : (words : List ℕ) (count n word : ℕ) → n < count → count ≤ length words * 64
    → word ≡ get_or words (n / 64) 0
    → bits_of (set words (n / 64) (bit_or word (1 * 2 ^ (n % 64) % 2 ^ 64))) count ≡ set (bits_of words count) n true
bits_of-set_true words count n word within room read =
    bits_of-set words count n _ true within room
    (eq-eqb _ 1 (bit_at_set_same w64 word (n % 64) (omega arith)))
    (λ i small other. bit_at_set_other w64 word (n % 64) (omega arith) i other ∙ ap (λ x. bit_at x i) read)

-- `word & !(1 << place)`
pub bits_of-set_false : (words : List ℕ) (count n word : ℕ) → n < count → count ≤ length words * 64
    → word ≡ get_or words (n / 64) 0
    → bits_of (set words (n / 64) (bit_and word (bit_not w64 (1 * 2 ^ (n % 64) % 2 ^ 64)))) count
    ≡ set (bits_of words count) n false
bits_of-set_false words count n word within room read =
    bits_of-set words count n _ false within room
    (ne_eqb _ 1 (let gone = bit_at_clear_same w64 word (n % 64) (omega arith) in omega arith))
    (λ i small other.
    bit_at_clear_other w64 word (n % 64) (omega arith) i small other ∙ ap (λ x. bit_at x i) read)

-- The new words are the old ones, but that each before n is what f makes of it and of the other row's word.
pub record IsMerged (f : ℕ → ℕ → ℕ) (old other new : List ℕ) (n : ℕ) : Type 0 where
  pub len : length new ≡ length old
  pub before : (j : ℕ) → j < n → get_or new j 0 ≡ f (get_or old j 0) (get_or other j 0)
  pub rest : (j : ℕ) → n ≤ j → get_or new j 0 ≡ get_or old j 0

module _ (f : ℕ → ℕ → ℕ) (old other new : List ℕ) where
  pub IsMerged-more : (n word more : ℕ) → IsMerged f old other new n → n < length old
      → word ≡ get_or new n 0 → more ≡ get_or other n 0 → IsMerged f old other (set new n (f word more)) (n + 1)
  IsMerged-more n word more h within read also = record {
    len = length-set new n (f word more) ∙ h.len;
    before = λ j below.
        elim (cases_eq j n) [
          | inl same ↦
              rw (same, read, also, h.rest n (omega arith))
              (get_or-set_same new n (f (get_or old n 0) (get_or other n 0)) 0 (omega (arith, h.len)))
          | inr apart ↦ get_or-set_other new n j (f word more) 0 apart ∙ h.before j (omega arith)
        ];
    rest = λ j above. get_or-set_other new n j (f word more) 0 (omega arith) ∙ h.rest j (omega arith);
  }

  -- so each bit of the new row is what g makes of the bits of the two
  bits_of-merged : (g : Bool → Bool → Bool) (count n : ℕ) → IsMerged f old other new n → count ≤ n * 64
      → g false false ≡ false
      → ((a b i : ℕ) → eqb (bit_at (f a b) i) 1 ≡ g (eqb (bit_at a i) 1) (eqb (bit_at b i) 1)) → (k : ℕ)
      → get_or (bits_of new count) k false
      ≡ g (get_or (bits_of old count) k false) (get_or (bits_of other count) k false)
  bits_of-merged g count n h room none each k =
      elim (cases_lt k count) [
        | inl within ↦
            let here = λ (words : List ℕ). get_or-bits_of words count k within in
            rw (here new, here old, here other)
            (ap (λ x. eqb (bit_at x (k % 64)) 1) (h.before (k / 64) (omega arith)) ∙ each _ _ (k % 64))
        | inr past ↦
            let there = λ (words : List ℕ). past-bits_of words count k past in
            rw (there new, there old, there other) (sym none)
      ]

either_bit : (x y : ℕ) → x < 2 → y < 2 → eqb (max x y) 1 ≡ (eqb x 1 || eqb y 1)
either_bit x y h k = grind (arith, nat_tests)

both_bits : (x y : ℕ) → x < 2 → y < 2 → eqb (min x y) 1 ≡ (eqb x 1 && eqb y 1)
both_bits x y h k = grind (arith, nat_tests)

module _ (old other new : List ℕ) (count n : ℕ) where
  pub bits_of-or : IsMerged bit_or old other new n → count ≤ n * 64 → (k : ℕ)
      → get_or (bits_of new count) k false
      ≡ (get_or (bits_of old count) k false || get_or (bits_of other count) k false)
  bits_of-or h room =
      bits_of-merged bit_or old other new ◌||◌ count n h room refl
      (λ a b i. ap (λ x. eqb x 1) (bit_at_or a b i) ∙ either_bit _ _ (bit_at-lt a i) (bit_at-lt b i))

  pub bits_of-and : IsMerged bit_and old other new n → count ≤ n * 64 → (k : ℕ)
      → get_or (bits_of new count) k false
      ≡ (get_or (bits_of old count) k false && get_or (bits_of other count) k false)
  bits_of-and h room =
      bits_of-merged bit_and old other new ◌&&◌ count n h room refl
      (λ a b i. ap (λ x. eqb x 1) (bit_at_and a b i) ∙ both_bits _ _ (bit_at-lt a i) (bit_at-lt b i))
