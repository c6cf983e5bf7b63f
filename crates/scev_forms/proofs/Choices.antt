-- Minima and maxima of two numbers choose by an order: they are associative, commutative and idempotent, and have a
-- neutral and an absorbing number.
use Rattle.std.proofs.Common.{◌≡◌, ℕ, suc, ◌+◌, ◌-◌, ◌*◌, ◌^◌, ◌<◌, ◌≤◌, nat_lt, max, min, inl, inr}
use Rattle.std.proofs.Common.{Bool, if◌then◌else◌, refl, sym, ap, ◌∙◌, arith, pos, negsuc, int_lt}
use Rattle.std.proofs.lemmas.Bool.{cond_both, cond-true, cond-false, ltb-true, ltb-false, lt-ltb, le-ltb, cases_lt}
use Rattle.std.proofs.lemmas.Nat.{pow_pos}
use Rattle.std.proofs.Math.Nat.{pow-suc}
use Rattle.scev_base.specs.Residue.{reading}
use Rattle.scev_tree.specs.declared.kind.Kind.{Kind}
use Rattle.scev_tree.specs.declared.kind.Kind.TheVariants as kind
use Rattle.scev_tree.specs.Value.{signed_max, signed_min}
use Rattle.scev_forms.specs.Minima.{IsMinimum, chosen, neutral, absorbing}
use Rattle.scev_forms.proofs.Readings.{reading_cases}

-- what an operation on numbers of w bits is that chooses one of two, with the number that never is the one, and the one
-- that always is
pub record IsChoice (w : ℕ) (op : ℕ → ℕ → ℕ) (never always : ℕ) : Type 0 where
  pub closed : (a b : ℕ) → a < 2 ^ w → b < 2 ^ w → op a b < 2 ^ w
  pub grouped : (a b c : ℕ) → a < 2 ^ w → b < 2 ^ w → c < 2 ^ w → op (op a b) c ≡ op a (op b c)
  pub turned : (a b : ℕ) → a < 2 ^ w → b < 2 ^ w → op a b ≡ op b a
  pub once : (a : ℕ) → a < 2 ^ w → op a a ≡ a
  pub never_fits : never < 2 ^ w
  pub stays : (a : ℕ) → a < 2 ^ w → op a never ≡ a
  pub absorbs : (a : ℕ) → a < 2 ^ w → op always a ≡ always

-- ---- by a key

-- The operation chooses the number of the greater key, and the keys of different numbers differ.
pub record HasKey (w : ℕ) (op : ℕ → ℕ → ℕ) (never always : ℕ) (key : ℕ → ℕ) : Type 0 where
  pub closed : (a b : ℕ) → a < 2 ^ w → b < 2 ^ w → op a b < 2 ^ w
  pub known : (a b : ℕ) → a < 2 ^ w → b < 2 ^ w → key a ≡ key b → a ≡ b
  pub greater : (a b : ℕ) → a < 2 ^ w → b < 2 ^ w → key (op a b) ≡ max (key a) (key b)
  pub never_fits : never < 2 ^ w
  pub always_fits : always < 2 ^ w
  pub least : (a : ℕ) → a < 2 ^ w → key never ≤ key a
  pub greatest : (a : ℕ) → a < 2 ^ w → key a ≤ key always

-- an operation that goes by a key is a choice
pub by_key : (w : ℕ) (op : ℕ → ℕ → ℕ) (never always : ℕ) (key : ℕ → ℕ)
    → HasKey w op never always key
    → IsChoice w op never always
by_key w op never always key h = record {
  closed = h.closed;
  grouped = λ a b c a_fits b_fits c_fits.
      let ab = h.closed a b a_fits b_fits in
      let bc = h.closed b c b_fits c_fits in
      h.known (op (op a b) c) (op a (op b c)) (h.closed (op a b) c ab c_fits) (h.closed a (op b c) a_fits bc)
      (omega (
        arith,
        h.greater (op a b) c ab c_fits,
        h.greater a b a_fits b_fits,
        h.greater a (op b c) a_fits bc,
        h.greater b c b_fits c_fits,
      ));
  turned = λ a b a_fits b_fits.
      h.known (op a b) (op b a) (h.closed a b a_fits b_fits) (h.closed b a b_fits a_fits)
      (omega (arith, h.greater a b a_fits b_fits, h.greater b a b_fits a_fits));
  once = λ a fits.
      h.known (op a a) a (h.closed a a fits fits) fits (omega (arith, h.greater a a fits fits));
  never_fits = h.never_fits;
  stays = λ a fits.
      h.known (op a never) a (h.closed a never fits h.never_fits) fits
      (omega (arith, h.greater a never fits h.never_fits, h.least a fits));
  absorbs = λ a fits.
      h.known (op always a) always (h.closed always a h.always_fits fits) h.always_fits
      (omega (arith, h.greater always a h.always_fits fits, h.greatest a fits));
}

-- ---- signed numbers

-- the modulus is twice its half
halves : (w : ℕ) → 0 < w → 2 * 2 ^ (w - 1) ≡ 2 ^ w
halves w some =
    let whole : suc (w - 1) ≡ w = omega arith in
    omega (arith, pow-suc 2 (w - 1), ap (λ k. 2 ^ k) whole)

-- numbers of w bits in the order in which they are read as signed
abbrev pub signed_key : ℕ → ℕ → ℕ
signed_key w a = if nat_lt (2 * a) (2 ^ w) then a + 2 ^ (w - 1) else a - 2 ^ (w - 1)

-- that of a number of the lower half
key_low : (w a : ℕ) → 2 * a < 2 ^ w → signed_key w a ≡ a + 2 ^ (w - 1)
key_low w a low =
    cond-true (nat_lt (2 * a) (2 ^ w)) (a + 2 ^ (w - 1)) (a - 2 ^ (w - 1)) (lt-ltb (2 * a) (2 ^ w) low)

-- that of a number of the upper half
key_high : (w a : ℕ) → 0 < w → 2 ^ w ≤ 2 * a → signed_key w a + 2 ^ (w - 1) ≡ a
key_high w a some high =
    let e = cond-false (nat_lt (2 * a) (2 ^ w)) (a + 2 ^ (w - 1)) (a - 2 ^ (w - 1)) (le-ltb (2 * a) (2 ^ w) high) in
    omega (arith, halves w some, e)

-- two numbers of one key are one
key_known : (w a b : ℕ) → 0 < w → a < 2 ^ w → b < 2 ^ w → signed_key w a ≡ signed_key w b → a ≡ b
key_known w a b some a_fits b_fits same =
    let half = halves w some in
    elim (cases_lt (2 * a) (2 ^ w)) [
      | inl low ↦ elim (cases_lt (2 * b) (2 ^ w)) [
        | inl low' ↦ omega (arith, key_low w a low, key_low w b low')
        | inr high' ↦ omega (arith, key_low w a low, key_high w b some high')
      ]
      | inr high ↦ elim (cases_lt (2 * b) (2 ^ w)) [
        | inl low' ↦ omega (arith, key_high w a some high, key_low w b low')
        | inr high' ↦ omega (arith, key_high w a some high, key_high w b some high')
      ]
    ]

-- a key is below the modulus
key_below : (w a : ℕ) → 0 < w → a < 2 ^ w → signed_key w a < 2 ^ w
key_below w a some fits =
    let half = halves w some in
    elim (cases_lt (2 * a) (2 ^ w)) [
      | inl low ↦ omega (arith, key_low w a low)
      | inr high ↦ omega (arith, key_high w a some high)
    ]

-- two tests that hold at once
same_test : (m n j k : ℕ) → (m < n → j < k) → (j < k → m < n) → nat_lt m n ≡ nat_lt j k
same_test m n j k there back =
    elim (cases_lt m n) [
      | inl h ↦ lt-ltb m n h ∙ sym (lt-ltb j k (there h))
      | inr h ↦ le-ltb m n h ∙ sym (le-ltb j k (elim (cases_lt j k) [
        | inl h' ↦ absurd (let no = back h' in omega arith)
        | inr h' ↦ h'
      ]))
    ]

-- readings are in the order of keys
signed_order : (w a b : ℕ)
    → 0 < w
    → a < 2 ^ w
    → b < 2 ^ w
    → int_lt (reading w a) (reading w b) ≡ nat_lt (signed_key w a) (signed_key w b)
signed_order w a b some a_fits b_fits =
    let half = halves w some in
    let ka = signed_key w a in
    let kb = signed_key w b in
    reading_cases w a (λ z. int_lt z (reading w b) ≡ nat_lt ka kb) a_fits
    (λ low. reading_cases w b (λ y. int_lt (pos a) y ≡ nat_lt ka kb) b_fits
    (λ low'.
    let at = key_low w a low in
    let bt = key_low w b low' in
    same_test a b ka kb (λ h. omega arith) (λ h. omega arith))
    (λ m high whole.
    let at = key_low w a low in
    let bt = key_high w b some high in
    sym (le-ltb ka kb (omega arith))))
    (λ j high whole. reading_cases w b (λ y. int_lt (negsuc j) y ≡ nat_lt ka kb) b_fits
    (λ low'.
    let at = key_high w a some high in
    let bt = key_low w b low' in
    sym (lt-ltb ka kb (omega arith)))
    (λ m high' whole'.
    let at = key_high w a some high in
    let bt = key_high w b some high' in
    same_test m j ka kb (λ h. omega arith) (λ h. omega arith)))

-- the key of the number that reads as the greater
signed_greater : (w a b : ℕ)
    → 0 < w
    → a < 2 ^ w
    → b < 2 ^ w
    → signed_key w (signed_max w a b) ≡ max (signed_key w a) (signed_key w b)
signed_greater w a b some a_fits b_fits =
    let order = signed_order w a b some a_fits b_fits in
    cond_both (int_lt (reading w a) (reading w b)) b a
    (λ n. signed_key w n ≡ max (signed_key w a) (signed_key w b))
    (λ yes. let less = ltb-true (signed_key w a) (signed_key w b) (sym order ∙ yes) in omega arith)
    (λ no. let most = ltb-false (signed_key w a) (signed_key w b) (sym order ∙ no) in omega arith)

-- the key of the number that reads as the lesser
signed_lesser : (w a b : ℕ)
    → 0 < w
    → a < 2 ^ w
    → b < 2 ^ w
    → signed_key w (signed_min w a b) ≡ min (signed_key w a) (signed_key w b)
signed_lesser w a b some a_fits b_fits =
    let order = signed_order w b a some b_fits a_fits in
    cond_both (int_lt (reading w b) (reading w a)) b a
    (λ n. signed_key w n ≡ min (signed_key w a) (signed_key w b))
    (λ yes. let less = ltb-true (signed_key w b) (signed_key w a) (sym order ∙ yes) in omega arith)
    (λ no. let most = ltb-false (signed_key w b) (signed_key w a) (sym order ∙ no) in omega arith)

-- the key of the number that reads as the least of all
key_least : (w : ℕ) → 0 < w → signed_key w (2 ^ (w - 1)) ≡ 0
key_least w some = omega (arith, key_high w (2 ^ (w - 1)) some (omega (arith, halves w some)))

-- the key of the number that reads as the greatest of all
key_greatest : (w : ℕ) → 0 < w → signed_key w (2 ^ (w - 1) - 1) + 1 ≡ 2 ^ w
key_greatest w some =
    let half = halves w some in
    let least = pow_pos (w - 1) in
    omega (arith, key_low w (2 ^ (w - 1) - 1) (omega (arith, half, least)))

-- ---- the four kinds

-- one of two numbers is below what both are
either_below : (b : Bool) (m n most : ℕ) → m < most → n < most → (if b then m else n) < most
either_below b m n most h h' = cond_both b m n (λ k. k < most) (λ _. h) (λ _. h')

-- the greater of two signed numbers
smax_chooses : (w : ℕ) → 0 < w → IsChoice w (signed_max w) (2 ^ (w - 1)) (2 ^ (w - 1) - 1)
smax_chooses w some =
    let half = halves w some in
    let least = pow_pos (w - 1) in
    by_key w (signed_max w) (2 ^ (w - 1)) (2 ^ (w - 1) - 1) (signed_key w) (record {
      closed = λ a b h h'. either_below (int_lt (reading w a) (reading w b)) b a (2 ^ w) h' h;
      known = λ a b h h' same. key_known w a b some h h' same;
      greater = λ a b h h'. signed_greater w a b some h h';
      never_fits = omega arith;
      always_fits = omega arith;
      least = λ a h. omega (arith, key_least w some);
      greatest = λ a h. omega (arith, key_greatest w some, key_below w a some h);
    })

-- the lesser of two signed numbers
smin_chooses : (w : ℕ) → 0 < w → IsChoice w (signed_min w) (2 ^ (w - 1) - 1) (2 ^ (w - 1))
smin_chooses w some =
    let half = halves w some in
    let least = pow_pos (w - 1) in
    by_key w (signed_min w) (2 ^ (w - 1) - 1) (2 ^ (w - 1)) (λ a. 2 ^ w - signed_key w a) (record {
      closed = λ a b h h'. either_below (int_lt (reading w b) (reading w a)) b a (2 ^ w) h' h;
      known = λ a b h h' same. key_known w a b some h h' (omega (arith, key_below w a some h, key_below w b some h'));
      greater = λ a b h h'. omega (arith, signed_lesser w a b some h h');
      never_fits = omega arith;
      always_fits = omega arith;
      least = λ a h. omega (arith, key_greatest w some, key_below w a some h);
      greatest = λ a h. omega (arith, key_least w some);
    })

-- the greater of two numbers
umax_chooses : (w : ℕ) → IsChoice w max 0 (2 ^ w - 1)
umax_chooses w =
    let least = pow_pos w in
    by_key w max 0 (2 ^ w - 1) (λ a. a) (record {
      closed = λ a b h h'. omega arith;
      known = λ a b h h' same. same;
      greater = λ a b h h'. refl;
      never_fits = least;
      always_fits = omega arith;
      least = λ a h. omega arith;
      greatest = λ a h. omega arith;
    })

-- the lesser of two numbers
umin_chooses : (w : ℕ) → IsChoice w min (2 ^ w - 1) 0
umin_chooses w =
    let least = pow_pos w in
    by_key w min (2 ^ w - 1) 0 (λ a. 2 ^ w - a) (record {
      closed = λ a b h h'. omega arith;
      known = λ a b h h' same. omega arith;
      greater = λ a b h h'. omega arith;
      never_fits = omega arith;
      always_fits = least;
      least = λ a h. omega arith;
      greatest = λ a h. omega arith;
    })

-- what a kind of minimum or maximum chooses, at any width but 0
pub kind_chooses : (k : Kind) (w : ℕ) → IsMinimum k → 0 < w → IsChoice w (chosen k w) (neutral k w) (absorbing k w)
kind_chooses kind.Smax w is some = smax_chooses w some
kind_chooses kind.Umax w is some = umax_chooses w
kind_chooses kind.Smin w is some = smin_chooses w some
kind_chooses kind.Umin w is some = umin_chooses w
kind_chooses _ w is some = absurd is
