-- Kinds of bytes that shut one another out.
use Rattle.std.proofs.Common.{ℕ, ◌≡◌, true, false, eqb, arith}
use Rattle.std.proofs.lemmas.Bool.Decides.{nat_tests}
use Rattle.ir_text.specs.Bytes.{is_blank, is_letter, is_digit, begins_word, goes_on_word, is_sign}

pub begins_word-goes_on : (b : ℕ) → begins_word b ≡ true → goes_on_word b ≡ true
unfolding goes_on_word
begins_word-goes_on b h = grind arith

pub begins_word-no_digit : (b : ℕ) → begins_word b ≡ true → is_digit b ≡ false
unfolding begins_word is_letter is_digit
begins_word-no_digit b h = grind (arith, nat_tests)

pub begins_word-no_quote : (b : ℕ) → begins_word b ≡ true → eqb b 34 ≡ false
unfolding begins_word is_letter
begins_word-no_quote b h = grind (arith, nat_tests)

pub begins_word-no_minus : (b : ℕ) → begins_word b ≡ true → eqb b 45 ≡ false
unfolding begins_word is_letter
begins_word-no_minus b h = grind (arith, nat_tests)

pub begins_word-no_sign : (b : ℕ) → begins_word b ≡ true → is_sign b ≡ false
unfolding begins_word is_letter is_sign
begins_word-no_sign b h = grind (arith, nat_tests)

pub digit-no_word : (b : ℕ) → is_digit b ≡ true → begins_word b ≡ false
unfolding begins_word is_letter is_digit
digit-no_word b h = grind (arith, nat_tests)

pub digit-no_quote : (b : ℕ) → is_digit b ≡ true → eqb b 34 ≡ false
unfolding is_digit
digit-no_quote b h = grind (arith, nat_tests)

pub digit-no_minus : (b : ℕ) → is_digit b ≡ true → eqb b 45 ≡ false
unfolding is_digit
digit-no_minus b h = grind (arith, nat_tests)

pub digit-no_sign : (b : ℕ) → is_digit b ≡ true → is_sign b ≡ false
unfolding is_digit is_sign
digit-no_sign b h = grind (arith, nat_tests)

pub digit-no_plus : (b : ℕ) → is_digit b ≡ true → eqb b 43 ≡ false
unfolding is_digit
digit-no_plus b h = grind (arith, nat_tests)

pub no_word-no_c : (b : ℕ) → begins_word b ≡ false → eqb b 99 ≡ false
unfolding begins_word is_letter
no_word-no_c b h = grind (arith, nat_tests)

-- a byte with which only a sign begins
pub record IsSignAlone (b : ℕ) : Type 0 where
  pub word : begins_word b ≡ false
  pub digit : is_digit b ≡ false
  pub quote : eqb b 34 ≡ false
  pub minus : eqb b 45 ≡ false

pub sign-alone : (b : ℕ) → is_sign b ≡ true → IsSignAlone b
unfolding begins_word is_letter is_digit is_sign
sign-alone b h =
    record {
      word = grind (arith, nat_tests);
      digit = grind (arith, nat_tests);
      quote = grind (arith, nat_tests);
      minus = grind (arith, nat_tests);
    }

-- a byte that is no sigil
pub record IsNoSigil (b : ℕ) : Type 0 where
  pub percent : b ≡ 37 → ⊥
  pub at_sign : b ≡ 64 → ⊥
  pub bang : b ≡ 33 → ⊥
  pub hash : b ≡ 35 → ⊥

pub begins_word-no_sigil : (b : ℕ) → begins_word b ≡ true → IsNoSigil b
unfolding begins_word is_letter
begins_word-no_sigil b h = record {
  percent = λ e. grind (arith, nat_tests);
  at_sign = λ e. grind (arith, nat_tests);
  bang = λ e. grind (arith, nat_tests);
  hash = λ e. grind (arith, nat_tests);
}

pub digit-no_sigil : (b : ℕ) → is_digit b ≡ true → IsNoSigil b
unfolding is_digit
digit-no_sigil b h = record {
  percent = λ e. grind (arith, nat_tests);
  at_sign = λ e. grind (arith, nat_tests);
  bang = λ e. grind (arith, nat_tests);
  hash = λ e. grind (arith, nat_tests);
}

pub sign-no_sigil : (b : ℕ) → is_sign b ≡ true → IsNoSigil b
unfolding is_sign
sign-no_sigil b h = record {
  percent = λ e. grind (arith, nat_tests);
  at_sign = λ e. grind (arith, nat_tests);
  bang = λ e. grind (arith, nat_tests);
  hash = λ e. grind (arith, nat_tests);
}

pub blank-no_sigil : (b : ℕ) → is_blank b ≡ true → IsNoSigil b
unfolding is_blank
blank-no_sigil b h = record {
  percent = λ e. grind (arith, nat_tests);
  at_sign = λ e. grind (arith, nat_tests);
  bang = λ e. grind (arith, nat_tests);
  hash = λ e. grind (arith, nat_tests);
}
