-- The tokens from a place on.
use Rattle.std.proofs.Common.{◌≡◌, ℕ, zero, suc, ◌+◌, ◌-◌, ◌<◌, ◌≤◌, Bool, true, false, List, [], ◌∷◌, length, drop, Option, Some, None, Ok, Err, inl, inr, refl, sym, ap, ◌∙◌, add-one, arith}
use Rattle.std.specs.Prelude.{slice_get}
use Rattle.std.specs.Option.{option_map}
use Rattle.std.proofs.lemmas.List.{length-map, length-drop}
use Rattle.std.proofs.lemmas.Option.{slice_get-map, slice_get_cases}
use Rattle.ir_text.specs.declared.token.Token.{Token}
use Rattle.ir_text.specs.Tokens.{Lexeme}
use Rattle.ir_lex.specs.Tokenized.{Tokenized, lexemes, lexeme_of}
use Rattle.ir_parts.specs.Reading.{left_from, given, one_at, first_given, begins, token_at, Passes}
use Rattle.ir_parts.specs.declared.fault.ItemFault.TheVariants.{CannotGoOn}

drop_get : {A : Type 0} (xs : List A) (n : ℕ) (x : A) → slice_get xs n ≡ Some x → drop n xs ≡ x ∷ drop (suc n) xs
drop_get [] n x e = absurd cc
drop_get (y ∷ xs) zero x e = let same : y ≡ x = cc in cc
drop_get (y ∷ xs) (suc n) x e = drop_get xs n x e

drop_past : {A : Type 0} (xs : List A) (n : ℕ) → length xs ≤ n → drop n xs ≡ []
drop_past [] zero h = refl
drop_past [] (suc n) h = refl
drop_past (y ∷ xs) zero h = absurd (omega arith)
drop_past (y ∷ xs) (suc n) h = drop_past xs n (omega arith)

pub length_left : (t : Tokenized) (at : ℕ) → length (left_from t at) ≡ length t.tokens - at
length_left t at = length-drop at (lexemes t) ∙ ap (λ (n : ℕ). n - at) (length-map t.tokens (lexeme_of t.bytes))

drop_one : {A : Type 0} (xs : List A) (n : ℕ) → drop 1 (drop n xs) ≡ drop (suc n) xs
drop_one [] zero = refl
drop_one [] (suc n) = refl
drop_one (x ∷ xs) zero = refl
drop_one (x ∷ xs) (suc n) = drop_one xs n

pub left_behind : (t : Tokenized) (at : ℕ) → drop 1 (left_from t at) ≡ left_from t (at + 1)
left_behind t at = drop_one (lexemes t) at ∙ ap (λ (n : ℕ). left_from t n) (sym (add-one at))

pub shorter_left : (t : Tokenized) (at behind : ℕ) → at < behind → behind ≤ length t.tokens
    → length (left_from t behind) < length (left_from t at)
shorter_left t at behind forth within = omega (arith, length_left t at, length_left t behind)

-- ---- the token at a place

same_text : (text : List ℕ) (found : Option Lexeme) (l : Lexeme)
    → ◌≡◌ {A = Option (List ℕ)} (Some text) (option_map (λ (l : Lexeme). l.text) found) → found ≡ Some l → text ≡ l.text
same_text text found l says is = cc

pub token_is : (t : Tokenized) (at : ℕ) (token : Token) (text : List ℕ) → slice_get t.tokens at ≡ Some token
    → ◌≡◌ {A = Option (List ℕ)} (Some text) (option_map (λ (l : Lexeme). l.text) (slice_get (lexemes t) at))
    → left_from t at ≡ record { kind = token.kind; text = text } ∷ left_from t (at + 1)
token_is t at token text is says =
    let found : slice_get (lexemes t) at ≡ Some (lexeme_of t.bytes token) =
    slice_get-map (lexeme_of t.bytes) t.tokens at ∙ ap (option_map (lexeme_of t.bytes)) is in
    let same : text ≡ (lexeme_of t.bytes token).text =
    same_text text (slice_get (lexemes t) at) (lexeme_of t.bytes token) says found in
    drop_get (lexemes t) at (lexeme_of t.bytes token) found
    ∙ (ap (λ (text : List ℕ). record { kind = token.kind; text = text } ∷ drop (suc at) (lexemes t)) (sym same)
    ∙ ap (λ (n : ℕ). record { kind = token.kind; text = text } ∷ left_from t n) (sym (add-one at)))

-- Within the tokens a token stands, with its text.
pub not_none : (t : Tokenized) (at : ℕ) → at < length t.tokens → slice_get t.tokens at ≡ None → ⊥
not_none t at within none = elim (slice_get_cases t.tokens at).1 [
  | inl found ↦ (let e = found.2 in cc)
  | inr past ↦
      omega arith
]

pub no_text : (t : Tokenized) (at : ℕ) (token : Token) → slice_get t.tokens at ≡ Some token
    → ◌≡◌ {A = Option (List ℕ)} None (option_map (λ (l : Lexeme). l.text) (slice_get (lexemes t) at)) → ⊥
no_text t at token is says = no_lexeme (slice_get (lexemes t) at) (lexeme_of t.bytes token) says
    (slice_get-map (lexeme_of t.bytes) t.tokens at ∙ ap (option_map (lexeme_of t.bytes)) is)
  where
    no_lexeme : (found : Option Lexeme) (l : Lexeme)
        → ◌≡◌ {A = Option (List ℕ)} None (option_map (λ (l : Lexeme). l.text) found) → found ≡ Some l → ⊥
    no_lexeme found l says is = cc

pub none_left : (t : Tokenized) (at : ℕ) → length t.tokens ≤ at → left_from t at ≡ []
none_left t at past = drop_past (lexemes t) at (omega (arith, length-map t.tokens (lexeme_of t.bytes)))

-- ---- what a token gives

one_at_first : {A : Type 0} (what : Lexeme → Option A) (ts : List Lexeme)
    → one_at what ts ≡ given (first_given what ts) (drop 1 ts) (length ts)
unfolding one_at
one_at_first what [] = refl
one_at_first what (t ∷ ts) = refl

pub one_given : {A : Type 0} (t : Tokenized) (at : ℕ) (what : Lexeme → Option A) (x : A)
    → first_given what (left_from t at) ≡ Some x → one_at what (left_from t at) ≡ Ok (x, left_from t (at + 1))
one_given t at what x gives =
    one_at_first what (left_from t at)
    ∙ (ap (λ o. given o (drop 1 (left_from t at)) (length (left_from t at))) gives
    ∙ ap (λ (ts : List Lexeme). Ok (x, ts)) (left_behind t at))

pub one_not_given : {A : Type 0} (t : Tokenized) (at : ℕ) (what : Lexeme → Option A)
    → first_given what (left_from t at) ≡ None → at ≤ length t.tokens
    → (one_at what (left_from t at) ≡ Err (length t.tokens - at)) × (at ≤ length t.tokens)
one_not_given t at what gives within = (
  one_at_first what (left_from t at)
      ∙ (ap (λ o. given o (drop 1 (left_from t at)) (length (left_from t at))) gives
      ∙ ap (λ (n : ℕ). Err n) (length_left t at)),
  within,
)

-- ---- a token that passes a test

pub token_passes : (t : Tokenized) (at : ℕ) (test : Lexeme → Bool) → begins test (left_from t at) ≡ true
    → token_at test (left_from t at) ≡ Ok (tt, left_from t (at + 1))
unfolding token_at
token_passes t at test passes = rw (passes, left_behind t at) refl

pub token_fails : (t : Tokenized) (at : ℕ) (test : Lexeme → Bool) → begins test (left_from t at) ≡ false
    → at ≤ length t.tokens → Passes t (Err (CannotGoOn at)) (token_at test (left_from t at))
unfolding token_at
token_fails t at test fails within = (rw (fails, length_left t at) refl, within)
