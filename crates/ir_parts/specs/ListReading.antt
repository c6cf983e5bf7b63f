-- Reading lists: things with commas between them, and things that stand each behind a comma, before attachments.
use Rattle.std.specs.Prelude.{ℕ, zero, suc, Bool, ◌&&◌, not, if◌then◌else◌, List, [], ◌∷◌, length, drop, Ok, Err}
use Rattle.ir_text.specs.Tokens.{Lexeme}
use Rattle.ir_parts.specs.Reading.{Read, ◌>>=◌, pure, ◌⊗◌, ◌▷◌, ◌◁◌, made, begins, is_punctuation, punctuation_at, choose, refuse, repeated_at}
use Rattle.ir_parts.specs.MetadataReading.{is_metadata, attachments_at}

-- one thing or more, with commas between them
unfoldable pub with_commas_at : {A : Type 0} → Read A → Read (List A)
with_commas_at item = made (λ p. p.0 ∷ p.1) (item ⊗ repeated_at (is_punctuation 44) (punctuation_at 44 ▷ item))

-- any number of things with commas between them, and the sign behind them
unfoldable pub listed_at : {A : Type 0} → Read A → ℕ → Read (List A)
listed_at item closing = choose (is_punctuation closing) (punctuation_at closing ▷ pure [])
    (with_commas_at item ◁ punctuation_at closing)

-- Whether a thing stands next, behind a comma: metadata behind a comma is an attachment.
abbrev pub begins_part : List Lexeme → Bool
begins_part ts = begins (is_punctuation 44) ts && not (begins is_metadata (drop 1 ts))

-- things behind commas, at most so many, and then attachments
unfoldable pub parts_at : {A : Type 0} → Read A → ℕ → Read (List A)
parts_at item zero ts = (attachments_at ▷ pure []) ts
parts_at item (suc most) ts =
    if begins_part ts then (punctuation_at 44 ▷ item >>= λ x. made (λ xs. x ∷ xs) (parts_at item most)) ts
    else (attachments_at ▷ pure []) ts

-- any number of them
abbrev pub all_parts_at : {A : Type 0} → Read A → Read (List A)
all_parts_at item ts = parts_at item (length ts) ts

-- things one after another, to the first that is a last one; at most so many
unfoldable pub until_at : {A : Type 0} → (A → Bool) → Read A → ℕ → Read (List A)
until_at last item zero ts = Err (length ts)
until_at last item (suc most) ts =
    (item >>= λ x. if last x then pure (x ∷ []) else made (λ xs. x ∷ xs) (until_at last item most)) ts

-- any number of them
abbrev pub all_until_at : {A : Type 0} → (A → Bool) → Read A → Read (List A)
all_until_at last item ts = until_at last item (suc (length ts)) ts

-- things up to a sign, and the sign; at most so many
unfoldable pub up_to_at : {A : Type 0} → ℕ → Read A → ℕ → Read (List A)
up_to_at closing item zero ts = Err (length ts)
up_to_at closing item (suc most) ts =
    choose (is_punctuation closing) (punctuation_at closing ▷ pure [])
    (item >>= λ x. made (λ xs. x ∷ xs) (up_to_at closing item most)) ts

-- any number of them
abbrev pub all_up_to_at : {A : Type 0} → ℕ → Read A → Read (List A)
all_up_to_at closing item ts = up_to_at closing item (suc (length ts)) ts

-- things one after another to the end of the tokens, at most so many; a token that is barred behind a thing is refused
unfoldable pub to_end_at : {A : Type 0} → (A → Lexeme → Bool) → Read A → ℕ → Read (List A)
to_end_at barred item most [] = Ok ([], [])
to_end_at barred item zero (t ∷ ts) = Err (suc (length ts))
to_end_at barred item (suc most) (t ∷ ts) =
    (item >>= λ x. choose (barred x) refuse (made (λ xs. x ∷ xs) (to_end_at barred item most))) (t ∷ ts)

-- any number of them
abbrev pub all_to_end_at : {A : Type 0} → (A → Lexeme → Bool) → Read A → Read (List A)
all_to_end_at barred item ts = to_end_at barred item (length ts) ts
