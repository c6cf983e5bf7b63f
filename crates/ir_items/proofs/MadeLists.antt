-- Reading a list of what is made of things is reading the things, and making the list of it.
use Rattle.std.proofs.Common.{◌≡◌, ℕ, zero, suc, Bool, false, List, [], ◌∷◌, length, map, Result, Ok, Err, inl, inr, refl, sym, ap, ◌∙◌}
use Rattle.ir_text.specs.Tokens.{Lexeme}
use Rattle.ir_parts.specs.Reading.{Read, go_on, ◌>>=◌, pure, ◌▷◌, ◌◁◌, made, begins, is_punctuation, punctuation_at, repeat_at, repeated_at}
use Rattle.ir_parts.specs.ListReading.{with_commas_at, listed_at}
use Rattle.ir_parts.proofs.Readers.{chosen_first, chosen_other, either}

module _ {A B : Type 0} (f : A → B) where
  -- what is made of a result
  abbrev Made : Result (A × List Lexeme) ℕ → Result (B × List Lexeme) ℕ
  Made r = go_on r (λ x. pure (f x))

  abbrev MadeAll : Result (List A × List Lexeme) ℕ → Result (List B × List Lexeme) ℕ
  MadeAll r = go_on r (λ xs. pure (map f xs))

  -- ---- one thing and others

  and_others : (x : A) (r : Result (List A × List Lexeme) ℕ)
      → go_on (MadeAll r) (λ ys. pure (f x ∷ ys)) ≡ MadeAll (go_on r (λ xs. pure (x ∷ xs)))
  and_others x (Ok read) = refl
  and_others x (Err left) = refl

  one_and_others : (others : Read (List A)) (made_others : Read (List B))
      → ((ts : List Lexeme) → made_others ts ≡ MadeAll (others ts)) → (r : Result (A × List Lexeme) ℕ)
      → go_on (Made r) (λ y. made_others >>= λ ys. pure (y ∷ ys))
      ≡ MadeAll (go_on r (λ x. others >>= λ xs. pure (x ∷ xs)))
  one_and_others others made_others same (Err left) = refl
  one_and_others others made_others same (Ok read) =
      ap (λ r. go_on r (λ ys. pure (f read.0 ∷ ys))) (same read.1) ∙ and_others read.0 (others read.1)

  -- ---- any number of them

  none_made : (test : Lexeme → Bool) (item : Read A) (made_item : Read B) (most : ℕ) (ts : List Lexeme)
      → begins test ts ≡ false
      → repeat_at test made_item most ts ≡ MadeAll (repeat_at test item most ts)
  unfolding repeat_at
  none_made test item made_item zero ts e = refl
  none_made test item made_item (suc most) ts e =
      chosen_other test (made_item >>= λ y. repeat_at test made_item most >>= λ ys. pure (y ∷ ys)) (pure []) ts e
      ∙ sym (ap MadeAll
      (chosen_other test (item >>= λ x. repeat_at test item most >>= λ xs. pure (x ∷ xs)) (pure []) ts e))

  pub repeat_made : (test : Lexeme → Bool) (item : Read A) (made_item : Read B)
      → ((ts : List Lexeme) → made_item ts ≡ Made (item ts)) → (most : ℕ) (ts : List Lexeme)
      → repeat_at test made_item most ts ≡ MadeAll (repeat_at test item most ts)
  unfolding repeat_at
  repeat_made test item made_item same zero ts = refl
  repeat_made test item made_item same (suc most) ts = elim (either (begins test ts)) [
    | inr failed ↦ none_made test item made_item (suc most) ts failed
    | inl passed ↦
        chosen_first test (made_item >>= λ y. repeat_at test made_item most >>= λ ys. pure (y ∷ ys)) (pure []) ts passed
        ∙ (ap (λ r. go_on r (λ y. repeat_at test made_item most >>= λ ys. pure (y ∷ ys))) (same ts)
        ∙ one_and_others (repeat_at test item most) (repeat_at test made_item most)
        (repeat_made test item made_item same most) (item ts))
        ∙ sym (ap MadeAll
        (chosen_first test (item >>= λ x. repeat_at test item most >>= λ xs. pure (x ∷ xs)) (pure []) ts passed))
  ]

  -- ---- with commas between them

  behind_sign : (item : Read A) (r : Result (Unit {0} × List Lexeme) ℕ)
      → go_on r (λ x. made f item) ≡ Made (go_on r (λ x. item))
  behind_sign item (Ok read) = refl
  behind_sign item (Err left) = refl

  paired : (x : A) (r : Result (List A × List Lexeme) ℕ)
      → go_on {A = B × List B} (go_on (MadeAll r) (λ ys. pure (f x, ys))) (λ p. pure (p.0 ∷ p.1))
      ≡ MadeAll (go_on {A = A × List A} (go_on r (λ xs. pure (x, xs))) (λ p. pure (p.0 ∷ p.1)))
  paired x (Ok read) = refl
  paired x (Err left) = refl

  one_paired : (others : Read (List A)) (made_others : Read (List B))
      → ((ts : List Lexeme) → made_others ts ≡ MadeAll (others ts)) → (r : Result (A × List Lexeme) ℕ)
      → go_on {A = B × List B} (go_on (Made r) (λ y. made_others >>= λ ys. pure (y, ys))) (λ p. pure (p.0 ∷ p.1))
      ≡ MadeAll (go_on {A = A × List A} (go_on r (λ x. others >>= λ xs. pure (x, xs))) (λ p. pure (p.0 ∷ p.1)))
  one_paired others made_others same (Err left) = refl
  one_paired others made_others same (Ok read) =
      ap (λ r. go_on {A = B × List B} (go_on r (λ ys. pure (f read.0, ys))) (λ p. pure (p.0 ∷ p.1))) (same read.1)
      ∙ paired read.0 (others read.1)

  pub with_commas_made : (item : Read A) (ts : List Lexeme)
      → with_commas_at (made f item) ts ≡ made (map f) (with_commas_at item) ts
  unfolding with_commas_at
  with_commas_made item ts =
      one_paired (repeated_at (is_punctuation 44) (punctuation_at 44 ▷ item))
      (repeated_at (is_punctuation 44) (punctuation_at 44 ▷ made f item))
      (λ ts. repeat_made (is_punctuation 44) (punctuation_at 44 ▷ item) (punctuation_at 44 ▷ made f item)
      (λ ts. behind_sign item (punctuation_at 44 ts)) (length ts) ts) (item ts)

  -- ---- and a closing sign

  nothing_made : (r : Result (Unit {0} × List Lexeme) ℕ)
      → go_on r (λ x. pure []) ≡ MadeAll (go_on r (λ x. pure []))
  nothing_made (Ok read) = refl
  nothing_made (Err left) = refl

  closed_so : (xs : List A) (r : Result (Unit {0} × List Lexeme) ℕ)
      → go_on r (λ x. pure (map f xs)) ≡ MadeAll (go_on r (λ x. pure xs))
  closed_so xs (Ok read) = refl
  closed_so xs (Err left) = refl

  all_closed : (closing : ℕ) (r : Result (List A × List Lexeme) ℕ)
      → go_on (MadeAll r) (λ ys. punctuation_at closing >>= λ x. pure ys)
      ≡ MadeAll (go_on r (λ xs. punctuation_at closing >>= λ x. pure xs))
  all_closed closing (Err left) = refl
  all_closed closing (Ok read) = closed_so read.0 (punctuation_at closing read.1)

  pub listed_made : (item : Read A) (closing : ℕ) (ts : List Lexeme)
      → listed_at (made f item) closing ts ≡ made (map f) (listed_at item closing) ts
  unfolding listed_at
  listed_made item closing ts = elim (either (begins (is_punctuation closing) ts)) [
    | inl passed ↦
        chosen_first (is_punctuation closing) (punctuation_at closing ▷ pure [])
        (with_commas_at (made f item) ◁ punctuation_at closing) ts passed
        ∙ nothing_made (punctuation_at closing ts)
        ∙ sym (ap MadeAll
        (chosen_first (is_punctuation closing) (punctuation_at closing ▷ pure [])
        (with_commas_at item ◁ punctuation_at closing) ts passed))
    | inr failed ↦
        chosen_other (is_punctuation closing) (punctuation_at closing ▷ pure [])
        (with_commas_at (made f item) ◁ punctuation_at closing) ts failed
        ∙ ap (λ r. go_on r (λ ys. punctuation_at closing >>= λ x. pure ys)) (with_commas_made item ts)
        ∙ all_closed closing (with_commas_at item ts)
        ∙ sym (ap MadeAll
        (chosen_other (is_punctuation closing) (punctuation_at closing ▷ pure [])
        (with_commas_at item ◁ punctuation_at closing) ts failed))
  ]
