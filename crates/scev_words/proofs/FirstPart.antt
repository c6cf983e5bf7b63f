-- The words of parts begin with those of the first.
use Rattle.std.proofs.Common.{◌≡◌, ◌⊎◌, inl, inr, ℕ, List, [], ◌∷◌, ◌++◌, refl, sym, ap, ◌∙◌, subst}
use Rattle.std.specs.Prelude.{codes, position}
use Rattle.std.proofs.lemmas.Option.{none-some}
use Rattle.scev_words.specs.Modes.{Name, name_text, IsValue, Part, TheMode, With, AreParts}
use Rattle.scev_words.specs.Said.{is_equals}
use Rattle.scev_words.proofs.Words.{position-name, position-name_and_value}

-- an option alone in a word, and with its value
abbrev pub name_word : Name → List ℕ
name_word name = codes "--" ++ name_text name

abbrev pub whole_word : Name → List ℕ → List ℕ
whole_word name value = codes "--" ++ (name_text name ++ (codes "=" ++ value))

-- The words of an option are no others.
pub name-no_mode : (name : Name) → name_word name ≡ codes "eval" → ⊥
name-no_mode name e = cc

pub name-no_whole : (name other : Name) (value : List ℕ) → name_word name ≡ whole_word other value → ⊥
name-no_whole name other value e =
    let texts : name_text name ≡ name_text other ++ (codes "=" ++ value) = cc in
    none-some _ (sym (position-name name) ∙ (ap (position is_equals) texts ∙ position-name_and_value other value))

-- ---- parts to words

pub mode_before : (parts : List Part) (words : List (List ℕ)) → AreParts parts words
    → AreParts (TheMode ∷ parts) (codes "eval" ∷ words)
mode_before parts words are = (codes "eval" ∷ [], words, refl, refl, are)

pub value_before : (parts : List Part) (name : Name) (value : List ℕ) (words : List (List ℕ)) → IsValue value
    → AreParts parts words → AreParts (With name value ∷ parts) (name_word name ∷ value ∷ words)
value_before parts name value words is are = (name_word name ∷ value ∷ [], words, refl, (is, inl refl), are)

pub whole_before : (parts : List Part) (name : Name) (value : List ℕ) (words : List (List ℕ)) → IsValue value
    → AreParts parts words → AreParts (With name value ∷ parts) (whole_word name value ∷ words)
whole_before parts name value words is are = (whole_word name value ∷ [], words, refl, (is, inr refl), are)

-- ---- words to parts

pub record ModeFirst (parts : List Part) (word : List ℕ) (words : List (List ℕ)) : Type 0 where
  pub is : word ≡ codes "eval"
  pub are : AreParts parts words

pub mode_first : (parts : List Part) (word : List ℕ) (words : List (List ℕ)) → AreParts (TheMode ∷ parts) (word ∷ words)
    → ModeFirst parts word words
mode_first parts word words h =
    let e : word ∷ words ≡ codes "eval" ∷ h.1 = h.2 ∙ ap (λ x. x ++ h.1) h.3 in
    let same : words ≡ h.1 = cc in
    record { is = cc; are = subst (AreParts parts) (sym same) h.4 }

-- an option's word, and its value in the next one
pub record NameFirst (parts : List Part) (name : Name) (value word : List ℕ) (words : List (List ℕ)) : Type 0 where
  pub good : IsValue value
  pub is : word ≡ name_word name
  pub rest : List (List ℕ)
  pub split : words ≡ value ∷ rest
  pub are : AreParts parts rest

-- both in one word
pub record WholeFirst (parts : List Part) (name : Name) (value word : List ℕ) (words : List (List ℕ)) : Type 0 where
  pub good : IsValue value
  pub is : word ≡ whole_word name value
  pub are : AreParts parts words

pub value_first : (parts : List Part) (name : Name) (value word : List ℕ) (words : List (List ℕ))
    → AreParts (With name value ∷ parts) (word ∷ words)
    → NameFirst parts name value word words ⊎ WholeFirst parts name value word words
value_first parts name value word words h = elim h.3.1 [
  | inl two ↦ (let e : word ∷ words ≡ name_word name ∷ value ∷ h.1 = h.2 ∙ ap (λ x. x ++ h.1) two in
      inl record { good = h.3.0; is = cc; rest = h.1; split = cc; are = h.4 })
  | inr one ↦ (let e : word ∷ words ≡ whole_word name value ∷ h.1 = h.2 ∙ ap (λ x. x ++ h.1) one in
      let same : words ≡ h.1 = cc in
      inr record { good = h.3.0; is = cc; are = subst (AreParts parts) (sym same) h.4 })
]

-- A part has a word.
pub no_words : (part : Part) (parts : List Part) → AreParts (part ∷ parts) [] → ⊥
no_words TheMode parts h = let e : [] ≡ codes "eval" ∷ h.1 = h.2 ∙ ap (λ x. x ++ h.1) h.3 in cc
no_words (With name value) parts h = elim h.3.1 [
  | inl two ↦ (let e : [] ≡ name_word name ∷ value ∷ h.1 = h.2 ∙ ap (λ x. x ++ h.1) two in cc)
  | inr one ↦ (let e : [] ≡ whole_word name value ∷ h.1 = h.2 ∙ ap (λ x. x ++ h.1) one in cc)
]
