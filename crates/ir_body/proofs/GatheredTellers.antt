-- Lists are read, with the mentions in all that stands in them.
use Rattle.std.proofs.Common.{◌≡◌, List, [], ◌∷◌, ◌++◌, refl, sym, ap, subst, ◌∙◌}
use Rattle.std.proofs.lemmas.List.{append-nil}
use Rattle.ir_text.specs.Tokens.{Lexeme}
use Rattle.ir_text.specs.Listed.{InSequence}
use Rattle.ir_text.specs.Language.{Language, ◌·◌, comma}
use Rattle.ir_text.specs.Mentions.{Mention, Mentioning, ◌⊙◌, InOrder, silent}
use Rattle.ir_grammar.specs.Operations.{the_comma}
use Rattle.ir_grammar.specs.Operations.{WithCommas}
use Rattle.ir_parts.specs.Reading.{Read}
use Rattle.ir_parts.proofs.Readers.{IsReader, of_language, mapped}
use Rattle.ir_body.specs.Gathered.{gathered, gathering}
use Rattle.ir_body.proofs.Tellers.{IsTeller, then_as, assoc_there, assoc_back}

-- what is gathered of a reading
pub gathered_tells : {A : Type 0} {read : Read (List (A × List Mention))} {L : List (A × List Mention) → Language}
    {Stop : Lexeme → Type 0} (M : List A → Mentioning)
    → ((ps : List (A × List Mention)) (ts : List Lexeme) → L ps ts → M (gathered ps).0 (gathered ps).1 ts)
    → ((xs : List A) (ms : List Mention) (ts : List Lexeme) → M xs ms ts
    → (ps : List (A × List Mention)) × ((xs, ms) ≡ gathered ps) × L ps ts)
    → IsReader read L (λ ps. Stop) → IsTeller (gathering read) M (λ xs. Stop)
gathered_tells {A} {read} {L} {Stop} M there back reads =
    record {
      reader =
          of_language (λ told ts. M told.0 told.1 ts)
          (λ told ts l. subst (λ (told : List A × List Mention). M told.0 told.1 ts) (sym l.1) (there l.0 ts l.2))
          (λ told ts l. back told.0 told.1 ts l)
          (mapped gathered (λ told. Stop) (λ ps t stop. stop) (λ ps t stop. stop) reads);
    }

module _ {A : Type 0} (P : A → Mentioning) where
  -- a thing with its mentions
  abbrev pub Told : A × List Mention → Language
  Told p ts = P p.0 p.1 ts

  -- ---- one after another

  pub in_order : (ps : List (A × List Mention)) (ts : List Lexeme) → InSequence Told ps ts
      → InOrder P (gathered ps).0 (gathered ps).1 ts
  in_order [] ts l = (refl, l)
  in_order (p ∷ ps) ts l = (p.1, (gathered ps).1, refl, (l.0, l.1, l.2, l.3, in_order ps l.1 l.4))

  pub from_order : (xs : List A) (ms : List Mention) (ts : List Lexeme) → InOrder P xs ms ts
      → (ps : List (A × List Mention)) × ((xs, ms) ≡ gathered ps) × InSequence Told ps ts
  from_order [] ms ts l = ([], ap (λ (ms : List Mention). ([], ms)) l.0, l.1)
  from_order (x ∷ xs) ms ts l =
      let others = from_order xs l.1 l.3.1 l.3.4 in (
        (x, l.0) ∷ others.0,
        ap (λ (ms : List Mention). (x ∷ xs, ms)) l.2
            ∙ ap (λ (p : List A × List Mention). (x ∷ p.0, l.0 ++ p.1)) others.1,
        (l.3.0, l.3.1, l.3.2, l.3.3, others.2),
      )

  -- ---- each behind a comma

  abbrev pub BehindComma : A → Mentioning
  BehindComma x = the_comma ⊙ P x

  comma_there : (p : A × List Mention) (ts : List Lexeme) → (comma · Told p) ts → BehindComma p.0 p.1 ts
  comma_there p ts l = ([], p.1, refl, (l.0, l.1, l.2, (refl, l.3), l.4))

  comma_back : (p : A × List Mention) (ts : List Lexeme) → BehindComma p.0 p.1 ts → (comma · Told p) ts
  comma_back p ts l = (
    l.3.0,
    l.3.1,
    l.3.2,
    l.3.3.1,
    subst (λ (ms : List Mention). P p.0 ms l.3.1)
        (sym (l.2 ∙ ap (λ (first : List Mention). first ++ l.1) l.3.3.0)) l.3.4,
  )

-- other words for each thing
pub sequence_as : {A : Type 0} {P Q : A → Language} → ((x : A) (ts : List Lexeme) → P x ts → Q x ts)
    → (xs : List A) (ts : List Lexeme) → InSequence P xs ts → InSequence Q xs ts
sequence_as there [] ts l = l
sequence_as there (x ∷ xs) ts l = (l.0, l.1, l.2, there x l.0 l.3, sequence_as there xs l.1 l.4)

module _ {A : Type 0} (P : A → Mentioning) (B : Language) where
  -- things each behind a comma, and then what has no mentions
  pub parts_there : (ps : List (A × List Mention)) (ts : List Lexeme)
      → (InSequence (λ p. comma · Told P p) ps · B) ts
      → (InOrder (BehindComma P) (gathered ps).0 ⊙ silent B) (gathered ps).1 ts
  parts_there ps ts l = (
    (gathered ps).1,
    [],
    sym (append-nil (gathered ps).1),
    (
      l.0,
      l.1,
      l.2,
      in_order (BehindComma P) ps l.0 (sequence_as (comma_there P) ps l.0 l.3),
      (refl, l.4),
    ),
  )

  pub parts_back : (xs : List A) (ms : List Mention) (ts : List Lexeme)
      → (InOrder (BehindComma P) xs ⊙ silent B) ms ts
      → (ps : List (A × List Mention)) × ((xs, ms) ≡ gathered ps) × (InSequence (λ p. comma · Told P p) ps · B) ts
  parts_back xs ms ts l =
      let found = from_order (BehindComma P) xs l.0 l.3.0 l.3.3 in (
        found.0,
        ap (λ (ms : List Mention). (xs, ms))
            (l.2 ∙ (ap (λ (behind : List Mention). l.0 ++ behind) l.3.4.0 ∙ append-nil l.0))
            ∙ found.1,
        (l.3.0, l.3.1, l.3.2, sequence_as (comma_back P) found.0 l.3.0 found.2, l.3.4.1),
      )

module _ {A : Type 0} (P : A → Mentioning) where
  -- things with commas between them: the first, and others each behind a comma
  pub commas_there : (x : A) (xs : List A) (ms : List Mention) (ts : List Lexeme)
      → (P x ⊙ InOrder (BehindComma P) xs) ms ts → WithCommas P (x ∷ xs) ms ts
  commas_there x [] ms ts l =
      subst (λ (ts : List Lexeme). P x ms ts)
      (sym (l.3.2 ∙ (ap (λ (vs : List Lexeme). l.3.0 ++ vs) l.3.4.1 ∙ append-nil l.3.0)))
      (subst (λ (ms : List Mention). P x ms l.3.0)
      (sym (l.2 ∙ (ap (λ (behind : List Mention). l.0 ++ behind) l.3.4.0 ∙ append-nil l.0))) l.3.3)
  commas_there x (y ∷ ys) ms ts l =
      then_as (λ ms ts l. then_as (commas_there y ys) ms ts (assoc_there ms ts l)) ms ts l

  pub commas_back : (x : A) (xs : List A) (ms : List Mention) (ts : List Lexeme)
      → WithCommas P (x ∷ xs) ms ts → (P x ⊙ InOrder (BehindComma P) xs) ms ts
  commas_back x [] ms ts l = (ms, [], sym (append-nil ms), (ts, [], sym (append-nil ts), l, (refl, refl)))
  commas_back x (y ∷ ys) ms ts l =
      then_as (λ ms ts l. assoc_back ms ts (then_as (commas_back y ys) ms ts l)) ms ts l
