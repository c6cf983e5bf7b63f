-- Any number of things with commas between them, and a closing sign, are read with the mentions in them.
use Rattle.std.proofs.Common.{◌≡◌, ℕ, true, false, List, [], ◌∷◌, ◌++◌, map, refl, sym, ap, subst, ◌∙◌}
use Rattle.std.proofs.lemmas.List.{append-nil}
use Rattle.ir_text.specs.Tokens.{Lexeme}
use Rattle.ir_text.specs.Listed.{sign, SeparatedByCommas}
use Rattle.ir_text.specs.Language.{◌·◌, punctuation}
use Rattle.ir_text.specs.Mentions.{Mention, Mentioning, ◌⊙◌}
use Rattle.ir_grammar.specs.Operations.{the_sign, WithCommas, Listing}
use Rattle.ir_parts.specs.Reading.{begins, is_punctuation}
use Rattle.ir_parts.specs.Reading as reading
use Rattle.ir_parts.specs.ListReading.{listed_at}
use Rattle.ir_parts.proofs.Readers.{Anything}
use Rattle.ir_parts.proofs.ListReaders.{AnyWithCommas, listed_reads}
use Rattle.ir_body.specs.Telling.{Telling}
use Rattle.ir_body.specs.Gathered.{gathered}
use Rattle.ir_body.proofs.Tellers.{IsTeller}
use Rattle.ir_body.proofs.GatheredTellers.{Told, gathered_tells}

module _ {A : Type 0} (L : A → List Mention → List Lexeme → Type 0) where
  -- ---- the same language

  commas_there : (p : A × List Mention) (ps : List (A × List Mention)) (ts : List Lexeme)
      → SeparatedByCommas (Told L) (p ∷ ps) ts → WithCommas L (p.0 ∷ (gathered ps).0) (p.1 ++ (gathered ps).1) ts
  commas_there p [] ts l = subst (λ (ms : List Mention). L p.0 ms ts) (sym (append-nil p.1)) l
  commas_there p (q ∷ ps) ts l =
      let behind : List Mention = q.1 ++ (gathered ps).1 in (
        p.1,
        behind,
        refl,
        (
          l.0,
          sign 44 ∷ l.1,
          l.2,
          l.3,
          ([], behind, refl, (sign 44 ∷ [], l.1, refl, (refl, refl), commas_there q ps l.1 l.4)),
        ),
      )

  listing_there : (ps : List (A × List Mention)) (ts : List Lexeme) → AnyWithCommas (Told L) ps ts
      → Listing L (gathered ps).0 (gathered ps).1 ts
  listing_there [] ts l = (refl, l)
  listing_there (p ∷ ps) ts l = commas_there p ps ts l

  -- the things, each with its mentions
  record Apart (xs : List A) (ms : List Mention) (ts : List Lexeme) : Type 0 where
    first : A × List Mention
    others : List (A × List Mention)
    same : (xs, ms) ≡ gathered (first ∷ others)
    told : SeparatedByCommas (Told L) (first ∷ others) ts

  apart : (x : A) (xs : List A) (ms : List Mention) (ts : List Lexeme) → WithCommas L (x ∷ xs) ms ts
      → Apart (x ∷ xs) ms ts
  apart x [] ms ts l = record {
    first = (x, ms);
    others = [];
    same = ap (λ (ms : List Mention). (x ∷ [], ms)) (sym (append-nil ms));
    told = l;
  }
  apart x (y ∷ xs) ms ts l =
      let behind = l.3.4 in
      let more = apart y xs behind.1 behind.3.1 behind.3.4 in
      let said : l.1 ≡ behind.1 = behind.2 ∙ ap (λ (first : List Mention). first ++ behind.1) behind.3.3.0 in
      record {
        first = (x, l.0);
        others = more.first ∷ more.others;
        same = ap (λ (ms : List Mention). (x ∷ (y ∷ xs), ms))
            (l.2 ∙ ap (λ (behind : List Mention). l.0 ++ behind) said)
            ∙ ap (λ (p : List A × List Mention). (x ∷ p.0, l.0 ++ p.1)) more.same;
        told = (
          l.3.0,
          behind.3.1,
          l.3.2 ∙ ap (λ (vs : List Lexeme). l.3.0 ++ vs)
              (behind.3.2 ∙ ap (λ (us : List Lexeme). us ++ behind.3.1) behind.3.3.1),
          l.3.3,
          more.told,
        );
      }

  listing_back : (xs : List A) (ms : List Mention) (ts : List Lexeme) → Listing L xs ms ts
      → (ps : List (A × List Mention)) × ((xs, ms) ≡ gathered ps) × AnyWithCommas (Told L) ps ts
  listing_back [] ms ts l = ([], ap (λ (ms : List Mention). ([], ms)) l.0, l.1)
  listing_back (x ∷ xs) ms ts l = let a = apart x xs ms ts l in (a.first ∷ a.others, a.same, a.told)

  -- things, and the closing sign
  abbrev pub SpellsListed : ℕ → List A → Mentioning
  SpellsListed closing xs = Listing L xs ⊙ the_sign closing

  listed_there : (closing : ℕ) (ps : List (A × List Mention)) (ts : List Lexeme)
      → (AnyWithCommas (Told L) ps · punctuation closing) ts
      → SpellsListed closing (gathered ps).0 (gathered ps).1 ts
  listed_there closing ps ts l = (
    (gathered ps).1,
    [],
    sym (append-nil (gathered ps).1),
    (l.0, l.1, l.2, listing_there ps l.0 l.3, (refl, l.4)),
  )

  listed_back : (closing : ℕ) (xs : List A) (ms : List Mention) (ts : List Lexeme) → SpellsListed closing xs ms ts
      → (ps : List (A × List Mention)) × ((xs, ms) ≡ gathered ps)
      × (AnyWithCommas (Told L) ps · punctuation closing) ts
  listed_back closing xs ms ts l =
      let found = listing_back xs l.0 l.3.0 l.3.3 in (
        found.0,
        ap (λ (ms : List Mention). (xs, ms))
            (l.2 ∙ (ap (λ (behind : List Mention). l.0 ++ behind) l.3.4.0 ∙ append-nil l.0))
            ∙ found.1,
        (l.3.0, l.3.1, l.3.2, found.2, l.3.4.1),
      )

  -- ---- the reading

  pub listed_tells : {item : Telling A} {Stop : A → Lexeme → Type 0} (closing : ℕ) → IsTeller item L Stop
      → ((x : A) (t : Lexeme) → is_punctuation 44 t ≡ true → Stop x t)
      → ((x : A) (t : Lexeme) → is_punctuation closing t ≡ true → Stop x t)
      → is_punctuation 44 (sign closing) ≡ false
      → ((x : A) (ms : List Mention) (ts rest : List Lexeme) → L x ms ts
      → begins (is_punctuation closing) (ts ++ rest) ≡ false)
      → IsTeller (reading.made gathered (listed_at item closing)) (SpellsListed closing) Anything
  listed_tells closing tells comma_stops closing_stops closing_apart never_closing =
      gathered_tells (SpellsListed closing) (listed_there closing) (listed_back closing)
      (listed_reads closing tells.reader (λ told t e. comma_stops told.0 t e) (λ told t e. closing_stops told.0 t e)
      closing_apart (λ told ts rest l. never_closing told.0 told.1 ts rest l))

-- ---- what is seen of the things

module _ {A B : Type 0} (view : A → B) (L : A → List Mention → List Lexeme → Type 0)
    (M : B → List Mention → List Lexeme → Type 0)
    (seen : (x : A) (ms : List Mention) (ts : List Lexeme) → L x ms ts → M (view x) ms ts)
    (found : (y : B) (ms : List Mention) (ts : List Lexeme) → M y ms ts → (x : A) × (view x ≡ y) × L x ms ts) where
  commas_seen : (x : A) (xs : List A) (ms : List Mention) (ts : List Lexeme) → WithCommas L (x ∷ xs) ms ts
      → WithCommas M (view x ∷ map view xs) ms ts
  commas_seen x [] ms ts l = seen x ms ts l
  commas_seen x (y ∷ xs) ms ts l =
      let behind = l.3.4 in (
        l.0,
        l.1,
        l.2,
        (
          l.3.0,
          l.3.1,
          l.3.2,
          seen x l.0 l.3.0 l.3.3,
          (
            behind.0,
            behind.1,
            behind.2,
            (behind.3.0, behind.3.1, behind.3.2, behind.3.3, commas_seen y xs behind.1 behind.3.1 behind.3.4),
          ),
        ),
      )

  pub listing_seen : (xs : List A) (ms : List Mention) (ts : List Lexeme) → Listing L xs ms ts
      → Listing M (map view xs) ms ts
  listing_seen [] ms ts l = l
  listing_seen (x ∷ xs) ms ts l = commas_seen x xs ms ts l

  -- things of which these are seen
  record CommasFound (ys : List B) (ms : List Mention) (ts : List Lexeme) : Type 0 where
    first : A
    others : List A
    same : map view (first ∷ others) ≡ ys
    spelled : WithCommas L (first ∷ others) ms ts

  commas_found : (y : B) (ys : List B) (ms : List Mention) (ts : List Lexeme) → WithCommas M (y ∷ ys) ms ts
      → CommasFound (y ∷ ys) ms ts
  commas_found y [] ms ts l =
      let x = found y ms ts l in
      record { first = x.0; others = []; same = ap (λ (y : B). y ∷ []) x.1; spelled = x.2 }
  commas_found y (z ∷ ys) ms ts l =
      let behind = l.3.4 in
      let x = found y l.0 l.3.0 l.3.3 in
      let more = commas_found z ys behind.1 behind.3.1 behind.3.4 in
      record {
        first = x.0;
        others = more.first ∷ more.others;
        same = ap (λ (y : B). y ∷ map view (more.first ∷ more.others)) x.1 ∙ ap (λ (ys : List B). y ∷ ys) more.same;
        spelled = (
          l.0,
          l.1,
          l.2,
          (
            l.3.0,
            l.3.1,
            l.3.2,
            x.2,
            (
              behind.0,
              behind.1,
              behind.2,
              (behind.3.0, behind.3.1, behind.3.2, behind.3.3, more.spelled),
            ),
          ),
        );
      }

  pub listing_found : (ys : List B) (ms : List Mention) (ts : List Lexeme) → Listing M ys ms ts
      → (xs : List A) × (map view xs ≡ ys) × Listing L xs ms ts
  listing_found [] ms ts l = ([], refl, l)
  listing_found (y ∷ ys) ms ts l = let f = commas_found y ys ms ts l in (f.first ∷ f.others, f.same, f.spelled)
