-- Things with mentions one after another, to the first that is a last one.
use Rattle.std.proofs.Common.{◌≡◌, Bool, true, false, List, [], ◌∷◌, ◌++◌, refl, sym, ap, subst, ◌∙◌}
use Rattle.std.proofs.lemmas.List.{append-nil}
use Rattle.ir_text.specs.Tokens.{Lexeme}
use Rattle.ir_text.specs.Language.{Language}
use Rattle.ir_text.specs.Mentions.{Mention, Mentioning, ◌⊙◌}
use Rattle.ir_parts.specs.Reading as reading
use Rattle.ir_parts.specs.ListReading.{all_until_at}
use Rattle.ir_parts.proofs.Readers.{StopsAt, of_language, mapped, of_sentence_stop}
use Rattle.ir_parts.proofs.UntilReader.{UntilLast, StopsLast, until_reads}
use Rattle.ir_body.specs.Telling.{Telling}
use Rattle.ir_body.specs.Gathered.{gathered}
use Rattle.ir_body.proofs.Tellers.{IsTeller}

-- Sentences one after another, of which the last is of a last thing, and none before it.
abbrev pub UntilLastTold : {A : Type 0} → (A → Bool) → (A → List Mention → List Lexeme → Type 0) → List A → Mentioning
UntilLastTold last L [] ms ts = ⊥
UntilLastTold last L (x ∷ []) ms ts = (last x ≡ true) × L x ms ts
UntilLastTold last L (x ∷ y ∷ ys) ms ts = (last x ≡ false) × (L x ⊙ UntilLastTold last L (y ∷ ys)) ms ts

-- the same of things with their mentions beside them
abbrev last_of : {A : Type 0} → (A → Bool) → A × List Mention → Bool
last_of last told = last told.0

abbrev spelled_by : {A : Type 0} → (A → List Mention → List Lexeme → Type 0) → A × List Mention → Language
spelled_by L told ts = L told.0 told.1 ts

module _ {X : Type 0} (last : X → Bool) (L : X → List Mention → List Lexeme → Type 0) where
  -- ---- the same language

  gathered_there : (tolds : List (X × List Mention)) (ts : List Lexeme)
      → UntilLast (last_of last) (spelled_by L) tolds ts
      → UntilLastTold last L (gathered tolds).0 (gathered tolds).1 ts
  gathered_there [] ts l = l
  gathered_there (x ∷ []) ts l = (l.0, subst (λ (ms : List Mention). L x.0 ms ts) (sym (append-nil x.1)) l.1)
  gathered_there (x ∷ y ∷ ys) ts l =
      let parts = l.1 in (
        l.0,
        (
          x.1,
          (gathered (y ∷ ys)).1,
          refl,
          (parts.0, parts.1, parts.2, parts.3, gathered_there (y ∷ ys) parts.1 parts.4),
        ),
      )

  -- things whose mentions together are these
  record Gathers (xs : List X) (ms : List Mention) (ts : List Lexeme) : Type 0 where
    tolds : List (X × List Mention)
    same : (xs, ms) ≡ gathered tolds
    spelled : UntilLast (last_of last) (spelled_by L) tolds ts

  with_first : (x y : X) (ys : List X) (ms before behind : List Mention) (ts us vs : List Lexeme)
      → last x ≡ false → ms ≡ before ++ behind → ts ≡ us ++ vs → L x before us
      → Gathers (y ∷ ys) behind vs → Gathers (x ∷ y ∷ ys) ms ts
  with_first x y ys ms before behind ts us vs isnt whole parts first g =
      of_tolds g.tolds g.same g.spelled
    where
      of_tolds : (tolds : List (X × List Mention)) → (y ∷ ys, behind) ≡ gathered tolds
          → UntilLast (last_of last) (spelled_by L) tolds vs → Gathers (x ∷ y ∷ ys) ms ts
      of_tolds [] same l = absurd l
      of_tolds (told ∷ tolds) same l = record {
        tolds = (x, before) ∷ told ∷ tolds;
        same = ap (λ (ms : List Mention). (x ∷ y ∷ ys, ms)) whole
            ∙ ap (λ (p : List X × List Mention). (x ∷ p.0, before ++ p.1)) same;
        spelled = (isnt, (us, vs, parts, first, l));
      }

  gathered_back : (xs : List X) (ms : List Mention) (ts : List Lexeme) → UntilLastTold last L xs ms ts
      → Gathers xs ms ts
  gathered_back [] ms ts l = absurd l
  gathered_back (x ∷ []) ms ts l = record {
    tolds = (x, ms) ∷ [];
    same = ap (λ (ms : List Mention). (x ∷ [], ms)) (sym (append-nil ms));
    spelled = l;
  }
  gathered_back (x ∷ y ∷ ys) ms ts l =
      let parts = l.1 in
      with_first x y ys ms parts.0 parts.1 ts parts.3.0 parts.3.1 l.0 parts.2 parts.3.2 parts.3.3
      (gathered_back (y ∷ ys) parts.1 parts.3.1 parts.3.4)

  -- ---- the reading

  module _ {item : Telling X} (Stop : X → Lexeme → Type 0) (tells : IsTeller item L Stop)
      (some_tokens : (x : X) (ms : List Mention) → L x ms [] → ⊥)
      (ends : (x y : X) (ms : List Mention) (taken rest : List Lexeme) → last x ≡ false → L y ms taken
      → StopsAt (Stop x) (taken ++ rest))
      (end : X) (mentions : List Mention) (sentence : List Lexeme) (is_last : last end ≡ true)
      (sample : L end mentions sentence)
      (Halt : Lexeme → Type 0)
      (halts : (x : X) (ms : List Mention) (ts : List Lexeme) (t : Lexeme) → last x ≡ true → L x ms ts → Stop x t
      → Halt t)
      (stops : (x : X) (ms : List Mention) (ts : List Lexeme) (t : Lexeme) → last x ≡ true → L x ms ts → Halt t
      → Stop x t) where
    halts_there : (tolds : List (X × List Mention)) (ts : List Lexeme) (t : Lexeme)
        → UntilLast (last_of last) (spelled_by L) tolds ts → StopsLast (last_of last) (λ told. Stop told.0) tolds t
        → Halt t
    halts_there [] ts t l stop = absurd l
    halts_there (x ∷ []) ts t l stop = halts x.0 x.1 ts t l.0 l.1 (stop l.0)
    halts_there (x ∷ y ∷ ys) ts t l stop = halts_there (y ∷ ys) l.1.1 t l.1.4 stop

    halts_back : (tolds : List (X × List Mention)) (ts : List Lexeme) (t : Lexeme)
        → UntilLast (last_of last) (spelled_by L) tolds ts → Halt t
        → StopsLast (last_of last) (λ told. Stop told.0) tolds t
    halts_back [] ts t l halt = absurd l
    halts_back (x ∷ []) ts t l halt = λ e. stops x.0 x.1 ts t l.0 l.1 halt
    halts_back (x ∷ y ∷ ys) ts t l halt = halts_back (y ∷ ys) l.1.1 t l.1.4 halt

    pub until_tells : IsTeller (reading.made gathered (all_until_at (λ told. last told.0) item)) (UntilLastTold last L)
        (λ xs. Halt)
    until_tells = record {
      reader = of_language (λ told ts. UntilLastTold last L told.0 told.1 ts)
          (λ told ts l. subst (λ (told : List X × List Mention). UntilLastTold last L told.0 told.1 ts) (sym l.1)
          (gathered_there l.0 ts l.2))
          (λ told ts l. let g = gathered_back told.0 told.1 ts l in (g.tolds, g.same, g.spelled))
          (mapped gathered (λ told. Halt) (λ tolds t stop. stop) (λ tolds t stop. stop)
          (of_sentence_stop (λ tolds. Halt) halts_there halts_back
          (until_reads (last_of last) (λ told. Stop told.0) tells.reader
          (λ told l. some_tokens told.0 told.1 l)
          (λ told other taken rest isnt l. ends told.0 other.0 other.1 taken rest isnt l)
          (end, mentions) sentence is_last sample)));
    }
