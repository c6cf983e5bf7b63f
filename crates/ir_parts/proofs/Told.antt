-- A call that does what a reader does tells of sentences.
use Rattle.std.proofs.Common.{◌≡◌, ℕ, zero, suc, ◌-◌, ◌≤◌, List, [], ◌∷◌, ◌++◌, length, drop, Result, Ok, Err, refl, sym, ap, subst, ◌∙◌, arith}
use Rattle.std.proofs.lemmas.List.{append-nil, length-append}
use Rattle.ir_text.specs.Tokens.{Lexeme}
use Rattle.ir_lex.specs.Tokenized.{Tokenized, lexemes}
use Rattle.ir_parts.specs.declared.fault.ItemFault.{ItemFault}
use Rattle.ir_parts.specs.declared.fault.ItemFault.TheVariants.{CannotGoOn, OutOfMemory}
use Rattle.ir_parts.specs.Reading.{Read, go_on, pure, made, left_from, Reads, Passes}
use Rattle.ir_parts.specs.Sentences.{Begins, IsSentence, IsBroken, Tells, TellsPlace}
use Rattle.ir_parts.proofs.Readers.{IsReader, both_read, same_read}
use Rattle.ir_parts.proofs.NoneGoesOn.{goes_no_further, refused_there, same_parts}
use Rattle.ir_parts.proofs.Places.{length_left}

-- ---- the tokens from one place to another

parted : {A : Type 0} (xs : List A) (m : ℕ) → (before : List A) × (xs ≡ before ++ drop m xs)
parted xs zero = ([], refl)
parted [] (suc m) = ([], refl)
parted {A} (x ∷ xs) (suc m) = let p = parted xs m in (x ∷ p.0, ap (λ (ys : List A). x ∷ ys) p.1)

parted_behind : {A : Type 0} (xs : List A) (n m : ℕ) → n ≤ m → (before : List A) × (drop n xs ≡ before ++ drop m xs)
parted_behind xs zero m h = parted xs m
parted_behind xs (suc n) zero h = absurd (omega arith)
parted_behind [] (suc n) (suc m) h = ([], refl)
parted_behind (x ∷ xs) (suc n) (suc m) h = parted_behind xs n m (omega arith)

-- what has the length of what is left at a place, and stands at the end, is that
left_there : (t : Tokenized) (from at : ℕ) (before after : List Lexeme) → from ≤ length t.tokens → at ≤ length t.tokens
    → left_from t from ≡ before ++ after → length after ≡ length t.tokens - at → after ≡ left_from t at
left_there t from at before after within there parts so_many =
    let forth : from ≤ at =
    omega (arith, length_left t from, ap length parts, length-append before after, so_many) in
    let p = parted_behind (lexemes t) from at forth in
    (same_parts before p.0 after (left_from t at) (sym parts ∙ p.1) (so_many ∙ sym (length_left t at))).1

module _ {X : Type 0} {read : Read X} {L : X → List Lexeme → Type 0} {Stop : X → Lexeme
    → Type 0} (r : IsReader read L Stop) where
  is_sentence : (t : Tokenized) (from after : ℕ) (x : X) → read (left_from t from) ≡ Ok (x, left_from t after)
      → IsSentence L t from after x
  is_sentence t from after x e =
      let found = r.takes (left_from t from) (left_from t after) x e in
      record {
        taken = found.taken;
        parts = found.parts;
        spelled = found.spelled;
        no_longer = λ next behind is begun.
            goes_no_further r (left_from t from) behind found.taken x next (e ∙ ap (λ (ts : List Lexeme). Ok (x, ts))
            is)
            (found.parts ∙ ap (λ (ts : List Lexeme). found.taken ++ ts) is) found.spelled begun;
      }

  no_whole : (before : List Lexeme) (x : X) → read before ≡ Err 0 → L x before → ⊥
  no_whole before x e l =
      let whole : read (before ++ []) ≡ Ok (x, []) = r.reads x before [] l tt in
      let both = sym e ∙ (ap read (sym (append-nil before)) ∙ whole) in
      cc

  is_broken : (t : Tokenized) (from at : ℕ) → from ≤ length t.tokens → at ≤ length t.tokens
      → read (left_from t from) ≡ Err (length t.tokens - at) → IsBroken L t from at
  is_broken t from at within there e =
      let f = r.refuses (left_from t from) (length t.tokens - at) e in
      let same : f.after ≡ left_from t at = left_there t from at f.before f.after within there f.parts f.so_many in
      record {
        taken = f.before;
        parts = f.parts ∙ ap (λ (ts : List Lexeme). f.before ++ ts) same;
        begun = record { whole = f.whole; others = f.others; sentence = f.begun };
        no_sentence = λ x l. no_whole f.before x f.at_end l;
        no_longer = λ next behind is begun.
            refused_there r f.before behind next (f.stays next behind behind (same ∙ is)) begun;
      }

  pub tells : (t : Tokenized) (from : ℕ) → from ≤ length t.tokens → (result : Result (X × ℕ) ItemFault)
      → Reads t result (read (left_from t from)) → Tells L t from result
  tells t from within (Ok found) e = is_sentence t from found.1 found.0 e
  tells t from within (Err (CannotGoOn at)) e = is_broken t from at within e.1 e.0
  tells t from within (Err OutOfMemory) e = tt

module _ {read : Read (Unit {0})} {L : List Lexeme → Type 0} {Stop : Unit {0} → Lexeme → Type 0}
    (r : IsReader read (λ (x : Unit {0}). L) Stop) where
  pub tells_place : (t : Tokenized) (from : ℕ) → from ≤ length t.tokens → (result : Result ℕ ItemFault)
      → Passes t result (read (left_from t from)) → TellsPlace L t from result
  tells_place t from within (Ok at) e = is_sentence r t from at tt e
  tells_place t from within (Err (CannotGoOn at)) e = is_broken r t from at within e.1 e.0
  tells_place t from within (Err OutOfMemory) e = tt

-- ---- a view of what a richer reading gives

-- what the richer reading gave
seen_read : {R X : Type 0} (view : R → X) (r : Result (R × List Lexeme) ℕ) (x : X) (rest : List Lexeme)
    → go_on r (λ rich. pure (view rich)) ≡ Ok (x, rest) → (rich : R) × (view rich ≡ x) × (r ≡ Ok (rich, rest))
seen_read {R} {X} view r x rest e =
    let b = both_read r (λ rich. pure (view rich)) (x, rest) e in
    let same = same_read (view b.value, b.middle) (x, rest) b.second in (
      b.value,
      ap (λ (p : X × List Lexeme). p.0) same,
      b.first ∙ ap (λ (p : X × List Lexeme). Ok (b.value, p.1)) same,
    )

seen_refused : {R X : Type 0} (view : R → X) (r : Result (R × List Lexeme) ℕ) (left : ℕ)
    → go_on r (λ rich. pure (view rich)) ≡ Err left → r ≡ Err left
seen_refused view (Ok read) left e = absurd cc
seen_refused view (Err least) left e = cc

-- A language that forgets some of what another says.
module _ {R X : Type 0} (view : R → X) {Rich : R → List Lexeme → Type 0} (L : X → List Lexeme → Type 0)
    (there : (x : X) (ts : List Lexeme) → (rich : R) × (view rich ≡ x) × Rich rich ts → L x ts)
    (back : (x : X) (ts : List Lexeme) → L x ts → (rich : R) × (view rich ≡ x) × Rich rich ts) where
  begins_rich : (ts : List Lexeme) → Begins L ts → Begins Rich ts
  begins_rich ts begun =
      let rich = back begun.whole (ts ++ begun.others) begun.sentence in
      record { whole = rich.0; others = begun.others; sentence = rich.2 }

  pub sentence_seen : (t : Tokenized) (from after : ℕ) (rich : R) → IsSentence Rich t from after rich
      → IsSentence L t from after (view rich)
  sentence_seen t from after rich s = record {
    taken = s.taken;
    parts = s.parts;
    spelled = there (view rich) s.taken (rich, refl, s.spelled);
    no_longer = λ next behind is begun. s.no_longer next behind is (begins_rich (s.taken ++ next ∷ []) begun);
  }

  pub broken_seen : (t : Tokenized) (from at : ℕ) → IsBroken Rich t from at → IsBroken L t from at
  broken_seen t from at b = record {
    taken = b.taken;
    parts = b.parts;
    begun = record {
      whole = view b.begun.whole;
      others = b.begun.others;
      sentence = there (view b.begun.whole) (b.taken ++ b.begun.others) (b.begun.whole, refl, b.begun.sentence);
    };
    no_sentence = λ x l. let rich = back x b.taken l in b.no_sentence rich.0 rich.2;
    no_longer = λ next behind is begun. b.no_longer next behind is (begins_rich (b.taken ++ next ∷ []) begun);
  }

  -- A call that gives a view of what a reading gives tells of the language that says that view alone.
  pub tells_view : {read : Read R} {Stop : R → Lexeme → Type 0} → IsReader read Rich Stop
      → (t : Tokenized) (from : ℕ) → from ≤ length t.tokens → (result : Result (X × ℕ) ItemFault)
      → Reads t result (made view read (left_from t from)) → Tells L t from result
  tells_view {read} r t from within (Ok found) e =
      let seen = seen_read view (read (left_from t from)) found.0 (left_from t found.1) e in
      subst (λ (x : X). IsSentence L t from found.1 x) seen.1
      (sentence_seen t from found.1 seen.0 (is_sentence r t from found.1 seen.0 seen.2))
  tells_view {read} r t from within (Err (CannotGoOn at)) e =
      broken_seen t from at
      (is_broken r t from at within e.1 (seen_refused view (read (left_from t from)) (length t.tokens - at) e.0))
  tells_view r t from within (Err OutOfMemory) e = tt
