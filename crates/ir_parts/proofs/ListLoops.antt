-- Reading lists as a loop does: things with commas between them, and things behind commas with attachments behind the
-- last. A list may be seen by what each of its things stands for.
use Rattle.std.proofs.Common.{◌≡◌, ℕ, zero, suc, ◌-◌, ◌<◌, ◌≤◌, true, false, List, [], ◌∷◌, ◌++◌, length, map, Result, Ok, Err, refl, sym, ap, subst, ◌∙◌, append_assoc, arith}
use Rattle.std.proofs.lemmas.List.{append-nil, map-append}
use Rattle.ir_text.specs.Tokens.{Lexeme}
use Rattle.ir_lex.specs.Tokenized.{Tokenized}
use Rattle.ir_parts.specs.declared.fault.ItemFault.{ItemFault}
use Rattle.ir_parts.specs.declared.fault.ItemFault.TheVariants.{CannotGoOn, OutOfMemory}
use Rattle.ir_parts.specs.Reading.{Read, ◌>>=◌, go_on, pure, ◌▷◌, begins, is_punctuation, punctuation_at, repeated_at, left_from, ReadsAs, Passes}
use Rattle.ir_parts.specs.MetadataReading.{attachments_at}
use Rattle.ir_parts.specs.ListReading.{with_commas_at, begins_part, parts_at, all_parts_at}
use Rattle.ir_parts.proofs.Places.{shorter_left}
use Rattle.ir_parts.proofs.Decided.{decided_there, decided_other}
use Rattle.ir_parts.proofs.Repeated.{none_left}
use Rattle.ir_parts.proofs.Loops.{Repeats, with_earlier, repeat_forth, repeat_faults, repeat_ends}

-- one more, seen by what it stands for
seen_more : {X A : Type 0} (view : X → A) (earlier : List X) (x : X)
    → map view earlier ++ view x ∷ [] ≡ map view (earlier ++ x ∷ [])
seen_more view earlier x = sym (map-append view earlier (x ∷ []))

-- ---- things with commas between them

-- Where a loop stands that has read the things before a place.
pub record CommasRead {A : Type 0} (item : Read A) (t : Tokenized) (from at : ℕ) (earlier : List A) : Type 0 where
  pub reading : Repeats (is_punctuation 44) (punctuation_at 44 ▷ item) earlier (left_from t at) (with_commas_at item
      (left_from t from))
  pub forth : from < at
  pub within : at ≤ length t.tokens

module _ {A : Type 0} (item : Read A) (t : Tokenized) (from : ℕ) where
  -- what is read with the first, when that is read so
  abbrev with_first : Result (A × List Lexeme) ℕ → Result (List A × List Lexeme) ℕ
  with_first r =
      go_on {A = A × List A} (go_on r
      (λ x. repeated_at (is_punctuation 44) (punctuation_at 44 ▷ item) >>= λ xs. pure (x, xs)))
      (λ p. pure (p.0 ∷ p.1))

  joined : (x : A) (r : Result (List A × List Lexeme) ℕ)
      → with_earlier (x ∷ []) r ≡ go_on {A = A × List A} (go_on r (λ xs. pure (x, xs))) (λ p. pure (p.0 ∷ p.1))
  joined x (Ok read) = refl
  joined x (Err left) = refl

  -- the first is read
  pub commas_first : (at : ℕ) (x : A) → item (left_from t from) ≡ Ok (x, left_from t at)
      → (from < at) × (at ≤ length t.tokens) → CommasRead item t from at (x ∷ [])
  unfolding with_commas_at
  commas_first at x read forth = record {
    reading = record {
      most = length (left_from t at);
      enough = omega arith;
      so_far = joined x (repeated_at (is_punctuation 44) (punctuation_at 44 ▷ item) (left_from t at))
          ∙ sym (ap with_first read);
    };
    forth = forth.0;
    within = forth.1;
  }

  -- the first is refused
  pub commas_no_first : {X Y : Type 0} (view : X → A) (other : Y → List A) (fault : ItemFault)
      → ReadsAs view t (Err fault) (item (left_from t from))
      → ReadsAs other t (Err fault) (with_commas_at item (left_from t from))
  unfolding with_commas_at
  commas_no_first view other OutOfMemory read = tt
  commas_no_first view other (CannotGoOn at) read = (ap with_first read.0, read.1)

  -- one more is read
  pub commas_more : (at behind : ℕ) (earlier : List A) (x : A) → CommasRead item t from at earlier
      → true ≡ begins (is_punctuation 44) (left_from t at)
      → (punctuation_at 44 ▷ item) (left_from t at) ≡ Ok (x, left_from t behind)
      → (at < behind) × (behind ≤ length t.tokens) → CommasRead item t from behind (earlier ++ x ∷ [])
  commas_more at behind earlier x loop passed read forth = record {
    reading = repeat_forth (is_punctuation 44) (punctuation_at 44 ▷ item) t earlier at behind x (with_commas_at item
        (left_from t from)) passed read forth loop.reading;
    forth = omega (arith, loop.forth, forth.0);
    within = forth.1;
  }

  -- the same where things are seen by what they stand for
  pub commas_more_seen : {X : Type 0} (view : X → A) (at behind : ℕ) (earlier : List X) (x : X)
      → CommasRead item t from at (map view earlier) → true ≡ begins (is_punctuation 44) (left_from t at)
      → (punctuation_at 44 ▷ item) (left_from t at) ≡ Ok (view x, left_from t behind)
      → (at < behind) × (behind ≤ length t.tokens) → CommasRead item t from behind (map view (earlier ++ x ∷ []))
  commas_more_seen view at behind earlier x loop passed read forth =
      subst (λ (all : List A). CommasRead item t from behind all) (seen_more view earlier x)
      (commas_more at behind (map view earlier) (view x) loop passed read forth)

  -- one more is refused
  pub commas_no_more : {X Y : Type 0} (view : X → A) (other : Y → List A) (fault : ItemFault) (at : ℕ)
      (earlier : List A) → CommasRead item t from at earlier → true ≡ begins (is_punctuation 44) (left_from t at)
      → ReadsAs view t (Err fault) ((punctuation_at 44 ▷ item) (left_from t at))
      → ReadsAs other t (Err fault) (with_commas_at item (left_from t from))
  commas_no_more view other fault at earlier loop passed read =
      repeat_faults (is_punctuation 44) (punctuation_at 44 ▷ item) view other t fault earlier (left_from t at)
      (with_commas_at item (left_from t from)) (sym passed) read loop.reading

  -- there is no other one
  pub commas_end : (at : ℕ) (earlier : List A) → CommasRead item t from at earlier
      → false ≡ begins (is_punctuation 44) (left_from t at)
      → with_commas_at item (left_from t from) ≡ Ok (earlier, left_from t at)
  commas_end at earlier loop failed =
      repeat_ends (is_punctuation 44) (punctuation_at 44 ▷ item) earlier (left_from t at) (with_commas_at item
      (left_from t from)) (sym failed) loop.reading

-- ---- things behind commas, and attachments

-- Where a loop stands that has read the things before a place: what is left of them gives the whole reading.
pub record PartsRead {A : Type 0} (item : Read A) (t : Tokenized) (from at : ℕ) (earlier : List A) : Type 0 where
  pub most : ℕ
  pub enough : length (left_from t at) ≤ most
  pub so_far : with_earlier earlier (parts_at item most (left_from t at)) ≡ all_parts_at item (left_from t from)
  pub forth : from ≤ at
  pub within : at ≤ length t.tokens

module _ {A : Type 0} (item : Read A) (t : Tokenized) (from : ℕ) where
  from_nothing : (read : Result (List A × List Lexeme) ℕ) → with_earlier [] read ≡ read
  from_nothing (Err left) = refl
  from_nothing (Ok read) = refl

  -- none is read yet
  pub parts_begin : from ≤ length t.tokens → PartsRead item t from from []
  parts_begin within = record {
    most = length (left_from t from);
    enough = omega arith;
    so_far = from_nothing (parts_at item (length (left_from t from)) (left_from t from));
    forth = omega arith;
    within = within;
  }

  -- the two cases of the reading
  one_part : (most : ℕ) (ts : List Lexeme) → begins_part ts ≡ true
      → parts_at item (suc most) ts
      ≡ go_on ((punctuation_at 44 ▷ item) ts) (λ x. parts_at item most >>= λ xs. pure (x ∷ xs))
  unfolding parts_at
  one_part most ts e =
      decided_there begins_part (punctuation_at 44 ▷ item >>= λ x. parts_at item most >>= λ xs. pure (x ∷ xs))
      (attachments_at ▷ pure []) ts e

  no_part : (most : ℕ) (ts : List Lexeme) → begins_part ts ≡ false
      → parts_at item most ts ≡ go_on (attachments_at ts) (λ x. pure [])
  unfolding parts_at
  no_part zero ts e = refl
  no_part (suc most) ts e =
      decided_other begins_part (punctuation_at 44 ▷ item >>= λ x. parts_at item most >>= λ xs. pure (x ∷ xs))
      (attachments_at ▷ pure []) ts e

  regroup : (earlier : List A) (x : A) (read : Result (List A × List Lexeme) ℕ)
      → with_earlier earlier (go_on read (λ xs. pure (x ∷ xs))) ≡ with_earlier (earlier ++ x ∷ []) read
  regroup earlier x (Err left) = refl
  regroup earlier x (Ok others) =
      ap (λ (xs : List A). Ok (xs, others.1)) (sym (append_assoc earlier (x ∷ []) others.0))

  -- one more is read
  pub parts_more : (at behind : ℕ) (earlier : List A) (x : A) → PartsRead item t from at earlier
      → true ≡ begins_part (left_from t at)
      → (punctuation_at 44 ▷ item) (left_from t at) ≡ Ok (x, left_from t behind)
      → (at < behind) × (behind ≤ length t.tokens) → PartsRead item t from behind (earlier ++ x ∷ [])
  parts_more at behind earlier x loop passed read forth = go loop.most loop.enough loop.so_far
    where
      fewer : length (left_from t behind) < length (left_from t at)
      fewer = shorter_left t at behind forth.0 forth.1

      go : (most : ℕ) → length (left_from t at) ≤ most
          → with_earlier earlier (parts_at item most (left_from t at)) ≡ all_parts_at item (left_from t from)
          → PartsRead item t from behind (earlier ++ x ∷ [])
      go zero enough e = absurd (let less = fewer in omega arith)
      go (suc most) enough e = record {
        most = most;
        enough = let less = fewer in omega arith;
        so_far = sym (ap (with_earlier earlier) (one_part most (left_from t at) (sym passed)
            ∙ ap (λ r. go_on r (λ x. parts_at item most >>= λ xs. pure (x ∷ xs))) read)
            ∙ regroup earlier x (parts_at item most (left_from t behind))) ∙ e;
        forth = omega (arith, loop.forth, forth.0);
        within = forth.1;
      }

  -- the same where things are seen by what they stand for
  pub parts_more_seen : {X : Type 0} (view : X → A) (at behind : ℕ) (earlier : List X) (x : X)
      → PartsRead item t from at (map view earlier) → true ≡ begins_part (left_from t at)
      → (punctuation_at 44 ▷ item) (left_from t at) ≡ Ok (view x, left_from t behind)
      → (at < behind) × (behind ≤ length t.tokens) → PartsRead item t from behind (map view (earlier ++ x ∷ []))
  parts_more_seen view at behind earlier x loop passed read forth =
      subst (λ (all : List A). PartsRead item t from behind all) (seen_more view earlier x)
      (parts_more at behind (map view earlier) (view x) loop passed read forth)

  refuses_so : (earlier : List A) (ts : List Lexeme) (left most : ℕ) (total : Result (List A × List Lexeme) ℕ)
      → begins_part ts ≡ true → (punctuation_at 44 ▷ item) ts ≡ Err left → length ts ≤ most
      → with_earlier earlier (parts_at item most ts) ≡ total → total ≡ Err left
  refuses_so earlier ts left zero total passed read enough e =
      absurd (let failed : begins_part ts ≡ false = ap begins_part (none_left ts enough) in cc)
  refuses_so earlier ts left (suc most) total passed read enough e =
      sym e ∙ ap (with_earlier earlier) (one_part most ts passed
      ∙ ap (λ r. go_on r (λ x. parts_at item most >>= λ xs. pure (x ∷ xs))) read)

  -- one more is refused
  pub parts_no_more : {X Y : Type 0} (view : X → A) (other : Y → List A) (fault : ItemFault) (at : ℕ)
      (earlier : List A) → PartsRead item t from at earlier → true ≡ begins_part (left_from t at)
      → ReadsAs view t (Err fault) ((punctuation_at 44 ▷ item) (left_from t at))
      → ReadsAs other t (Err fault) (all_parts_at item (left_from t from))
  parts_no_more view other OutOfMemory at earlier loop passed read = tt
  parts_no_more view other (CannotGoOn place) at earlier loop passed read = (
    refuses_so earlier (left_from t at) (length t.tokens - place) loop.most (all_parts_at item (left_from t from))
        (sym passed) read.0 loop.enough loop.so_far,
    read.1,
  )

  -- there is no other one, and attachments are read
  pub parts_end : (at behind : ℕ) (earlier : List A) → PartsRead item t from at earlier
      → false ≡ begins_part (left_from t at) → Passes t (Ok behind) (attachments_at (left_from t at))
      → all_parts_at item (left_from t from) ≡ Ok (earlier, left_from t behind)
  parts_end at behind earlier loop failed read =
      sym loop.so_far ∙ (ap (with_earlier earlier) (no_part loop.most (left_from t at) (sym failed)
      ∙ ap (λ r. go_on r (λ x. pure [])) read)
      ∙ ap (λ (xs : List A). Ok (xs, left_from t behind)) (append-nil earlier))

  -- or they are refused
  pub parts_no_end : {Y : Type 0} (other : Y → List A) (fault : ItemFault) (at : ℕ) (earlier : List A)
      → PartsRead item t from at earlier
      → false ≡ begins_part (left_from t at) → Passes t (Err fault) (attachments_at (left_from t at))
      → ReadsAs other t (Err fault) (all_parts_at item (left_from t from))
  parts_no_end other OutOfMemory at earlier loop failed read = tt
  parts_no_end other (CannotGoOn place) at earlier loop failed read = (
    sym loop.so_far ∙ ap (with_earlier earlier) (no_part loop.most (left_from t at) (sym failed)
        ∙ ap (λ r. go_on r (λ x. pure [])) read.0),
    read.1,
  )
