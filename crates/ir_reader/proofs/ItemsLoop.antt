-- Reading all items as a loop does.
use Rattle.std.proofs.Common.{◌≡◌, ℕ, zero, suc, ◌-◌, ◌<◌, ◌≤◌, Bool, true, false, if◌then◌else◌, List, [], ◌∷◌, ◌++◌, length, map, Option, Some, None, Result, Ok, Err, refl, sym, ap, ◌∙◌, append_assoc, arith}
use Rattle.std.proofs.lemmas.List.{append-nil, map-append}
use Rattle.ir_model.specs.declared.item.Item.{Item}
use Rattle.ir_text.specs.Tokens.{Lexeme}
use Rattle.ir_text.specs.Mentions.{Mention}
use Rattle.ir_text.specs.Sites.{Draft}
use Rattle.ir_lex.specs.Tokenized.{Tokenized, lexemes}
use Rattle.ir_parts.specs.declared.fault.ItemFault.{ItemFault}
use Rattle.ir_parts.specs.declared.fault.ItemFault.TheVariants.{CannotGoOn, OutOfMemory}
use Rattle.ir_parts.specs.Reading.{Read, go_on, pure, refuse, made, begins, choose, left_from, ReadsAs}
use Rattle.ir_parts.specs.ListReading.{to_end_at, all_to_end_at}
use Rattle.ir_parts.specs.Places.{mentions_at, draft_of}
use Rattle.ir_parts.proofs.Loops.{with_earlier}
use Rattle.ir_parts.proofs.Places.{length_left, shorter_left, none_left}
use Rattle.ir_reader.specs.declared.items.ItemEnding.{ItemEnding}
use Rattle.ir_reader.specs.ItemsReading.{Told, item_at, barred, barred_behind, with_draft, drafts_of, items_at, free_item_at, bare_item, sites_if_any, with_item, ReadsAll}

-- Where the loop stands that has read the items before a place: what is left of them gives the whole reading.
pub record ItemsSoFar (t : Tokenized) (at : ℕ) (items : List Item) : Type 0 where
  pub found : List Told
  pub same : map (draft_of t) items ≡ drafts_of found
  pub most : ℕ
  pub enough : length (left_from t at) ≤ most
  pub so_far : with_earlier found (to_end_at barred item_at most (left_from t at))
      ≡ all_to_end_at barred item_at (lexemes t)
  pub within : at ≤ length t.tokens

-- ---- one more item

-- the reading of items takes one behind which nothing is barred
free_then : (b : Bool) (told : Told) (rest : List Lexeme) (others : Told → Read (List Told))
    → (if b then Err (length rest) else others told rest)
    ≡ go_on (if b then Err (length rest) else Ok (told, rest)) others
free_then true told rest others = refl
free_then false told rest others = refl

then_others : (r : Result (Told × List Lexeme) ℕ) (others : Told → Read (List Told))
    → go_on r (λ told. choose (barred told) refuse (others told))
    ≡ go_on (go_on r (λ told. choose (barred_behind told.0.1) refuse (pure told))) others
then_others (Err left) others = refl
then_others (Ok read) others = free_then (begins (barred read.0) read.1) read.0 read.1 others

with_one : ℕ → Told → Read (List Told)
with_one most told = made (λ items. told ∷ items) (to_end_at barred item_at most)

one_more : (most : ℕ) (ts : List Lexeme) → 0 < length ts
    → to_end_at barred item_at (suc most) ts ≡ go_on (free_item_at ts) (with_one most)
unfolding to_end_at free_item_at with_one
one_more most [] some = absurd (omega arith)
one_more most (t ∷ ts) some =
    then_others (item_at (t ∷ ts)) (λ told. made (λ items. told ∷ items) (to_end_at barred item_at most))

regroup : (found : List Told) (told : Told) (read : Result (List Told × List Lexeme) ℕ)
    → with_earlier found (go_on read (λ items. pure (told ∷ items))) ≡ with_earlier (found ++ told ∷ []) read
regroup found told (Err left) = refl
regroup found told (Ok others) =
    ap (λ (items : List Told). Ok (items, others.1)) (sym (append_assoc found (told ∷ []) others.0))

-- ---- what is kept of it

with_more : (item : Option Item) (ms : List Mention) (drafts others : List Draft)
    → with_draft item ms (drafts ++ others) ≡ with_draft item ms drafts ++ others
with_more None ms drafts others = refl
with_more (Some item) ms drafts others = refl

drafts_more : (found : List Told) (told : Told)
    → drafts_of (found ++ told ∷ []) ≡ drafts_of found ++ with_draft told.0.0 told.1 []
drafts_more [] told = refl
drafts_more (first ∷ found) told =
    ap (with_draft first.0.0 first.1) (drafts_more found told)
    ∙ with_more first.0.0 first.1 (drafts_of found) (with_draft told.0.0 told.1 [])

told_of : Tokenized → Option Item × ItemEnding → Told
told_of t ended = (bare_item ended, mentions_at t (sites_if_any ended.0))

kept : (t : Tokenized) (items : List Item) (found : List Told) (item : Option Item) (ending : ItemEnding)
    → map (draft_of t) items ≡ drafts_of found
    → map (draft_of t) (with_item items item) ≡ drafts_of (found ++ told_of t (item, ending) ∷ [])
unfolding told_of
kept t items found None ending same =
    same ∙ (sym (append-nil (drafts_of found)) ∙ sym (drafts_more found (told_of t (None, ending))))
kept t items found (Some item) ending same =
    map-append (draft_of t) items (item ∷ [])
    ∙ (ap (λ (drafts : List Draft). drafts ++ draft_of t item ∷ []) same
    ∙ sym (drafts_more found (told_of t (Some item, ending))))

-- ---- the loop

from_nothing : (read : Result (List Told × List Lexeme) ℕ) → with_earlier [] read ≡ read
from_nothing (Err left) = refl
from_nothing (Ok read) = refl

module _ (t : Tokenized) where
  -- none is read yet
  pub items_begin : ItemsSoFar t 0 []
  items_begin = record {
    found = [];
    same = refl;
    most = length (lexemes t);
    enough = omega arith;
    so_far = from_nothing (to_end_at barred item_at (length (lexemes t)) (lexemes t));
    within = omega arith;
  }

  some_left : (at : ℕ) → at < length t.tokens → 0 < length (left_from t at)
  some_left at more = let left = length_left t at in omega arith

  -- one more is read
  pub items_more : (at behind : ℕ) (items : List Item) (ended : Option Item × ItemEnding) → ItemsSoFar t at items
      → at < length t.tokens
      → free_item_at (left_from t at) ≡ Ok ((bare_item ended, mentions_at t (sites_if_any ended.0)), left_from t behind)
      → (at < behind) × (behind ≤ length t.tokens) → ItemsSoFar t behind (with_item items ended.0)
  unfolding with_one told_of
  items_more at behind items ended loop more read forth = go loop.most loop.enough loop.so_far
    where
      fewer : length (left_from t behind) < length (left_from t at)
      fewer = shorter_left t at behind forth.0 forth.1

      go : (most : ℕ) → length (left_from t at) ≤ most
          → with_earlier loop.found (to_end_at barred item_at most (left_from t at))
          ≡ all_to_end_at barred item_at (lexemes t)
          → ItemsSoFar t behind (with_item items ended.0)
      go zero enough e = absurd (let some = some_left at more in omega arith)
      go (suc most) enough e = record {
        found = loop.found ++ told_of t ended ∷ [];
        same = kept t items loop.found ended.0 ended.1 loop.same;
        most = most;
        enough = let less = fewer in omega arith;
        so_far = sym (ap (with_earlier loop.found) (one_more most (left_from t at) (some_left at more)
            ∙ ap (λ r. go_on r (with_one most)) read)
            ∙ regroup loop.found (told_of t ended) (to_end_at barred item_at most (left_from t behind))) ∙ e;
        within = forth.1;
      }

  -- one more is refused
  refuses_so : (at left most : ℕ) (found : List Told) → at < length t.tokens → free_item_at (left_from t at) ≡ Err left
      → length (left_from t at) ≤ most
      → with_earlier found (to_end_at barred item_at most (left_from t at)) ≡ all_to_end_at barred item_at (lexemes t)
      → items_at (lexemes t) ≡ Err left
  unfolding items_at
  refuses_so at left zero found more read enough e = absurd (let some = some_left at more in omega arith)
  refuses_so at left (suc most) found more read enough e =
      ap (λ r. go_on r (λ items. pure (drafts_of items))) (sym e ∙ ap (with_earlier found)
      (one_more most (left_from t at) (some_left at more) ∙ ap (λ r. go_on r (with_one most)) read))

  pub items_refused : {X : Type 0} (view : X → Told) (at : ℕ) (items : List Item) (fault : ItemFault)
      → ItemsSoFar t at items → at < length t.tokens
      → ReadsAs view t (Err fault) (free_item_at (left_from t at)) → ReadsAll t (Err fault)
  items_refused view at items OutOfMemory loop more read = tt
  items_refused view at items (CannotGoOn place) loop more read = (
    refuses_so at (length t.tokens - place) loop.most loop.found more read.0 loop.enough loop.so_far,
    read.1,
  )

  -- there is no other one
  no_more : (most : ℕ) → to_end_at barred item_at most [] ≡ Ok ([], [])
  unfolding to_end_at
  no_more zero = refl
  no_more (suc most) = refl

  pub items_end : (at : ℕ) (items : List Item) → ItemsSoFar t at items → length t.tokens ≤ at
      → items_at (lexemes t) ≡ Ok (map (draft_of t) items, [])
  unfolding items_at
  items_end at items loop all =
      ap (λ r. go_on r (λ items. pure (drafts_of items))) (sym loop.so_far
      ∙ ap (with_earlier loop.found) (ap (to_end_at barred item_at loop.most) (none_left t at all) ∙ no_more loop.most))
      ∙ ap (λ (items : List Told). Ok (drafts_of items, [])) (append-nil loop.found)
      ∙ ap (λ (drafts : List Draft). Ok (drafts, [])) (sym loop.same)
