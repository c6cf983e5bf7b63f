-- Where the text is refused, and what is read of one that isn't.
use Rattle.std.proofs.Common.{◌≡◌, ℕ, zero, suc, ◌-◌, ◌≤◌, ◌<◌, List, [], ◌∷◌, length, map, take, drop, Some, None, Ok, Err, refl, sym, ap, subst, ◌∙◌, arith}
use Rattle.std.specs.Prelude.{slice_get}
use Rattle.std.proofs.lemmas.List.{length-map}
use Rattle.std.proofs.lemmas.Option.{same_Some}
use Rattle.ir_model.specs.declared.item.Item.{Item}
use Rattle.ir_model.specs.declared.item.Module.{Module}
use Rattle.ir_text.specs.declared.token.Token.{Token}
use Rattle.ir_text.specs.Tokens.{Lexeme, Placed, Lexed}
use Rattle.ir_text.specs.Sites.{Draft}
use Rattle.ir_lex.specs.Tokenized.{Tokenized, lexeme_of, lexemes, placed_of, placed}
use Rattle.ir_lex.proofs.WithPlaces.{end_within}
use Rattle.ir_grammar.specs.Numbering.{IsNumberedModule}
use Rattle.ir_grammar.specs.Spelled.{lexemes_of, Spells, IsRefusal, IsLeftOut, refused_at, IsNotInGrammar, IsUnsupported}
use Rattle.ir_parts.specs.Places.{draft_of}
use Rattle.ir_left_out.specs.Named.{IsLeftOutAt}
use Rattle.ir_reader.specs.ItemsReading.{items_at}
use Rattle.ir_reader.specs.ModuleReading.{IsRefusedAt}
use Rattle.ir_reader.proofs.AllItems.{items_are_read}
use Rattle.ir_reader.proofs.Refusals.{refused_at_end, refused_there}

-- ---- the token at a place

first_dropped : {A : Type 0} (xs : List A) (at : ℕ) (x : A) → slice_get xs at ≡ Some x
    → drop at xs ≡ x ∷ drop (suc at) xs
first_dropped [] at x e = absurd cc
first_dropped (y ∷ xs) zero x e = ap (λ x. x ∷ xs) (same_Some y x e)
first_dropped (y ∷ xs) (suc at) x e = first_dropped xs at x e

got_first : {A : Type 0} (xs : List A) (at : ℕ) (x : A) (more : List A) → drop at xs ≡ x ∷ more
    → slice_get xs at ≡ Some x
got_first [] zero x more e = absurd cc
got_first [] (suc at) x more e = absurd cc
got_first (y ∷ xs) zero x more e = let same : y ≡ x = cc in ap (λ x. Some x) same
got_first (y ∷ xs) (suc at) x more e = got_first xs at x more e

-- the place of a refusal
pub place_there : (bytes : List ℕ) (tokens : List Token) (at end : ℕ) (token : Token)
    → slice_get tokens at ≡ Some token → token.from ≡ refused_at (drop at (map (placed_of bytes) tokens)) end
place_there bytes [] at end token e = absurd cc
place_there bytes (t ∷ tokens) zero end token e = ap (λ (t : Token). t.from) (sym (same_Some t token e))
place_there bytes (t ∷ tokens) (suc at) end token e = place_there bytes tokens at end token e

pub place_at_end : (bytes : List ℕ) (tokens : List Token) (at end : ℕ) → slice_get tokens at ≡ None
    → end ≡ refused_at (drop at (map (placed_of bytes) tokens)) end
place_at_end bytes [] zero end e = refl
place_at_end bytes [] (suc at) end e = refl
place_at_end bytes (t ∷ tokens) zero end e = absurd cc
place_at_end bytes (t ∷ tokens) (suc at) end e = place_at_end bytes tokens at end e

-- tokens with their places and without
same_lexemes : (bytes : List ℕ) (tokens : List Token)
    → lexemes_of (map (placed_of bytes) tokens) ≡ map (lexeme_of bytes) tokens
same_lexemes bytes [] = refl
same_lexemes bytes (t ∷ tokens) = ap (λ (ts : List Lexeme). lexeme_of bytes t ∷ ts) (same_lexemes bytes tokens)

same_before : (bytes : List ℕ) (tokens : List Token) (at : ℕ)
    → take at (map (lexeme_of bytes) tokens) ≡ lexemes_of (take at (map (placed_of bytes) tokens))
same_before bytes [] zero = refl
same_before bytes [] (suc at) = refl
same_before bytes (t ∷ tokens) zero = refl
same_before bytes (t ∷ tokens) (suc at) =
    ap (λ (ts : List Lexeme). lexeme_of bytes t ∷ ts) (same_before bytes tokens at)

-- ---- what is left out by name, and what isn't

pub unsupported : (t : Tokenized) (at end number place : ℕ) → IsLeftOutAt t at number place → IsRefusedAt t at end
    → IsUnsupported t.bytes number place
unsupported t at end number place l refused = record {
  before = take at (placed t);
  token = l.0;
  behind = drop (suc at) (placed t);
  end = end;
  refusal = subst (λ (behind : List Placed). IsRefusal t.bytes (take at (placed t)) behind end)
      (first_dropped (placed t) at l.0 l.1) refused;
  named = subst (λ (ts : List Lexeme). IsLeftOut ts l.0 number place) (same_before t.bytes t.tokens at) l.2;
}

pub not_in_grammar : (t : Tokenized) (at end : ℕ) → ((number place : ℕ) → IsLeftOutAt t at number place → ⊥)
    → IsRefusedAt t at end → IsNotInGrammar t.bytes (refused_at (drop at (placed t)) end)
not_in_grammar t at end none refused = record {
  before = take at (placed t);
  behind = drop at (placed t);
  end = end;
  refusal = refused;
  place = refl;
  named = λ token more is number place l.
      none number place (
        token,
        got_first (placed t) at token more is,
        subst (λ (ts : List Lexeme). IsLeftOut ts token number place) (sym (same_before t.bytes t.tokens at)) l,
      );
}

-- ---- what the items say

module _ (t : Tokenized) (end : ℕ) (lexed : Lexed 0 t.bytes (placed t) end) where
  pub items_refused_there : (at : ℕ) → items_at (lexemes t) ≡ Err (length t.tokens - at) → at ≤ length t.tokens
      → IsRefusedAt t at end
  items_refused_there at e within =
      let size : length (placed t) ≡ length t.tokens = length-map t.tokens (placed_of t.bytes) in
      refused_there items_are_read t.bytes (placed t) end lexed at (omega (arith, size, within))
      (ap items_at (same_lexemes t.bytes t.tokens) ∙ (e ∙ ap (λ (n : ℕ). Err (n - at)) (sym size)))

  -- all items are read, and the tokens end before the bytes do
  pub ended_before : (drafts : List Draft) → items_at (lexemes t) ≡ Ok (drafts, []) → end < length t.bytes
      → IsNotInGrammar t.bytes end
  ended_before drafts e short = record {
    before = placed t;
    behind = [];
    end = end;
    refusal = refused_at_end items_are_read t.bytes (placed t) end lexed drafts
        (ap items_at (same_lexemes t.bytes t.tokens) ∙ e) short;
    place = refl;
    named = λ token more is. absurd (let is = is in cc);
  }

  -- or where they end too
  pub module_spelled : (items : List Item) (m : Module) → items_at (lexemes t) ≡ Ok (map (draft_of t) items, [])
      → length t.bytes ≤ end → IsNumberedModule (map (draft_of t) items) m → Spells t.bytes m
  module_spelled items m e whole numbered =
      let within = end_within lexed in
      let same : end ≡ length t.bytes = omega (arith, within, whole) in
      record {
        placed = placed t;
        lexed = subst (λ (end : ℕ). Lexed 0 t.bytes (placed t) end) same lexed;
        drafts = map (draft_of t) items;
        spelled = (items_are_read.takes (lexemes_of (placed t)) [] (map (draft_of t) items)
            (ap items_at (same_lexemes t.bytes t.tokens) ∙ e)).0;
        numbered = numbered;
      }
