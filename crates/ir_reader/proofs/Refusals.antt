-- Where all items of the tokens are read, and the tokens reach to the end, they make the module; else the text is
-- refused where the items are, or where the tokens end.
use Rattle.std.proofs.Common.{◌≡◌, ℕ, ◌-◌, ◌≤◌, ◌<◌, List, [], ◌∷◌, ◌++◌, length, take, drop, Ok, Err, sym, ap, subst, ◌∙◌, arith}
use Rattle.std.proofs.lemmas.List.{append-nil, length-map, length-drop, take-append-drop, map-append}
use Rattle.ir_text.specs.Tokens.{Lexeme, Placed, Lexed}
use Rattle.ir_text.specs.Sites.{Draft}
use Rattle.ir_grammar.specs.Items.{SpellsItems}
use Rattle.ir_grammar.specs.Spelled.{lexemes_of, SpellsNone, Viable, IsRefusal}
use Rattle.ir_lex.proofs.OneLexing.{one_lexing}
use Rattle.ir_parts.specs.Reading.{Read}
use Rattle.ir_parts.proofs.NoneGoesOn.{same_parts}
use Rattle.ir_reader.proofs.ItemsRead.{ReadsItems, none_goes_on, none_whole}

-- a bad byte before the end
pub bad_byte : (bytes : List ℕ) (placed : List Placed) (end : ℕ) → Lexed 0 bytes placed end → end < length bytes
    → SpellsNone bytes
bad_byte bytes placed end lexed short m spells =
    let same = one_lexing lexed spells.lexed in omega (arith, same.1)

module _ {read : Read (List Draft)} (r : ReadsItems read) (bytes : List ℕ) (placed : List Placed) (end : ℕ)
    (lexed : Lexed 0 bytes placed end) where
  -- the tokens before the bad byte are items
  pub refused_at_end : (drafts : List Draft) → read (lexemes_of placed) ≡ Ok (drafts, []) → end < length bytes
      → IsRefusal bytes placed [] end
  refused_at_end drafts e short = record {
    lexed = subst (λ (ps : List Placed). Lexed 0 bytes ps end) (sym (append-nil placed)) lexed;
    viable = record {
      others = [];
      drafts = drafts;
      spelled = subst (λ (ts : List Lexeme). SpellsItems drafts ts) (sym (append-nil (lexemes_of placed)))
          (r.takes (lexemes_of placed) [] drafts e).0;
    };
    stops = λ t more is. absurd (let is = is in cc);
    none = bad_byte bytes placed end lexed short;
  }

  none_spelled : (left : ℕ) → read (lexemes_of placed) ≡ Err left → SpellsNone bytes
  none_spelled left e m spells =
      let same = one_lexing lexed spells.lexed in
      none_whole r (lexemes_of placed) left e spells.drafts
      (subst (λ (ps : List Placed). SpellsItems spells.drafts (lexemes_of ps)) (sym same.0) spells.spelled)

  -- a token with which the items can't go on, or their end too early
  pub refused_there : (at : ℕ) → at ≤ length placed → read (lexemes_of placed) ≡ Err (length placed - at)
      → IsRefusal bytes (take at placed) (drop at placed) end
  refused_there at within e =
      let f = r.refuses (lexemes_of placed) (length placed - at) e in
      let whole : take at placed ++ drop at placed ≡ placed = take-append-drop at placed in
      let split : lexemes_of (take at placed) ++ lexemes_of (drop at placed) ≡ f.before ++ f.after =
      sym (map-append (λ (p : Placed). p.lexeme) (take at placed) (drop at placed)) ∙ (ap lexemes_of whole ∙ f.parts) in
      let long : length (lexemes_of (drop at placed)) ≡ length f.after =
      length-map (drop at placed) (λ (p : Placed). p.lexeme) ∙ (length-drop at placed ∙ sym f.so_many) in
      let same = same_parts (lexemes_of (take at placed)) f.before (lexemes_of (drop at placed)) f.after split long in
      record {
        lexed = subst (λ (ps : List Placed). Lexed 0 bytes ps end) (sym whole) lexed;
        viable = subst Viable (sym same.0) f.begun;
        stops = λ t more is viable.
            none_goes_on r (lexemes_of placed) (length placed - at) f t.lexeme (lexemes_of more)
            (sym same.1 ∙ ap lexemes_of is)
            (subst (λ (ts : List Lexeme). Viable (ts ++ t.lexeme ∷ [])) same.0 viable);
        none = none_spelled (length placed - at) e;
      }
