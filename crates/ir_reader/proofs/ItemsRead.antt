-- What a reading of all items of a text says of their language.
use Rattle.std.proofs.Common.{◌≡◌, ℕ, suc, List, [], ◌∷◌, ◌++◌, length, Ok, Err, sym, ap, subst, ◌∙◌, append_assoc}
use Rattle.ir_text.specs.Tokens.{Lexeme}
use Rattle.ir_text.specs.Sites.{Draft}
use Rattle.ir_grammar.specs.Items.{SpellsItems}
use Rattle.ir_grammar.specs.Spelled.{Viable}
use Rattle.ir_parts.specs.Reading.{Read}
use Rattle.ir_parts.proofs.Readers.{same_read}

-- The tokens before a refusal begin a module; with the token at which it comes, the refusal stays.
pub record RefusedItems (read : Read (List Draft)) (ts : List Lexeme) (left : ℕ) : Type 0 where
  pub before : List Lexeme
  pub after : List Lexeme
  pub parts : ts ≡ before ++ after
  pub so_many : length after ≡ left
  pub begun : Viable before
  pub stays : (t : Lexeme) (behind instead : List Lexeme) → after ≡ t ∷ behind
      → read (before ++ t ∷ instead) ≡ Err (suc (length instead))

-- The reading takes exactly all items to the end, and refuses at the first token with which no module goes on.
pub record ReadsItems (read : Read (List Draft)) : Type 0 where
  pub takes : (ts rest : List Lexeme) (drafts : List Draft) → read ts ≡ Ok (drafts, rest)
      → SpellsItems drafts ts × (rest ≡ [])
  pub reads : (drafts : List Draft) (ts : List Lexeme) → SpellsItems drafts ts → read ts ≡ Ok (drafts, [])
  pub refuses : (ts : List Lexeme) (left : ℕ) → read ts ≡ Err left → RefusedItems read ts left

module _ {read : Read (List Draft)} (r : ReadsItems read) where
  -- no module goes on with the token of a refusal
  pub none_goes_on : (ts : List Lexeme) (left : ℕ) (f : RefusedItems read ts left) (t : Lexeme) (behind : List Lexeme)
      → f.after ≡ t ∷ behind → Viable (f.before ++ t ∷ []) → ⊥
  none_goes_on ts left f t behind is viable =
      let whole : read (f.before ++ t ∷ viable.others) ≡ Ok (viable.drafts, []) =
      r.reads viable.drafts (f.before ++ t ∷ viable.others)
      (subst (λ (ts : List Lexeme). SpellsItems viable.drafts ts) (append_assoc f.before (t ∷ []) viable.others)
      viable.spelled) in
      let both = sym (f.stays t behind viable.others is) ∙ whole in
      cc

  -- what is refused is no module
  pub none_whole : (ts : List Lexeme) (left : ℕ) → read ts ≡ Err left → (drafts : List Draft) → SpellsItems drafts ts →
      ⊥
  none_whole ts left e drafts spelled = let both = sym e ∙ r.reads drafts ts spelled in cc

  -- a text has one list of items
  pub one_list : (drafts others : List Draft) (ts : List Lexeme) → SpellsItems drafts ts → SpellsItems others ts
      → drafts ≡ others
  one_list drafts others ts first second =
      ap (λ (p : List Draft × List Lexeme). p.0)
      (same_read (drafts, []) (others, []) (sym (r.reads drafts ts first) ∙ r.reads others ts second))
