-- A text has no more tokens than bytes, and its tokens are real.
use Rattle.std.proofs.Common.{ℕ, ◌<◌, ◌≤◌, List, [], ◌∷◌, ◌++◌, length, inl, inr, ap, arith, length-append, IsTrue}
use Rattle.std.proofs.lemmas.Bool.{false≢true}
use Rattle.ir_text.specs.declared.token.TokenKind.{TokenKind}
use Rattle.ir_text.specs.declared.token.TokenKind.TheVariants.{Word, Label, Numeral, Local, Global, Metadata, Group, Quoted, Sign, Dots}
use Rattle.ir_text.specs.Names.{is_word, is_signed_number}
use Rattle.ir_text.specs.Tokens.{Placed, HasForm, Lexed, ends_whole, ends_bad, goes_on}
use Rattle.ir_grammar.specs.Spelled.{lexemes_of}
use Rattle.ir_printer.proofs.QuotedNames.{AreBytes}
use Rattle.ir_read_back.proofs.ByteNames.{bytes_front, bytes_behind, bytes_from}
use Rattle.ir_read_back.proofs.Real.{AreReal}

word_is_long : (text : List ℕ) → IsTrue (is_word text) → 0 < length text
unfolding is_word
word_is_long [] word = absurd (false≢true word)
word_is_long (b ∷ bs) word = omega arith

numeral_is_long : (text : List ℕ) → IsTrue (is_signed_number text) → 0 < length text
unfolding is_signed_number
numeral_is_long [] numeral = absurd (false≢true numeral)
numeral_is_long (b ∷ bs) numeral = omega arith

-- A token is no empty text.
pub token_is_long : (kind : TokenKind) (text next : List ℕ) → HasForm kind text next → 0 < length text
unfolding HasForm
token_is_long Word text next form = word_is_long text form
token_is_long Label text next (name, is, _) = omega (arith, ap length is, length-append name (58 ∷ []))
token_is_long Numeral text next form = numeral_is_long text form.0
token_is_long Local text next (name, is, _, _) = omega (arith, ap length is)
token_is_long Global text next (name, is, _, _) = omega (arith, ap length is)
token_is_long Metadata text next (inl is) = omega (arith, ap length is)
token_is_long Metadata text next (inr (name, is, _)) = omega (arith, ap length is)
token_is_long Group text next (name, is, _) = omega (arith, ap length is)
token_is_long Quoted text next (inl (inner, is, _)) = omega (arith, ap length is)
token_is_long Quoted text next (inr (string, is, _)) = omega (arith, ap length is)
token_is_long (Sign b) text next form = omega (arith, ap length form.0)
token_is_long Dots text next form = omega (arith, ap length form)

pub tokens_fewer : {at end : ℕ} {bytes : List ℕ} {placed : List Placed} → Lexed at bytes placed end
    → length placed ≤ length bytes
tokens_fewer (ends_whole gap rest are is_gap is_end) = omega arith
tokens_fewer (ends_bad gap rest are is_gap is_bad) = omega arith
tokens_fewer (goes_on kind gap text rest are is_gap is_token others) =
    omega (
      arith,
      tokens_fewer others,
      token_is_long kind text rest is_token.form,
      ap length are,
      length-append gap (text ++ rest),
      length-append text rest,
    )

-- Tokens of a text of bytes are real.
pub tokens_are_real : {at end : ℕ} {bytes : List ℕ} {placed : List Placed} → Lexed at bytes placed end
    → AreBytes bytes → AreReal (lexemes_of placed)
tokens_are_real (ends_whole gap rest are is_gap is_end) all = tt
tokens_are_real (ends_bad gap rest are is_gap is_bad) all = tt
tokens_are_real (goes_on kind gap text rest are is_gap is_token others) all =
    let behind : AreBytes (text ++ rest) = bytes_behind gap (text ++ rest) (bytes_from are all) in (
      record { next = rest; token = is_token; bytes = bytes_front text rest behind },
      tokens_are_real others (bytes_behind text rest behind),
    )
