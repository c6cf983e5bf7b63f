-- The tokens of a text, from its end to its front.
use Rattle.std.proofs.Common.{ℕ, List, [], ◌∷◌, ◌++◌, IsTrue, refl, ap, inl}
use Rattle.ir_text.specs.Bytes.{is_blank, is_sign}
use Rattle.ir_text.specs.Names.{is_word}
use Rattle.ir_text.specs.declared.token.TokenKind.{TokenKind}
use Rattle.ir_text.specs.Tokens.{Lexeme, AreLexemes, end, more, IsTokenAt, none, blank}
use Rattle.ir_text.specs.Listed.{word, sign}
use Rattle.ir_lex.proofs.Plain.{Stops, Word-token, Sign-token}

-- The empty text has no tokens.
pub no_lexemes : AreLexemes [] []
no_lexemes = end [] [] refl none (inl refl)

-- A blank before a text leaves its tokens.
behind_blank : (b : ℕ) {rest : List ℕ} {lexemes : List Lexeme}
    → IsTrue (is_blank b)
    → AreLexemes rest lexemes
    → AreLexemes (b ∷ rest) lexemes
behind_blank b is_blank (end gap left bytes_are is_gap is_end) =
    end (b ∷ gap) left (ap (λ s. b ∷ s) bytes_are) (blank is_blank is_gap) is_end
behind_blank b is_blank (more kind gap text left bytes_are is_gap is_token others) =
    more kind (b ∷ gap) text left (ap (λ s. b ∷ s) bytes_are) (blank is_blank is_gap) is_token others

pub behind_space : {rest : List ℕ} {lexemes : List Lexeme}
    → AreLexemes rest lexemes
    → AreLexemes (32 ∷ rest) lexemes
unfolding is_blank
behind_space tokens = behind_blank 32 refl tokens

pub behind_line_feed : {rest : List ℕ} {lexemes : List Lexeme}
    → AreLexemes rest lexemes
    → AreLexemes (10 ∷ rest) lexemes
unfolding is_blank
behind_line_feed tokens = behind_blank 10 refl tokens

-- A token before a text is its first.
pub behind_token : {kind : TokenKind} {text rest : List ℕ} {lexemes : List Lexeme}
    → IsTokenAt kind text rest
    → AreLexemes rest lexemes
    → AreLexemes (text ++ rest) (record { kind = kind; text = text } ∷ lexemes)
behind_token {kind} {text} {rest} is_token others = more kind [] text rest refl none is_token others

pub behind_word : {w rest : List ℕ} {lexemes : List Lexeme}
    → IsTrue (is_word w)
    → Stops rest
    → AreLexemes rest lexemes
    → AreLexemes (w ++ rest) (word w ∷ lexemes)
behind_word {w} {rest} is_word stops tokens = behind_token (Word-token w rest is_word stops) tokens

pub behind_sign : {b : ℕ} {rest : List ℕ} {lexemes : List Lexeme}
    → IsTrue (is_sign b)
    → AreLexemes rest lexemes
    → AreLexemes (b ∷ rest) (sign b ∷ lexemes)
behind_sign {b} {rest} is_sign tokens = behind_token (Sign-token b rest is_sign) tokens
