-- The three ways in which a token is left out by name.
use Rattle.std.proofs.Common.{◌≡◌, ℕ, zero, suc, ◌+◌, List, [], ◌∷◌, map, take, drop, Some, inl, inr, refl, sym, ap, subst, ◌∙◌}
use Rattle.std.specs.Prelude.{slice_get}
use Rattle.std.proofs.lemmas.Option.{same_Some}
use Rattle.ir_text.specs.declared.token.Token.{Token}
use Rattle.ir_text.specs.Tokens.{Placed}
use Rattle.ir_lex.specs.Tokenized.{Tokenized, lexeme_of, lexemes, placed_of, placed}
use Rattle.ir_grammar.specs.Spelled.{IsLeftOutToken, IsLeftOut}
use Rattle.ir_parts.specs.Reading.{left_from, begins}
use Rattle.ir_left_out.specs.Named.{IsLeftOutAt}
use Rattle.ir_left_out.specs.Begun.{is_intrinsic_token, CallsIntrinsic}
use Rattle.ir_left_out.specs.Layouts.{IsFaultyLayout}
use Rattle.ir_left_out.proofs.CallFound.{intrinsic_there, intrinsic_back}

-- the token at a place is the first of those that are left
first_left : (bytes : List ℕ) (tokens : List Token) (at : ℕ) (token : Placed)
    → slice_get (map (placed_of bytes) tokens) at ≡ Some token
    → drop at (map (lexeme_of bytes) tokens) ≡ token.lexeme ∷ drop (suc at) (map (lexeme_of bytes) tokens)
first_left bytes [] at token e = absurd cc
first_left bytes (t ∷ tokens) zero token e =
    ap (λ (p : Placed). p.lexeme ∷ map (lexeme_of bytes) tokens) (same_Some (placed_of bytes t) token e)
first_left bytes (t ∷ tokens) (suc at) token e = first_left bytes tokens at token e

-- so the test of the first is its test
begins_there : (t : Tokenized) (at : ℕ) (token : Placed) → slice_get (placed t) at ≡ Some token
    → begins is_intrinsic_token (left_from t at) ≡ is_intrinsic_token token.lexeme
begins_there t at token is = ap (begins is_intrinsic_token) (first_left t.bytes t.tokens at token is)

-- ---- each of the three

-- A token of the list is left out at its first byte.
pub named_token : (t : Tokenized) (at number : ℕ) (token : Placed) → slice_get (placed t) at ≡ Some token
    → IsLeftOutToken token.lexeme number → IsLeftOutAt t at number token.from
named_token t at number token is l = (token, is, inl (l, refl))

-- A data layout is left out where the specification begins.
pub named_layout : (t : Tokenized) (at number behind : ℕ) (token : Placed) → slice_get (placed t) at ≡ Some token
    → IsFaultyLayout (take at (lexemes t)) token.lexeme number behind → IsLeftOutAt t at number (token.from + behind)
named_layout t at number behind token is (ends, kind, (inner, text, offset, fault, place)) = (
  token,
  is,
  inr (inl (ends.0, ends.1, kind, inner, text, offset, fault, ap (λ (n : ℕ). token.from + n) place)),
)

-- The callee of a call whose name begins `llvm.` is left out at its first byte.
pub named_callee : (t : Tokenized) (at : ℕ) (token : Placed) → slice_get (placed t) at ≡ Some token
    → CallsIntrinsic (take at (lexemes t)) (left_from t at) → IsLeftOutAt t at 6 token.from
named_callee t at token is l =
    let name = intrinsic_there token.lexeme (sym (begins_there t at token is) ∙ l.1) in
    (token, is, inr (inr (l.0.0, l.0.1, l.0.2, l.0.3, name.0, name.1, name.2, refl, refl)))

-- ---- none of them

-- What is none of the three is left out under no number.
pub not_named : (t : Tokenized) (at : ℕ) (token : Placed) → slice_get (placed t) at ≡ Some token
    → ((number : ℕ) → IsLeftOutToken token.lexeme number → ⊥)
    → ((number behind : ℕ) → IsFaultyLayout (take at (lexemes t)) token.lexeme number behind → ⊥)
    → (CallsIntrinsic (take at (lexemes t)) (left_from t at) → ⊥)
    → (number place : ℕ) → IsLeftOutAt t at number place → ⊥
not_named t at token is no_token no_layout no_callee number place (other, there, l) =
    decide (subst (λ (p : Placed). IsLeftOut (take at (lexemes t)) p number place)
    (same_Some other token (sym there ∙ is)) l)
  where
    decide : IsLeftOut (take at (lexemes t)) token number place → ⊥
    decide (inl l) = no_token number l.0
    decide (inr (inl l)) = no_layout number (1 + l.5) ((l.0, l.1), l.2, (l.3, l.4, l.5, l.6, refl))
    decide (inr (inr l)) = no_callee (
      (l.0, l.1, l.2, l.3),
      begins_there t at token is ∙ intrinsic_back token.lexeme (l.4, l.5, l.6),
    )
