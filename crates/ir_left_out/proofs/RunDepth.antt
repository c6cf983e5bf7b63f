-- Passed-on words and the type behind them leave all brackets that they enter, and have no `call` outside.
use Rattle.std.proofs.Common.{◌≡◌, ℕ, suc, Bool, true, false, ◌||◌, ◌==◌, List, [], ◌∷◌, ◌++◌, Some, inl, inr, refl, ap, ◌∙◌, append_assoc, add-one, arith, codes}
use Rattle.std.specs.Option.{option_and_then}
use Rattle.std.specs.Str.{bytes_eq}
use Rattle.std.proofs.lemmas.Bool.{eqb-true}
use Rattle.std.proofs.lemmas.Slice.Eq.{bytes_eq-Decides}
use Rattle.ir_model.specs.declared.types.IrType.{IrType}
use Rattle.ir_model.specs.declared.types.IrType.TheVariants.{Void, Int, Ptr}
use Rattle.ir_text.specs.declared.token.TokenKind.{TokenKind}
use Rattle.ir_text.specs.declared.token.TokenKind.TheVariants.{Word, Numeral, Group, Quoted, Sign}
use Rattle.ir_text.specs.Tokens.{Lexeme}
use Rattle.ir_text.specs.Listed.{word, sign}
use Rattle.ir_model.specs.Kinds.{IsReturned}
use Rattle.ir_text.specs.Types.{SpellsTypeOf}
use Rattle.ir_text.specs.PassedOn.{opening_words, is_among, IsPassedWord, Closes, is_bracket, IsBalanced, in_parentheses, IsPiece, ArePieces}
use Rattle.ir_text.specs.PassedOn.IsBalanced.{none, plain, nested}
use Rattle.ir_grammar.specs.Spelled.{begun_call}
use Rattle.ir_left_out.specs.Begun.{deeper_by_sign, deeper, depth_before}

-- ---- one more token

-- A token leaves the place before it as deep as it finds the place behind it.
abbrev Keeps : ℕ → Lexeme → Type 0
Keeps depth t = deeper t.kind t.text depth ≡ Some depth

-- one more token, by how deep the place behind it stands
one_more : (t : Lexeme) (ts : List Lexeme) (depth before : ℕ) → depth_before ts ≡ Some depth
    → deeper t.kind t.text depth ≡ Some before → depth_before (t ∷ ts) ≡ Some before
one_more t ts depth before e step = ap (option_and_then (λ depth. deeper t.kind t.text depth)) e ∙ step

-- ---- brackets

-- what is none of six is none of three of them, and none of the other three
no_bracket : (a b c d e f : Bool) → (((((a || b) || c) || d) || e) || f) ≡ false
    → ((b || (d || f)) ≡ false) × ((a || (c || e)) ≡ false)
no_bracket false false false false false false unlike = (refl, refl)
no_bracket _ _ _ _ _ _ unlike = absurd cc

-- inside some bracket
no_zero : (depth : ℕ) → (suc depth == 0) ≡ false
no_zero depth = decide (suc depth == 0) refl
  where
    decide : (b : Bool) → (suc depth == 0) ≡ b → (suc depth == 0) ≡ false
    decide false e = e
    decide true e = let same = eqb-true (suc depth) 0 e in absurd (omega arith)

-- Inside brackets every word stands as deep as what is behind it.
inside_word : (text : List ℕ) (depth : ℕ) → deeper Word text (suc depth) ≡ Some (suc depth)
unfolding deeper
inside_word text depth = rw (no_zero depth) refl

-- so does a sign that is no bracket, anywhere
plain_sign : (b depth : ℕ) → is_bracket (Sign b) ≡ false → deeper_by_sign b depth ≡ Some depth
unfolding deeper_by_sign
plain_sign b depth unlike =
    let parts = no_bracket (b == 40) (b == 41) (b == 91) (b == 93) (b == 123) (b == 125) unlike in
    rw (parts.0, parts.1) refl

-- and every token that is no bracket, inside brackets
plain_inside : (kind : TokenKind) (text : List ℕ) (depth : ℕ) → is_bracket kind ≡ false
    → deeper kind text (suc depth) ≡ Some (suc depth)
unfolding deeper
plain_inside Word text depth unlike = inside_word text depth
plain_inside (Sign b) text depth unlike = plain_sign b (suc depth) unlike
plain_inside _ text depth unlike = refl

-- An opening bracket is one bracket less, seen from its end, and a closing one is one more.
opens : (opening closing depth : ℕ) → Closes opening closing → deeper_by_sign opening (suc depth) ≡ Some depth
unfolding deeper_by_sign
opens opening closing depth (inl l) = rw l.0 refl
opens opening closing depth (inr (inl l)) = rw l.0 refl
opens opening closing depth (inr (inr l)) = rw l.0 refl

closes : (opening closing depth : ℕ) → Closes opening closing → deeper_by_sign closing depth ≡ Some (suc depth)
unfolding deeper_by_sign
closes opening closing depth (inl l) = rw (l.1, add-one depth) refl
closes opening closing depth (inr (inl l)) = rw (l.1, add-one depth) refl
closes opening closing depth (inr (inr l)) = rw (l.1, add-one depth) refl

-- the same of the tokens that begin with it
opening_token : (opening closing : ℕ) (ts : List Lexeme) (depth : ℕ) → Closes opening closing
    → depth_before ts ≡ Some (suc depth) → depth_before (sign opening ∷ ts) ≡ Some depth
unfolding deeper
opening_token opening closing ts depth pair e =
    one_more (sign opening) ts (suc depth) depth e (opens opening closing depth pair)

closing_token : (opening closing : ℕ) (ts : List Lexeme) (depth : ℕ) → Closes opening closing
    → depth_before ts ≡ Some depth → depth_before (sign closing ∷ ts) ≡ Some (suc depth)
unfolding deeper
closing_token opening closing ts depth pair e =
    one_more (sign closing) ts depth (suc depth) e (closes opening closing depth pair)

-- Tokens whose brackets match stand, inside brackets, as deep as what is behind them.
balanced : (us : List Lexeme) → IsBalanced us → (ts : List Lexeme) (depth : ℕ) → depth_before ts ≡ Some (suc depth)
    → depth_before (us ++ ts) ≡ Some (suc depth)
balanced us none ts depth e = e
balanced us (plain {t = t} {ts = vs} unlike inside) ts depth e =
    one_more t (vs ++ ts) (suc depth) (suc depth) (balanced vs inside ts depth e)
    (plain_inside t.kind t.text depth unlike)
balanced us (nested opening closing inner rest parts pair inside others) ts depth e =
    let behind : depth_before (sign closing ∷ (rest ++ ts)) ≡ Some (suc (suc depth)) =
    closing_token opening closing (rest ++ ts) (suc depth) pair (balanced rest others ts depth e) in
    ap (λ (us : List Lexeme). depth_before (us ++ ts)) parts
    ∙ (ap (λ (ts : List Lexeme). depth_before (sign opening ∷ ts)) (append_assoc inner (sign closing ∷ rest) ts)
    ∙ opening_token opening closing (inner ++ (sign closing ∷ (rest ++ ts))) (suc depth) pair
    (balanced inner inside (sign closing ∷ (rest ++ ts)) (suc depth) behind))

-- `(` and `)`
round : Closes 40 41
round = inl (refl, refl)

-- Such tokens within parentheses do so outside brackets too.
parenthesised : (us : List Lexeme) → in_parentheses us → (ts : List Lexeme) → depth_before ts ≡ Some 0
    → depth_before (us ++ ts) ≡ Some 0
parenthesised us (first, others, parts, opening, (inner, last, seam, inside, closing)) ts e =
    let whole : us ≡ sign 40 ∷ (inner ++ sign 41 ∷ []) = rw (parts, opening, seam, closing) refl in
    ap (λ (us : List Lexeme). depth_before (us ++ ts)) whole
    ∙ (ap (λ (ts : List Lexeme). depth_before (sign 40 ∷ ts)) (append_assoc inner (sign 41 ∷ []) ts)
    ∙ opening_token 40 41 (inner ++ sign 41 ∷ ts) 0 round
    (balanced inner inside (sign 41 ∷ ts) 0 (closing_token 40 41 ts 0 round e)))

-- ---- pieces

-- outside brackets a word that isn't `call`
no_call : (text : List ℕ) → bytes_eq text (codes "call") ≡ false → deeper Word text 0 ≡ Some 0
unfolding deeper
no_call text other = rw other refl

-- The word `call` begins an instruction, so it isn't passed on.
passed_is_no_call : (text : List ℕ) → IsPassedWord text → bytes_eq text (codes "call") ≡ false
passed_is_no_call text is = decide (bytes_eq text (codes "call")) refl
  where
    call_opens : is_among opening_words (codes "call") ≡ true
    call_opens = refl

    decide : (b : Bool) → bytes_eq text (codes "call") ≡ b → bytes_eq text (codes "call") ≡ false
    decide false e = e
    decide true e =
        let same : text ≡ codes "call" = (bytes_eq-Decides text (codes "call")).0 e in
        let opens : is_among opening_words text ≡ true = ap (is_among opening_words) same ∙ call_opens in
        let unlike : is_among opening_words text ≡ false = is.no_opening in
        absurd cc

-- what pieces are made of, outside brackets
passed_keeps : (t : Lexeme) → t.kind ≡ Word → IsPassedWord t.text → Keeps 0 t
passed_keeps t kind is = rw kind (no_call t.text (passed_is_no_call t.text is))

-- one more such token
keeps : (t : Lexeme) (ts : List Lexeme) → Keeps 0 t → depth_before ts ≡ Some 0 → depth_before (t ∷ ts) ≡ Some 0
keeps t ts step e = one_more t ts 0 0 e step

quoted_keeps : (t : Lexeme) → t.kind ≡ Quoted → Keeps 0 t
unfolding deeper
quoted_keeps t e = rw e refl

numeral_keeps : (t : Lexeme) → t.kind ≡ Numeral → Keeps 0 t
unfolding deeper
numeral_keeps t e = rw e refl

group_keeps : (t : Lexeme) → t.kind ≡ Group → Keeps 0 t
unfolding deeper
group_keeps t e = rw e refl

equals_keeps : Keeps 0 (sign 61)
unfolding deeper deeper_by_sign
equals_keeps = refl

-- A piece of a run leaves the place before it outside brackets.
piece : (us : List Lexeme) → IsPiece us → (ts : List Lexeme) → depth_before ts ≡ Some 0
    → depth_before (us ++ ts) ≡ Some 0
piece us (inl l) ts e = rw l.1 (keeps l.0 ts (passed_keeps l.0 l.2.0 l.2.1) e)
piece us (inr (inl (first, others, parts, l, inside))) ts e =
    rw (parts, l.1) (keeps l.0 (others ++ ts) (passed_keeps l.0 l.2.0 l.2.1) (parenthesised others inside ts e))
piece us (inr (inr (inl (first, others, parts, inl is, number)))) ts e =
    rw (parts, is, number.1) (keeps (word (codes "align")) (number.0 ∷ ts) (no_call (codes "align") refl)
    (keeps number.0 ts (numeral_keeps number.0 number.2) e))
piece us (inr (inr (inl (first, others, parts, inr is, number)))) ts e =
    rw (parts, is, number.1) (keeps (word (codes "cc")) (number.0 ∷ ts) (no_call (codes "cc") refl)
    (keeps number.0 ts (numeral_keeps number.0 number.2) e))
piece us (inr (inr (inr (inl l)))) ts e = rw l.1 (keeps l.0 ts (quoted_keeps l.0 l.2.0) e)
piece us (inr (inr (inr (inr (inl (first, others, parts, l, (next, last, seam, equals, m))))))) ts e =
    rw (parts, l.1, seam, equals, m.1) (keeps l.0 (sign 61 ∷ (m.0 ∷ ts)) (quoted_keeps l.0 l.2.0)
    (keeps (sign 61) (m.0 ∷ ts) equals_keeps (keeps m.0 ts (quoted_keeps m.0 m.2.0) e)))
piece us (inr (inr (inr (inr (inr l))))) ts e = rw l.1 (keeps l.0 ts (group_keeps l.0 l.2.0) e)

-- and so do all of them, one after another
run : (pieces : List (List Lexeme)) (us : List Lexeme) → ArePieces pieces us → (ts : List Lexeme)
    → depth_before ts ≡ Some 0 → depth_before (us ++ ts) ≡ Some 0
run [] us l ts e = rw l e
run (next ∷ pieces) us (first, others, parts, (same, is), l) ts e =
    rw (parts, append_assoc first others ts)
    (piece first (rw same is) (others ++ ts) (run pieces others l ts e))

-- ---- types

-- `iN` is another word
int_is_no_call : (text digits : List ℕ) → text ≡ 105 ∷ digits → bytes_eq text (codes "call") ≡ false
int_is_no_call text digits e = rw e refl

-- A type that is returned is one word.
returned_type : (ret : IrType) (ts : List Lexeme) → SpellsTypeOf IsReturned ret ts → depth_before ts ≡ Some 0
returned_type Void ts l = rw l.1 (keeps (word (codes "void")) [] (no_call (codes "void") refl) refl)
returned_type Ptr ts l = rw l.1 (keeps (word (codes "ptr")) [] (no_call (codes "ptr") refl) refl)
returned_type (Int width) ts l =
    rw l.1.1 (keeps l.1.0 [] (rw l.1.2.0 (no_call l.1.0.text (int_is_no_call l.1.0.text l.1.2.1.0 l.1.2.1.1))) refl)
returned_type _ ts l = absurd l.0

-- ---- the whole

-- The place behind its `call` stands outside brackets, seen from the end of a call's beginning.
pub begun : (ts : List Lexeme) → begun_call ts
    → (rest : List Lexeme) × (ts ≡ word (codes "call") ∷ rest) × (depth_before rest ≡ Some 0)
begun ts (first, others, parts, is, (words, kind, seam, passed, ret)) = (
  others,
  parts ∙ ap (λ (first : List Lexeme). first ++ others) is,
  ap depth_before seam ∙ run passed.0 words passed.1 kind (returned_type ret.0 kind ret.1),
)
