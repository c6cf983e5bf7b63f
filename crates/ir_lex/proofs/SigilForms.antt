-- Which forms a text that begins with a sigil may have, and which one that begins with none.
use Rattle.std.proofs.Common.{ℕ, suc, ◌≡◌, ◌<◌, ◌≤◌, true, false, eqb, List, ◌∷◌, get_or, drop, refl, sym, ap, ◌∙◌, arith}
use Rattle.std.proofs.lemmas.Bool.{and_parts, cond-false, ltb-true, eqb-true, false≢true}
use Rattle.ir_text.specs.Bytes.{is_letter, is_digit, begins_word, is_sign}
use Rattle.ir_text.specs.declared.token.TokenKind.{TokenKind}
use Rattle.ir_text.specs.declared.token.TokenKind.TheVariants.{Local, Global, Metadata, Group}
use Rattle.ir_lex.specs.Lengths.{string_len, name_len, tag_len}
use Rattle.ir_lex.specs.FirstToken.{begins_label, quoted_len}
use Rattle.ir_lex.proofs.BytesApart.{IsNoSigil, no_word-no_c}
use Rattle.ir_lex.proofs.LongestWord.{word_len-none}
use Rattle.ir_lex.proofs.LongestNumber.{number_len-none, signed_len-plain}
use Rattle.ir_lex.proofs.LongestString.{string_len-none}
use Rattle.ir_lex.proofs.LongestName.{name_len-none}
use Rattle.ir_lex.proofs.Forms.{PlainAt, as_word, as_label, as_numeral, as_quoted, as_sign, as_dots, FormAt, as_plain, as_local, as_global, as_metadata, as_group}

-- the first bytes of equal texts
pub heads : (b c : ℕ) (bs cs : List ℕ) → b ∷ bs ≡ c ∷ cs → b ≡ c
heads b c bs cs e = ap (λ l. get_or l 0 0) e

-- and what stands behind them
pub tails : (b c : ℕ) (bs cs : List ℕ) → b ∷ bs ≡ c ∷ cs → bs ≡ cs
tails b c bs cs e = ap (λ l. drop 1 l) e

-- a byte with which no plain token begins
pub record BeginsNoPlain (b : ℕ) : Type 0 where
  pub word : begins_word b ≡ false
  pub digit : is_digit b ≡ false
  pub quote : eqb b 34 ≡ false
  pub minus : eqb b 45 ≡ false
  pub sign : is_sign b ≡ false

pub label-colon : (s : List ℕ) → begins_label s ≡ true → (0 < name_len s) × (get_or s (name_len s) 0 ≡ 58)
unfolding begins_label
label-colon s h = let parts = and_parts _ _ h in (ltb-true _ _ parts.0, eqb-true _ _ parts.1)

pub quoted_len-other : (b : ℕ) (bs : List ℕ) → eqb b 99 ≡ false → quoted_len (b ∷ bs) ≡ string_len (b ∷ bs)
unfolding quoted_len
quoted_len-other b bs h = cond-false _ _ _ h

pub dot_begins : begins_word 46 ≡ true
unfolding begins_word is_letter
dot_begins = refl

pub no_plain : (b : ℕ) (bs : List ℕ) (n : ℕ) (kind : TokenKind)
    → BeginsNoPlain b
    → PlainAt (b ∷ bs) n kind
    → ⊥
no_plain b bs n _ h (as_word some le) = omega (arith, word_len-none b bs h.word)
no_plain b bs n _ h (as_label begins is) =
    omega (arith, (label-colon (b ∷ bs) begins).0, name_len-none b bs h.word h.digit h.quote)
no_plain b bs n _ h (as_numeral some is fits) =
    omega (arith, signed_len-plain b bs h.minus, number_len-none b bs h.digit)
no_plain b bs n _ h (as_quoted some is) =
    omega (arith, quoted_len-other b bs (no_word-no_c b h.word), string_len-none b bs h.quote)
no_plain b bs n _ h (as_sign cs e is_sign_c one) = false≢true (sym h.sign ∙ ap is_sign (heads _ _ _ _ e) ∙ is_sign_c)
no_plain b bs n _ h (as_dots rest e three) = false≢true (sym h.word ∙ ap begins_word (heads _ _ _ _ e) ∙ dot_begins)

percent : BeginsNoPlain 37
unfolding begins_word is_letter is_digit is_sign
percent = record { word = refl; digit = refl; quote = refl; minus = refl; sign = refl }

at_sign : BeginsNoPlain 64
unfolding begins_word is_letter is_digit is_sign
at_sign = record { word = refl; digit = refl; quote = refl; minus = refl; sign = refl }

bang : BeginsNoPlain 33
unfolding begins_word is_letter is_digit is_sign
bang = record { word = refl; digit = refl; quote = refl; minus = refl; sign = refl }

hash : BeginsNoPlain 35
unfolding begins_word is_letter is_digit is_sign
hash = record { word = refl; digit = refl; quote = refl; minus = refl; sign = refl }

pub only_local : (bs : List ℕ) (n : ℕ) (kind : TokenKind)
    → FormAt (37 ∷ bs) n kind
    → (kind ≡ Local) × (1 < n) × (n ≤ suc (name_len bs))
only_local bs n _ (as_plain p) = absurd (no_plain 37 bs n _ percent p)
only_local bs n _ (as_local cs e some le) = (refl, some, rw (tails _ _ _ _ e) le)
only_local bs n _ (as_global cs e some le) = absurd (let h = heads _ _ _ _ e in omega arith)
only_local bs n _ (as_metadata cs e some le) = absurd (let h = heads _ _ _ _ e in omega arith)
only_local bs n _ (as_group cs e some le) = absurd (let h = heads _ _ _ _ e in omega arith)

pub only_global : (bs : List ℕ) (n : ℕ) (kind : TokenKind)
    → FormAt (64 ∷ bs) n kind
    → (kind ≡ Global) × (1 < n) × (n ≤ suc (name_len bs))
only_global bs n _ (as_plain p) = absurd (no_plain 64 bs n _ at_sign p)
only_global bs n _ (as_global cs e some le) = (refl, some, rw (tails _ _ _ _ e) le)
only_global bs n _ (as_local cs e some le) = absurd (let h = heads _ _ _ _ e in omega arith)
only_global bs n _ (as_metadata cs e some le) = absurd (let h = heads _ _ _ _ e in omega arith)
only_global bs n _ (as_group cs e some le) = absurd (let h = heads _ _ _ _ e in omega arith)

pub only_metadata : (bs : List ℕ) (n : ℕ) (kind : TokenKind)
    → FormAt (33 ∷ bs) n kind
    → (kind ≡ Metadata) × (n ≤ suc (tag_len bs))
only_metadata bs n _ (as_plain p) = absurd (no_plain 33 bs n _ bang p)
only_metadata bs n _ (as_metadata cs e some le) = (refl, rw (tails _ _ _ _ e) le)
only_metadata bs n _ (as_local cs e some le) = absurd (let h = heads _ _ _ _ e in omega arith)
only_metadata bs n _ (as_global cs e some le) = absurd (let h = heads _ _ _ _ e in omega arith)
only_metadata bs n _ (as_group cs e some le) = absurd (let h = heads _ _ _ _ e in omega arith)

pub only_group : (bs : List ℕ) (n : ℕ) (kind : TokenKind)
    → FormAt (35 ∷ bs) n kind
    → (kind ≡ Group) × (1 < n) × (n ≤ suc (tag_len bs))
only_group bs n _ (as_plain p) = absurd (no_plain 35 bs n _ hash p)
only_group bs n _ (as_group cs e some le) = (refl, some, rw (tails _ _ _ _ e) le)
only_group bs n _ (as_local cs e some le) = absurd (let h = heads _ _ _ _ e in omega arith)
only_group bs n _ (as_global cs e some le) = absurd (let h = heads _ _ _ _ e in omega arith)
only_group bs n _ (as_metadata cs e some le) = absurd (let h = heads _ _ _ _ e in omega arith)

-- where no sigil stands, the form is a plain one
pub only_plain : (b : ℕ) (bs : List ℕ) (n : ℕ) (kind : TokenKind)
    → IsNoSigil b
    → FormAt (b ∷ bs) n kind
    → PlainAt (b ∷ bs) n kind
only_plain b bs n _ h (as_plain p) = p
only_plain b bs n _ h (as_local cs e some le) = absurd (h.percent (heads _ _ _ _ e))
only_plain b bs n _ h (as_global cs e some le) = absurd (h.at_sign (heads _ _ _ _ e))
only_plain b bs n _ h (as_metadata cs e some le) = absurd (h.bang (heads _ _ _ _ e))
only_plain b bs n _ h (as_group cs e some le) = absurd (h.hash (heads _ _ _ _ e))
