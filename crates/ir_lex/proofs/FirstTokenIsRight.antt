-- The first token that is computed of a text is the token that stands there; where none is computed, none does.
use Rattle.std.proofs.Common.{ℕ, ◌≡◌, ◌+◌, ◌^◌, ◌<◌, ◌≤◌, true, false, eqb, ltb, List, [], ◌∷◌, ◌++◌, length, take, drop, refl, sym, ap, ◌∙◌, ⊎_elim, inl, inr, arith}
use Rattle.std.specs.Str.Parse.{digits_value}
use Rattle.std.proofs.lemmas.Bool.{cond_both, ltb-true, ltb-false, eqb-true, eqb-false, cases_Bool, cases_lt}
use Rattle.std.proofs.lemmas.List.{take_more, get_or_past, same_from_push}
use Rattle.ir_text.specs.Bytes.{is_sign}
use Rattle.ir_text.specs.Names.{IsString}
use Rattle.ir_text.specs.Tokens.{HasForm, NumberFits}
use Rattle.ir_text.specs.declared.token.TokenKind.{TokenKind}
use Rattle.ir_text.specs.declared.token.TokenKind.TheVariants.{Word, Label, Numeral, Quoted, Sign, Dots}
use Rattle.ir_lex.specs.Lengths.{word_len, string_len, name_len, signed_len}
use Rattle.ir_lex.specs.FirstToken.{fits_unsigned, fits_signed, begins_label, begins_dots, quoted_len, if_fits, numeral_or_sign, plain, first_token}
use Rattle.ir_lex.proofs.LongestWord.{word_len-le, word_len-is}
use Rattle.ir_lex.proofs.LongestNumber.{signed_len-le, signed_len-is}
use Rattle.ir_lex.proofs.LongestString.{string_len-le, string_len-is}
use Rattle.ir_lex.proofs.LongestName.{name_len-le, name_len-is}
use Rattle.ir_lex.proofs.Fits.{fits_unsigned-yes, fits_unsigned-no, fits_signed-is}
use Rattle.ir_lex.proofs.Forms.{PlainAt, as_word, as_label, as_numeral, as_quoted, as_sign, as_dots, FormAt, as_plain, as_local, as_global, as_metadata, as_group, quoted_len-c}
use Rattle.ir_lex.proofs.BytesApart.{IsNoSigil}
use Rattle.ir_lex.proofs.SigilForms.{only_plain, label-colon, quoted_len-other}
use Rattle.ir_lex.proofs.LongestPlain.{IsBeaten, IsOther, only_label, only_quoted, only_dots, only_word, only_numeral, only_unfit, only_sign, only_none, dots-parts, quoted_len-c_none, quoted_len-nil}
use Rattle.ir_lex.proofs.LongestForm.{HasNoToken, IsFirstToken, found, unfit, no_form}
use Rattle.ir_lex.proofs.SigilTokens.{local_is_right, global_is_right, metadata_is_right, group_is_right}

-- the text of a label
pub label-text : (s : List ℕ)
    → begins_label s ≡ true
    → (name_len s < length s) × (take (name_len s + 1) s ≡ take (name_len s) s ++ 58 ∷ [])
label-text s h =
    let colon = label-colon s h in
    ⊎_elim
    (λ (within : name_len s < length s).
    (within, take_more s (name_len s) 0 within ∙ ap (λ c. take (name_len s) s ++ c ∷ []) colon.1))
    (λ (past : length s ≤ name_len s). absurd (omega (arith, get_or_past s (name_len s) 0 past)))
    (cases_lt (name_len s) (length s))

pub label-form : (s : List ℕ)
    → begins_label s ≡ true
    → HasForm Label (take (name_len s + 1) s) (drop (name_len s + 1) s)
unfolding HasForm
label-form s h = (take (name_len s) s, (label-text s h).1, (name_len-is s (label-colon s h).0).is_name)

label-fits : (s : List ℕ)
    → begins_label s ≡ true
    → fits_unsigned (take (name_len s) s) ≡ true
    → NumberFits Label (take (name_len s + 1) s)
unfolding NumberFits
label-fits s h fits name same number =
    let names : take (name_len s) s ≡ name =
    (same_from_push (take (name_len s) s) name 58 58 (sym (label-text s h).1 ∙ same)).0 in
    fits_unsigned-yes name (ap fits_unsigned (sym names) ∙ fits) number

label-unfit : (s : List ℕ)
    → begins_label s ≡ true
    → fits_unsigned (take (name_len s) s) ≡ false
    → NumberFits Label (take (name_len s + 1) s)
    → ⊥
unfolding NumberFits
label-unfit s h fits number =
    let wide = fits_unsigned-no (take (name_len s) s) (name_len-is s (label-colon s h).0).is_name fits in
    let small : digits_value 10 (take (name_len s) s) < 2 ^ 64 =
    number (take (name_len s) s) (label-text s h).1 wide.0 in
    omega arith

quoted-string : (s next : List ℕ) → IsString s → HasForm Quoted s next
unfolding HasForm
quoted-string s next q = inl q

quoted-c : (s next : List ℕ) → IsString s → HasForm Quoted (99 ∷ s) next
unfolding HasForm
quoted-c s next q = inr (s, refl, q)

quoted-form_c : (bs : List ℕ)
    → 0 < quoted_len (99 ∷ bs)
    → HasForm Quoted (take (quoted_len (99 ∷ bs)) (99 ∷ bs)) (drop (quoted_len (99 ∷ bs)) (99 ∷ bs))
quoted-form_c bs h =
    ⊎_elim
    (λ (some : 0 < string_len bs). rw (quoted_len-c bs some) (quoted-c _ _ (string_len-is bs some)))
    (λ (none : string_len bs ≤ 0). absurd (omega (arith, quoted_len-c_none bs (omega arith))))
    (cases_lt 0 (string_len bs))

quoted-form : (b : ℕ) (bs : List ℕ)
    → 0 < quoted_len (b ∷ bs)
    → HasForm Quoted (take (quoted_len (b ∷ bs)) (b ∷ bs)) (drop (quoted_len (b ∷ bs)) (b ∷ bs))
quoted-form b bs h =
    ⊎_elim
    (λ (e : eqb b 99 ≡ true). let c = eqb-true b 99 e in rw c (quoted-form_c bs (rw c at h)))
    (λ (e : eqb b 99 ≡ false). let is = quoted_len-other b bs e in
    rw is (quoted-string _ _ (string_len-is (b ∷ bs) (omega arith))))
    (cases_Bool (eqb b 99))

quoted-within : (b : ℕ) (bs : List ℕ) → quoted_len (b ∷ bs) ≤ length (b ∷ bs)
quoted-within b bs =
    ⊎_elim
    (λ (e : eqb b 99 ≡ true).
    let c = eqb-true b 99 e in
    rw c (⊎_elim
    (λ (some : 0 < string_len bs). omega (arith, quoted_len-c bs some, string_len-le bs))
    (λ (none : string_len bs ≤ 0). omega (arith, quoted_len-c_none bs (omega arith)))
    (cases_lt 0 (string_len bs))))
    (λ (e : eqb b 99 ≡ false). omega (arith, quoted_len-other b bs e, string_len-le (b ∷ bs)))
    (cases_Bool (eqb b 99))

quoted-fits : (text : List ℕ) → NumberFits Quoted text
unfolding NumberFits
quoted-fits text = tt

dots-form : (s : List ℕ) → begins_dots s ≡ true → HasForm Dots (take 3 s) (drop 3 s)
unfolding HasForm
dots-form s h = ap (λ l. take 3 l) (dots-parts s h).1

dots-within : (s : List ℕ) → begins_dots s ≡ true → 3 ≤ length s
dots-within s h = omega (arith, ap length (dots-parts s h).1)

dots-fits : (text : List ℕ) → NumberFits Dots text
unfolding NumberFits
dots-fits text = tt

pub word-form : (s : List ℕ) → 0 < word_len s → HasForm Word (take (word_len s) s) (drop (word_len s) s)
unfolding HasForm
word-form s h = word_len-is s h

pub word-fits : (text : List ℕ) → NumberFits Word text
unfolding NumberFits
word-fits text = tt

pub numeral-form : (s : List ℕ)
    → 0 < signed_len s
    → fits_signed (take (signed_len s) s) ≡ true
    → HasForm Numeral (take (signed_len s) s) (drop (signed_len s) s)
unfolding HasForm
numeral-form s h fits =
    let number = signed_len-is s h in (number.number, number.stops, (fits_signed-is _ number.number).0 fits)

pub numeral-fits : (text : List ℕ) → NumberFits Numeral text
unfolding NumberFits
numeral-fits text = tt

pub sign-form : (b : ℕ) (next : List ℕ) → is_sign b ≡ true → HasForm (Sign b) (b ∷ []) next
unfolding HasForm
sign-form b next h = (refl, h)

pub sign-fits : (b : ℕ) (text : List ℕ) → NumberFits (Sign b) text
unfolding NumberFits
sign-fits b text = tt

module _ (b : ℕ) (bs : List ℕ) (no_sigil : IsNoSigil b) where
  -- a fact on the plain forms is one on all
  pub all_plain : (n : ℕ) (kind : TokenKind)
      → ((m : ℕ) (other : TokenKind) → PlainAt (b ∷ bs) m other → IsBeaten m other n kind)
      → (m : ℕ) (other : TokenKind)
      → FormAt (b ∷ bs) m other
      → IsBeaten m other n kind
  all_plain n kind only m other form = only m other (only_plain b bs m other no_sigil form)

  no_plain_form : ((m : ℕ) (other : TokenKind) → PlainAt (b ∷ bs) m other → ⊥) → HasNoToken (b ∷ bs)
  no_plain_form none = no_form (b ∷ bs) (λ m other form. none m other (only_plain b bs m other no_sigil form))

  label_is_right : begins_label (b ∷ bs) ≡ true
      → IsFirstToken (b ∷ bs)
      (if_fits (fits_unsigned (take (name_len (b ∷ bs)) (b ∷ bs))) Label (name_len (b ∷ bs) + 1))
  label_is_right h =
      let s = b ∷ bs in
      let n = name_len s + 1 in
      let within : n ≤ length s = omega (arith, (label-text s h).0) in
      cond_both (fits_unsigned (take (name_len s) s)) _ _ (IsFirstToken s)
      (λ fits. found s Label n within (label-form s h) (label-fits s h fits) (all_plain n Label (only_label s h)))
      (λ no_fit. unfit s Label n within (label-form s h) (label-unfit s h no_fit) (all_plain n Label (only_label s h)))

  other_is_right : IsOther (b ∷ bs) → IsFirstToken (b ∷ bs) (numeral_or_sign (b ∷ bs))
  unfolding numeral_or_sign
  other_is_right other =
      let s = b ∷ bs in
      cond_both (ltb 0 (signed_len s)) _ _ (IsFirstToken s)
      (λ e.
      let some = ltb-true _ _ e in
      cond_both (fits_signed (take (signed_len s) s)) _ _ (IsFirstToken s)
      (λ fits. found s Numeral (signed_len s) (signed_len-le s) (numeral-form s some fits) (numeral-fits _)
      (all_plain (signed_len s) Numeral (only_numeral s other some)))
      (λ no_fit. no_plain_form (only_unfit s other some no_fit)))
      (λ e.
      let none : signed_len s ≡ 0 = omega (arith, ltb-false _ _ e) in
      cond_both (is_sign b) _ _ (IsFirstToken s)
      (λ sign. found s (Sign b) 1 (omega arith) (sign-form b bs sign) (sign-fits b _)
      (all_plain 1 (Sign b) (only_sign b bs other none)))
      (λ no_sign. no_plain_form (only_none b bs other none no_sign)))

  pub plain_is_right : IsFirstToken (b ∷ bs) (plain (b ∷ bs))
  unfolding plain
  plain_is_right =
      let s = b ∷ bs in
      cond_both (begins_label s) _ _ (IsFirstToken s)
      (λ label. label_is_right label)
      (λ no_label. cond_both (ltb 0 (quoted_len s)) _ _ (IsFirstToken s)
      (λ e. let some = ltb-true _ _ e in
      found s Quoted (quoted_len s) (quoted-within b bs) (quoted-form b bs some) (quoted-fits _)
      (all_plain (quoted_len s) Quoted (only_quoted s no_label some)))
      (λ e.
      let no_quoted : quoted_len s ≡ 0 = omega (arith, ltb-false _ _ e) in
      cond_both (begins_dots s) _ _ (IsFirstToken s)
      (λ dotted. found s Dots 3 (dots-within s dotted) (dots-form s dotted) (dots-fits _)
      (all_plain 3 Dots (only_dots s no_label no_quoted dotted)))
      (λ no_dots. cond_both (ltb 0 (word_len s)) _ _ (IsFirstToken s)
      (λ e. let some = ltb-true _ _ e in
      found s Word (word_len s) (word_len-le s) (word-form s some) (word-fits _)
      (all_plain (word_len s) Word (only_word s no_label no_quoted no_dots some)))
      (λ e. let no_word : word_len s ≡ 0 = omega (arith, ltb-false _ _ e) in
      other_is_right (record { no_label = no_label; no_quoted = no_quoted; no_word = no_word })))))

plain_nothing : (m : ℕ) (other : TokenKind) → PlainAt [] m other → ⊥
plain_nothing m _ (as_word some le) = omega (arith, word_len-le [])
plain_nothing m _ (as_label begins is) = omega (arith, (label-colon [] begins).0, name_len-le [])
plain_nothing m _ (as_numeral some is fits) = omega (arith, signed_len-le [])
plain_nothing m _ (as_quoted some is) = omega (arith, quoted_len-nil)
plain_nothing m _ (as_sign bs e is_sign_b one) = omega (arith, ap length e)
plain_nothing m _ (as_dots rest e three) = omega (arith, ap length e)

nothing : (m : ℕ) (other : TokenKind) → FormAt [] m other → ⊥
nothing m _ (as_plain p) = plain_nothing m _ p
nothing m _ (as_local bs e some le) = omega (arith, ap length e)
nothing m _ (as_global bs e some le) = omega (arith, ap length e)
nothing m _ (as_metadata bs e some le) = omega (arith, ap length e)
nothing m _ (as_group bs e some le) = omega (arith, ap length e)

pub first_token_is_right : (s : List ℕ) → IsFirstToken s (first_token s)
unfolding first_token
first_token_is_right [] = no_form [] nothing
first_token_is_right (b ∷ bs) =
    cond_both (eqb b 37) _ _ (IsFirstToken (b ∷ bs))
    (λ e. rw (eqb-true b 37 e) (local_is_right bs))
    (λ no_percent. cond_both (eqb b 64) _ _ (IsFirstToken (b ∷ bs))
    (λ e. rw (eqb-true b 64 e) (global_is_right bs))
    (λ no_at. cond_both (eqb b 33) _ _ (IsFirstToken (b ∷ bs))
    (λ e. rw (eqb-true b 33 e) (metadata_is_right bs))
    (λ no_bang. cond_both (eqb b 35) _ _ (IsFirstToken (b ∷ bs))
    (λ e. rw (eqb-true b 35 e) (group_is_right bs))
    (λ no_hash. plain_is_right b bs
    (record {
      percent = eqb-false _ _ no_percent;
      at_sign = eqb-false _ _ no_at;
      bang = eqb-false _ _ no_bang;
      hash = eqb-false _ _ no_hash;
    })))))
