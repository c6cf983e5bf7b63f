-- The first token of a text that begins with a sigil.
use Rattle.std.proofs.Common.{ℕ, suc, ◌≡◌, ◌+◌, ◌^◌, ◌<◌, ◌≤◌, true, false, eqb, List, [], ◌∷◌, take, drop, refl, sym, ap, ⊎_elim, inl, inr, arith, add-one}
use Rattle.std.specs.Str.Parse.{digits_value}
use Rattle.std.proofs.lemmas.Bool.{cond_both, eqb-true, eqb-false, cases_lt}
use Rattle.ir_text.specs.Tokens.{HasForm, NumberFits}
use Rattle.ir_text.specs.declared.token.TokenKind.{TokenKind}
use Rattle.ir_text.specs.declared.token.TokenKind.TheVariants.{Local, Global, Metadata, Group}
use Rattle.ir_lex.specs.Lengths.{name_len, tag_len}
use Rattle.ir_lex.specs.FirstToken.{fits_unsigned, behind_one, local}
use Rattle.ir_lex.proofs.LongestName.{name_len-le, name_len-is, tag_len-le, tag_len-is}
use Rattle.ir_lex.proofs.Fits.{fits_unsigned-yes, fits_unsigned-no}
use Rattle.ir_lex.proofs.Forms.{FormAt}
use Rattle.ir_lex.proofs.SigilForms.{only_local, only_global, only_metadata, only_group}
use Rattle.ir_lex.proofs.LongestPlain.{IsBeaten}
use Rattle.ir_lex.proofs.LongestForm.{IsToken, HasNoToken, IsFirstToken, found, unfit, no_form}

pub local-form : (bs : List ℕ)
    → 0 < name_len bs
    → HasForm Local (take (suc (name_len bs)) (37 ∷ bs)) (drop (suc (name_len bs)) (37 ∷ bs))
unfolding HasForm
local-form bs some = let name = name_len-is bs some in (take (name_len bs) bs, refl, name.is_name, name.whole)

-- at most this long, so shorter or the same
pub beaten : (m n : ℕ) (other kind : TokenKind)
    → other ≡ kind
    → m ≤ n
    → IsBeaten m other n kind
beaten m n other kind same le =
    ⊎_elim (λ (short : m < n). inl short) (λ (long : n ≤ m). inr (same, omega arith)) (cases_lt m n)

pub local-only : (bs : List ℕ) (m : ℕ) (other : TokenKind)
    → FormAt (37 ∷ bs) m other
    → IsBeaten m other (suc (name_len bs)) Local
local-only bs m other form = let only = only_local bs m other form in beaten m _ other Local only.0 only.2

local-fits : (name : List ℕ) → fits_unsigned name ≡ true → NumberFits Local (37 ∷ name)
unfolding NumberFits
local-fits name fits other same number = fits_unsigned-yes other (rw (ap (λ l. drop 1 l) (sym same)) fits) number

local-unfit : (bs : List ℕ)
    → 0 < name_len bs
    → fits_unsigned (take (name_len bs) bs) ≡ false
    → NumberFits Local (37 ∷ take (name_len bs) bs)
    → ⊥
unfolding NumberFits
local-unfit bs some fits number =
    let name = name_len-is bs some in
    let wide = fits_unsigned-no (take (name_len bs) bs) name.is_name fits in
    let small : digits_value 10 (take (name_len bs) bs) < 2 ^ 64 = number (take (name_len bs) bs) refl wide.0 in
    omega arith

local-none : (bs : List ℕ) → name_len bs ≡ 0 → HasNoToken (37 ∷ bs)
local-none bs none = no_form (37 ∷ bs) (λ m other form. let only = only_local bs m other form in omega arith)

-- something of this length behind one byte, by whether there is anything
behind_cases : (s : List ℕ) (kind : TokenKind) (n : ℕ)
    → (n ≡ 0 → HasNoToken s)
    → (0 < n → IsToken s kind (suc n))
    → IsFirstToken s (behind_one kind n)
behind_cases s kind n none some =
    cond_both (eqb n 0) _ _ (IsFirstToken s)
    (λ e. none (eqb-true n 0 e))
    (λ e. let more : 0 < n = omega (arith, eqb-false n 0 e) in rw add-one (some more))

pub local_is_right : (bs : List ℕ) → IsFirstToken (37 ∷ bs) (local bs)
unfolding local
local_is_right bs =
    cond_both (fits_unsigned (take (name_len bs) bs)) _ _ (IsFirstToken (37 ∷ bs))
    (λ fits. behind_cases (37 ∷ bs) Local (name_len bs) (local-none bs)
    (λ some. found (37 ∷ bs) Local (suc (name_len bs)) (omega (arith, name_len-le bs)) (local-form bs some)
    (local-fits _ fits) (local-only bs)))
    (λ no_fit. ⊎_elim
    (λ (some : 0 < name_len bs). unfit (37 ∷ bs) Local (suc (name_len bs)) (omega (arith, name_len-le bs))
    (local-form bs some) (local-unfit bs some no_fit) (local-only bs))
    (λ (none : name_len bs ≤ 0). local-none bs (omega arith))
    (cases_lt 0 (name_len bs)))

pub global-form : (bs : List ℕ)
    → 0 < name_len bs
    → HasForm Global (take (suc (name_len bs)) (64 ∷ bs)) (drop (suc (name_len bs)) (64 ∷ bs))
unfolding HasForm
global-form bs some = let name = name_len-is bs some in (take (name_len bs) bs, refl, name.is_name, name.whole)

pub global-fits : (text : List ℕ) → NumberFits Global text
unfolding NumberFits
global-fits text = tt

pub global-only : (bs : List ℕ) (m : ℕ) (other : TokenKind)
    → FormAt (64 ∷ bs) m other
    → IsBeaten m other (suc (name_len bs)) Global
global-only bs m other form = let only = only_global bs m other form in beaten m _ other Global only.0 only.2

pub global_is_right : (bs : List ℕ) → IsFirstToken (64 ∷ bs) (behind_one Global (name_len bs))
global_is_right bs =
    behind_cases (64 ∷ bs) Global (name_len bs)
    (λ none. no_form (64 ∷ bs) (λ m other form. let only = only_global bs m other form in omega arith))
    (λ some. found (64 ∷ bs) Global (suc (name_len bs)) (omega (arith, name_len-le bs)) (global-form bs some)
    (global-fits _) (global-only bs))

metadata-alone : (bs : List ℕ) → HasForm Metadata (33 ∷ []) bs
unfolding HasForm
metadata-alone bs = inl refl

metadata-tagged : (bs : List ℕ)
    → 0 < tag_len bs
    → HasForm Metadata (take (suc (tag_len bs)) (33 ∷ bs)) (drop (suc (tag_len bs)) (33 ∷ bs))
unfolding HasForm
metadata-tagged bs some = inr (take (tag_len bs) bs, refl, tag_len-is bs some)

metadata-form : (bs : List ℕ) → HasForm Metadata (take (suc (tag_len bs)) (33 ∷ bs)) (drop (suc (tag_len bs)) (33 ∷ bs))
metadata-form bs =
    ⊎_elim
    (λ (some : 0 < tag_len bs). metadata-tagged bs some)
    (λ (none : tag_len bs ≤ 0). let is : tag_len bs ≡ 0 = omega arith in rw is (metadata-alone bs))
    (cases_lt 0 (tag_len bs))

metadata-fits : (text : List ℕ) → NumberFits Metadata text
unfolding NumberFits
metadata-fits text = tt

metadata-token : (bs : List ℕ) → IsToken (33 ∷ bs) Metadata (suc (tag_len bs))
metadata-token bs =
    found (33 ∷ bs) Metadata (suc (tag_len bs)) (omega (arith, tag_len-le bs)) (metadata-form bs) (metadata-fits _)
    (λ m other form. let only = only_metadata bs m other form in beaten m _ other Metadata only.0 only.1)

pub metadata_is_right : (bs : List ℕ) → IsToken (33 ∷ bs) Metadata (tag_len bs + 1)
metadata_is_right bs = rw add-one (metadata-token bs)

group-form : (bs : List ℕ)
    → 0 < tag_len bs
    → HasForm Group (take (suc (tag_len bs)) (35 ∷ bs)) (drop (suc (tag_len bs)) (35 ∷ bs))
unfolding HasForm
group-form bs some = (take (tag_len bs) bs, refl, tag_len-is bs some)

group-fits : (text : List ℕ) → NumberFits Group text
unfolding NumberFits
group-fits text = tt

pub group_is_right : (bs : List ℕ) → IsFirstToken (35 ∷ bs) (behind_one Group (tag_len bs))
group_is_right bs =
    behind_cases (35 ∷ bs) Group (tag_len bs)
    (λ none. no_form (35 ∷ bs) (λ m other form. let only = only_group bs m other form in omega arith))
    (λ some. found (35 ∷ bs) Group (suc (tag_len bs)) (omega (arith, tag_len-le bs)) (group-form bs some) (group-fits _)
    (λ m other form. let only = only_group bs m other form in beaten m _ other Group only.0 only.2))
