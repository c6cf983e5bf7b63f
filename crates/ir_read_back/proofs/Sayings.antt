-- Names as they are printed, behind a sigil or before a colon, are tokens that say them.
use Rattle.std.proofs.Common.{◌≡◌, ℕ, ◌^◌, ◌<◌, drop, List, [], ◌∷◌, ◌++◌, IsTrue, refl, sym, ap, subst, ⊎_elim, ◌⊎◌, inl, inr, Some}
use Rattle.std.specs.Str.Parse.{digits_value}
use Rattle.std.proofs.lemmas.List.{same_from_push}
use Rattle.ir_text.specs.declared.token.TokenKind.TheVariants.{Label, Local, Global}
use Rattle.ir_text.specs.Names.{is_word, is_number, IsName}
use Rattle.ir_text.specs.Tokens.{HasForm, NumberFits}
use Rattle.ir_text.specs.Written.{Name, Text, Number, Says, SaysGlobal, IsQuoted, IsGlobal}
use Rattle.ir_text.specs.Language.{one}
use Rattle.ir_text.specs.Mentions.{UsesValue, UsesBlock, UsesGlobal, DefinesValue, DefinesBlock, silent, uses_value, uses_block, uses_global, defines_value, defines_block}
use Rattle.ir_lex.proofs.Plain.{Stops}
use Rattle.ir_lex.proofs.LongestName.{word-no_number, string-no_number}
use Rattle.ir_read_back.proofs.Named.{NameFits, Shows}
use Rattle.ir_read_back.proofs.Stands.{stands}
use Rattle.ir_read_back.proofs.Writes.{Writes, token_writes}

quoted_name : (written bytes : List ℕ) → IsQuoted written bytes → IsName written
quoted_name written bytes q = inr (inr (q.0, q.1, q.2))

said_name : (written : List ℕ) (name : Name) → Says written name → IsName written
said_name written (Text name) says =
    ⊎_elim (λ (h : IsTrue (is_word written) × (written ≡ name)). inl h.0)
    (λ (q : IsQuoted written name). quoted_name written name q) says
said_name written (Number n) says = inr (inl says.0)

said_global : (written name : List ℕ) → SaysGlobal written name → IsName written
said_global written name says =
    ⊎_elim (λ (h : IsTrue (is_word written) × (written ≡ name)). inl h.0)
    (λ (other : (IsTrue (is_number written) × (written ≡ name)) ⊎ IsQuoted written name).
    ⊎_elim (λ (h : IsTrue (is_number written) × (written ≡ name)). inr (inl h.0))
    (λ (q : IsQuoted written name). quoted_name written name q) other)
    says

-- the number of a name that is digits fits
said_fits : (written : List ℕ) (name : Name)
    → Says written name
    → NameFits name
    → IsTrue (is_number written)
    → digits_value 10 written < 2 ^ 64
said_fits written (Text name) says fits number =
    ⊎_elim (λ (h : IsTrue (is_word written) × (written ≡ name)). absurd (word-no_number written h.0 number))
    (λ (q : IsQuoted written name). absurd (string-no_number written (q.0, q.1, q.2) number)) says
said_fits written (Number n) says fits number = rw says.1 fits

local_form : (written : List ℕ) → IsName written → HasForm Local (37 ∷ written) []
unfolding HasForm
local_form written name = (written, refl, name, λ number. refl)

local_fits : (written : List ℕ) (name : Name) → Shows written name → NumberFits Local (37 ∷ written)
unfolding NumberFits
local_fits written name shows other same number =
    let is : written ≡ other = ap (λ l. drop 1 l) same in
    subst (λ w. digits_value 10 w < 2 ^ 64) is
    (said_fits written name shows.says shows.fits (subst (λ w. IsTrue (is_number w)) (sym is) number))

global_form : (written : List ℕ) → IsName written → HasForm Global (64 ∷ written) []
unfolding HasForm
global_form written name = (written, refl, name, λ number. refl)

global_fits : (text : List ℕ) → NumberFits Global text
unfolding NumberFits
global_fits text = tt

label_form : (written : List ℕ) → IsName written → HasForm Label (written ++ 58 ∷ []) []
unfolding HasForm
label_form written name = (written, refl, name)

label_fits : (written : List ℕ) (name : Name) → Shows written name → NumberFits Label (written ++ 58 ∷ [])
unfolding NumberFits
label_fits written name shows other same number =
    let is : written ≡ other = (same_from_push written other 58 58 same).0 in
    subst (λ w. digits_value 10 w < 2 ^ 64) is
    (said_fits written name shows.says shows.fits (subst (λ w. IsTrue (is_number w)) (sym is) number))

-- ---- values, blocks and globals

pub used_value_writes : (written : List ℕ) (name : Name)
    → Shows written name
    → Writes Stops uses_value (UsesValue name ∷ []) (37 ∷ written)
used_value_writes written name shows =
    token_writes Local (37 ∷ written) (name, (refl, (_, refl, (refl, written, refl, shows.says))))
    (λ next stops. stands Local (37 ∷ written) next (local_form written (said_name written name shows.says))
    (local_fits written name shows) stops)

pub used_block_writes : (written : List ℕ) (name : Name)
    → Shows written name
    → Writes Stops uses_block (UsesBlock name ∷ []) (37 ∷ written)
used_block_writes written name shows =
    token_writes Local (37 ∷ written) (name, (refl, (_, refl, (refl, written, refl, shows.says))))
    (λ next stops. stands Local (37 ∷ written) next (local_form written (said_name written name shows.says))
    (local_fits written name shows) stops)

pub defined_value_writes : (written : List ℕ) (name : Name)
    → Shows written name
    → Writes Stops defines_value (DefinesValue (Some name) ∷ []) (37 ∷ written)
defined_value_writes written name shows =
    token_writes Local (37 ∷ written) (name, (refl, (_, refl, (refl, written, refl, shows.says))))
    (λ next stops. stands Local (37 ∷ written) next (local_form written (said_name written name shows.says))
    (local_fits written name shows) stops)

pub defined_block_writes : (written : List ℕ) (name : Name)
    → Shows written name
    → Writes Stops defines_block (DefinesBlock (Some name) ∷ []) (written ++ 58 ∷ [])
defined_block_writes written name shows =
    token_writes Label (written ++ 58 ∷ []) (name, (refl, (_, refl, (refl, written, refl, shows.says))))
    (λ next stops. stands Label (written ++ 58 ∷ []) next (label_form written (said_name written name shows.says))
    (label_fits written name shows) stops)

pub used_global_writes : (written name : List ℕ)
    → SaysGlobal written name
    → Writes Stops uses_global (UsesGlobal name ∷ []) (64 ∷ written)
used_global_writes written name says =
    token_writes Global (64 ∷ written) (name, (refl, (_, refl, (refl, written, refl, says))))
    (λ next stops. stands Global (64 ∷ written) next (global_form written (said_global written name says))
    (global_fits _) stops)

pub global_writes : (written name : List ℕ)
    → SaysGlobal written name
    → Writes Stops (silent (one (IsGlobal name))) [] (64 ∷ written)
global_writes written name says =
    token_writes Global (64 ∷ written) (refl, (_, refl, (refl, written, refl, says)))
    (λ next stops. stands Global (64 ∷ written) next (global_form written (said_global written name says))
    (global_fits _) stops)
