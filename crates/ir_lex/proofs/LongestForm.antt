-- The longest form at the start of a text is the token there, if its number fits.
use Rattle.std.proofs.Common.{ℕ, ◌≡◌, ◌<◌, ◌≤◌, List, ◌++◌, length, take, drop, sym, ap, ◌∙◌, subst, ⊎_elim, arith, take-append-drop, length-take-le, Option, Some, None}
use Rattle.std.proofs.lemmas.List.{take_at}
use Rattle.ir_text.specs.Tokens.{HasForm, NumberFits, IsTokenAt}
use Rattle.ir_text.specs.declared.token.TokenKind.{TokenKind}
use Rattle.ir_lex.proofs.Forms.{FormAt, form_at}
use Rattle.ir_lex.proofs.LongestPlain.{IsBeaten}

-- The first n bytes are a token of the kind, and each other form at the start is shorter.
pub record IsToken (s : List ℕ) (kind : TokenKind) (n : ℕ) : Type 0 where
  pub within : n ≤ length s
  pub token : IsTokenAt kind (take n s) (drop n s)
  pub only : (m : ℕ) (other : TokenKind) → FormAt s m other → IsBeaten m other n kind

-- No token is at the start.
abbrev pub HasNoToken : List ℕ → Type 0
HasNoToken s = (kind : TokenKind) (text next : List ℕ) → text ++ next ≡ s → IsTokenAt kind text next → ⊥

abbrev pub IsFirstToken : List ℕ → Option (TokenKind × ℕ) → Type 0
IsFirstToken s None = HasNoToken s
IsFirstToken s (Some t) = IsToken s t.0 t.1

form_of : (s : List ℕ) (kind : TokenKind) (text next : List ℕ)
    → text ++ next ≡ s
    → HasForm kind text next
    → FormAt s (length text) kind
form_of s kind text next e form = subst (λ l. FormAt l (length text) kind) e (form_at kind text next form)

-- the longest form, whose number fits, is the token
pub found : (s : List ℕ) (kind : TokenKind) (n : ℕ)
    → n ≤ length s
    → HasForm kind (take n s) (drop n s)
    → NumberFits kind (take n s)
    → ((m : ℕ) (other : TokenKind) → FormAt s m other → IsBeaten m other n kind)
    → IsToken s kind n
found s kind n within form fits only =
    let size = length-take-le n s within in
    record {
      within = within;
      token = record {
        form = form;
        longest = λ other more rest e has.
            ⊎_elim
            (λ (short : length more < n). omega arith)
            (λ (same : (other ≡ kind) × (length more ≡ n)). omega arith)
            (only (length more) other (form_of s other more rest (e ∙ take-append-drop n s) has));
        fits = fits;
      };
      only = only;
    }

-- and where its number doesn't fit, there is none
pub unfit : (s : List ℕ) (kind : TokenKind) (n : ℕ)
    → n ≤ length s
    → HasForm kind (take n s) (drop n s)
    → (NumberFits kind (take n s) → ⊥)
    → ((m : ℕ) (other : TokenKind) → FormAt s m other → IsBeaten m other n kind)
    → HasNoToken s
unfit s kind n within form no_fit only other text next e token =
    let size = length-take-le n s within in
    let long = token.longest kind (take n s) (drop n s) (take-append-drop n s ∙ sym e) form in
    ⊎_elim
    (λ (short : length text < n). omega arith)
    (λ (same : (other ≡ kind) × (length text ≡ n)).
    let text_is : text ≡ take n s =
    sym (take_at text next n same.1)
    ∙ ap (λ l. take n l) e in
    let fits : NumberFits kind text = subst (λ k. NumberFits k text) same.0 token.fits in
    no_fit (subst (λ t. NumberFits kind t) text_is fits))
    (only (length text) other (form_of s other text next e token.form))

-- no form, no token
pub no_form : (s : List ℕ) → ((m : ℕ) (other : TokenKind) → FormAt s m other → ⊥) → HasNoToken s
no_form s none kind text next e token = none (length text) kind (form_of s kind text next e token.form)
