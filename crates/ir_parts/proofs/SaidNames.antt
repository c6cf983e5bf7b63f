-- What a token says as a name is the name that it spells.
use Rattle.std.proofs.Common.{◌≡◌, ℕ, ◌-◌, Bool, true, false, ◌&&◌, if◌then◌else◌, List, [], ◌∷◌, ◌++◌, length, take, drop, Option, Some, None, ◌⊎◌, inl, inr, refl, sym, ap, subst, ◌∙◌, arith}
use Rattle.std.specs.Prelude.{nat_le, nat_lt}
use Rattle.std.specs.List.{list_all}
use Rattle.std.specs.Str.{bytes_eq}
use Rattle.std.specs.Str.Parse.{digits_value}
use Rattle.std.proofs.Math.Seq.{take-append_seam, drop-append_seam}
use Rattle.std.proofs.lemmas.Bool.{and_parts}
use Rattle.std.proofs.lemmas.List.{take-append-drop, length-append}
use Rattle.std.proofs.lemmas.Slice.Eq.{bytes_eq-Decides}
use Rattle.ir_text.specs.declared.token.TokenKind.{TokenKind}
use Rattle.ir_text.specs.declared.token.TokenKind.TheVariants.{Label, Local, Global}
use Rattle.ir_text.specs.Bytes.{is_digit, is_letter, begins_word}
use Rattle.ir_text.specs.Names.{is_word, is_number}
use Rattle.ir_text.specs.Tokens.{Lexeme}
use Rattle.ir_text.specs.Written.{Name, Text, Number, unescaped, IsQuoted, Says, SaysGlobal, IsLocal, IsLabel, IsGlobal}
use Rattle.ir_text.specs.Said.{inner_text, is_string_text, said, said_global_text, is_local_kind, is_label_kind, is_global_kind, said_local, said_label, said_global}
use Rattle.ir_lex.proofs.BytesApart.{digit-no_word}
use Rattle.ir_parts.proofs.StringTexts.{is_quoted_by, quoted_is_string, quoted_means}

-- ---- strings, words and digits apart

quoted_is_no_word : (text bytes : List ℕ) → IsQuoted text bytes → is_word text ≡ false
unfolding is_word begins_word is_letter
quoted_is_no_word text bytes l = rw l.1 refl

none_of_three : (a b : Bool) → (a && b && false) ≡ false
none_of_three true true = refl
none_of_three true false = refl
none_of_three false b = refl

quoted_is_no_number : (text bytes : List ℕ) → IsQuoted text bytes → is_number text ≡ false
unfolding is_number is_digit
quoted_is_no_number text bytes l =
    let quoted : List ℕ = 34 ∷ (l.0 ++ 34 ∷ []) in
    ap is_number l.1 ∙ none_of_three (nat_lt 0 (length quoted)) (nat_le (length quoted) 39)

number_is_no_word : (text : List ℕ) → is_number text ≡ true → is_word text ≡ false
unfolding is_number is_word
number_is_no_word [] e = refl
number_is_no_word (b ∷ bs) e =
    let digits = and_parts (nat_lt 0 (length (b ∷ bs)) && nat_le (length (b ∷ bs)) 39) (list_all is_digit (b ∷ bs)) e in
    let first = and_parts (is_digit b) (list_all is_digit bs) digits.1 in
    rw (digit-no_word b first.0) refl

-- ---- one of three

abbrev pick : {A : Type 0} → Bool → Bool → Bool → A → A → A → Option A
pick a b c x y z = if a then Some x else (if b then Some y else (if c then Some z else None))

picked : {A : Type 0} (a b c : Bool) (x y z n : A) → pick a b c x y z ≡ Some n
    → ((a ≡ true) × (x ≡ n)) ⊎ ((b ≡ true) × (y ≡ n)) ⊎ ((c ≡ true) × (z ≡ n))
picked true b c x y z n e = inl (refl, cc)
picked false true c x y z n e = inr (inl (refl, cc))
picked false false true x y z n e = inr (inr (refl, cc))
picked false false false x y z n e = absurd cc

pick_first : {A : Type 0} (a b c : Bool) (x y z : A) → a ≡ true → pick a b c x y z ≡ Some x
pick_first a b c x y z e = rw e refl

pick_second : {A : Type 0} (a b c : Bool) (x y z : A) → a ≡ false → b ≡ true → pick a b c x y z ≡ Some y
pick_second a b c x y z unlike e = rw (unlike, e) refl

pick_third : {A : Type 0} (a b c : Bool) (x y z : A) → a ≡ false → b ≡ false → c ≡ true → pick a b c x y z ≡ Some z
pick_third a b c x y z unlike also e = rw (unlike, also, e) refl

-- ---- what is written

says : (written : List ℕ) (name : Name) → said written ≡ Some name → Says written name
unfolding said
says written name e = elim (picked (is_word written) (is_number written) (is_string_text written) (Text written)
    (Number (digits_value 10 written)) (Text (unescaped (inner_text written))) name e) [
      | inl l ↦ subst (λ (name : Name). Says written name) l.1 (inl (l.0, refl))
      | inr (inl l) ↦ subst (λ (name : Name). Says written name) l.1 (l.0, refl)
      | inr (inr l) ↦ subst (λ (name : Name). Says written name) l.1 (inr (is_quoted_by written l.0))
    ]

is_said : (written : List ℕ) (name : Name) → Says written name → said written ≡ Some name
unfolding said
is_said written (Text name) (inl l) =
    pick_first (is_word written) (is_number written) (is_string_text written) (Text written)
    (Number (digits_value 10 written)) (Text (unescaped (inner_text written))) l.0
    ∙ ap (λ (name : List ℕ). Some (Text name)) l.1
is_said written (Text name) (inr l) =
    pick_third (is_word written) (is_number written) (is_string_text written) (Text written)
    (Number (digits_value 10 written)) (Text (unescaped (inner_text written)))
    (quoted_is_no_word written name l) (quoted_is_no_number written name l) (quoted_is_string written name l)
    ∙ ap (λ (name : List ℕ). Some (Text name)) (quoted_means written name l)
is_said written (Number n) l =
    pick_second (is_word written) (is_number written) (is_string_text written) (Text written)
    (Number (digits_value 10 written)) (Text (unescaped (inner_text written))) (number_is_no_word written l.0) l.0
    ∙ ap (λ (n : ℕ). Some (Number n)) l.1

says_global : (written name : List ℕ) → said_global_text written ≡ Some name → SaysGlobal written name
unfolding said_global_text
says_global written name e = elim (picked (is_word written) (is_number written) (is_string_text written) written written
    (unescaped (inner_text written)) name e) [
      | inl l ↦ inl (l.0, l.1)
      | inr (inl l) ↦ inr (inl (l.0, l.1))
      | inr (inr l) ↦ inr (inr (subst (λ (name : List ℕ). IsQuoted written name) l.1 (is_quoted_by written l.0)))
    ]

global_is_said : (written name : List ℕ) → SaysGlobal written name → said_global_text written ≡ Some name
unfolding said_global_text
global_is_said written name (inl l) =
    pick_first (is_word written) (is_number written) (is_string_text written) written written
    (unescaped (inner_text written)) l.0
    ∙ ap (λ (name : List ℕ). Some name) l.1
global_is_said written name (inr (inl l)) =
    pick_second (is_word written) (is_number written) (is_string_text written) written written
    (unescaped (inner_text written))
    (number_is_no_word written l.0) l.0
    ∙ ap (λ (name : List ℕ). Some name) l.1
global_is_said written name (inr (inr l)) =
    pick_third (is_word written) (is_number written) (is_string_text written) written written
    (unescaped (inner_text written))
    (quoted_is_no_word written name l) (quoted_is_no_number written name l) (quoted_is_string written name l)
    ∙ ap (λ (name : List ℕ). Some name) (quoted_means written name l)

-- ---- behind a sigil

pub sigil_first : (sigil : ℕ) (text : List ℕ) → bytes_eq (sigil ∷ []) (take 1 text) ≡ true → text ≡ sigil ∷ drop 1 text
sigil_first sigil [] e = absurd (let is : sigil ∷ [] ≡ [] = (bytes_eq-Decides (sigil ∷ []) []).0 e in cc)
sigil_first sigil (b ∷ bs) e = let is : sigil ∷ [] ≡ b ∷ [] = (bytes_eq-Decides (sigil ∷ []) (b ∷ [])).0 e in cc

local_kind : (kind : TokenKind) → is_local_kind kind ≡ true → kind ≡ Local
local_kind Local e = refl
local_kind _ e = absurd cc

global_kind : (kind : TokenKind) → is_global_kind kind ≡ true → kind ≡ Global
global_kind Global e = refl
global_kind _ e = absurd cc

pub where_true : {A : Type 0} (b : Bool) (o : Option A) (x : A) → ◌≡◌ {A = Option A} (if b then o else None) (Some x)
    → (b ≡ true) × (o ≡ Some x)
where_true true o x e = (refl, e)
where_true false o x e = absurd cc

pub local_there : (name : Name) (t : Lexeme) → said_local t ≡ Some name → IsLocal name t
unfolding said_local
local_there name t e =
    let found = where_true (is_local_kind t.kind && bytes_eq (37 ∷ []) (take 1 t.text)) (said (drop 1 t.text)) name e in
    let parts = and_parts (is_local_kind t.kind) (bytes_eq (37 ∷ []) (take 1 t.text)) found.0 in
    (local_kind t.kind parts.0, drop 1 t.text, sigil_first 37 t.text parts.1, says (drop 1 t.text) name found.1)

pub local_back : (name : Name) (t : Lexeme) → IsLocal name t → said_local t ≡ Some name
unfolding said_local
local_back name t is = rw (is.0, is.2) (is_said is.1 name is.3)

pub global_there : (name : List ℕ) (t : Lexeme) → said_global t ≡ Some name → IsGlobal name t
unfolding said_global
global_there name t e =
    let found = where_true (is_global_kind t.kind && bytes_eq (64 ∷ []) (take 1 t.text))
    (said_global_text (drop 1 t.text)) name e in
    let parts = and_parts (is_global_kind t.kind) (bytes_eq (64 ∷ []) (take 1 t.text)) found.0 in
    (global_kind t.kind parts.0, drop 1 t.text, sigil_first 64 t.text parts.1, says_global (drop 1 t.text) name found.1)

pub global_back : (name : List ℕ) (t : Lexeme) → IsGlobal name t → said_global t ≡ Some name
unfolding said_global
global_back name t is = rw (is.0, is.2) (global_is_said is.1 name is.3)

-- ---- before a colon

label_kind : (kind : TokenKind) → is_label_kind kind ≡ true → kind ≡ Label
label_kind Label e = refl
label_kind _ e = absurd cc

pub label_there : (name : Name) (t : Lexeme) → said_label t ≡ Some name → IsLabel name t
unfolding said_label
label_there name t e =
    let n : ℕ = length t.text - 1 in
    let found = where_true (is_label_kind t.kind && bytes_eq (58 ∷ []) (drop n t.text)) (said (take n t.text)) name e in
    let parts = and_parts (is_label_kind t.kind) (bytes_eq (58 ∷ []) (drop n t.text)) found.0 in
    let colon : 58 ∷ [] ≡ drop n t.text = (bytes_eq-Decides (58 ∷ []) (drop n t.text)).0 parts.1 in (
      label_kind t.kind parts.0,
      take n t.text,
      sym (take-append-drop n t.text) ∙ ap (λ (end : List ℕ). take n t.text ++ end) (sym colon),
      says (take n t.text) name found.1,
    )

-- what stands before the colon
before_colon : ℕ → List ℕ → Option Name
before_colon n text = if bytes_eq (58 ∷ []) (drop n text) then said (take n text) else None

label_said : (written : List ℕ) → before_colon (length (written ++ 58 ∷ []) - 1) (written ++ 58 ∷ []) ≡ said written
unfolding before_colon
label_said written =
    let text : List ℕ = written ++ 58 ∷ [] in
    let count : length text - 1 ≡ length written = omega (arith, length-append written (58 ∷ [])) in
    ap (λ (n : ℕ). before_colon n text) count
    ∙ (ap (λ (end : List ℕ). if bytes_eq (58 ∷ []) end then said (take (length written) text) else None)
    (drop-append_seam written (58 ∷ []))
    ∙ ap said (take-append_seam written (58 ∷ [])))

pub label_back : (name : Name) (t : Lexeme) → IsLabel name t → said_label t ≡ Some name
unfolding said_label before_colon
label_back name t is = rw (is.0, is.2) (label_said is.1 ∙ is_said is.1 name is.3)
