-- Text that is passed on is the tokens that it was passed on for.
use Rattle.std.proofs.Common.{◌≡◌, ℕ, Bool, true, false, cond, ◌||◌, ◌&&◌, List, [], ◌∷◌, ◌++◌, refl, sym, subst, inl, inr, append_assoc}
use Rattle.std.proofs.lemmas.Bool.{cases_Bool, and_parts, eqb-true, false≢true}
use Rattle.ir_text.specs.declared.token.TokenKind.{TokenKind}
use Rattle.ir_text.specs.declared.token.TokenKind.TheVariants.{Word, Label, Numeral, Local, Global, Metadata, Group, Quoted, Sign, Dots}
use Rattle.ir_text.specs.Bytes.{is_sign}
use Rattle.ir_text.specs.Tokens.{Lexeme, AreLexemes, HasForm, IsTokenAt}
use Rattle.ir_text.specs.Listed.{sign}
use Rattle.ir_text.specs.Language.{Language}
use Rattle.ir_text.specs.Mentions.{silent}
use Rattle.ir_text.specs.PassedOn.{is_sign_kind, is_sign_token, is_string, is_string_next, stand_close, spaced, passed_text, SpellsWords}
use Rattle.ir_grammar.specs.Operations.{SpellsAlign, SpellsTail}
use Rattle.ir_grammar.specs.Printing.{behind_space, before_space, align_text}
use Rattle.ir_lex.proofs.Plain.{Stops, Sign-token}
use Rattle.ir_read_back.proofs.Words.{comma_is_sign}
use Rattle.ir_read_back.proofs.Real.{IsReal, AreReal}
use Rattle.ir_read_back.proofs.Stands.{token_stays}
use Rattle.ir_read_back.proofs.Steps as steps
use Rattle.ir_read_back.proofs.Writes.{Anything, Rewrites, behind_a_space}

-- ---- signs

sign_form : (b : ℕ) (text next : List ℕ) → HasForm (Sign b) text next → (text ≡ b ∷ []) × (is_sign b ≡ true)
unfolding HasForm
sign_form b text next form = form

-- A sign is its byte, and a token before anything.
record IsSignOf (c : ℕ) (kind : TokenKind) (text : List ℕ) : Type 0 where
  text_is : text ≡ c ∷ []
  token : (next : List ℕ) → IsTokenAt kind text next

sign_of : (c : ℕ) (kind : TokenKind) (text next : List ℕ)
    → is_sign_kind c kind ≡ true
    → IsTokenAt kind text next
    → IsSignOf c kind text
sign_of c (Sign b) text next same token =
    let is : b ≡ c = eqb-true b c same in
    let form = sign_form b text next token.form in
    record {
      text_is = subst (λ x. text ≡ x ∷ []) is form.0;
      token = λ after. subst (λ t. IsTokenAt (Sign b) t after) (sym form.0) (Sign-token b after form.1);
    }
sign_of c Word text next same token = absurd (false≢true same)
sign_of c Label text next same token = absurd (false≢true same)
sign_of c Numeral text next same token = absurd (false≢true same)
sign_of c Local text next same token = absurd (false≢true same)
sign_of c Global text next same token = absurd (false≢true same)
sign_of c Metadata text next same token = absurd (false≢true same)
sign_of c Group text next same token = absurd (false≢true same)
sign_of c Quoted text next same token = absurd (false≢true same)
sign_of c Dots text next same token = absurd (false≢true same)

real_sign : (c : ℕ) (t : Lexeme) → is_sign_token c t ≡ true → IsReal t → IsSignOf c t.kind t.text
real_sign c t same real = sign_of c t.kind t.text real.next same real.token

-- ---- tokens that stand close

-- What begins with a text that is a stop begins with a stop.
spaced_first : (c : ℕ) (before : Bool) (u : Lexeme) (us : List Lexeme) (rest : List ℕ)
    → u.text ≡ c ∷ []
    → Stops (c ∷ [])
    → Stops (spaced before (u ∷ us) ++ rest)
unfolding spaced
spaced_first c before u [] rest is stops = subst (λ t. Stops (t ++ rest)) (sym is) stops
spaced_first c before u (v ∷ us) rest is stops =
    let more = cond (stand_close before u v us) [] (32 ∷ []) ++ spaced (is_string u) (v ∷ us) in
    subst (λ t. Stops ((t ++ more) ++ rest)) (sym is) stops

one_of_five : {P : Type 0} (a b c d e : Bool)
    → (a || b || c || d || e) ≡ true
    → (a ≡ true → P)
    → (b ≡ true → P)
    → (c ≡ true → P)
    → (d ≡ true → P)
    → (e ≡ true → P)
    → P
one_of_five true b c d e h first second third fourth fifth = first refl
one_of_five false true c d e h first second third fourth fifth = second refl
one_of_five false false true d e h first second third fourth fifth = third refl
one_of_five false false false true e h first second third fourth fifth = fourth refl
one_of_five false false false false e h first second third fourth fifth = fifth h

middle : (a b c : Bool) → (a && b && c) ≡ true → b ≡ true
middle a b c h = (and_parts a b (and_parts (a && b) c h).0).1

-- The first of two tokens that stand close is a token there.
close_token : (before after : Bool) (t u : Lexeme) (us : List Lexeme) (rest : List ℕ)
    → IsReal t
    → IsReal u
    → stand_close before t u us ≡ true
    → IsTokenAt t.kind t.text (spaced after (u ∷ us) ++ rest)
close_token before after t u us rest real next close =
    let text = spaced after (u ∷ us) ++ rest in
    let behind_sign : (c : ℕ) → is_sign_token c u ≡ true → Stops (c ∷ []) → IsTokenAt t.kind t.text text =
    λ c is stops. token_stays t.kind t.text real.next text real.token
    (spaced_first c after u us rest (real_sign c u is next).text_is stops) in
    let is_itself : (c : ℕ) → is_sign_token c t ≡ true → IsTokenAt t.kind t.text text =
    λ c is. (real_sign c t is real).token text in
    one_of_five (is_sign_token 44 u) (is_sign_token 41 u) (is_sign_token 40 t)
    (is_string t && is_sign_token 61 u && is_string_next us) (before && is_sign_token 61 t && is_string u) close
    (λ comma. behind_sign 44 comma refl)
    (λ closing. behind_sign 41 closing refl)
    (λ opening. is_itself 40 opening)
    (λ equals. behind_sign 61 (middle (is_string t) (is_sign_token 61 u) (is_string_next us) equals) refl)
    (λ equals. is_itself 61 (middle before (is_sign_token 61 t) (is_string u) equals))

regrouped : (text gap more rest : List ℕ) {ts : List Lexeme}
    → AreLexemes (text ++ (gap ++ (more ++ rest))) ts
    → AreLexemes ((text ++ (gap ++ more)) ++ rest) ts
regrouped text gap more rest tokens = simp append_assoc tokens

-- Tokens that stand somewhere are the tokens of their text, before a stop.
spaced_lexes : (before : Bool) (ts : List Lexeme) (rest : List ℕ) (others : List Lexeme)
    → AreReal ts
    → Stops rest
    → AreLexemes rest others
    → AreLexemes (spaced before ts ++ rest) (ts ++ others)
unfolding spaced
spaced_lexes before [] rest others real stops tokens = tokens
spaced_lexes before (t ∷ []) rest others real stops tokens =
    steps.behind_token (token_stays t.kind t.text real.0.next rest real.0.token stops) tokens
spaced_lexes before (t ∷ u ∷ us) rest others real stops tokens =
    let text = spaced (is_string t) (u ∷ us) in
    let more : AreLexemes (text ++ rest) (u ∷ (us ++ others)) =
    spaced_lexes (is_string t) (u ∷ us) rest others real.1 stops tokens in
    elim (cases_Bool (stand_close before t u us)) [
      | inl close ↦ rw close (regrouped t.text [] text rest
          (steps.behind_token (close_token before (is_string t) t u us rest real.0 real.1.0 close) more))
      | inr apart ↦ rw apart (regrouped t.text (32 ∷ []) text rest
          (steps.behind_token (token_stays t.kind t.text real.0.next (32 ∷ (text ++ rest)) real.0.token refl)
          (steps.behind_space more)))
    ]

pub passed_lexes : (ts : List Lexeme) (rest : List ℕ) (others : List Lexeme)
    → AreReal ts
    → Stops rest
    → AreLexemes rest others
    → AreLexemes (passed_text ts ++ rest) (ts ++ others)
passed_lexes ts rest others real stops tokens = spaced_lexes false ts rest others real stops tokens

-- ---- languages whose text is passed on

-- The text of each sentence is the one that it is passed on as.
abbrev pub PassesOn : (List ℕ → Language) → Type 0
PassesOn L = (text : List ℕ) (ts : List Lexeme) → L text ts → text ≡ passed_text ts

pub passed_rewrites : (L : List ℕ → Language) → PassesOn L → (text : List ℕ)
    → Rewrites Stops (silent (L text)) (silent (L text)) [] text
passed_rewrites L passes text = record {
  writes = λ old ts spelled real. record {
    lexemes = ts;
    spelled = (refl, spelled.1);
    lexed = λ rest others stops tokens.
        subst (λ t. AreLexemes (t ++ rest) (ts ++ others)) (sym (passes text ts spelled.1))
        (passed_lexes ts rest others real stops tokens);
  };
}

none_written : {Behind : List ℕ → Type 0} (L : List ℕ → Language) → L [] []
    → Rewrites Behind (silent (L [])) (silent (L [])) [] []
none_written L none = record {
  writes = λ old ts spelled real. record {
    lexemes = [];
    spelled = (refl, none);
    lexed = λ rest others behind tokens. tokens;
  };
}

-- with a space behind it, where there is any
pub passed_before : (L : List ℕ → Language) → PassesOn L → L [] [] → (text : List ℕ)
    → Rewrites Anything (silent (L text)) (silent (L text)) [] (before_space text)
passed_before L passes none [] = none_written L none
passed_before L passes none (b ∷ bs) = record {
  writes = λ old ts spelled real.
      let all = (passed_rewrites L passes (b ∷ bs)).writes old ts spelled real in
      record {
        lexemes = all.lexemes;
        spelled = all.spelled;
        lexed = λ rest others any tokens.
            rw append_assoc (all.lexed (32 ∷ rest) others refl (steps.behind_space tokens));
      };
}

-- with a space before it, where there is any
pub passed_behind : (L : List ℕ → Language) → PassesOn L → L [] [] → (text : List ℕ)
    → Rewrites Stops (silent (L text)) (silent (L text)) [] (behind_space text)
passed_behind L passes none [] = none_written L none
passed_behind L passes none (b ∷ bs) = behind_a_space (passed_rewrites L passes (b ∷ bs))

pub stops_behind_space : (text : List ℕ) → Stops (behind_space text)
stops_behind_space [] = tt
stops_behind_space (b ∷ bs) = refl

-- ---- passed-on words

words_pass : PassesOn SpellsWords
words_pass text ts spelled = spelled.1

no_words : SpellsWords [] []
unfolding spaced
no_words = (([], refl), refl)

pub words_before : (text : List ℕ)
    → Rewrites Anything (silent (SpellsWords text)) (silent (SpellsWords text)) [] (before_space text)
words_before text = passed_before SpellsWords words_pass no_words text

pub words_behind : (text : List ℕ)
    → Rewrites Stops (silent (SpellsWords text)) (silent (SpellsWords text)) [] (behind_space text)
words_behind text = passed_behind SpellsWords words_pass no_words text

tail_passes : PassesOn SpellsTail
tail_passes text ts spelled = spelled.0

no_tail : SpellsTail [] []
unfolding spaced
no_tail = (refl, ([], [], refl, inr refl, inr refl))

pub tail_before : (text : List ℕ)
    → Rewrites Anything (silent (SpellsTail text)) (silent (SpellsTail text)) [] (before_space text)
tail_before text = passed_before SpellsTail tail_passes no_tail text

-- ---- alignments

no_bytes : (b : ℕ) (bs : List ℕ) → b ∷ bs ≡ [] → ⊥
no_bytes b bs e = cc

some_align : (b : ℕ) (bs : List ℕ) (ts : List Lexeme)
    → SpellsAlign (b ∷ bs) ts
    → AreReal ts
    → (rest : List ℕ) (others : List Lexeme)
    → Stops rest
    → AreLexemes rest others
    → AreLexemes (align_text (b ∷ bs) ++ rest) (ts ++ others)
some_align b bs ts spelled real rest others stops tokens = elim spelled [
  | inl none ↦ absurd (no_bytes b bs none.0)
  | inr some ↦
      let reals : AreReal (sign 44 ∷ some.0) = subst AreReal some.1 real in
      let own : AreLexemes ((b ∷ bs) ++ rest) (some.0 ++ others) =
      subst (λ t. AreLexemes (t ++ rest) (some.0 ++ others)) (sym some.3)
      (passed_lexes some.0 rest others reals.1 stops tokens) in
      subst (λ us. AreLexemes (align_text (b ∷ bs) ++ rest) (us ++ others)) (sym some.1)
      (steps.behind_sign comma_is_sign (steps.behind_space own))
]

pub align_rewrites : (text : List ℕ)
    → Rewrites Stops (silent (SpellsAlign text)) (silent (SpellsAlign text)) [] (align_text text)
align_rewrites [] = none_written SpellsAlign (inl (refl, refl))
align_rewrites (b ∷ bs) = record {
  writes = λ old ts spelled real. record {
    lexemes = ts;
    spelled = (refl, spelled.1);
    lexed = λ rest others stops tokens. some_align b bs ts spelled.1 real rest others stops tokens;
  };
}

pub stops_align : (text : List ℕ) → Stops (align_text text)
stops_align [] = tt
stops_align (b ∷ bs) = refl
