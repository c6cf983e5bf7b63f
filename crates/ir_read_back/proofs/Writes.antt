-- Texts that are tokens of a production, and how they are put together.
use Rattle.std.proofs.Common.{◌≡◌, ℕ, List, [], ◌∷◌, ◌++◌, IsTrue, refl, subst, append_assoc, codes}
use Rattle.ir_text.specs.Bytes.{is_sign}
use Rattle.ir_text.specs.Names.{is_word}
use Rattle.ir_text.specs.declared.token.TokenKind.{TokenKind}
use Rattle.ir_text.specs.declared.token.TokenKind.TheVariants.{Word}
use Rattle.ir_text.specs.Tokens.{Lexeme, AreLexemes, IsTokenAt}
use Rattle.ir_text.specs.Listed.{sign}
use Rattle.ir_text.specs.Language.{Language, ◌·◌}
use Rattle.ir_text.specs.Mentions.{Mention, Mentioning, ◌⊙◌, silent}
use Rattle.ir_grammar.specs.Operations.{the_word, the_sign, the_comma}
use Rattle.ir_lex.proofs.Plain.{Stops, Word-token}
use Rattle.ir_read_back.proofs.Steps.{behind_space, behind_token, behind_sign}
use Rattle.ir_read_back.proofs.Words.{comma_is_sign}
use Rattle.ir_read_back.proofs.Real.{IsReal, AreReal, each-left, each-right}

-- ---- what may stand behind a text

-- nothing in particular
abbrev pub Anything : List ℕ → Type 0
Anything rest = Unit {0}

-- The text leads from what may stand behind it to what may stand behind the text before.
abbrev pub Leads : (List ℕ → Type 0) → List ℕ → (List ℕ → Type 0) → Type 0
Leads Before text Behind = (rest : List ℕ) → Behind rest → Before (text ++ rest)

-- a text that begins with a stop, or none
pub stops_lead : (text : List ℕ) → Stops text → Leads Stops text Stops
stops_lead [] stops rest behind = behind
stops_lead (b ∷ bs) stops rest behind = stops

-- ---- texts of a production

-- The text is tokens of the production, with these mentions, where it has behind it what may stand there.
pub record Writes (Behind : List ℕ → Type 0) (A : Mentioning) (ms : List Mention) (text : List ℕ) : Type 0 where
  pub lexemes : List Lexeme
  pub spelled : A ms lexemes
  pub lexed : (rest : List ℕ) (others : List Lexeme)
      → Behind rest
      → AreLexemes rest others
      → AreLexemes (text ++ rest) (lexemes ++ others)

-- Where real tokens are of one production, the text is tokens of another one.
pub record Rewrites (Behind : List ℕ → Type 0) (Old New : Mentioning) (ms : List Mention) (text : List ℕ) : Type 0 where
  pub writes : (old : List Mention) (ts : List Lexeme) → Old old ts → AreReal ts → Writes Behind New ms text

-- what can stand before anything can stand before a stop
pub before_stop : {Old New : Mentioning} {ms : List Mention} {text : List ℕ}
    → Rewrites Anything Old New ms text
    → Rewrites Stops Old New ms text
before_stop part = record {
  writes = λ old ts spelled real.
      let whole = part.writes old ts spelled real in
      record {
        lexemes = whole.lexemes;
        spelled = whole.spelled;
        lexed = λ rest others stops tokens. whole.lexed rest others tt tokens;
      };
}

-- ---- one after another

regrouped : (a b rest : List ℕ) (ts us others : List Lexeme)
    → AreLexemes (a ++ (b ++ rest)) (ts ++ (us ++ others))
    → AreLexemes ((a ++ b) ++ rest) ((ts ++ us) ++ others)
regrouped a b rest ts us others tokens = rw (append_assoc a b rest, append_assoc ts us others) tokens

both_written : {Before Behind : List ℕ → Type 0} {A B : Mentioning} {ms ns : List Mention} {a b : List ℕ}
    → Leads Before b Behind
    → Writes Before A ms a
    → Writes Behind B ns b
    → Writes Behind (A ⊙ B) (ms ++ ns) (a ++ b)
both_written {ms = ms} {ns = ns} {a = a} {b = b} leads first second = record {
  lexemes = first.lexemes ++ second.lexemes;
  spelled = (ms, ns, refl, (first.lexemes, second.lexemes, refl, first.spelled, second.spelled));
  lexed = λ rest others behind tokens.
      regrouped a b rest first.lexemes second.lexemes others
      (first.lexed (b ++ rest) (second.lexemes ++ others) (leads rest behind) (second.lexed rest others behind tokens));
}

-- A text behind another, to which it leads.
pub and_then : {Before Behind : List ℕ → Type 0} {A A' B B' : Mentioning} {ms ns : List Mention} {a b : List ℕ}
    → Leads Before b Behind
    → Rewrites Before A A' ms a
    → Rewrites Behind B B' ns b
    → Rewrites Behind (A ⊙ B) (A' ⊙ B') (ms ++ ns) (a ++ b)
and_then leads first second = record {
  writes = λ old ts spelled real.
      let parts = spelled.3 in
      let reals = subst AreReal parts.2 real in
      both_written leads
      (first.writes spelled.0 parts.0 parts.3 (each-left IsReal parts.0 parts.1 reals))
      (second.writes spelled.1 parts.1 parts.4 (each-right IsReal parts.0 parts.1 reals));
}

-- Behind a text that may stand before anything, as one that ends with a space.
pub whole_then : {Behind : List ℕ → Type 0} {A A' B B' : Mentioning} {ms ns : List Mention} {a b : List ℕ}
    → Rewrites Anything A A' ms a
    → Rewrites Behind B B' ns b
    → Rewrites Behind (A ⊙ B) (A' ⊙ B') (ms ++ ns) (a ++ b)
whole_then first second = and_then (λ rest behind. tt) first second

-- A text that begins with a stop, or none, behind one that stands before stops.
pub stop_then : {A A' B B' : Mentioning} {ms ns : List Mention} {a b : List ℕ}
    → Stops b
    → Rewrites Stops A A' ms a
    → Rewrites Stops B B' ns b
    → Rewrites Stops (A ⊙ B) (A' ⊙ B') (ms ++ ns) (a ++ b)
stop_then {b = b} stops first second = and_then (stops_lead b stops) first second

-- a space before a text
pub behind_a_space : {Behind : List ℕ → Type 0} {A A' : Mentioning} {ms : List Mention} {text : List ℕ}
    → Rewrites Behind A A' ms text
    → Rewrites Behind A A' ms (32 ∷ text)
behind_a_space part = record {
  writes = λ old ts spelled real.
      let all = part.writes old ts spelled real in
      record {
        lexemes = all.lexemes;
        spelled = all.spelled;
        lexed = λ rest others behind tokens. behind_space (all.lexed rest others behind tokens);
      };
}

-- A space between two texts.
pub space_then : {Behind : List ℕ → Type 0} {A A' B B' : Mentioning} {ms ns : List Mention} {a b : List ℕ}
    → Rewrites Stops A A' ms a
    → Rewrites Behind B B' ns b
    → Rewrites Behind (A ⊙ B) (A' ⊙ B') (ms ++ ns) (a ++ (32 ∷ b))
space_then first second = and_then (λ rest behind. refl) first (behind_a_space second)

-- ---- single tokens

-- One token, which stands before stops.
pub token_writes : {A : Mentioning} {ms : List Mention} (kind : TokenKind) (text : List ℕ)
    → A ms (record { kind = kind; text = text } ∷ [])
    → ((next : List ℕ) → Stops next → IsTokenAt kind text next)
    → Writes Stops A ms text
token_writes kind text spelled token = record {
  lexemes = record { kind = kind; text = text } ∷ [];
  spelled = spelled;
  lexed = λ rest others stops tokens. behind_token (token rest stops) tokens;
}

-- What is written of a production, whatever stood there.
pub always : {Behind : List ℕ → Type 0} {Old New : Mentioning} {ms : List Mention} {text : List ℕ}
    → Writes Behind New ms text
    → Rewrites Behind Old New ms text
always all = record { writes = λ old ts spelled real. all }

pub word_writes : (w : List ℕ) → IsTrue (is_word w) → Writes Stops (the_word w) [] w
word_writes w h = token_writes Word w (refl, refl) (λ next stops. Word-token w next h stops)

pub sign_writes : (b : ℕ) → IsTrue (is_sign b) → Writes Anything (the_sign b) [] (b ∷ [])
sign_writes b h = record {
  lexemes = sign b ∷ [];
  spelled = (refl, refl);
  lexed = λ rest others any tokens. behind_sign h tokens;
}

-- a word at the end, and one with a space behind it
pub word_ends : {Old : Mentioning} (w : List ℕ) → IsTrue (is_word w) → Rewrites Stops Old (the_word w) [] w
word_ends w h = always (word_writes w h)

pub word_then : {Behind : List ℕ → Type 0} {A B B' : Mentioning} {ns : List Mention} {b : List ℕ} (w : List ℕ)
    → IsTrue (is_word w)
    → Rewrites Behind B B' ns b
    → Rewrites Behind (A ⊙ B) (the_word w ⊙ B') ns (w ++ (32 ∷ b))
word_then w h second = space_then (word_ends w h) second

-- a sign at the end, and one with anything behind it
pub sign_ends : {Behind : List ℕ → Type 0} {Old : Mentioning} (b : ℕ) → IsTrue (is_sign b)
    → Rewrites Behind Old (the_sign b) [] (b ∷ [])
sign_ends b h = record {
  writes = λ old ts spelled real. record {
    lexemes = sign b ∷ [];
    spelled = (refl, refl);
    lexed = λ rest others behind tokens. behind_sign h tokens;
  };
}

pub sign_then : {Behind : List ℕ → Type 0} {A B B' : Mentioning} {ns : List Mention} {text : List ℕ} (b : ℕ)
    → IsTrue (is_sign b)
    → Rewrites Behind B B' ns text
    → Rewrites Behind (A ⊙ B) (the_sign b ⊙ B') ns (b ∷ text)
sign_then b h second = whole_then (always (sign_writes b h)) second

-- `, ` between two texts
pub comma_then : {Behind : List ℕ → Type 0} {A A' B B' : Mentioning} {ms ns : List Mention} {a b : List ℕ}
    → Rewrites Stops A A' ms a
    → Rewrites Behind B B' ns b
    → Rewrites Behind (A ⊙ (the_comma ⊙ B)) (A' ⊙ (the_comma ⊙ B')) (ms ++ ns) (a ++ (codes ", " ++ b))
comma_then first second =
    and_then (λ rest behind. refl) first (sign_then 44 comma_is_sign (behind_a_space second))

-- ---- what is left out

-- Something that may be nothing, which isn't written.
pub left_out_then : {Behind : List ℕ → Type 0} {A B B' : Mentioning} {L : Language} {ns : List Mention} {b : List ℕ}
    → L []
    → Rewrites Behind B B' ns b
    → Rewrites Behind (A ⊙ B) (silent L ⊙ B') ns b
left_out_then none second =
    whole_then {a = []}
    (always (record { lexemes = []; spelled = (refl, none); lexed = λ rest others any tokens. tokens })) second

-- ---- languages without mentions

-- One language behind another is printed as their productions are.
pub silently : {Behind : List ℕ → Type 0} {A A' B B' : Language} {text : List ℕ}
    → Rewrites Behind (silent A ⊙ silent B) (silent A' ⊙ silent B') [] text
    → Rewrites Behind (silent (A · B)) (silent (A' · B')) [] text
silently both = record {
  writes = λ old ts spelled real.
      let parts = spelled.1 in
      let all = both.writes [] ts ([], [], refl, (parts.0, parts.1, parts.2, (refl, parts.3), (refl, parts.4))) real in
      let own = all.spelled.3 in
      record { lexemes = all.lexemes; spelled = (refl, (own.0, own.1, own.2, own.3.1, own.4.1)); lexed = all.lexed };
}

-- ---- the same, seen otherwise

-- A text that is the same.
pub text_is : {Behind : List ℕ → Type 0} {A A' : Mentioning} {ms : List Mention} (a b : List ℕ) → a ≡ b
    → Rewrites Behind A A' ms a
    → Rewrites Behind A A' ms b
text_is {Behind} {A} {A'} {ms} a b e part = subst (λ t. Rewrites Behind A A' ms t) e part

-- Mentions that are the same.
pub mentions_are : {Behind : List ℕ → Type 0} {A A' : Mentioning} {text : List ℕ} (ms ns : List Mention) → ms ≡ ns
    → Rewrites Behind A A' ms text
    → Rewrites Behind A A' ns text
mentions_are {Behind} {A} {A'} {text} ms ns e part = subst (λ n. Rewrites Behind A A' n text) e part

-- Productions that are the same.
pub production_is : {Behind : List ℕ → Type 0} {ms : List Mention} {text : List ℕ} (A B A' B' : Mentioning)
    → A ≡ B
    → A' ≡ B'
    → Rewrites Behind A A' ms text
    → Rewrites Behind B B' ms text
production_is {Behind} {ms} {text} A B A' B' e e' part =
    subst (λ New. Rewrites Behind B New ms text) e' (subst (λ Old. Rewrites Behind Old A' ms text) e part)

-- A fact beside a production stays.
pub beside : {Behind : List ℕ → Type 0} {A A' : Mentioning} {ms : List Mention} {text : List ℕ} (P : Type 0)
    → Rewrites Behind A A' ms text
    → Rewrites Behind (λ ms ts. P × A ms ts) (λ ms ts. P × A' ms ts) ms text
beside P part = record {
  writes = λ old ts spelled real.
      let all = part.writes old ts spelled.1 real in
      record { lexemes = all.lexemes; spelled = (spelled.0, all.spelled); lexed = all.lexed };
}

-- Two parts that are one production, and another one behind them.
pub pair_then : {Before Behind : List ℕ → Type 0} {A A' B B' C C' : Mentioning} {ms ns : List Mention} {a b c : List ℕ}
    → Leads Before c Behind
    → Rewrites Stops A A' [] a
    → Rewrites Before B B' ms b
    → Rewrites Behind C C' ns c
    → Rewrites Behind ((A ⊙ B) ⊙ C) ((A' ⊙ B') ⊙ C') (ms ++ ns) (a ++ (32 ∷ (b ++ c)))
pair_then {a = a} {b = b} {c = c} leads first second third =
    text_is ((a ++ (32 ∷ b)) ++ c) (a ++ (32 ∷ (b ++ c))) (append_assoc a (32 ∷ b) c)
    (and_then leads (space_then first second) third)
