-- Flags as they are printed.
use Rattle.std.proofs.Common.{◌≡◌, ℕ, zero, suc, Bool, true, false, List, [], ◌∷◌, ◌++◌, codes, IsTrue, Contains, refl, sym, ◌∙◌, arith, bytes_eq, append_assoc}
use Rattle.std.specs.List.{IsDistinct}
use Rattle.std.proofs.lemmas.Bool.{false≢true, true≢false, or_parts}
use Rattle.std.proofs.lemmas.List.{append-nil}
use Rattle.std.proofs.lemmas.List.Elements.{All-from_recursion}
use Rattle.std.proofs.lemmas.Slice.Eq.{bytes_eq-Decides}
use Rattle.ir_text.specs.Names.{is_word}
use Rattle.ir_text.specs.Tokens.{Lexeme, AreLexemes}
use Rattle.ir_text.specs.Listed.{word}
use Rattle.ir_text.specs.Language.{Language}
use Rattle.ir_text.specs.Mentions.{silent}
use Rattle.ir_text.specs.PassedOn.{is_among}
use Rattle.ir_model.specs.Kinds.{FlagKind, Wraps, Exact, Disjoint, NoFlag}
use Rattle.ir_grammar.specs.Operations.{AreFlags, IsFlag, SpellsWraps, SpellsFlag, BinaryFlags, SpellsBinaryFlags, SpellsGepFlags}
use Rattle.ir_grammar.specs.Printing.{flag_word}
use Rattle.ir_read_back.proofs.Words.{nuw_is_word, nsw_is_word, exact_is_word, disjoint_is_word, inbounds_is_word}
use Rattle.ir_read_back.proofs.Steps.{behind_space, behind_word}
use Rattle.ir_read_back.proofs.Writes.{Anything, Writes, Rewrites}

-- ---- which words are there

absent : (found : List (List ℕ)) (text : List ℕ) → is_among found text ≡ false → Contains found text → ⊥
absent [] text none there = omega (arith, there.1)
absent (w ∷ found) text none (zero, inside, is) =
    false≢true (sym (or_parts _ _ none).0 ∙ (bytes_eq-Decides w text).1 is)
absent (w ∷ found) text none (suc k, inside, is) =
    absent found text (or_parts (bytes_eq w text) _ none).1 (k, omega (arith, inside), is)

is_set : (found : List (List ℕ)) (text : List ℕ) → Contains found text → IsFlag found text true
is_set found text there = (λ set. there, λ c. refl)

is_not_set : (found : List (List ℕ)) (text : List ℕ) → is_among found text ≡ false → IsFlag found text false
is_not_set found text none = (λ set. absurd (false≢true set), λ c. absurd (absent found text none c))

first_there : (w : List ℕ) (ws : List (List ℕ)) → Contains (w ∷ ws) w
first_there w ws = (0, omega arith, refl)

second_there : (v w : List ℕ) (ws : List (List ℕ)) → Contains (v ∷ w ∷ ws) w
second_there v w ws = (1, omega arith, refl)

no_flags : (allowed : List (List ℕ)) → AreFlags allowed [] []
unfolding IsDistinct
no_flags allowed = (refl, tt, All-from_recursion (Contains allowed) [] tt)

one_flag : (allowed : List (List ℕ)) (w : List ℕ) → Contains allowed w → AreFlags allowed (w ∷ []) (word w ∷ [])
unfolding IsDistinct
one_flag allowed w there = (refl, (tt, tt), All-from_recursion (Contains allowed) (w ∷ []) (there, tt))

two_flags : (allowed : List (List ℕ)) (v w : List ℕ) → Contains allowed v → Contains allowed w
    → bytes_eq v w ≡ false
    → AreFlags allowed (v ∷ w ∷ []) (word v ∷ word w ∷ [])
unfolding IsDistinct
two_flags allowed v w first second apart =
    (refl, ((apart, tt), (tt, tt)), All-from_recursion (Contains allowed) (v ∷ w ∷ []) (first, (second, tt)))

-- ---- as they are written

-- Some tokens of a language, whatever stands behind the text.
whole : {L : Language} {text : List ℕ} (lexemes : List Lexeme) → L lexemes
    → ((rest : List ℕ) (others : List Lexeme) → AreLexemes rest others → AreLexemes (text ++ rest) (lexemes ++ others))
    → Writes Anything (silent L) [] text
whole lexemes spelled lexed =
    record { lexemes = lexemes; spelled = (refl, spelled); lexed = λ rest others any tokens. lexed rest others tokens }

word_and_space : (w rest : List ℕ) (others : List Lexeme) → IsTrue (is_word w) → AreLexemes rest others
    → AreLexemes ((w ++ 32 ∷ []) ++ rest) (word w ∷ others)
word_and_space w rest others h tokens = rw append_assoc (behind_word h refl (behind_space tokens))

-- a flag of its own
pub flag_writes : (text : List ℕ) → IsTrue (is_word text) → (set : Bool)
    → Writes Anything (silent (SpellsFlag text set)) [] (flag_word set text)
flag_writes text h true =
    whole (word text ∷ []) refl (λ rest others tokens. word_and_space text rest others h tokens)
flag_writes text h false = whole [] refl (λ rest others tokens. tokens)

abbrev wraps_text : Bool → Bool → List ℕ
wraps_text nuw nsw = flag_word nuw (codes "nuw") ++ flag_word nsw (codes "nsw")

abbrev both_wraps : List (List ℕ)
both_wraps = codes "nuw" ∷ codes "nsw" ∷ []

wraps_write : (nuw nsw : Bool) → Writes Anything (silent (SpellsWraps nuw nsw)) [] (wraps_text nuw nsw)
wraps_write true true =
    let first = first_there (codes "nuw") (codes "nsw" ∷ []) in
    let second = second_there (codes "nuw") (codes "nsw") [] in
    whole (word (codes "nuw") ∷ word (codes "nsw") ∷ []) (
      both_wraps,
      two_flags both_wraps (codes "nuw") (codes "nsw") first second refl,
      is_set both_wraps (codes "nuw") first,
      is_set both_wraps (codes "nsw") second,
    )
    (λ rest others tokens.
    behind_word nuw_is_word refl (behind_space (behind_word nsw_is_word refl (behind_space tokens))))
wraps_write true false =
    let found : List (List ℕ) = codes "nuw" ∷ [] in
    whole (word (codes "nuw") ∷ []) (
      found,
      one_flag both_wraps (codes "nuw") (first_there (codes "nuw") (codes "nsw" ∷ [])),
      is_set found (codes "nuw") (first_there (codes "nuw") []),
      is_not_set found (codes "nsw") refl,
    )
    (λ rest others tokens. behind_word nuw_is_word refl (behind_space tokens))
wraps_write false true =
    let found : List (List ℕ) = codes "nsw" ∷ [] in
    whole (word (codes "nsw") ∷ []) (
      found,
      one_flag both_wraps (codes "nsw") (second_there (codes "nuw") (codes "nsw") []),
      is_not_set found (codes "nuw") refl,
      is_set found (codes "nsw") (first_there (codes "nsw") []),
    )
    (λ rest others tokens. behind_word nsw_is_word refl (behind_space tokens))
wraps_write false false =
    whole [] ([], no_flags both_wraps, is_not_set [] (codes "nuw") refl, is_not_set [] (codes "nsw") refl)
    (λ rest others tokens. tokens)

abbrev gep_words : List (List ℕ)
gep_words = codes "inbounds" ∷ codes "nuw" ∷ codes "nusw" ∷ []

pub inbounds_writes : (inbounds : Bool)
    → Writes Anything (silent (SpellsGepFlags inbounds)) [] (flag_word inbounds (codes "inbounds"))
inbounds_writes true =
    let found : List (List ℕ) = codes "inbounds" ∷ [] in
    whole (word (codes "inbounds") ∷ []) (
      found,
      one_flag gep_words (codes "inbounds") (first_there (codes "inbounds") (codes "nuw" ∷ codes "nusw" ∷ [])),
      is_set found (codes "inbounds") (first_there (codes "inbounds") []),
    )
    (λ rest others tokens. behind_word inbounds_is_word refl (behind_space tokens))
inbounds_writes false =
    whole [] ([], no_flags gep_words, is_not_set [] (codes "inbounds") refl) (λ rest others tokens. tokens)

-- ---- the flags of an operation of two operands

abbrev pub flags_text : Bool → Bool → Bool → Bool → List ℕ
flags_text nuw nsw exact disjoint = flag_word nuw (codes "nuw")
    ++ (flag_word nsw (codes "nsw") ++ (flag_word exact (codes "exact") ++ flag_word disjoint (codes "disjoint")))

abbrev pub flags_of : Bool → Bool → Bool → Bool → BinaryFlags
flags_of nuw nsw exact disjoint = record { nuw = nuw; nsw = nsw; exact = exact; disjoint = disjoint }

binary_flags : (kind : FlagKind) (nuw nsw exact disjoint : Bool) (ts : List Lexeme)
    → SpellsBinaryFlags kind (flags_of nuw nsw exact disjoint) ts
    → Writes Anything (silent (SpellsBinaryFlags kind (flags_of nuw nsw exact disjoint))) []
    (flags_text nuw nsw exact disjoint)
binary_flags Wraps nuw nsw false false ts spelled =
    let all = wraps_write nuw nsw in
    record {
      lexemes = all.lexemes;
      spelled = (refl, (refl, refl, all.spelled.1));
      lexed = rw (append-nil (flag_word nsw (codes "nsw"))) all.lexed;
    }
binary_flags Wraps nuw nsw false true ts spelled = absurd (true≢false spelled.1)
binary_flags Wraps nuw nsw true disjoint ts spelled = absurd (true≢false spelled.0)
binary_flags Exact false false exact false ts spelled =
    let all = flag_writes (codes "exact") exact_is_word exact in
    record {
      lexemes = all.lexemes;
      spelled = (refl, (refl, refl, refl, all.spelled.1));
      lexed = rw (append-nil (flag_word exact (codes "exact"))) all.lexed;
    }
binary_flags Exact true nsw exact disjoint ts spelled = absurd (true≢false spelled.0)
binary_flags Exact false true exact disjoint ts spelled = absurd (true≢false spelled.1)
binary_flags Exact false false exact true ts spelled = absurd (true≢false spelled.2)
binary_flags Disjoint false false false disjoint ts spelled =
    let all = flag_writes (codes "disjoint") disjoint_is_word disjoint in
    record { lexemes = all.lexemes; spelled = (refl, (refl, refl, refl, all.spelled.1)); lexed = all.lexed }
binary_flags Disjoint true nsw exact disjoint ts spelled = absurd (true≢false spelled.0)
binary_flags Disjoint false true exact disjoint ts spelled = absurd (true≢false spelled.1)
binary_flags Disjoint false false true disjoint ts spelled = absurd (true≢false spelled.2)
binary_flags NoFlag false false false false ts spelled =
    whole [] (refl, refl, refl, refl, refl) (λ rest others tokens. tokens)
binary_flags NoFlag true nsw exact disjoint ts spelled = absurd (true≢false spelled.0)
binary_flags NoFlag false true exact disjoint ts spelled = absurd (true≢false spelled.1)
binary_flags NoFlag false false true disjoint ts spelled = absurd (true≢false spelled.2)
binary_flags NoFlag false false false true ts spelled = absurd (true≢false spelled.3)

pub binary_flags_rewrite : (kind : FlagKind) (nuw nsw exact disjoint : Bool)
    → Rewrites Anything (silent (SpellsBinaryFlags kind (flags_of nuw nsw exact disjoint)))
    (silent (SpellsBinaryFlags kind (flags_of nuw nsw exact disjoint))) [] (flags_text nuw nsw exact disjoint)
binary_flags_rewrite kind nuw nsw exact disjoint = record {
  writes = λ old ts spelled real. binary_flags kind nuw nsw exact disjoint ts spelled.1;
}
