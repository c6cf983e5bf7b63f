-- Some of a list of words, each at most once, in any order, are read.
use Rattle.std.proofs.Common.{◌≡◌, ℕ, zero, suc, ◌<◌, ◌≤◌, Bool, true, false, ◌||◌, ◌&&◌, if◌then◌else◌, List, [], ◌∷◌, ◌++◌, length, map, Some, None, Ok, Err, inl, inr, refl, sym, ap, subst, ◌∙◌, arith}
use Rattle.std.specs.Prelude.{not, Contains, All}
use Rattle.std.specs.List.{AllByRecursion, IsDistinct}
use Rattle.std.specs.Str.{bytes_eq}
use Rattle.std.proofs.lemmas.List.Elements.{All-from_recursion}
use Rattle.std.proofs.lemmas.Slice.Eq.{bytes_eq-Decides}
use Rattle.ir_text.specs.Tokens.{Lexeme}
use Rattle.ir_text.specs.Listed.{word}
use Rattle.ir_text.specs.PassedOn.{is_among}
use Rattle.ir_grammar.specs.Operations.{AreFlags}
use Rattle.ir_parts.specs.Reading.{go_on, given, ◌>>=◌, pure, one_at, made, begins, is_keyword, is_word_kind}
use Rattle.ir_parts.proofs.Readers.{StopsAt, Taken, IsReader, of_language, both_read, one_refused, same_read, either, chosen_first, chosen_other}
use Rattle.ir_parts.proofs.SingleTokens.{word_kind, same_token}
use Rattle.ir_body.specs.FlagWords.{without, is_open, word_of, words_at}

-- ---- whether a word is in a list

contains_later : (x : List ℕ) (xs : List (List ℕ)) (y : List ℕ) → Contains xs y → Contains (x ∷ xs) y
contains_later x xs y l = (suc l.0, omega (arith, l.1), l.2)

pub among_there : (texts : List (List ℕ)) (text : List ℕ) → is_among texts text ≡ true → Contains texts text
among_there [] text e = absurd cc
among_there (x ∷ xs) text e = elim (either (bytes_eq x text)) [
  | inl same ↦ (0, omega arith, (bytes_eq-Decides x text).0 same)
  | inr other ↦ contains_later x xs text
      (among_there xs text (sym (ap (λ (b : Bool). b || is_among xs text) other) ∙ e))
]

pub or_true : (b : Bool) → (b || true) ≡ true
or_true true = refl
or_true false = refl

pub among_back : (texts : List (List ℕ)) (text : List ℕ) → Contains texts text → is_among texts text ≡ true
among_back [] text l = absurd (omega (arith, l.1))
among_back (x ∷ xs) text (zero, h, e) = ap (λ (b : Bool). b || is_among xs text) ((bytes_eq-Decides x text).1 e)
among_back (x ∷ xs) text (suc k, h, e) =
    ap (λ (b : Bool). bytes_eq x text || b) (among_back xs text (k, omega (arith, h), e)) ∙ or_true (bytes_eq x text)

-- what is left without a word
among_without : (ws : List (List ℕ)) (w v : List ℕ)
    → is_among (without ws w) v ≡ (is_among ws v && not (bytes_eq w v))
among_without [] w v = refl
among_without (x ∷ xs) w v = elim (either (bytes_eq x w)) [
  | inl same ↦
      ap (λ (b : Bool). is_among (if b then without xs w else x ∷ without xs w) v) same
      ∙ (among_without xs w v ∙ sym (ap (λ (y : List ℕ). (bytes_eq y v || is_among xs v) && not (bytes_eq w v))
      ((bytes_eq-Decides x w).0 same) ∙ or_not (bytes_eq w v) (is_among xs v)))
  | inr other ↦
      ap (λ (b : Bool). is_among (if b then without xs w else x ∷ without xs w) v) other
      ∙ (ap (λ (b : Bool). bytes_eq x v || b) (among_without xs w v)
      ∙ apart (bytes_eq x v) (is_among xs v) (bytes_eq w v) (λ a b. clash a b other))
]
  where
    or_not : (b a : Bool) → ((b || a) && not b) ≡ (a && not b)
    or_not true true = refl
    or_not true false = refl
    or_not false a = refl

    clash : bytes_eq x v ≡ true → bytes_eq w v ≡ true → bytes_eq x w ≡ false → ⊥
    clash a b other =
        let same : bytes_eq x w ≡ true =
        (bytes_eq-Decides x w).1 ((bytes_eq-Decides x v).0 a ∙ sym ((bytes_eq-Decides w v).0 b)) in cc

    apart : (a b c : Bool) → (a ≡ true → c ≡ true → ⊥) → (a || (b && not c)) ≡ ((a || b) && not c)
    apart true b true no_both = absurd (no_both refl refl)
    apart true b false no_both = refl
    apart false b c no_both = refl

still_open : (ws : List (List ℕ)) (w v : List ℕ) → is_among ws v ≡ true → bytes_eq w v ≡ false
    → is_among (without ws w) v ≡ true
still_open ws w v a b = among_without ws w v ∙ (ap (λ (c : Bool). c && not (bytes_eq w v)) a
    ∙ ap (λ (c : Bool). not c) b)

was_open : (ws : List (List ℕ)) (w v : List ℕ) → is_among (without ws w) v ≡ true
    → (is_among ws v ≡ true) × (bytes_eq w v ≡ false)
was_open ws w v e = parts (is_among ws v) (bytes_eq w v) (sym (among_without ws w v) ∙ e)
  where
    parts : (a b : Bool) → (a && not b) ≡ true → (a ≡ true) × (b ≡ false)
    parts true true e = absurd cc
    parts true false e = (refl, refl)
    parts false b e = absurd cc

no_longer : (ws : List (List ℕ)) (w : List ℕ) → length (without ws w) ≤ length ws
no_longer [] w = omega arith
no_longer (x ∷ xs) w = elim (bytes_eq x w) as (λ (b : Bool). length (if b then without xs w else x ∷ without xs w)
    ≤ suc (length xs)) [
      | true ↦ omega (arith, no_longer xs w)
      | false ↦ omega (arith, no_longer xs w)
    ]

shorter : (ws : List (List ℕ)) (w : List ℕ) → is_among ws w ≡ true → length (without ws w) < length ws
shorter [] w e = absurd cc
shorter (x ∷ xs) w e = elim (either (bytes_eq x w)) [
  | inl same ↦ rw same (omega (arith, no_longer xs w))
  | inr other ↦
      let less = shorter xs w (sym (ap (λ (b : Bool). b || is_among xs w) other) ∙ e) in rw other (omega (arith, less))
]

-- ---- each word is still open where it stands

abbrev AreOpen : List (List ℕ) → List (List ℕ) → Type 0
AreOpen open_words [] = Unit {0}
AreOpen open_words (w ∷ more) = (is_among open_words w ≡ true) × AreOpen (without open_words w) more

abbrev AllAmong : List (List ℕ) → List (List ℕ) → Type 0
AllAmong open_words found = AllByRecursion (λ v. is_among open_words v ≡ true) found

all_still : (ws : List (List ℕ)) (w : List ℕ) (found : List (List ℕ))
    → AllAmong ws found → AllByRecursion (λ v. bytes_eq w v ≡ false) found → AllAmong (without ws w) found
all_still ws w [] all apart = tt
all_still ws w (v ∷ more) all apart = (still_open ws w v all.0 apart.0, all_still ws w more all.1 apart.1)

all_were : (ws : List (List ℕ)) (w : List ℕ) (found : List (List ℕ)) → AllAmong (without ws w) found
    → AllAmong ws found × AllByRecursion (λ v. bytes_eq w v ≡ false) found
all_were ws w [] all = (tt, tt)
all_were ws w (v ∷ more) all =
    let first = was_open ws w v all.0 in
    let others = all_were ws w more all.1 in
    ((first.0, others.0), (first.1, others.1))

open_there : (ws found : List (List ℕ)) → IsDistinct bytes_eq found → AllAmong ws found → AreOpen ws found
unfolding IsDistinct
open_there ws [] distinct all = tt
open_there ws (w ∷ more) distinct all =
    (all.0, open_there (without ws w) more distinct.1 (all_still ws w more all.1 distinct.0))

open_back : (ws found : List (List ℕ)) → AreOpen ws found → IsDistinct bytes_eq found × AllAmong ws found
unfolding IsDistinct
open_back ws [] l = (tt, tt)
open_back ws (w ∷ more) l =
    let others = open_back (without ws w) more l.1 in
    let were = all_were ws w more others.1 in
    ((were.1, others.0), (l.0, were.0))

among_all : (ws found : List (List ℕ)) → All (Contains ws) found → AllAmong ws found
among_all ws [] all = tt
among_all ws (w ∷ more) all =
    (among_back ws w (all 0 w (omega arith)), among_all ws more (λ k d h. all (suc k) d (omega (arith, h))))

contains_all : (ws found : List (List ℕ)) → AllAmong ws found → AllByRecursion (Contains ws) found
contains_all ws [] all = tt
contains_all ws (w ∷ more) all = (among_there ws w all.0, contains_all ws more all.1)

-- ---- the reading

-- A token that doesn't continue these words is none of those that are left.
abbrev pub Ends : List (List ℕ) → List (List ℕ) → Lexeme → Type 0
Ends open_words [] t = is_open open_words t ≡ false
Ends open_words (w ∷ more) t = Ends (without open_words w) more t

pub no_more : (most : ℕ) (ws : List (List ℕ)) (ts : List Lexeme) → begins (is_open ws) ts ≡ false
    → words_at most ws ts ≡ Ok ([], ts)
unfolding words_at
no_more zero ws ts e = refl
no_more (suc most) ws ts e = chosen_other (is_open ws)
    (one_at (word_of ws) >>= λ w. made (λ found. w ∷ found) (words_at most (without ws w))) (pure []) ts e

pub one_more : (most : ℕ) (ws : List (List ℕ)) (t : Lexeme) (ts : List Lexeme) → is_open ws t ≡ true
    → words_at (suc most) ws (t ∷ ts)
    ≡ go_on (words_at most (without ws t.text) ts) (λ found. pure (t.text ∷ found))
unfolding words_at one_at
one_more most ws t ts e =
    chosen_first (is_open ws)
    (one_at (word_of ws) >>= λ w. made (λ found. w ∷ found) (words_at most (without ws w))) (pure []) (t ∷ ts) e
    ∙ ap (λ (b : Bool). go_on (given (if b then Some t.text else None) ts (suc (length ts)))
    (λ w. made (λ found. w ∷ found) (words_at most (without ws w)))) e

abbrev Words : List (List ℕ) → List (List ℕ) → List Lexeme → Type 0
Words ws found ts = (ts ≡ map word found) × AreOpen ws found

stops_where : (test : Lexeme → Bool) (ts : List Lexeme) → begins test ts ≡ false → StopsAt (λ t. test t ≡ false) ts
stops_where test [] e = tt
stops_where test (t ∷ ts) e = e

begins_none : (test : Lexeme → Bool) (ts : List Lexeme) → StopsAt (λ t. test t ≡ false) ts → begins test ts ≡ false
begins_none test [] stops = refl
begins_none test (t ∷ ts) stops = stops

-- no word is open
none_open : (ts : List Lexeme) → begins (is_open []) ts ≡ false
none_open [] = refl
none_open (t ∷ ts) = and_false (is_word_kind t.kind)
  where
    and_false : (b : Bool) → (b && false) ≡ false
    and_false true = refl
    and_false false = refl

no_room : (ws : List (List ℕ)) → length ws ≤ 0 → ws ≡ []
no_room [] h = refl
no_room (w ∷ ws) h = absurd (omega (arith, h))

-- what is open is a word among them
open_parts : (ws : List (List ℕ)) (t : Lexeme) → is_open ws t ≡ true
    → (t ≡ word t.text) × (is_among ws t.text ≡ true)
open_parts ws t e = (
  same_token t.kind (word t.text).kind t.text t.text (word_kind t.kind (left (is_word_kind t.kind)
      (is_among ws t.text) e)) refl,
  right (is_word_kind t.kind) (is_among ws t.text) e,
)
  where
    left : (a b : Bool) → (a && b) ≡ true → a ≡ true
    left true b e = refl
    left false b e = absurd cc

    right : (a b : Bool) → (a && b) ≡ true → b ≡ true
    right true b e = e
    right false b e = absurd cc

taken_so : (most : ℕ) (ws : List (List ℕ)) (ts rest : List Lexeme) (found : List (List ℕ)) → length ws ≤ most
    → words_at most ws ts ≡ Ok (found, rest) → Taken (Words ws) (Ends ws) ts found rest
taken_so most ws [] rest found enough e =
    none_taken most ws [] rest found refl e
  where
    none_taken : (most : ℕ) (ws : List (List ℕ)) (ts rest : List Lexeme) (found : List (List ℕ))
        → begins (is_open ws) ts ≡ false
        → words_at most ws ts ≡ Ok (found, rest) → Taken (Words ws) (Ends ws) ts found rest
    none_taken most ws ts rest found failed e =
        subst (λ (read : List (List ℕ) × List Lexeme). Taken (Words ws) (Ends ws) ts read.0 read.1)
        (same_read ([], ts) (found, rest) (sym (no_more most ws ts failed) ∙ e))
        (record { taken = []; parts = refl; spelled = (refl, tt); stops = stops_where (is_open ws) ts failed })
taken_so most ws (t ∷ ts) rest found enough e = elim (either (is_open ws t)) [
  | inl passed ↦ one_taken
      (λ most middle value less read. taken_so most (without ws t.text) ts middle value less read) most enough e passed
  | inr failed ↦ none_taken failed
]
  where
    none_taken : is_open ws t ≡ false → Taken (Words ws) (Ends ws) (t ∷ ts) found rest
    none_taken failed =
        subst (λ (read : List (List ℕ) × List Lexeme). Taken (Words ws) (Ends ws) (t ∷ ts) read.0 read.1)
        (same_read ([], t ∷ ts) (found, rest) (sym (no_more most ws (t ∷ ts) failed) ∙ e))
        (record { taken = []; parts = refl; spelled = (refl, tt); stops = failed })

    one_taken : ((most : ℕ) (middle : List Lexeme) (value : List (List ℕ)) → length (without ws t.text) ≤ most
        → words_at most (without ws t.text) ts ≡ Ok (value, middle)
        → Taken (Words (without ws t.text)) (Ends (without ws t.text)) ts value middle)
        → (most : ℕ) → length ws ≤ most → words_at most ws (t ∷ ts) ≡ Ok (found, rest) → is_open ws t ≡ true
        → Taken (Words ws) (Ends ws) (t ∷ ts) found rest
    one_taken next zero enough e passed =
        absurd (let failed : is_open ws t ≡ false = ap (λ (ws : List (List ℕ)). is_open ws t) (no_room ws enough)
        ∙ none_open (t ∷ ts) in cc)
    one_taken next (suc most) enough e passed =
        let word_is = open_parts ws t passed in
        let b = both_read (words_at most (without ws t.text) ts) (λ found. pure (t.text ∷ found)) (found, rest)
        (sym (one_more most ws t ts passed) ∙ e) in
        let less : length (without ws t.text) ≤ most = omega (arith, shorter ws t.text word_is.1, enough) in
        let inner = next most b.middle b.value less b.first in
        subst (λ (read : List (List ℕ) × List Lexeme). Taken (Words ws) (Ends ws) (t ∷ ts) read.0 read.1)
        (same_read (t.text ∷ b.value, b.middle) (found, rest) b.second)
        (record {
          taken = t ∷ inner.taken;
          parts = ap (λ (us : List Lexeme). t ∷ us) inner.parts;
          spelled = (
            ap (λ (us : List Lexeme). t ∷ us) inner.spelled.0
                ∙ ap (λ (u : Lexeme). u ∷ map word b.value) word_is.0,
            (word_is.1, inner.spelled.1),
          );
          stops = inner.stops;
        })

read_so : (most : ℕ) (ws found : List (List ℕ)) (rest : List Lexeme) → length ws ≤ most → AreOpen ws found
    → StopsAt (Ends ws found) rest → words_at most ws (map word found ++ rest) ≡ Ok (found, rest)
read_so most ws [] rest enough l stops = no_more most ws rest (begins_none (is_open ws) rest stops)
read_so zero ws (w ∷ more) rest enough l stops =
    absurd (let none : is_among ws w ≡ false = ap (λ (ws : List (List ℕ)). is_among ws w) (no_room ws enough) in
    let some = l.0 in cc)
read_so (suc most) ws (w ∷ more) rest enough l stops =
    one_more most ws (word w) (map word more ++ rest) l.0
    ∙ ap (λ r. go_on r (λ found. pure (w ∷ found)))
    (read_so most (without ws w) more rest (omega (arith, shorter ws w l.0, enough)) l.1 stops)

none_to_read : (ws : List (List ℕ)) (ts : List Lexeme) → words_at zero ws ts ≡ Ok ([], ts)
unfolding words_at
none_to_read ws ts = refl

-- It refuses nothing.
never_refuses : (most : ℕ) (ws : List (List ℕ)) (ts : List Lexeme) (left : ℕ) → words_at most ws ts ≡ Err left → ⊥
never_refuses most ws [] left e = absurd (let read = no_more most ws [] refl in cc)
never_refuses zero ws (t ∷ ts) left e = absurd (let read = none_to_read ws (t ∷ ts) in cc)
never_refuses (suc most) ws (t ∷ ts) left e = elim (either (is_open ws t)) [
  | inl passed ↦ elim (one_refused (words_at most (without ws t.text) ts) (λ found. pure (t.text ∷ found)) left
      (sym (one_more most ws t ts passed) ∙ e)) [
        | inl refused ↦ never_refuses most (without ws t.text) ts left refused
        | inr b ↦ absurd (let none = b.second in cc)
      ]
  | inr failed ↦ absurd (let read = no_more (suc most) ws (t ∷ ts) failed in cc)
]

-- Where so many may be read as there are words, the reading is that of the words.
pub words_read : (most : ℕ) (ws : List (List ℕ)) → length ws ≤ most
    → IsReader (words_at most ws) (AreFlags ws) (Ends ws)
words_read most ws enough =
    of_language (AreFlags ws)
    (λ found ts l. let parts = open_back ws found l.1 in
    (l.0, parts.0, All-from_recursion (Contains ws) found (contains_all ws found parts.1)))
    (λ found ts l. (l.0, open_there ws found l.1 (among_all ws found l.2)))
    (record {
      takes = λ ts rest found e. taken_so most ws ts rest found enough e;
      reads = λ found taken rest l stops.
          ap (λ (ts : List Lexeme). words_at most ws (ts ++ rest)) l.0 ∙ read_so most ws found rest enough l.1 stops;
      refuses = λ ts left e. absurd (never_refuses most ws ts left e);
      some = [];
      sentence = [];
      sample = (refl, tt);
    })

-- None of the words stands first.
pub not_open : (t : Lexeme) (ws : List (List ℕ)) → AllByRecursion (λ w. is_keyword w t ≡ false) ws
    → is_open ws t ≡ false
not_open t ws none = closed ws none
  where
    closed : (ws : List (List ℕ)) → AllByRecursion (λ w. is_keyword w t ≡ false) ws → is_open ws t ≡ false
    closed [] none = none_open (t ∷ [])
    closed (w ∷ ws) none = either_closed (is_word_kind t.kind) (bytes_eq t.text w) (bytes_eq w t.text)
        (is_among ws t.text) (bytes_eq-swapped t.text w) none.0 (closed ws none.1)
      where
        either_closed : (word_here same same_too among : Bool) → same ≡ same_too → (word_here && same) ≡ false
            → (word_here && among) ≡ false
            → (word_here && (same_too || among)) ≡ false
        either_closed true same same_too among e a b = ap (λ (c : Bool). c || among) (sym e ∙ a) ∙ b
        either_closed false same same_too among e a b = refl

        bytes_eq-swapped : (x y : List ℕ) → bytes_eq x y ≡ bytes_eq y x
        bytes_eq-swapped x y = elim (either (bytes_eq x y)) [
          | inl same ↦ same ∙ sym ((bytes_eq-Decides y x).1 (sym ((bytes_eq-Decides x y).0 same)))
          | inr other ↦ elim (either (bytes_eq y x)) [
            | inl same ↦ absurd (let back = (bytes_eq-Decides x y).1 (sym ((bytes_eq-Decides y x).0 same)) in cc)
            | inr also ↦ other ∙ sym also
          ]
        ]

pub none_begin : (ws : List (List ℕ)) (ts : List Lexeme)
    → AllByRecursion (λ w. begins (is_keyword w) ts ≡ false) ws → begins (is_open ws) ts ≡ false
none_begin ws [] none = refl
none_begin ws (t ∷ ts) none = not_open t ws none

-- What is none of the words continues none of them.
pub ends_anyway : (ws found : List (List ℕ)) (t : Lexeme) → AllByRecursion (λ w. is_keyword w t ≡ false) ws
    → Ends ws found t
ends_anyway ws [] t none = not_open t ws none
ends_anyway ws (w ∷ more) t none = ends_anyway (without ws w) more t (none_left ws none)
  where
    none_left : (ws : List (List ℕ)) → AllByRecursion (λ w. is_keyword w t ≡ false) ws
        → AllByRecursion (λ w. is_keyword w t ≡ false) (without ws w)
    none_left [] none = tt
    none_left (x ∷ xs) none =
        elim (bytes_eq x w) as (λ (b : Bool). AllByRecursion (λ w. is_keyword w t ≡ false)
        (if b then without xs w else x ∷ without xs w)) [
          | true ↦ none_left xs none.1
          | false ↦ (none.0, none_left xs none.1)
        ]
