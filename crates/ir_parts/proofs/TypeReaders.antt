-- Types are read, where a place takes some kinds of them.
use Rattle.std.proofs.Common.{◌≡◌, ℕ, zero, suc, ◌^◌, ◌<◌, ◌≢◌, Bool, true, false, ◌&&◌, ◌==◌, ltb, if◌then◌else◌, List, [], ◌∷◌, ◌++◌, length, Option, Some, None, Err, ◌⊎◌, inl, inr, refl, sym, ap, subst, ◌∙◌, append_assoc, codes, pos, neg_ℤ, arith}
use Rattle.std.specs.List.{list_all}
use Rattle.std.specs.Str.{bytes_eq}
use Rattle.std.specs.Str.Parse.{digits_value, starts_with_minus, without_leading_sign}
use Rattle.std.proofs.lemmas.Bool.{and_parts, eqb-true, ltb-true, lt-ltb}
use Rattle.std.proofs.lemmas.List.{length-append}
use Rattle.ir_model.specs.declared.types.IrType.{IrType}
use Rattle.ir_model.specs.declared.types.IrType.TheVariants.{Void, Int, Ptr, Array}
use Rattle.ir_text.specs.declared.token.TokenKind.{TokenKind}
use Rattle.ir_text.specs.declared.token.TokenKind.TheVariants.{Word, Numeral}
use Rattle.ir_text.specs.Bytes.{is_digit}
use Rattle.ir_text.specs.Tokens.{Lexeme}
use Rattle.ir_text.specs.Listed.{word, sign, InSequence}
use Rattle.ir_text.specs.Language.{Language, ◌·◌, one, keyword, punctuation}
use Rattle.ir_model.specs.Kinds.{IsInt, IsStored, IsScalar, IsReturned}
use Rattle.ir_text.specs.Types.{IsNumeral, IsIntText, IsIntType, SpellsElements, SpellsType, SpellsTypeOf}
use Rattle.ir_parts.specs.Reading.{Read, ◌>>=◌, pure, one_at, begins, is_word_kind, is_keyword, is_punctuation}
use Rattle.ir_parts.specs.TypeReading.{below, int_width_of, int_width, dimension_of, is_numeral_kind, dimension, int_at, dimension_at, dimensions_at, closings_at, array_at, pointer_at, void_at, int_type_at, stored_type_at, scalar_type_at, returned_type_at, type_at}
use Rattle.ir_parts.proofs.Readers.{StopsAt, IsReader, Anything, of_language, mapped, one_reads, followed, then_reads, chosen}
use Rattle.ir_parts.proofs.NoneGoesOn.{refused_there}
use Rattle.ir_parts.proofs.Repeated.{Behind, repeated}
use Rattle.ir_parts.proofs.Combined.{pure_reads, behind_token, stands_for, before_token, chosen_where, not_at_first}
use Rattle.ir_parts.proofs.SingleTokens.{both_true, word_kind, keyword_reads, sign_reads, is_word, is_sign_itself, is_sign}

-- ---- numbers of tokens

pub if_some : {A : Type 0} (b : Bool) (o : Option A) (x : A) → (if b then o else None) ≡ Some x
    → (b ≡ true) × (o ≡ Some x)
if_some true o x e = (refl, e)
if_some false o x e = absurd cc

pub where_true : {A : Type 0} (b : Bool) (o : Option A) → b ≡ true → (if b then o else None) ≡ o
where_true true o e = refl
where_true false o e = absurd cc

is_below : (most n m : ℕ) → below most n ≡ Some m → (n ≡ m) × (n < most)
is_below most n m e =
    let parts = if_some (ltb n most) (Some n) m e in
    (same n m parts.1, ltb-true n most parts.0)
  where
    same : (n m : ℕ) → ◌≡◌ {A = Option ℕ} (Some n) (Some m) → n ≡ m
    same n m e = cc

below_is : (most n m : ℕ) → n ≡ m → m < most → below most n ≡ Some m
below_is most n m e h = rw e (where_true (ltb m most) (Some m) (lt-ltb m most h))

some_length : (bs : List ℕ) → ltb 0 (length bs) ≡ true → bs ≢ []
some_length bs h e = let positive = ltb-true 0 (length bs) h in absurd (omega (arith, ap length e))

length_some : (bs : List ℕ) → bs ≢ [] → ltb 0 (length bs) ≡ true
length_some [] h = absurd (h refl)
length_some (b ∷ bs) h = lt-ltb 0 (length (b ∷ bs)) (omega arith)

pub int_text : (width : ℕ) (text : List ℕ) → int_width_of text ≡ Some width → IsIntText width text
unfolding int_width_of
int_text width [] e = absurd cc
int_text width (b ∷ bs) e =
    let parts = if_some ((b == 105) && (ltb 0 (length bs) && list_all is_digit bs)) (below (2 ^ 32) (digits_value 10
    bs)) width e in
    let tests = and_parts (b == 105) (ltb 0 (length bs) && list_all is_digit bs) parts.0 in
    let digits = and_parts (ltb 0 (length bs)) (list_all is_digit bs) tests.1 in
    let value = is_below (2 ^ 32) (digits_value 10 bs) width parts.1 in
    (bs, ap (λ (b : ℕ). b ∷ bs) (eqb-true b 105 tests.0), some_length bs digits.0, digits.1, value.0, omega arith)

pub int_text_width : (width : ℕ) (text : List ℕ) → IsIntText width text → int_width_of text ≡ Some width
unfolding int_width_of
int_text_width width text is = rw is.1
    (where_true (ltb 0 (length is.0) && list_all is_digit is.0) (below (2 ^ 32) (digits_value 10 is.0))
    (both_true (ltb 0 (length is.0)) (list_all is_digit is.0) (length_some is.0 is.2) is.3)
    ∙ below_is (2 ^ 32) (digits_value 10 is.0) width is.4 is.5)

int_there : (width : ℕ) (t : Lexeme) → int_width t ≡ Some width → IsIntType width t
int_there width t e =
    let parts = if_some (is_word_kind t.kind) (int_width_of t.text) width e in
    (word_kind t.kind parts.0, int_text width t.text parts.1)

int_back : (width : ℕ) (t : Lexeme) → IsIntType width t → int_width t ≡ Some width
int_back width t is = rw is.0 (int_text_width width t.text is.1)

i1 : IsIntType 1 (word (codes "i1"))
unfolding is_digit
i1 = (refl, (codes "1", refl, (λ e. cc), refl, refl, omega arith))

pub int_reads : IsReader int_at (λ width. one (IsIntType width)) Anything
int_reads = one_reads int_width IsIntType int_there int_back 1 (word (codes "i1")) i1

-- ---- dimensions

pub numeral_kind : (kind : TokenKind) → is_numeral_kind kind ≡ true → kind ≡ Numeral
numeral_kind Numeral e = refl
numeral_kind _ e = absurd cc

abbrev pub IsDimension : ℕ → Lexeme → Type 0
IsDimension d t = IsNumeral (pos d) t × (d < 2 ^ 64)

-- the number behind a sign, where it is none below 0
dimension_value : (minus : Bool) (n d : ℕ) → (if minus then below 1 n else below (2 ^ 64) n) ≡ Some d
    → ((if minus then neg_ℤ (pos n) else pos n) ≡ pos d) × (d < 2 ^ 64)
dimension_value true zero d e = let value = is_below 1 0 d e in (ap pos value.0, omega arith)
dimension_value true (suc n) d e = let value = is_below 1 (suc n) d e in absurd (omega arith)
dimension_value false n d e = let value = is_below (2 ^ 64) n d e in (ap pos value.0, omega arith)

value_dimension : (minus : Bool) (n d : ℕ) → (if minus then neg_ℤ (pos n) else pos n) ≡ pos d → d < 2 ^ 64
    → (if minus then below 1 n else below (2 ^ 64) n) ≡ Some d
value_dimension true zero d e h = let same : 0 ≡ d = cc in below_is 1 0 d same (omega arith)
value_dimension true (suc n) d e h = absurd cc
value_dimension false n d e h = let same : n ≡ d = cc in below_is (2 ^ 64) n d same h

dimension_there : (d : ℕ) (t : Lexeme) → dimension t ≡ Some d → IsDimension d t
unfolding dimension_of
dimension_there d t e =
    let parts = if_some (is_numeral_kind t.kind) (dimension_of t.text) d e in
    let value = dimension_value (starts_with_minus t.text) (digits_value 10 (without_leading_sign t.text)) d parts.1 in
    ((numeral_kind t.kind parts.0, value.0), value.1)

dimension_back : (d : ℕ) (t : Lexeme) → IsDimension d t → dimension t ≡ Some d
unfolding dimension_of
dimension_back d t is = rw is.0.0
    (value_dimension (starts_with_minus t.text) (digits_value 10 (without_leading_sign t.text)) d is.0.1 is.1)

-- `[ d x`
abbrev pub SpellsDimension : ℕ → Language
SpellsDimension d = punctuation 91 · one (IsDimension d) · keyword (codes "x")

one_dimension : IsReader (one_at dimension) (λ d. one (IsDimension d)) Anything
one_dimension = one_reads dimension IsDimension dimension_there dimension_back 1 (record {
  kind = Numeral;
  text =
      codes "1";
})
    ((refl, refl), omega arith)

dimension_reads : IsReader dimension_at SpellsDimension Anything
unfolding dimension_at
dimension_reads = behind_token (sign_reads 91) (before_token one_dimension (keyword_reads (codes "x")))

dimension_starts : (d : ℕ) (ts : List Lexeme) → SpellsDimension d ts → begins (is_punctuation 91) ts ≡ true
dimension_starts d ts l = rw (l.2, l.3) (is_sign_itself 91)

dimension_begun : (t : Lexeme) (ts : List Lexeme) → is_punctuation 91 t ≡ true
    → dimension_at (t ∷ ts) ≡ Err (suc (length ts)) → ⊥
unfolding dimension_at
dimension_begun t ts passed e =
    not_at_first (is_punctuation 91) (before_token one_dimension (keyword_reads (codes "x"))) t ts passed e

dimensions_read : IsReader dimensions_at (InSequence SpellsDimension) (Behind (is_punctuation 91) (λ t. Unit {0}))
dimensions_read = repeated (is_punctuation 91) (λ t. Unit {0}) dimension_reads dimension_starts (λ t e. tt)
    dimension_begun

-- ---- closing brackets

pub closers : ℕ → List Lexeme
closers zero = []
closers (suc n) = sign 93 ∷ closers n

closers_end : (n : ℕ) → closers (suc n) ≡ closers n ++ sign 93 ∷ []
unfolding closers
closers_end zero = refl
closers_end (suc n) = ap (λ (ts : List Lexeme). sign 93 ∷ ts) (closers_end n)

closers_none : closers 0 ≡ []
unfolding closers
closers_none = refl

closings_read : (n : ℕ) → IsReader (closings_at n) (λ (x : Unit {0}) ts. ts ≡ closers n) Anything
unfolding closings_at closers
closings_read zero = of_language (λ (x : Unit {0}) ts. ts ≡ []) (λ x ts l. l.1) (λ x ts l. (refl, l)) (pure_reads tt)
closings_read (suc n) =
    of_language (λ (x : Unit {0}) ts. ts ≡ sign 93 ∷ closers n)
    (λ x ts l. rw (l.2, l.3, l.4) refl)
    (λ x ts l. (sign 93 ∷ [], closers n, l, refl, refl))
    (behind_token (sign_reads 93) (closings_read n))

-- ---- arrays

-- the parts of an array, where the brackets stand for no dimension too
abbrev pub SpellsArray : IrType → Language
SpellsArray kind ts = (dims : List ℕ) × (InSequence SpellsDimension dims
    · (λ ts. (width : ℕ) × (one (IsIntType width) · (λ ts. (kind ≡ Array dims width) × (ts ≡ closers (length dims))))
    ts)) ts

no_bracket : (width : ℕ) (taken rest : List Lexeme) (A : Language) → (one (IsIntType width) · A) taken
    → begins (is_punctuation 91) (taken ++ rest) ≡ false
no_bracket width taken rest A l = rw (l.2, l.3.1) (no_sign l.3.0.kind l.3.0.text l.3.2.0)
  where
    no_sign : (kind : TokenKind) (text : List ℕ) → kind ≡ Word
        → is_punctuation 91 (record { kind = kind; text = text }) ≡ false
    no_sign kind text e = rw e refl

behind_dimensions : (dims : List ℕ) (rest : List Lexeme) → begins (is_punctuation 91) rest ≡ false
    → StopsAt (Behind (is_punctuation 91) (λ t. Unit {0}) dims) rest
behind_dimensions dims [] e = tt
behind_dimensions [] (t ∷ rest) e = e
behind_dimensions (d ∷ dims) (t ∷ rest) e = (e, tt)

array_reads : IsReader array_at SpellsArray Anything
unfolding array_at
array_reads =
    followed (λ dims. int_at >>= λ width. closings_at (length dims) >>= λ x. pure (Array dims width))
    (λ dims kind ts. (width : ℕ) × (one (IsIntType width) · (λ ts. (kind ≡ Array dims width) × (ts ≡ closers (length
    dims)))) ts)
    Anything dimensions_read
    (λ dims. then_reads (λ width. closings_at (length dims) >>= λ x. pure (Array dims width))
    (λ width kind ts. (kind ≡ Array dims width) × (ts ≡ closers (length dims))) Anything int_reads
    (λ width. stands_for (Array dims width) (closings_read (length dims))))
    (λ dims kind taken rest l stops. behind_dimensions dims (taken ++ rest)
    (no_bracket l.0 taken rest (λ ts. (kind ≡ Array dims l.0) × (ts ≡ closers (length dims))) l.1))

-- the tokens of elements: those of the dimensions, the element's type, and the brackets that close
record Elements (dims : List ℕ) (width : ℕ) (ts : List Lexeme) : Type 0 where
  opening : List Lexeme
  element : Lexeme
  parts : ts ≡ opening ++ element ∷ closers (length dims)
  dimensions : InSequence SpellsDimension dims opening
  is_int : IsIntType width element

elements_there : (dims : List ℕ) (width : ℕ) (us : List Lexeme) (t : Lexeme) → InSequence SpellsDimension dims us
    → IsIntType width t → SpellsElements dims width (us ++ t ∷ closers (length dims))
elements_there [] width us t l is = rw l (t, no_closers t, is)
  where
    no_closers : (t : Lexeme) → t ∷ closers 0 ≡ t ∷ []
    no_closers t = ap (λ (ts : List Lexeme). t ∷ ts) closers_none
elements_there (d ∷ dims) width us t l is =
    let inner : List Lexeme = l.1 ++ t ∷ closers (length dims) in
    let number : Lexeme = l.3.4.3.0 in
    let parts : us ++ t ∷ closers (suc (length dims)) ≡ sign 91 ∷ (number ∷ (word (codes "x") ∷ (inner ++ sign 93 ∷
    []))) =
    rw (l.2, l.3.2, l.3.3, l.3.4.2, l.3.4.3.1, l.3.4.4, closers_end (length dims))
    (ap (λ (ts : List Lexeme). sign 91 ∷ (number ∷ (word (codes "x") ∷ ts)))
    (sym (append_assoc l.1 (t ∷ closers (length dims)) (sign 93 ∷ [])))) in (
      sign 91 ∷ [],
      number ∷ (word (codes "x") ∷ (inner ++ sign 93 ∷ [])),
      parts,
      refl,
      (
        number ∷ [],
        word (codes "x") ∷ (inner ++ sign 93 ∷ []),
        refl,
        (number, refl, l.3.4.3.2),
        (
          word (codes "x") ∷ [],
          inner ++ sign 93 ∷ [],
          refl,
          refl,
          (inner, sign 93 ∷ [], refl, elements_there dims width l.1 t l.4 is, refl),
        ),
      ),
    )

elements_back : (dims : List ℕ) (width : ℕ) (ts : List Lexeme) → SpellsElements dims width ts → Elements dims width ts
elements_back [] width ts l = record {
  opening = [];
  element = l.0;
  parts = l.1 ∙ ap (λ (ts : List Lexeme). l.0 ∷ ts) (sym closers_none);
  dimensions = refl;
  is_int = l.2;
}
elements_back (d ∷ dims) width ts l =
    let number : Lexeme = l.4.3.0 in
    let rest = l.4.4.4 in
    let inner = elements_back dims width rest.0 rest.3 in
    let first : List Lexeme = sign 91 ∷ (number ∷ (word (codes "x") ∷ [])) in
    record {
      opening = first ++ inner.opening;
      element = inner.element;
      parts = rw (l.2, l.3, l.4.2, l.4.3.1, l.4.4.2, l.4.4.3, rest.2, rest.4, closers_end (length dims))
          (ap (λ (ts : List Lexeme). sign 91 ∷ (number ∷ (word (codes "x") ∷ (ts ++ sign 93 ∷ [])))) inner.parts
          ∙ ap (λ (ts : List Lexeme). sign 91 ∷ (number ∷ (word (codes "x") ∷ ts)))
          (append_assoc inner.opening (inner.element ∷ closers (length dims)) (sign 93 ∷ [])));
      dimensions = (
        first,
        inner.opening,
        refl,
        (
          sign 91 ∷ [],
          number ∷ (word (codes "x") ∷ []),
          refl,
          refl,
          (number ∷ [], word (codes "x") ∷ [], refl, (number, refl, l.4.3.2), refl),
        ),
        inner.dimensions,
      );
      is_int = inner.is_int;
    }

-- ---- kinds of types

pub int_types : IsReader int_type_at (SpellsTypeOf IsInt) Anything
unfolding int_type_at
int_types = of_language (SpellsTypeOf IsInt)
    (λ kind ts l. subst (λ (kind : IrType). SpellsTypeOf IsInt kind ts) (sym l.1) (tt, l.2))
    int_parts (mapped Int Anything (λ x t s. tt) (λ x t s. tt) int_reads)
  where
    int_parts : (kind : IrType) (ts : List Lexeme) → SpellsTypeOf IsInt kind ts
        → (width : ℕ) × (kind ≡ Int width) × one (IsIntType width) ts
    int_parts (Int width) ts l = (width, refl, l.1)
    int_parts _ ts l = absurd l.0

-- `iN` is no other word, and no sign
int_is_no : (text : List ℕ) (width : ℕ) (t : Lexeme) → IsIntType width t
    → ((digits : List ℕ) → bytes_eq (105 ∷ digits) text ≡ false) → is_keyword text t ≡ false
int_is_no text width t is other = rw (is.0, is.1.1) (other is.1.0)

int_is_no_bracket : (width : ℕ) (t : Lexeme) → IsIntType width t → is_punctuation 91 t ≡ false
int_is_no_bracket width t is = rw is.0 refl

begins_not : (test : Lexeme → Bool) (t : Lexeme) (taken rest : List Lexeme) → taken ≡ t ∷ [] → test t ≡ false
    → begins test (taken ++ rest) ≡ false
begins_not test t taken rest e failed = rw e failed

int_begins_no_word : (text : List ℕ) → ((digits : List ℕ) → bytes_eq (105 ∷ digits) text ≡ false)
    → (kind : IrType) (taken rest : List Lexeme) → SpellsTypeOf IsInt kind taken
    → begins (is_keyword text) (taken ++ rest) ≡ false
int_begins_no_word text other (Int width) taken rest l =
    begins_not (is_keyword text) l.1.0 taken rest l.1.1 (int_is_no text width l.1.0 l.1.2 other)
int_begins_no_word text other _ taken rest l = absurd l.0

int_begins_no_bracket : (kind : IrType) (taken rest : List Lexeme) → SpellsTypeOf IsInt kind taken
    → begins (is_punctuation 91) (taken ++ rest) ≡ false
int_begins_no_bracket (Int width) taken rest l =
    begins_not (is_punctuation 91) l.1.0 taken rest l.1.1 (int_is_no_bracket width l.1.0 l.1.2)
int_begins_no_bracket _ taken rest l = absurd l.0

-- what begins with a word goes on behind it
word_begun : {X : Type 0} {read : Read X} {L : X → List Lexeme → Type 0} {Stop : X → Lexeme → Type 0} (text : List ℕ)
    → IsReader read L Stop → (x : X) (others : List Lexeme) → L x (word text ∷ others)
    → (t : Lexeme) (ts : List Lexeme) → is_keyword text t ≡ true → read (t ∷ ts) ≡ Err (suc (length ts)) → ⊥
word_begun {L = L} text r x others l t ts passed e = refused_there r [] ts t e (record {
  whole = x;
  others = others;
  sentence = subst (λ (t : Lexeme). L x (t ∷ others)) (sym (is_word text t passed)) l;
})

sign_begun : {X : Type 0} {read : Read X} {L : X → List Lexeme → Type 0} {Stop : X → Lexeme → Type 0} (b : ℕ)
    → IsReader read L Stop → (x : X) (others : List Lexeme) → L x (sign b ∷ others)
    → (t : Lexeme) (ts : List Lexeme) → is_punctuation b t ≡ true → read (t ∷ ts) ≡ Err (suc (length ts)) → ⊥
sign_begun {L = L} b r x others l t ts passed e = refused_there r [] ts t e (record {
  whole = x;
  others = others;
  sentence = subst (λ (t : Lexeme). L x (t ∷ others)) (sym (is_sign b t passed)) l;
})

pointers : IsReader pointer_at (λ kind ts. (kind ≡ Ptr) × keyword (codes "ptr") ts) Anything
unfolding pointer_at
pointers = stands_for Ptr (keyword_reads (codes "ptr"))

voids : IsReader void_at (λ kind ts. (kind ≡ Void) × keyword (codes "void") ts) Anything
unfolding void_at
voids = stands_for Void (keyword_reads (codes "void"))

pub scalar_types : IsReader scalar_type_at (SpellsTypeOf IsScalar) Anything
unfolding scalar_type_at
scalar_types = of_language (SpellsTypeOf IsScalar) there back
    (chosen (is_keyword (codes "ptr")) pointers int_types
    (λ kind ts l. rw l.1 refl)
    (λ kind taken rest l stops. int_begins_no_word (codes "ptr") (λ digits. refl) kind taken rest l)
    (word_begun (codes "ptr") pointers Ptr [] (refl, refl)))
  where
    of_int : (kind : IrType) (ts : List Lexeme) → SpellsTypeOf IsInt kind ts → SpellsTypeOf IsScalar kind ts
    of_int (Int width) ts l = l
    of_int _ ts l = absurd l.0

    there : (kind : IrType) (ts : List Lexeme)
        → ((kind ≡ Ptr) × keyword (codes "ptr") ts) ⊎ SpellsTypeOf IsInt kind ts → SpellsTypeOf IsScalar kind ts
    there kind ts (inl l) = subst (λ (kind : IrType). SpellsTypeOf IsScalar kind ts) (sym l.0) (tt, l.1)
    there kind ts (inr l) = of_int kind ts l

    back : (kind : IrType) (ts : List Lexeme) → SpellsTypeOf IsScalar kind ts
        → ((kind ≡ Ptr) × keyword (codes "ptr") ts) ⊎ SpellsTypeOf IsInt kind ts
    back (Int width) ts l = inr l
    back Ptr ts l = inl (refl, l.1)
    back _ ts l = absurd l.0

pub returned_types : IsReader returned_type_at (SpellsTypeOf IsReturned) Anything
unfolding returned_type_at
returned_types = of_language (SpellsTypeOf IsReturned) there back
    (chosen (is_keyword (codes "void")) voids scalar_types
    (λ kind ts l. rw l.1 refl)
    (λ kind taken rest l stops. no_void kind taken rest l)
    (word_begun (codes "void") voids Void [] (refl, refl)))
  where
    no_void : (kind : IrType) (taken rest : List Lexeme) → SpellsTypeOf IsScalar kind taken
        → begins (is_keyword (codes "void")) (taken ++ rest) ≡ false
    no_void (Int width) taken rest l = int_begins_no_word (codes "void") (λ digits. refl) (Int width) taken rest l
    no_void Ptr taken rest l = rw l.1 refl
    no_void _ taken rest l = absurd l.0

    of_scalar : (kind : IrType) (ts : List Lexeme) → SpellsTypeOf IsScalar kind ts → SpellsTypeOf IsReturned kind ts
    of_scalar (Int width) ts l = l
    of_scalar Ptr ts l = l
    of_scalar _ ts l = absurd l.0

    there : (kind : IrType) (ts : List Lexeme)
        → ((kind ≡ Void) × keyword (codes "void") ts) ⊎ SpellsTypeOf IsScalar kind ts → SpellsTypeOf IsReturned kind ts
    there kind ts (inl l) = subst (λ (kind : IrType). SpellsTypeOf IsReturned kind ts) (sym l.0) (tt, l.1)
    there kind ts (inr l) = of_scalar kind ts l

    back : (kind : IrType) (ts : List Lexeme) → SpellsTypeOf IsReturned kind ts
        → ((kind ≡ Void) × keyword (codes "void") ts) ⊎ SpellsTypeOf IsScalar kind ts
    back (Int width) ts l = inr l
    back Ptr ts l = inr l
    back Void ts l = inl (refl, l.1)
    back _ ts l = absurd l.0

-- an array, where it begins with its bracket
array_spelled : (kind : IrType) (ts : List Lexeme) → begins (is_punctuation 91) ts ≡ true → SpellsArray kind ts
    → SpellsTypeOf IsStored kind ts
array_spelled kind ts e l = of_dims l.0 l.1.4.0 l.1.0 l.1.1 ts l.1.2 l.1.3 l.1.4.1 e
  where
    of_dims : (dims : List ℕ) (width : ℕ) (us vs ts : List Lexeme) → ts ≡ us ++ vs → InSequence SpellsDimension dims us
        → (one (IsIntType width) · (λ ts. (kind ≡ Array dims width) × (ts ≡ closers (length dims)))) vs
        → begins (is_punctuation 91) ts ≡ true → SpellsTypeOf IsStored kind ts
    of_dims [] width us vs ts e l m passed =
        absurd (let failed : begins (is_punctuation 91) ts ≡ false =
        rw (e, l, m.2, m.3.1) (int_is_no_bracket width m.3.0 m.3.2) in cc)
    of_dims (d ∷ dims) width us vs ts e l m passed =
        subst (λ (kind : IrType). SpellsTypeOf IsStored kind ts) (sym m.4.0) (
          tt,
          subst (λ (ts : List Lexeme). SpellsElements (d ∷ dims) width ts)
              (sym (rw (e, m.2, m.3.1, m.4.1) refl)) (elements_there (d ∷ dims) width us m.3.0 l m.3.2),
        )

spelled_array : (dims : List ℕ) (width : ℕ) (ts : List Lexeme) → SpellsElements dims width ts
    → SpellsArray (Array dims width) ts
spelled_array dims width ts l =
    let parts = elements_back dims width ts l in (
      dims,
      (
        parts.opening,
        parts.element ∷ closers (length dims),
        parts.parts,
        parts.dimensions,
        (width, (parts.element ∷ [], closers (length dims), refl, (parts.element, refl, parts.is_int), (refl, refl))),
      ),
    )

array_begins : (d : ℕ) (dims : List ℕ) (width : ℕ) (ts : List Lexeme) → SpellsElements (d ∷ dims) width ts
    → begins (is_punctuation 91) ts ≡ true
array_begins d dims width ts l = rw (l.2, l.3) (is_sign_itself 91)

array_some : (kind : IrType) (ts : List Lexeme) → SpellsArray kind ts → ts ≡ [] → ⊥
array_some kind ts l e =
    absurd (omega (
      arith,
      ap length e,
      ap length l.1.2,
      length-append l.1.0 l.1.1,
      ap length l.1.4.1.2,
      length-append l.1.4.1.0 l.1.4.1.1,
      ap length l.1.4.1.3.1,
    ))

array_begun : (t : Lexeme) (ts : List Lexeme) → is_punctuation 91 t ≡ true
    → array_at (t ∷ ts) ≡ Err (suc (length ts)) → ⊥
array_begun = sign_begun 91 array_reads (Array (1 ∷ []) 1) (one_of ∷ (word (codes "x") ∷ (word (codes "i1") ∷ (sign 93
    ∷ []))))
    (spelled_array (1 ∷ []) 1 (sign 91 ∷ (one_of ∷ (word (codes "x") ∷ (word (codes "i1") ∷ (sign 93 ∷ []))))) sample)
  where
    one_of : Lexeme
    one_of = record { kind = Numeral; text = codes "1" }

    sample : SpellsElements (1 ∷ []) 1 (sign 91 ∷ (one_of ∷ (word (codes "x") ∷ (word (codes "i1") ∷ (sign 93 ∷ [])))))
    sample = (
      sign 91 ∷ [],
      one_of ∷ (word (codes "x") ∷ (word (codes "i1") ∷ (sign 93 ∷ []))),
      refl,
      refl,
      (
        one_of ∷ [],
        word (codes "x") ∷ (word (codes "i1") ∷ (sign 93 ∷ [])),
        refl,
        (one_of, refl, ((refl, refl), omega arith)),
        (
          word (codes "x") ∷ [],
          word (codes "i1") ∷ (sign 93 ∷ []),
          refl,
          refl,
          (word (codes "i1") ∷ [], sign 93 ∷ [], refl, (word (codes "i1"), refl, i1), refl),
        ),
      ),
    )

pub stored_types : IsReader stored_type_at (SpellsTypeOf IsStored) Anything
unfolding stored_type_at
stored_types = of_language (SpellsTypeOf IsStored) there back
    (chosen_where (is_punctuation 91) array_reads int_types array_some
    (λ kind taken rest l stops. int_begins_no_bracket kind taken rest l) array_begun
    int_types.some int_types.sentence int_types.sample)
  where
    of_int : (kind : IrType) (ts : List Lexeme) → SpellsTypeOf IsInt kind ts → SpellsTypeOf IsStored kind ts
    of_int (Int width) ts l = l
    of_int _ ts l = absurd l.0

    there : (kind : IrType) (ts : List Lexeme)
        → ((begins (is_punctuation 91) ts ≡ true) × SpellsArray kind ts) ⊎ SpellsTypeOf IsInt kind ts
        → SpellsTypeOf IsStored kind ts
    there kind ts (inl l) = array_spelled kind ts l.0 l.1
    there kind ts (inr l) = of_int kind ts l

    back : (kind : IrType) (ts : List Lexeme) → SpellsTypeOf IsStored kind ts
        → ((begins (is_punctuation 91) ts ≡ true) × SpellsArray kind ts) ⊎ SpellsTypeOf IsInt kind ts
    back (Int width) ts l = inr l
    back (Array (d ∷ dims) width) ts l = inl (array_begins d dims width ts l.1, spelled_array (d ∷ dims) width ts l.1)
    back (Array [] width) ts l = absurd l.1
    back _ ts l = absurd l.0

pub any_types : IsReader type_at SpellsType Anything
unfolding type_at
any_types = of_language SpellsType there back
    (chosen_where (is_punctuation 91) array_reads returned_types array_some
    (λ kind taken rest l stops. no_bracket_before kind taken rest l) array_begun
    returned_types.some returned_types.sentence returned_types.sample)
  where
    no_bracket_before : (kind : IrType) (taken rest : List Lexeme) → SpellsTypeOf IsReturned kind taken
        → begins (is_punctuation 91) (taken ++ rest) ≡ false
    no_bracket_before (Int width) taken rest l = int_begins_no_bracket (Int width) taken rest l
    no_bracket_before Ptr taken rest l = rw l.1 refl
    no_bracket_before Void taken rest l = rw l.1 refl
    no_bracket_before (Array dims width) taken rest l = absurd l.0

    of_stored : (kind : IrType) (ts : List Lexeme) → SpellsTypeOf IsStored kind ts → SpellsType kind ts
    of_stored kind ts l = l.1

    there : (kind : IrType) (ts : List Lexeme)
        → ((begins (is_punctuation 91) ts ≡ true) × SpellsArray kind ts) ⊎ SpellsTypeOf IsReturned kind ts
        → SpellsType kind ts
    there kind ts (inl l) = of_stored kind ts (array_spelled kind ts l.0 l.1)
    there kind ts (inr l) = l.1

    back : (kind : IrType) (ts : List Lexeme) → SpellsType kind ts
        → ((begins (is_punctuation 91) ts ≡ true) × SpellsArray kind ts) ⊎ SpellsTypeOf IsReturned kind ts
    back (Int width) ts l = inr (tt, l)
    back Ptr ts l = inr (tt, l)
    back Void ts l = inr (tt, l)
    back (Array (d ∷ dims) width) ts l = inl (array_begins d dims width ts l, spelled_array (d ∷ dims) width ts l)
    back (Array [] width) ts l = absurd l
