-- The tokens with which lines begin: none of them goes on with what stands before it.
use Rattle.std.proofs.Common.{◌≡◌, ℕ, Bool, true, false, ◌||◌, ◌==◌, List, [], ◌∷◌, ◌++◌, Option, Some, None, ◌⊎◌, inl, inr, refl, ap, ◌∙◌, IsTrue, codes}
use Rattle.std.specs.Option.{is_some}
use Rattle.std.proofs.lemmas.Bool.{and_parts, eqb-true}
use Rattle.ir_model.specs.declared.op.BinOp.{BinOp}
use Rattle.ir_model.specs.declared.op.BinOp.TheVariants as binary
use Rattle.ir_model.specs.declared.op.CastOp.{CastOp}
use Rattle.ir_model.specs.declared.op.CastOp.TheVariants as cast
use Rattle.ir_model.specs.declared.op.Op.{Op}
use Rattle.ir_model.specs.declared.op.Op.TheVariants.{Binary, Icmp, Cast, Select, Phi, Freeze, Alloca, Load, Store, Gep, Call, Jump, Branch, Switch, Ret, Unreachable}
use Rattle.ir_text.specs.declared.token.TokenKind.{TokenKind}
use Rattle.ir_text.specs.declared.token.TokenKind.TheVariants.{Group}
use Rattle.ir_text.specs.Names.{is_word}
use Rattle.ir_text.specs.Tokens.{Lexeme}
use Rattle.ir_text.specs.Listed.{word}
use Rattle.ir_text.specs.Written.{Name, IsLocal}
use Rattle.ir_text.specs.Said.{is_label_kind, said_local, said_label}
use Rattle.ir_text.specs.PassedOn.{is_sign_kind}
use Rattle.ir_text.specs.Mentions.{Mention, Mentioning, ◌⊙◌}
use Rattle.ir_grammar.specs.Operations.{binary_text, cast_text, the_word, SpellsOp}
use Rattle.ir_grammar.specs.Functions.{IsRecord}
use Rattle.ir_parts.specs.declared.ending.Ending.{Ending}
use Rattle.ir_parts.specs.Reading.{is_keyword, is_punctuation}
use Rattle.ir_parts.specs.TypeReading.{int_width_of}
use Rattle.ir_parts.specs.WordsReading.{is_passed_text, is_numeral, is_group_text, begins_piece}
use Rattle.ir_parts.specs.Runs.{goes_on, belongs_to}
use Rattle.ir_parts.proofs.SingleTokens.{is_word as keyword_is}
use Rattle.ir_parts.proofs.PieceReaders.{neither_or}
use Rattle.ir_parts.proofs.RunReader.{belongs_to_none}
use Rattle.ir_parts.proofs.MetadataReaders.{word_no_number}
use Rattle.ir_body.specs.Opcodes.{begins_call}
pub use Rattle.ir_body.specs.Operation.{IsNoCall}
use Rattle.ir_parts.proofs.SaidNames.{local_there, local_back}
use Rattle.ir_functions.specs.Silent.{is_record, is_record_text, is_group_kind}
use Rattle.ir_functions.specs.Lines.{is_local}
use Rattle.ir_functions.specs.Functions.{is_label}

-- ---- what begins a line

-- It is no comma, and no run of passed-on words goes on with it; it is no label, and ends no function.
pub record EndsLines (t : Lexeme) : Type 0 where
  pub no_comma : is_punctuation 44 t ≡ false
  pub no_words : (ending : Ending) → goes_on ending t ≡ false
  pub no_label : is_label t ≡ false
  pub no_end : is_punctuation 125 t ≡ false

other_than_label : (t : Lexeme) → is_label_kind t.kind ≡ false → is_label t ≡ false
unfolding said_label
other_than_label t e = rw e refl

-- what is no sign, no label, no numeral and no piece
ends_lines : (t : Lexeme) → begins_piece t ≡ false → is_numeral t ≡ false → is_label_kind t.kind ≡ false
    → ((b : ℕ) → is_sign_kind b t.kind ≡ false) → EndsLines t
ends_lines t piece number label sign = record {
  no_comma = no_sign 44;
  no_words = λ ending. neither_or (begins_piece t) (belongs_to ending t) piece
      (belongs_to_none ending t (no_sign 40) number (no_sign 61));
  no_label = other_than_label t label;
  no_end = no_sign 125;
}
  where
    no_sign : (b : ℕ) → is_punctuation b t ≡ false
    no_sign b = rw (sign b) refl

-- ---- records

group_kind : (kind : TokenKind) → is_group_kind kind ≡ true → kind ≡ Group
group_kind Group e = refl
group_kind _ e = absurd cc

record_text : (text : List ℕ) → is_record_text text ≡ true
    → (name : List ℕ) × (text ≡ 35 ∷ name) × IsTrue (is_word name)
unfolding is_record_text
record_text [] e = absurd cc
record_text (b ∷ bs) e =
    let parts = and_parts (b == 35) (is_word bs) e in
    (bs, ap (λ (b : ℕ). b ∷ bs) (eqb-true b 35 parts.0), parts.1)

text_record : (name : List ℕ) → IsTrue (is_word name) → is_record_text (35 ∷ name) ≡ true
unfolding is_record_text
text_record name e = e

pub record_there : (t : Lexeme) → is_record t ≡ true → IsRecord t
record_there t e =
    let parts = and_parts (is_group_kind t.kind) (is_record_text t.text) e in
    let name = record_text t.text parts.1 in
    (group_kind t.kind parts.0, name.0, name.1, name.2)

pub record_back : (t : Lexeme) → IsRecord t → is_record t ≡ true
record_back t is = rw (is.0, is.2) (text_record is.1 is.3)

no_group : (name : List ℕ) → IsTrue (is_word name) → is_group_text (35 ∷ name) ≡ false
unfolding is_group_text
no_group name e = word_no_number name e

pub record_ends : (t : Lexeme) → IsRecord t → EndsLines t
record_ends t is = ends_lines t (rw (is.0, is.2) (no_group is.1 is.3)) (rw is.0 refl) (rw is.0 refl)
    (λ b. rw is.0 refl)

-- ---- names of values

named : (t : Lexeme) (said : Option Name) → said_local t ≡ said → is_some said ≡ true
    → (name : Name) × IsLocal name t
named t None is e = absurd cc
named t (Some name) is e = (name, local_there name t is)

pub is_local_there : (t : Lexeme) → is_local t ≡ true → (name : Name) × IsLocal name t
is_local_there t e = named t (said_local t) refl e

pub is_local_back : (t : Lexeme) (name : Name) → IsLocal name t → is_local t ≡ true
is_local_back t name is = ap is_some (local_back name t is)

pub local_ends : (t : Lexeme) (name : Name) → IsLocal name t → EndsLines t
local_ends t name is = ends_lines t (rw is.0 refl) (rw is.0 refl) (rw is.0 refl) (λ b. rw is.0 refl)

pub local_no_record : (t : Lexeme) (name : Name) → IsLocal name t → is_record t ≡ false
local_no_record t name is = rw is.0 refl

-- ---- words

pub word_ends : (text : List ℕ) → is_passed_text text ≡ false → EndsLines (word text)
word_ends text other = ends_lines (word text) (rw other refl) refl refl (λ b. refl)

pub word_no_record : (text : List ℕ) → is_record (word text) ≡ false
word_no_record text = refl

pub word_no_local : (text : List ℕ) → is_local (word text) ≡ false
unfolding said_local
word_no_local text = refl

-- ---- what operations begin with

-- a word that isn't passed on, and that no call begins with
pub record IsOpWord (text : List ℕ) : Type 0 where
  pub not_passed : is_passed_text text ≡ false
  pub no_call : begins_call (word text) ≡ false

binary_word : (op : BinOp) → IsOpWord (binary_text op)
unfolding is_passed_text int_width_of
binary_word binary.Add = record { not_passed = refl; no_call = refl }
binary_word binary.Sub = record { not_passed = refl; no_call = refl }
binary_word binary.Mul = record { not_passed = refl; no_call = refl }
binary_word binary.Shl = record { not_passed = refl; no_call = refl }
binary_word binary.Udiv = record { not_passed = refl; no_call = refl }
binary_word binary.Sdiv = record { not_passed = refl; no_call = refl }
binary_word binary.Lshr = record { not_passed = refl; no_call = refl }
binary_word binary.Ashr = record { not_passed = refl; no_call = refl }
binary_word binary.Urem = record { not_passed = refl; no_call = refl }
binary_word binary.Srem = record { not_passed = refl; no_call = refl }
binary_word binary.And = record { not_passed = refl; no_call = refl }
binary_word binary.Xor = record { not_passed = refl; no_call = refl }
binary_word binary.Or = record { not_passed = refl; no_call = refl }

cast_word : (op : CastOp) → IsOpWord (cast_text op)
unfolding is_passed_text int_width_of
cast_word cast.Zext = record { not_passed = refl; no_call = refl }
cast_word cast.Sext = record { not_passed = refl; no_call = refl }
cast_word cast.Trunc = record { not_passed = refl; no_call = refl }

-- a call
abbrev pub IsCall : Op → Type 0
IsCall (Call ret callee args) = Unit {0}
IsCall _ = ⊥

-- The tokens begin with such a word.
pub record BeginsOp (ts : List Lexeme) : Type 0 where
  pub text : List ℕ
  pub others : List Lexeme
  pub parts : ts ≡ word text ∷ others
  pub is : IsOpWord text

behind_word : (text : List ℕ) → IsOpWord text → (B : Mentioning) (ms : List Mention) (ts : List Lexeme)
    → (the_word text ⊙ B) ms ts → BeginsOp ts
behind_word text is B ms ts l = record {
  text = text;
  others = l.3.1;
  parts = l.3.2 ∙ ap (λ (us : List Lexeme). us ++ l.3.1) l.3.3.1;
  is = is;
}

pub op_begins : (op : Op) (words : List (List ℕ)) (ms : List Mention) (ts : List Lexeme) → IsNoCall op
    → SpellsOp op words ms ts → BeginsOp ts
unfolding is_passed_text int_width_of
op_begins (Binary op nuw nsw exact disjoint kind left right) words ms ts plain l =
    behind_word (binary_text op) (binary_word op) _ ms ts l.1
op_begins (Icmp pred kind left right) words ms ts plain l =
    behind_word (codes "icmp") (record { not_passed = refl; no_call = refl }) _ ms ts l.1
op_begins (Cast op nneg from value to) words ms ts plain l = behind_word (cast_text op) (cast_word op) _ ms ts l.1
op_begins (Select cond left right) words ms ts plain l =
    behind_word (codes "select") (record { not_passed = refl; no_call = refl }) _ ms ts l.1
op_begins (Phi kind entries) words ms ts plain l =
    behind_word (codes "phi") (record { not_passed = refl; no_call = refl }) _ ms ts l.1
op_begins (Freeze kind value) words ms ts plain l =
    behind_word (codes "freeze") (record { not_passed = refl; no_call = refl }) _ ms ts l.1
op_begins (Alloca kind) words ms ts plain l =
    behind_word (codes "alloca") (record { not_passed = refl; no_call = refl }) _ ms ts l.2
op_begins (Load kind from) words ms ts plain l =
    behind_word (codes "load") (record { not_passed = refl; no_call = refl }) _ ms ts l.2
op_begins (Store kind value to) words ms ts plain l =
    behind_word (codes "store") (record { not_passed = refl; no_call = refl }) _ ms ts l.2
op_begins (Gep inbounds kind base indices) words ms ts plain l =
    behind_word (codes "getelementptr") (record { not_passed = refl; no_call = refl }) _ ms ts l.1
op_begins (Call ret callee args) words ms ts plain l = absurd plain
op_begins (Jump to) words ms ts plain l =
    behind_word (codes "br") (record { not_passed = refl; no_call = refl }) _ ms ts l.1
op_begins (Branch cond there other) words ms ts plain l =
    behind_word (codes "br") (record { not_passed = refl; no_call = refl }) _ ms ts l.1
op_begins (Switch kind value other cases) words ms ts plain l =
    behind_word (codes "switch") (record { not_passed = refl; no_call = refl }) _ ms ts l.1
op_begins (Ret None) words ms ts plain l =
    behind_word (codes "ret") (record { not_passed = refl; no_call = refl }) _ ms ts l.1
op_begins (Ret (Some typed)) words ms ts plain l =
    behind_word (codes "ret") (record { not_passed = refl; no_call = refl }) _ ms ts l.1
op_begins Unreachable words ms ts plain l = record {
  text = codes "unreachable";
  others = [];
  parts = l.1.1;
  is = record { not_passed = refl; no_call = refl };
}

-- ---- what calls begin with

one_of : (a b c : Bool) → (a || b || c) ≡ true → (a ≡ true) ⊎ (b ≡ true) ⊎ (c ≡ true)
one_of true b c e = inl refl
one_of false true c e = inr (inl refl)
one_of false false c e = inr (inr e)

-- one of the three words
pub call_words : (t : Lexeme) → begins_call t ≡ true
    → (t ≡ word (codes "tail")) ⊎ (t ≡ word (codes "notail")) ⊎ (t ≡ word (codes "call"))
call_words t e = elim (one_of (is_keyword (codes "tail") t) (is_keyword (codes "notail") t)
    (is_keyword (codes "call") t) e) [
      | inl is ↦ inl (keyword_is (codes "tail") t is)
      | inr (inl is) ↦ inr (inl (keyword_is (codes "notail") t is))
      | inr (inr is) ↦ inr (inr (keyword_is (codes "call") t is))
    ]

-- what no call begins with, and what begins none of what operations and calls begin with
pub call_ends : (t : Lexeme) → begins_call t ≡ true → EndsLines t
unfolding is_passed_text int_width_of
call_ends t e = elim (call_words t e) [
  | inl is ↦ rw is (word_ends (codes "tail") refl)
  | inr (inl is) ↦ rw is (word_ends (codes "notail") refl)
  | inr (inr is) ↦ rw is (word_ends (codes "call") refl)
]

pub call_no_record : (t : Lexeme) → begins_call t ≡ true → is_record t ≡ false
call_no_record t e = elim (call_words t e) [
  | inl is ↦ rw is refl
  | inr (inl is) ↦ rw is refl
  | inr (inr is) ↦ rw is refl
]

pub call_no_local : (t : Lexeme) → begins_call t ≡ true → is_local t ≡ false
call_no_local t e = elim (call_words t e) [
  | inl is ↦ rw is (word_no_local (codes "tail"))
  | inr (inl is) ↦ rw is (word_no_local (codes "notail"))
  | inr (inr is) ↦ rw is (word_no_local (codes "call"))
]
