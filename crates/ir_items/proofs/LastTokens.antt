-- Which sentences end in a comma: of items only globals do, and only behind an empty run of words.
use Rattle.std.proofs.Common.{◌≡◌, ℕ, Bool, true, false, ◌&&◌, List, [], ◌∷◌, ◌++◌, Option, Some, None, inl, inr, refl, sym, ap, ◌∙◌, append_assoc, codes}
use Rattle.std.proofs.lemmas.List.{append-nil}
use Rattle.std.specs.Str.{bytes_eq}
use Rattle.ir_model.specs.declared.types.IrType.{IrType}
use Rattle.ir_model.specs.declared.types.IrType.TheVariants.{Void, Int, Ptr, Array}
use Rattle.ir_model.specs.declared.op.Operand.{Operand}
use Rattle.ir_model.specs.declared.op.Operand.TheVariants as operand
use Rattle.ir_model.specs.declared.item.Init.{Init}
use Rattle.ir_model.specs.declared.item.Global_.{Global_}
use Rattle.ir_model.specs.declared.item.Declare.{Declare}
use Rattle.ir_text.specs.declared.token.TokenKind.{TokenKind}
use Rattle.ir_text.specs.declared.token.TokenKind.TheVariants.{Word, Numeral, Metadata, Group, Quoted}
use Rattle.ir_text.specs.declared.token.TokenKind.TheVariants as kind
use Rattle.ir_text.specs.Tokens.{Lexeme}
use Rattle.ir_text.specs.Listed.{word, sign, InSequence}
use Rattle.ir_text.specs.Language.{Language, ◌·◌, ◌or◌, nothing, one, token, keyword, punctuation, comma, Many}
use Rattle.ir_text.specs.Language.Many.{none, more}
use Rattle.ir_model.specs.Kinds.{IsStored, IsReturned}
use Rattle.ir_text.specs.Types.{SpellsElements, SpellsType, SpellsTypeOf}
use Rattle.ir_text.specs.Written.{IsGlobal, IsStringToken}
use Rattle.ir_text.specs.PassedOn.{is_sign_kind, IsPassedWord, passed_word, IsAttributeGroup, IsPiece, ArePieces, IsPassedOn, SpellsWords, in_parentheses, in_braces, IsMetadataWord, IsMetadataNumber, IsBang, metadata_node, attachments, metadata_pairs}
use Rattle.ir_grammar.specs.Layout.{IsLayout}
use Rattle.ir_grammar.specs.Functions.{IsDroppedCallee}
use Rattle.ir_grammar.specs.Items.{passed_line, SpellsLiteral, SpellsInit, SpellsInitialiser, constant_word, SpellsDeclare}
use Rattle.ir_grammar.specs.Items.SpellsInit.{literal, zero, bytes, list}
use Rattle.ir_parts.specs.declared.ending.Run.{Run}
use Rattle.ir_parts.specs.Reading.{begins, is_punctuation}
use Rattle.ir_parts.specs.WordsReading.{begins_piece}
use Rattle.ir_parts.specs.Runs.{SpellsRunText}
use Rattle.ir_items.specs.declared.global_ending.GlobalEnding.{GlobalEnding}
use Rattle.ir_items.specs.declared.global_ending.GlobalEnding.TheVariants.{Whole, Words}
use Rattle.ir_items.specs.declared.global_ending.Typed.{Typed}
use Rattle.ir_items.specs.declared.global_ending.Tail.{Tail}
use Rattle.ir_items.specs.TailReading.{is_empty_run, Runs, ending_of_runs}
use Rattle.ir_items.specs.DroppedReading.{metadata_item}
use Rattle.ir_items.specs.DeclaredReading.{dropped_declare}
use Rattle.ir_items.proofs.RunEnds.{run_begins}
use Rattle.ir_items.proofs.TailReaders.{SpellsBare}
use Rattle.ir_items.proofs.TailReader.{Attached, SpellsRuns}
use Rattle.ir_items.proofs.GlobalReaders.{SpellsName, SpellsTyped, SpellsEnded}

-- ---- the last token

-- whether the last token is a comma
abbrev pub comma_last : List Lexeme → Bool
comma_last [] = false
comma_last (t ∷ []) = is_punctuation 44 t
comma_last (t ∷ u ∷ us) = comma_last (u ∷ us)

pub last_behind : (us : List Lexeme) (t : Lexeme) (vs : List Lexeme) → comma_last (us ++ t ∷ vs) ≡ comma_last (t ∷ vs)
last_behind [] t vs = refl
last_behind (u ∷ []) t vs = refl
last_behind (u ∷ w ∷ us) t vs = last_behind (w ∷ us) t vs

-- where the first part doesn't end so, the second decides
last_of_both : (us vs : List Lexeme) → comma_last us ≡ false → comma_last (us ++ vs) ≡ comma_last vs
last_of_both us [] e = ap comma_last (append-nil us) ∙ e
last_of_both us (t ∷ vs) e = last_behind us t vs

-- ---- no sentence of these ends so

abbrev pub Closes : Language → Type 0
Closes A = (ts : List Lexeme) → A ts → comma_last ts ≡ false

pub no_comma : (t : Lexeme) (kind : TokenKind) → t.kind ≡ kind → is_sign_kind 44 kind ≡ false
    → is_punctuation 44 t ≡ false
no_comma t kind is other =
    ap (λ kind. is_sign_kind 44 kind && bytes_eq t.text (44 ∷ [])) is
    ∙ ap (λ b. b && bytes_eq t.text (44 ∷ [])) other

one_closes : (Is : Lexeme → Type 0) → ((t : Lexeme) → Is t → is_punctuation 44 t ≡ false) → Closes (one Is)
one_closes Is each ts l = ap comma_last l.1 ∙ each l.0 l.2

token_closes : (t : Lexeme) → is_punctuation 44 t ≡ false → Closes (token t)
token_closes t e ts l = ap comma_last l ∙ e

both_close : {A B : Language} → Closes A → Closes B → Closes (A · B)
both_close a b ts l = ap comma_last l.2 ∙ (last_of_both l.0 l.1 (a l.0 l.3) ∙ b l.1 l.4)

either_closes : {A B : Language} → Closes A → Closes B → Closes (A or B)
either_closes a b ts (inl l) = a ts l
either_closes a b ts (inr l) = b ts l

nothing_closes : Closes nothing
nothing_closes ts l = ap comma_last l

many_close : {A : Language} → Closes A → Closes (Many A)
many_close a ts none = refl
many_close a ts (more us vs parts first others) =
    ap comma_last parts ∙ (last_of_both us vs (a us first) ∙ many_close a vs others)

-- what ends with a token that is no comma
abbrev pub Ends : List Lexeme → Type 0
Ends ts = (before : List Lexeme) × (t : Lexeme) × (ts ≡ before ++ t ∷ []) × (is_punctuation 44 t ≡ false)

abbrev EndsSo : Language → Type 0
EndsSo A = (ts : List Lexeme) → A ts → Ends ts

token_ends : (t : Lexeme) → is_punctuation 44 t ≡ false → EndsSo (token t)
token_ends t e ts l = ([], t, l, e)

later_ends : {A B : Language} → EndsSo B → EndsSo (A · B)
later_ends b ts l =
    let ends = b l.1 l.4 in (
      l.0 ++ ends.0,
      ends.1,
      l.2 ∙ (ap (λ (vs : List Lexeme). l.0 ++ vs) ends.2 ∙ sym (append_assoc l.0 ends.0 (ends.1 ∷ []))),
      ends.3,
    )

end_closes : {A : Language} → EndsSo A → Closes A
end_closes a ts l = let ends = a ts l in ap comma_last ends.2 ∙ (last_behind ends.0 ends.1 [] ∙ ends.3)

parentheses_close : Closes in_parentheses
parentheses_close = end_closes (later_ends (later_ends (token_ends (sign 41) refl)))

braces_close : Closes in_braces
braces_close = end_closes (later_ends (later_ends (token_ends (sign 125) refl)))

-- ---- types and initialisers

elements_close : (d : ℕ) (dims : List ℕ) (width : ℕ) → Closes (SpellsElements (d ∷ dims) width)
elements_close d dims width = end_closes (later_ends (later_ends (later_ends (later_ends (token_ends (sign 93) refl)))))

type_closes : (kind : IrType) → Closes (SpellsType kind)
type_closes Void ts l = ap comma_last l
type_closes Ptr ts l = ap comma_last l
type_closes (Int width) ts l = ap comma_last l.1 ∙ no_comma l.0 Word l.2.0 refl
type_closes (Array [] width) ts l = absurd l
type_closes (Array (d ∷ dims) width) ts l = elements_close d dims width ts l

literal_closes : (value : Operand) → Closes (SpellsLiteral value)
literal_closes (operand.Num n) ts (inl l) = ap comma_last l.1 ∙ no_comma l.0 Numeral l.2.0 refl
literal_closes (operand.Num n) ts (inr (inl l)) = ap comma_last l.1
literal_closes (operand.Num n) ts (inr (inr l)) = ap comma_last l.1
literal_closes operand.Null ts l = ap comma_last l
literal_closes operand.Undef ts l = ap comma_last l
literal_closes operand.Poison ts l = ap comma_last l
literal_closes (operand.Reg v) ts l = absurd l
literal_closes (operand.Global g) ts l = absurd l

init_closes : (value : Init) (ts : List Lexeme) → SpellsInit value ts → comma_last ts ≡ false
init_closes value ts (literal operand l) = literal_closes operand ts l
init_closes value ts (zero l) = ap comma_last l
init_closes value ts (bytes text l) = ap comma_last l.1 ∙ no_comma l.0 Quoted l.2.0 refl
init_closes value ts (list parts inner is l) = ap comma_last is ∙ last_behind (sign 91 ∷ inner) (sign 93) []

initialiser_closes : (external : Bool) (value : Option Init) → Closes (SpellsInitialiser external value)
initialiser_closes true None ts l = ap comma_last l
initialiser_closes true (Some value) ts l = absurd l
initialiser_closes false None ts l = absurd l
initialiser_closes false (Some value) ts l = init_closes value ts l

-- ---- words and metadata

passed_closes : Closes passed_word
passed_closes = one_closes (λ t. (t.kind ≡ Word) × IsPassedWord t.text) (λ t is. no_comma t Word is.0 refl)

string_closes : Closes (one IsStringToken)
string_closes = one_closes IsStringToken (λ t is. no_comma t Quoted is.0 refl)

group_closes : Closes (one IsAttributeGroup)
group_closes = one_closes IsAttributeGroup (λ t is. no_comma t Group is.0 refl)

placed_closes : Closes ((token (word (codes "align")) or token (word (codes "cc"))) · one (λ t. t.kind ≡ Numeral))
placed_closes =
    both_close (either_closes (token_closes (word (codes "align")) refl) (token_closes (word (codes "cc")) refl))
    (one_closes (λ t. t.kind ≡ Numeral) (λ t is. no_comma t Numeral is refl))

paired_closes : Closes (one IsStringToken · punctuation 61 · one IsStringToken)
paired_closes = both_close string_closes (both_close (token_closes (sign 61) refl) string_closes)

piece_closes : Closes IsPiece
piece_closes ts (inl l) = passed_closes ts l
piece_closes ts (inr (inl l)) = both_close passed_closes parentheses_close ts l
piece_closes ts (inr (inr (inl l))) = placed_closes ts l
piece_closes ts (inr (inr (inr (inl l)))) = string_closes ts l
piece_closes ts (inr (inr (inr (inr (inl l))))) = paired_closes ts l
piece_closes ts (inr (inr (inr (inr (inr l))))) = group_closes ts l

pieces_close : (pieces : List (List Lexeme)) → Closes (ArePieces pieces)
pieces_close [] ts l = ap comma_last l
pieces_close (piece ∷ pieces) ts l =
    ap comma_last l.2
    ∙ (last_of_both l.0 l.1 (ap comma_last l.3.0 ∙ piece_closes piece l.3.1) ∙ pieces_close pieces l.1 l.4)

run_closes : (run : Run × List ℕ) → Closes (SpellsRunText run)
run_closes run ts l = pieces_close l.0 ts l.1

words_close : Closes IsPassedOn
words_close ts l = pieces_close l.0 ts l.1

node_closes : Closes metadata_node
node_closes =
    either_closes (both_close (one_closes IsBang (λ t is. no_comma t Metadata is.0 refl)) braces_close)
    (both_close (one_closes IsMetadataWord (λ t is. no_comma t Metadata is.0 refl)) parentheses_close)

metadata_word_closes : Closes (one IsMetadataWord)
metadata_word_closes = one_closes IsMetadataWord (λ t is. no_comma t Metadata is.0 refl)

attached_closes : Closes (one IsMetadataNumber or metadata_node)
attached_closes =
    either_closes (one_closes IsMetadataNumber (λ t is. no_comma t Metadata is.0 refl)) node_closes

bare_closes : Closes SpellsBare
bare_closes = both_close metadata_word_closes attached_closes

attachment_closes : Closes (comma · one IsMetadataWord · (one IsMetadataNumber or metadata_node))
attachment_closes ts l = ap comma_last (l.2 ∙ ap (λ (us : List Lexeme). us ++ l.1) l.3) ∙ behind l.1 l.4
  where
    behind : (us : List Lexeme) → SpellsBare us → comma_last (sign 44 ∷ us) ≡ false
    behind us l =
        let first : us ≡ l.3.0 ∷ l.1 = l.2 ∙ ap (λ (us : List Lexeme). us ++ l.1) l.3.1 in
        ap (λ (us : List Lexeme). comma_last (sign 44 ∷ us)) first
        ∙ (sym (ap comma_last first) ∙ bare_closes us l)

attachments_close : Closes attachments
attachments_close = many_close attachment_closes

-- ---- items

pub metadata_item_closes : Closes metadata_item
metadata_item_closes =
    both_close (one_closes (λ t. t.kind ≡ Metadata) (λ t is. no_comma t Metadata is refl))
    (both_close (token_closes (sign 61) refl)
    (both_close (either_closes (token_closes (word (codes "distinct")) refl) nothing_closes) node_closes))

pub line_closes : Closes passed_line
line_closes ts (inl l) =
    both_close (token_closes (word (codes "source_filename")) refl) (both_close (token_closes (sign 61) refl)
    string_closes) ts l
line_closes ts (inr (inl l)) =
    both_close (token_closes (word (codes "target")) refl) (both_close (token_closes (word (codes "triple")) refl)
    (both_close (token_closes (sign 61) refl) string_closes)) ts l
line_closes ts (inr (inr (inl l))) =
    both_close (token_closes (word (codes "target")) refl) (both_close (token_closes (word (codes "datalayout")) refl)
    (both_close (token_closes (sign 61) refl) (one_closes IsLayout (λ t is. no_comma t Quoted is.0 refl)))) ts l
line_closes ts (inr (inr (inr l))) =
    both_close (token_closes (word (codes "attributes")) refl) (both_close group_closes
    (both_close (token_closes (sign 61) refl) braces_close)) ts l

name_closes : Closes (one IsDroppedCallee)
name_closes = one_closes IsDroppedCallee (λ t is. no_comma t kind.Global is.1.0 refl)

pairs_close : Closes metadata_pairs
pairs_close =
    many_close (both_close (one_closes (λ t. t.kind ≡ Metadata) (λ t is. no_comma t Metadata is refl))
    (one_closes (λ t. t.kind ≡ Metadata) (λ t is. no_comma t Metadata is refl)))

returned_closes : Closes (λ ts. (ret : IrType) × SpellsTypeOf IsReturned ret ts)
returned_closes ts l = type_closes l.0 ts l.1.1

pub dropped_closes : Closes dropped_declare
dropped_closes =
    both_close (token_closes (word (codes "declare")) refl) (both_close pairs_close (both_close words_close
    (both_close returned_closes (both_close name_closes (both_close parentheses_close words_close)))))

-- what never ends in a comma, whatever stands before it
abbrev ClosesBehind : Language → Type 0
ClosesBehind A = (us ts : List Lexeme) → A ts → comma_last (us ++ ts) ≡ false

later_closes : {A B : Language} → ClosesBehind B → ClosesBehind (A · B)
later_closes b us ts l =
    ap comma_last (ap (λ (ts : List Lexeme). us ++ ts) l.2 ∙ sym (append_assoc us l.0 l.1)) ∙ b (us ++ l.0) l.1 l.4

sign_and_words_close : (text : List ℕ) → ClosesBehind (punctuation 41 · SpellsWords text)
sign_and_words_close text us ts l =
    ap comma_last (ap (λ (ts : List Lexeme). us ++ ts) (l.2 ∙ ap (λ (ts : List Lexeme). ts ++ l.1) l.3))
    ∙ (last_behind us (sign 41) l.1 ∙ (last_of_both (sign 41 ∷ []) l.1 refl ∙ words_close l.1 l.4.0))

-- behind the parameters stand a `)` and words
pub declare_closes : (d : Declare) → Closes (SpellsDeclare d)
declare_closes d ts l =
    later_closes (later_closes (later_closes (later_closes (later_closes (later_closes (later_closes
    (sign_and_words_close d.after))))))) [] ts l.1

-- ---- globals

-- whether a global ends in a comma, behind which a run of no words stands
abbrev pub ends_empty : GlobalEnding → Bool
ends_empty Whole = false
ends_empty (Words ending) = is_empty_run ending

-- a run behind its comma
comma_run_last : (run : Run × List ℕ) (ts : List Lexeme) → (comma · SpellsRunText run) ts
    → comma_last ts ≡ is_empty_run run.0.ending
comma_run_last run ts l =
    ap comma_last (l.2 ∙ ap (λ (us : List Lexeme). us ++ l.1) l.3) ∙ elim (run_begins run l.1 l.4) [
      | inl empty ↦
          ap (λ (us : List Lexeme). comma_last (sign 44 ∷ us)) empty.0
          ∙ sym (ap is_empty_run empty.1)
      | inr some ↦ behind l.1 some.0 (run_closes run l.1 l.4) ∙ sym some.1
    ]
  where
    behind : (us : List Lexeme) → begins begins_piece us ≡ true → comma_last us ≡ false
        → comma_last (sign 44 ∷ us) ≡ false
    behind [] e closes = absurd cc
    behind (t ∷ us) e closes = closes

-- it begins with its comma
comma_first : (run : Run × List ℕ) (ts : List Lexeme) → (comma · SpellsRunText run) ts
    → (us : List Lexeme) × (ts ≡ sign 44 ∷ us)
comma_first run ts l = (l.1, l.2 ∙ ap (λ (us : List Lexeme). us ++ l.1) l.3)

runs_last : (runs : List (Run × List ℕ)) (ts : List Lexeme) → InSequence (λ run. comma · SpellsRunText run) runs ts
    → comma_last ts ≡ ends_empty (ending_of_runs false runs)
runs_last [] ts l = ap comma_last l
runs_last (run ∷ []) ts l =
    ap comma_last (l.2 ∙ (ap (λ (vs : List Lexeme). l.0 ++ vs) l.4 ∙ append-nil l.0)) ∙ comma_run_last run l.0 l.3
runs_last (run ∷ next ∷ runs) ts l =
    let others = l.4 in
    let first = comma_first next others.0 others.3 in
    let all : l.1 ≡ sign 44 ∷ (first.0 ++ others.1) = others.2 ∙ ap (λ (us : List Lexeme). us ++ others.1) first.1 in
    ap comma_last (l.2 ∙ ap (λ (vs : List Lexeme). l.0 ++ vs) all)
    ∙ (last_behind l.0 (sign 44) (first.0 ++ others.1)
    ∙ (sym (ap comma_last all) ∙ runs_last (next ∷ runs) l.1 others))

-- attachments behind a comma
attached_last : (us ts : List Lexeme) → Attached true ts → comma_last (us ++ ts) ≡ false
attached_last us ts l =
    let all : ts ≡ sign 44 ∷ l.1 = l.2 ∙ ap (λ (us : List Lexeme). us ++ l.1) l.3 in
    let inner = l.4 in
    let first : l.1 ≡ inner.3.3.0 ∷ (inner.3.1 ++ inner.1) =
    inner.2 ∙ ap (λ (us : List Lexeme). us ++ inner.1)
    (inner.3.2 ∙ ap (λ (us : List Lexeme). us ++ inner.3.1) inner.3.3.1) in
    ap (λ (ts : List Lexeme). comma_last (us ++ ts)) all
    ∙ (last_behind us (sign 44) l.1
    ∙ (ap (λ (us : List Lexeme). comma_last (sign 44 ∷ us)) first
    ∙ (sym (ap comma_last first) ∙ both_close bare_closes attachments_close l.1 inner)))

tail_runs_last : (runs : Runs) (ts : List Lexeme) → SpellsRuns runs ts
    → comma_last ts ≡ ends_empty (ending_of_runs runs.1 runs.0)
tail_runs_last (runs, true) ts l = ap comma_last l.2 ∙ attached_last l.0 l.1 l.4
tail_runs_last (runs, false) ts l =
    ap comma_last (l.2 ∙ (ap (λ (vs : List Lexeme). l.0 ++ vs) l.4 ∙ append-nil l.0)) ∙ runs_last runs l.0 l.3

named_closes : (name : List ℕ) → Closes (SpellsName name)
named_closes name =
    both_close (one_closes (IsGlobal name) (λ t is. no_comma t kind.Global is.0 refl)) (token_closes (sign 61) refl)

constant_closes : (constant : Bool) → Closes (keyword (constant_word constant))
constant_closes true = token_closes (word (codes "constant")) refl
constant_closes false = token_closes (word (codes "global")) refl

typed_closes : (typed : Typed) → Closes (SpellsTyped typed)
typed_closes typed ts l =
    both_close (run_closes l.0.0) (both_close (constant_closes l.0.1.0) (stored_closes l.0.1.1)) ts l.2
  where
    stored_closes : (kind : IrType) → Closes (SpellsTypeOf IsStored kind)
    stored_closes kind ts l = type_closes kind ts l.1

pub global_last : (ended : Global_ × GlobalEnding) (ts : List Lexeme) → SpellsEnded ended ts
    → comma_last ts ≡ ends_empty ended.1
global_last ended ts (
  p,
  is,
  (
    us,
    vs,
    parts,
    name,
    (
      typed,
      (
        ws,
        xs,
        w_parts,
        spelled,
        (
          valued,
          same,
          (
            ys,
            zs,
            y_parts,
            value,
            (runs, tail, tokens),
          ),
        ),
      ),
    ),
  ),
) =
    ap comma_last parts
    ∙ (last_of_both us vs (named_closes p.0 us name)
    ∙ (ap comma_last w_parts
    ∙ (last_of_both ws xs (typed_closes typed ws spelled)
    ∙ (ap comma_last y_parts
    ∙ (last_of_both ys zs (initialiser_closes typed.run.external valued.0 ys value)
    ∙ (tail_runs_last runs zs tokens
    ∙ ap ends_empty
    (sym (ap (λ (ended : Global_ × GlobalEnding). ended.1) is
    ∙ (ap (λ (described : Typed × (Option Init × Tail)). described.1.1.ending) same
    ∙ ap (λ (tail : Tail). tail.ending) tail)))))))))
