-- The arguments of a call are read up to the `)`, and what is read is the list of the grammar.
use Rattle.std.proofs.Common.{◌≡◌, ℕ, suc, true, false, List, [], ◌∷◌, ◌++◌, map, length, Option, Some, None, Ok, refl, sym, ap, subst, ◌∙◌, append_assoc}
use Rattle.std.proofs.lemmas.List.{append-nil}
use Rattle.ir_model.specs.declared.types.IrType.{IrType}
use Rattle.ir_model.specs.declared.types.IrType.TheVariants.{Int, Ptr}
use Rattle.ir_model.specs.declared.op.Operand.{Operand}
use Rattle.ir_text.specs.Tokens.{Lexeme}
use Rattle.ir_text.specs.Listed.{sign, SeparatedByCommas}
use Rattle.ir_text.specs.Language.{Language, ◌·◌, one, punctuation}
use Rattle.ir_text.specs.Mentions.{Mention, Mentioning, ◌⊙◌, silent}
use Rattle.ir_model.specs.Kinds.{IsScalar}
use Rattle.ir_text.specs.Types.{SpellsTypeOf}
use Rattle.ir_text.specs.PassedOn.{SpellsWords}
use Rattle.ir_grammar.specs.Operations.{SpellsOperand, the_type, the_comma, the_sign, WithCommas, Listing, SpellsArgument}
use Rattle.ir_grammar.specs.Operations as grammar
use Rattle.ir_parts.specs.declared.ending.Ending.{Ending}
use Rattle.ir_parts.specs.Reading.{given, one_at, begins, is_punctuation}
use Rattle.ir_parts.specs.Runs.{goes_on, ending_of_last}
use Rattle.ir_parts.proofs.Readers.{Anything, same_read, of_language, mapped}
use Rattle.ir_parts.proofs.SingleTokens.{is_sign}
use Rattle.ir_parts.proofs.ListReaders.{AnyWithCommas, listed_reads}
use Rattle.ir_parts.proofs.RunEnds.{ends_each}
use Rattle.ir_body.specs.Gathered.{gathered}
use Rattle.ir_body.specs.Operands.{operand_of_parts, operand_of, operand_at}
use Rattle.ir_body.proofs.Tellers.{IsTeller}
use Rattle.ir_body.proofs.OperandTellers.{operand_tells}
use Rattle.ir_functions.specs.declared.arguments.Argument.{Argument}
use Rattle.ir_functions.specs.Arguments.{arguments_at}
use Rattle.ir_functions.proofs.ArgumentRuns.{inner_of, argument_of, SpellsBehind, StopsInner}
use Rattle.ir_functions.proofs.ArgumentTellers.{SpellsRead, argument_tells}

-- ---- operands of one token

one_operand : (t : Lexeme) (value : Operand × List Mention) → operand_of t ≡ Some value
    → operand_at (t ∷ []) ≡ Ok (value, [])
unfolding operand_at one_at
one_operand t value e = ap (λ o. given o [] 1) e

pub operand_spelled : (t : Lexeme) (value : Operand × List Mention) → operand_of t ≡ Some value
    → SpellsOperand value.0 value.1 (t ∷ [])
operand_spelled t value e =
    let taken = operand_tells.reader.takes (t ∷ []) [] value (one_operand t value e) in
    subst (λ (ts : List Lexeme). SpellsOperand value.0 value.1 ts) (sym (taken.parts ∙ append-nil taken.taken))
    taken.spelled

token_of : (ts : List Lexeme) (value : Operand × List Mention) → operand_at ts ≡ Ok (value, [])
    → one (λ t. operand_of t ≡ Some value) ts
unfolding operand_at one_at
token_of [] value e = absurd cc
token_of (t ∷ ts) value e = of_found (operand_of t) refl e
  where
    of_found : (found : Option (Operand × List Mention)) → operand_of t ≡ found
        → given found ts (suc (length ts)) ≡ Ok (value, []) → one (λ t. operand_of t ≡ Some value) (t ∷ ts)
    of_found None is e = absurd cc
    of_found (Some other) is e =
        let read = same_read (other, ts) (value, []) e in
        let same : other ≡ value = ap (λ (p : (Operand × List Mention) × List Lexeme). p.0) read in
        let none : ts ≡ [] = ap (λ (p : (Operand × List Mention) × List Lexeme). p.1) read in
        (t, ap (λ (ts : List Lexeme). t ∷ ts) none, is ∙ ap (λ (v : Operand × List Mention). Some v) same)

pub operand_token : (value : Operand) (ms : List Mention) (ts : List Lexeme) → SpellsOperand value ms ts
    → one (λ t. operand_of t ≡ Some (value, ms)) ts
operand_token value ms ts l =
    token_of ts (value, ms)
    (ap operand_at (sym (append-nil ts)) ∙ operand_tells.reader.reads (value, ms) ts [] l tt)

-- ---- one argument

-- an argument of the grammar
abbrev pub plain_argument : Argument → grammar.Argument
plain_argument arg = record { typed = arg.typed; words = arg.words }

-- what stands behind its type
abbrev BehindType : grammar.Argument → Mentioning
BehindType arg = silent (SpellsWords arg.words) ⊙ SpellsOperand arg.typed.value

behind_there : (kind : IrType) (arg : Argument) (ms : List Mention) (ts : List Lexeme)
    → SpellsBehind kind (arg, ms) ts → (arg.typed.kind ≡ kind) × BehindType (plain_argument arg) ms ts
behind_there kind arg ms ts l =
    let made = argument_of kind l.words l.value.0 (inner_of (ending_of_last l.pieces) l.last) in
    let same : arg ≡ made = ap (λ (p : Argument × List Mention). p.0) l.made in
    let said : ms ≡ l.value.1 = ap (λ (p : Argument × List Mention). p.1) l.made in
    let found : BehindType (plain_argument made) l.value.1 ts = (
      [],
      l.value.1,
      refl,
      (
        l.words,
        l.last ∷ [],
        l.parts,
        (refl, ((l.pieces, l.are_pieces), refl)),
        operand_spelled l.last l.value l.operand,
      ),
    ) in (
      ap (λ (arg : Argument). arg.typed.kind) same,
      subst (λ (arg : Argument). BehindType (plain_argument arg) ms ts) (sym same)
          (subst (λ (ms : List Mention). BehindType (plain_argument made) ms ts) (sym said) found),
    )

argument_there : (arg : Argument) (ms : List Mention) (ts : List Lexeme) → SpellsRead arg ms ts
    → SpellsArgument (plain_argument arg) ms ts
argument_there arg ms ts l =
    let parts = l.1.3 in
    let behind = behind_there l.0 arg l.1.1 parts.1 parts.4 in (
      l.1.0,
      l.1.1,
      l.1.2,
      (
        parts.0,
        parts.1,
        parts.2,
        subst (λ (kind : IrType). the_type IsScalar kind l.1.0 parts.0) (sym behind.0) parts.3,
        behind.1,
      ),
    )

-- An argument that is read as this one of the grammar.
record IsReadAs (arg : grammar.Argument) (ms : List Mention) (ts : List Lexeme) : Type 0 where
  inner : Option Ending
  read : SpellsRead (record { typed = arg.typed; words = arg.words; inner = inner }) ms ts

argument_back : (arg : grammar.Argument) (ms : List Mention) (ts : List Lexeme) → SpellsArgument arg ms ts
    → IsReadAs arg ms ts
argument_back arg ms ts l =
    let parts = l.3 in
    let behind = parts.4 in
    let words = behind.3.3.1 in
    let token = operand_token arg.typed.value behind.1 behind.3.1 behind.3.4 in
    let inner = inner_of (ending_of_last words.0.0) token.0 in
    let said : l.1 ≡ behind.1 = behind.2 ∙ ap (λ (first : List Mention). first ++ behind.1) behind.3.3.0 in
    let found : SpellsBehind arg.typed.kind (record { typed = arg.typed; words = arg.words; inner = inner }, l.1)
    parts.1 = record {
      pieces = words.0.0;
      words = behind.3.0;
      last = token.0;
      parts = behind.3.2 ∙ ap (λ (vs : List Lexeme). behind.3.0 ++ vs) token.1;
      are_pieces = words.0.1;
      value = (arg.typed.value, behind.1);
      operand = token.2;
      made = ap (λ (text : List ℕ). (record { typed = arg.typed; words = text; inner = inner }, l.1)) words.1
          ∙ ap (λ (ms : List Mention).
          (argument_of arg.typed.kind behind.3.0 arg.typed.value inner, ms)) said;
    } in
    record {
      inner = inner;
      read = (arg.typed.kind, (l.0, l.1, l.2, (parts.0, parts.1, parts.2, parts.3, found)));
    }

-- ---- arguments with commas between them

commas_there : (arg : Argument) (args : List Argument) (ms : List Mention) (ts : List Lexeme)
    → WithCommas SpellsRead (arg ∷ args) ms ts
    → WithCommas SpellsArgument (plain_argument arg ∷ map plain_argument args) ms ts
commas_there arg [] ms ts l = argument_there arg ms ts l
commas_there arg (next ∷ args) ms ts l =
    let behind = l.3.4 in (
      l.0,
      l.1,
      l.2,
      (
        l.3.0,
        l.3.1,
        l.3.2,
        argument_there arg l.0 l.3.0 l.3.3,
        (
          behind.0,
          behind.1,
          behind.2,
          (
            behind.3.0,
            behind.3.1,
            behind.3.2,
            behind.3.3,
            commas_there next args behind.1 behind.3.1 behind.3.4,
          ),
        ),
      ),
    )

pub listing_there : (args : List Argument) (ms : List Mention) (ts : List Lexeme) → Listing SpellsRead args ms ts
    → Listing SpellsArgument (map plain_argument args) ms ts
listing_there [] ms ts l = l
listing_there (arg ∷ args) ms ts l = commas_there arg args ms ts l

-- Arguments that are read as these of the grammar.
pub record AreReadAs (args : List grammar.Argument) (ms : List Mention) (ts : List Lexeme) : Type 0 where
  pub found : List Argument
  pub same : map plain_argument found ≡ args
  pub read : Listing SpellsRead found ms ts

-- the first of them, and the others
record FirstReadAs (args : List grammar.Argument) (ms : List Mention) (ts : List Lexeme) : Type 0 where
  first : Argument
  others : List Argument
  same : map plain_argument (first ∷ others) ≡ args
  read : WithCommas SpellsRead (first ∷ others) ms ts

commas_back : (arg : grammar.Argument) (args : List grammar.Argument) (ms : List Mention) (ts : List Lexeme)
    → WithCommas SpellsArgument (arg ∷ args) ms ts → FirstReadAs (arg ∷ args) ms ts
commas_back arg [] ms ts l =
    let is = argument_back arg ms ts l in record {
      first = record { typed = arg.typed; words = arg.words; inner = is.inner };
      others = [];
      same = refl;
      read = is.read;
    }
commas_back arg (next ∷ args) ms ts l =
    let is = argument_back arg l.0 l.3.0 l.3.3 in
    let behind = l.3.4 in
    let more = commas_back next args behind.1 behind.3.1 behind.3.4 in record {
      first = record { typed = arg.typed; words = arg.words; inner = is.inner };
      others = more.first ∷ more.others;
      same = ap (λ (args : List grammar.Argument). arg ∷ args) more.same;
      read = (
        l.0,
        l.1,
        l.2,
        (
          l.3.0,
          l.3.1,
          l.3.2,
          is.read,
          (
            behind.0,
            behind.1,
            behind.2,
            (behind.3.0, behind.3.1, behind.3.2, behind.3.3, more.read),
          ),
        ),
      );
    }

pub listing_back : (args : List grammar.Argument) (ms : List Mention) (ts : List Lexeme)
    → Listing SpellsArgument args ms ts → AreReadAs args ms ts
listing_back [] ms ts l = record { found = []; same = refl; read = l }
listing_back (arg ∷ args) ms ts l =
    let first = commas_back arg args ms ts l in
    record { found = first.first ∷ first.others; same = first.same; read = first.read }

-- ---- the reader of the list

abbrev Told : Argument × List Mention → Language
Told told ts = SpellsRead told.0 told.1 ts

gathered_commas : (p : Argument × List Mention) (ps : List (Argument × List Mention)) (ts : List Lexeme)
    → SeparatedByCommas Told (p ∷ ps) ts
    → WithCommas SpellsRead (p.0 ∷ (gathered ps).0) (p.1 ++ (gathered ps).1) ts
gathered_commas p [] ts l = subst (λ (ms : List Mention). SpellsRead p.0 ms ts) (sym (append-nil p.1)) l
gathered_commas p (q ∷ ps) ts l = (
  p.1,
  q.1 ++ (gathered ps).1,
  refl,
  (
    l.0,
    sign 44 ∷ l.1,
    l.2,
    l.3,
    (
      [],
      q.1 ++ (gathered ps).1,
      refl,
      (sign 44 ∷ [], l.1, refl, (refl, refl), gathered_commas q ps l.1 l.4),
    ),
  ),
)

gathered_there : (ps : List (Argument × List Mention)) (ts : List Lexeme) → AnyWithCommas Told ps ts
    → Listing SpellsRead (gathered ps).0 (gathered ps).1 ts
gathered_there [] ts l = (refl, l)
gathered_there (p ∷ ps) ts l = gathered_commas p ps ts l

-- arguments with the mentions in each
record ToldApart (args : List Argument) (ms : List Mention) (ts : List Lexeme) : Type 0 where
  first : Argument × List Mention
  others : List (Argument × List Mention)
  same : (args, ms) ≡ gathered (first ∷ others)
  told : SeparatedByCommas Told (first ∷ others) ts

told_apart : (arg : Argument) (args : List Argument) (ms : List Mention) (ts : List Lexeme)
    → WithCommas SpellsRead (arg ∷ args) ms ts → ToldApart (arg ∷ args) ms ts
told_apart arg [] ms ts l = record {
  first = (arg, ms);
  others = [];
  same = ap (λ (ms : List Mention). (arg ∷ [], ms)) (sym (append-nil ms));
  told = l;
}
told_apart arg (next ∷ args) ms ts l =
    let behind = l.3.4 in
    let more = told_apart next args behind.1 behind.3.1 behind.3.4 in
    let said : l.1 ≡ behind.1 = behind.2 ∙ ap (λ (first : List Mention). first ++ behind.1) behind.3.3.0 in record {
      first = (arg, l.0);
      others = more.first ∷ more.others;
      same = ap (λ (ms : List Mention). (arg ∷ (next ∷ args), ms))
          (l.2 ∙ ap (λ (behind : List Mention). l.0 ++ behind) said)
          ∙ ap (λ (p : List Argument × List Mention). (arg ∷ p.0, l.0 ++ p.1)) more.same;
      told = (
        l.3.0,
        behind.3.1,
        l.3.2 ∙ ap (λ (vs : List Lexeme). l.3.0 ++ vs)
            (behind.3.2 ∙ ap (λ (us : List Lexeme). us ++ behind.3.1) behind.3.3.1),
        l.3.3,
        more.told,
      );
    }

gathered_back : (args : List Argument) (ms : List Mention) (ts : List Lexeme) → Listing SpellsRead args ms ts
    → (ps : List (Argument × List Mention)) × ((args, ms) ≡ gathered ps) × AnyWithCommas Told ps ts
gathered_back [] ms ts l = ([], ap (λ (ms : List Mention). ([], ms)) l.0, l.1)
gathered_back (arg ∷ args) ms ts l =
    let apart = told_apart arg args ms ts l in (apart.first ∷ apart.others, apart.same, apart.told)

-- a sign stops an argument
sign_stops : (b : ℕ) → ((ending : Ending) → goes_on ending (sign b) ≡ false) → (inner : Option Ending) (t : Lexeme)
    → is_punctuation b t ≡ true → StopsInner inner t
unfolding operand_of_parts
sign_stops b ends None t e = tt
sign_stops b ends (Some ending) t e =
    subst (λ (t : Lexeme). StopsInner (Some ending) t) (sym (is_sign b t e)) (ends ending, refl)

-- an argument begins with a word
type_first : (kind : IrType) (ts rest : List Lexeme) → SpellsTypeOf IsScalar kind ts
    → begins (is_punctuation 41) (ts ++ rest) ≡ false
type_first (Int width) ts rest l = rw (l.1.1, l.1.2.0) refl
type_first Ptr ts rest l = rw l.1 refl
type_first _ ts rest l = absurd l.0

no_closing : (told : Argument × List Mention) (ts rest : List Lexeme) → Told told ts
    → begins (is_punctuation 41) (ts ++ rest) ≡ false
no_closing told ts rest l =
    let parts = l.1.3 in
    ap (λ (ts : List Lexeme). begins (is_punctuation 41) (ts ++ rest)) parts.2
    ∙ (ap (begins (is_punctuation 41)) (append_assoc parts.0 parts.1 rest)
    ∙ type_first l.0 parts.0 (parts.1 ++ rest) parts.3.1)

-- the arguments and the `)` behind them
abbrev pub SpellsArguments : List Argument → Mentioning
SpellsArguments args = Listing SpellsRead args ⊙ the_sign 41

abbrev FromList : List Argument × List Mention → Language
FromList told ts = (ps : List (Argument × List Mention)) × (told ≡ gathered ps)
    × (AnyWithCommas Told ps · punctuation 41) ts

pub arguments_tell : IsTeller arguments_at SpellsArguments Anything
unfolding arguments_at
arguments_tell = record {
  reader = of_language (λ told ts. SpellsArguments told.0 told.1 ts) there back
      (mapped gathered Anything (λ ps t stop. tt) (λ ps t stop. tt)
      (listed_reads 41 argument_tells.reader
      (λ told t e. sign_stops 44 (λ ending. ends_each ending (sign 44) refl) told.0.inner t e)
      (λ told t e. sign_stops 41 (λ ending. ends_each ending (sign 41) refl) told.0.inner t e)
      refl no_closing));
}
  where
    there : (told : List Argument × List Mention) (ts : List Lexeme) → FromList told ts
        → SpellsArguments told.0 told.1 ts
    there told ts (ps, same, l) =
        subst (λ (told : List Argument × List Mention). SpellsArguments told.0 told.1 ts) (sym same) (
          (gathered ps).1,
          [],
          sym (append-nil (gathered ps).1),
          (l.0, l.1, l.2, gathered_there ps l.0 l.3, (refl, l.4)),
        )

    back : (told : List Argument × List Mention) (ts : List Lexeme) → SpellsArguments told.0 told.1 ts
        → FromList told ts
    back told ts l =
        let found = gathered_back told.0 l.0 l.3.0 l.3.3 in (
          found.0,
          ap (λ (ms : List Mention). (told.0, ms))
              (l.2 ∙ (ap (λ (behind : List Mention). l.0 ++ behind) l.3.4.0 ∙ append-nil l.0))
              ∙ found.1,
          (l.3.0, l.3.1, l.3.2, found.2, l.3.4.1),
        )
