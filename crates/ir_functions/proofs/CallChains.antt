-- What is read as a call is a call of the grammar with its attachments, or one that is dropped.
use Rattle.std.proofs.Common.{◌≡◌, ℕ, Bool, List, [], ◌∷◌, ◌++◌, map, Option, Some, None, refl, sym, ap, subst, ◌∙◌, append_assoc, codes}
use Rattle.ir_model.specs.declared.types.IrType.{IrType}
use Rattle.ir_model.specs.declared.op.TypedOperand.{TypedOperand}
use Rattle.ir_model.specs.declared.op.Op.{Op}
use Rattle.ir_model.specs.declared.op.Op.TheVariants.{Call}
use Rattle.ir_text.specs.Tokens.{Lexeme}
use Rattle.ir_text.specs.Language.{Language, ◌·◌, one}
use Rattle.ir_text.specs.Mentions.{Mention, Mentioning, ◌⊙◌, silent}
use Rattle.ir_model.specs.Kinds.{IsReturned}
use Rattle.ir_text.specs.Written.{IsGlobal}
use Rattle.ir_text.specs.PassedOn.{SpellsWords, attachments}
use Rattle.ir_grammar.specs.Operations.{SpellsOp, SpellsTail, SpellsArgument, Listing, IsCallee, dropped_word, the_word, the_sign, the_type}
use Rattle.ir_grammar.specs.Operations as grammar
use Rattle.ir_parts.specs.declared.ending.Ending.{Ending}
use Rattle.ir_parts.proofs.WordsReader.{text_of_words, words_of_text}
use Rattle.ir_body.specs.declared.operation.Operation.{Operation}
use Rattle.ir_body.proofs.Tellers.{first_as, then_as, joined, parted}
use Rattle.ir_functions.specs.declared.arguments.Argument.{Argument}
use Rattle.ir_functions.specs.declared.calls.CallHead.{CallHead}
use Rattle.ir_functions.specs.declared.calls.Callee.{Callee}
use Rattle.ir_functions.specs.declared.calls.Callee.TheVariants.{Dropped, Named}
use Rattle.ir_functions.specs.Arguments.{arguments_of}
use Rattle.ir_functions.specs.Calls.{tail_of, call_of}
use Rattle.ir_functions.proofs.LineStarts.{IsCall}
use Rattle.ir_functions.proofs.LineFacts.{SpellsWhole}
use Rattle.ir_functions.proofs.ArgumentTellers.{SpellsRead}
use Rattle.ir_functions.proofs.ArgumentLists.{plain_argument, listing_there, listing_back, SpellsArguments}
use Rattle.ir_functions.proofs.CalleeReaders.{IsRead, named_read, named_reads}
use Rattle.ir_functions.proofs.HeadReaders.{SpellsHead}
use Rattle.ir_functions.proofs.CallTellers.{Behind, SpellsTrailing, CalledParts, Read, make_call, SpellsBehindCallee, SpellsCall}

-- ---- parts in other groups

-- two parts and a third, or a part and two
nested : {A B C : Mentioning} (ms : List Mention) (ts : List Lexeme) → ((A ⊙ B) ⊙ C) ms ts → (A ⊙ (B ⊙ C)) ms ts
nested ms ts l =
    let both = l.3.3 in (
      both.0,
      both.1 ++ l.1,
      l.2 ∙ (ap (λ (first : List Mention). first ++ l.1) both.2 ∙ append_assoc both.0 both.1 l.1),
      (
        both.3.0,
        both.3.1 ++ l.3.1,
        l.3.2 ∙ (ap (λ (us : List Lexeme). us ++ l.3.1) both.3.2 ∙ append_assoc both.3.0 both.3.1 l.3.1),
        both.3.3,
        (both.1, l.1, refl, (both.3.1, l.3.1, refl, both.3.4, l.3.4)),
      ),
    )

grouped : {A B C : Mentioning} (ms : List Mention) (ts : List Lexeme) → (A ⊙ (B ⊙ C)) ms ts → ((A ⊙ B) ⊙ C) ms ts
grouped ms ts l =
    let both = l.3.4 in (
      l.0 ++ both.0,
      both.1,
      l.2 ∙ (ap (λ (behind : List Mention). l.0 ++ behind) both.2 ∙ sym (append_assoc l.0 both.0 both.1)),
      (
        l.3.0 ++ both.3.0,
        both.3.1,
        l.3.2 ∙ (ap (λ (vs : List Lexeme). l.3.0 ++ vs) both.3.2 ∙ sym (append_assoc l.3.0 both.3.0 both.3.1)),
        (l.0, both.0, refl, (l.3.0, both.3.0, refl, l.3.3, both.3.3)),
        both.3.4,
      ),
    )

-- The last of several parts apart.
last_apart : {A Y Z C : Mentioning}
    → ((ms : List Mention) (ts : List Lexeme) → Z ms ts → (Y ⊙ C) ms ts)
    → (ms : List Mention) (ts : List Lexeme) → (A ⊙ Z) ms ts → ((A ⊙ Y) ⊙ C) ms ts
last_apart {A} {Y} {Z} {C} there ms ts l =
    grouped {A = A} {B = Y} {C = C} ms ts (then_as {A = A} {B = Z} {C = Y ⊙ C} there ms ts l)

last_along : {A Y Z C : Mentioning}
    → ((ms : List Mention) (ts : List Lexeme) → (Y ⊙ C) ms ts → Z ms ts)
    → (ms : List Mention) (ts : List Lexeme) → ((A ⊙ Y) ⊙ C) ms ts → (A ⊙ Z) ms ts
last_along {A} {Y} {Z} {C} back ms ts l =
    then_as {A = A} {B = Y ⊙ C} {C = Z} back ms ts (nested {A = A} {B = Y} {C = C} ms ts l)

-- what has no mentions, in two parts and in one
silent_parted : {A B : Language} (ms : List Mention) (ts : List Lexeme) → silent (A · B) ms ts
    → (silent A ⊙ silent B) ms ts
silent_parted ms ts l = ([], [], l.0, (l.1.0, l.1.1, l.1.2, (refl, l.1.3), (refl, l.1.4)))

pub silent_joined : {A B : Language} (ms : List Mention) (ts : List Lexeme) → (silent A ⊙ silent B) ms ts
    → silent (A · B) ms ts
silent_joined ms ts l = (
  l.2 ∙ (ap (λ (first : List Mention). first ++ l.1) l.3.3.0 ∙ l.3.4.0),
  (l.3.0, l.3.1, l.3.2, l.3.3.1, l.3.4.1),
)

silent_as : {A B : Language} → ((ts : List Lexeme) → A ts → B ts) → (ms : List Mention) (ts : List Lexeme)
    → silent A ms ts → silent B ms ts
silent_as there ms ts l = (l.0, there ts l.1)

pub one_as : {P Q : Lexeme → Type 0} → ((t : Lexeme) → P t → Q t) → (ts : List Lexeme) → one P ts → one Q ts
one_as there ts l = (l.0, l.1, there l.0 l.2)

-- ---- the head, part for part

-- what stands before the callee, and what stands there and behind
abbrev WithHead : CallHead → Mentioning → Mentioning
WithHead head Z = silent (SpellsTail head.tail) ⊙ (the_word (codes "call") ⊙ (silent (SpellsWords head.before)
    ⊙ (the_type IsReturned head.ret ⊙ Z)))

head_parted : (head : CallHead) (Z : Mentioning) (ms : List Mention) (ts : List Lexeme)
    → (silent (SpellsHead head) ⊙ Z) ms ts → WithHead head Z ms ts
head_parted head Z ms ts l =
    then_as (λ ms ts l. then_as (λ ms ts l. parted ms ts l) ms ts (parted ms ts l)) ms ts (parted ms ts l)

head_joined : (head : CallHead) (Z : Mentioning) (ms : List Mention) (ts : List Lexeme)
    → WithHead head Z ms ts → (silent (SpellsHead head) ⊙ Z) ms ts
head_joined head Z ms ts l =
    joined ms ts (then_as (λ ms ts l. joined ms ts (then_as (λ ms ts l. joined ms ts l) ms ts l)) ms ts l)

head_as : (head : CallHead) {Y Z : Mentioning} → ((ms : List Mention) (ts : List Lexeme) → Y ms ts → Z ms ts)
    → (ms : List Mention) (ts : List Lexeme) → WithHead head Y ms ts → WithHead head Z ms ts
head_as head {Y} {Z} there ms ts l = then_as (λ ms ts l. then_as (λ ms ts l. then_as (λ ms ts l. then_as
    there ms ts l) ms ts l) ms ts l) ms ts l

-- ---- what stands behind the callee

-- words and attachments
abbrev WordsBehind : List ℕ → Mentioning
WordsBehind after = silent (SpellsWords after) ⊙ silent attachments

pub trailing_there : (p : Behind) (ts : List Lexeme) → SpellsTrailing p ts → (SpellsWords p.0.1 · attachments) ts
trailing_there p ts l = (l.0, l.1, l.2, text_of_words p.0.1 l.0 (p.0, refl, l.3), l.4.0)

-- Words and attachments that are read.
pub record BehindRead (after : List ℕ) (ts : List Lexeme) : Type 0 where
  pub read : Behind
  pub same : read.0.1 ≡ after
  pub spelled : SpellsTrailing read ts

pub trailing_back : (after : List ℕ) (ts : List Lexeme) → (SpellsWords after · attachments) ts → BehindRead after ts
trailing_back after ts l =
    let said = words_of_text after l.0 l.3 in record {
      read = (said.0, (tt, l.1));
      same = said.1;
      spelled = (l.0, l.1, l.2, said.2, (l.4, refl));
    }

-- ---- calls

-- what stands at and behind the callee, part for part
abbrev WithArguments : List ℕ → List grammar.Argument → List ℕ → Mentioning
WithArguments name args after = silent (one (IsGlobal name)) ⊙ (the_sign 40 ⊙ (Listing SpellsArgument args
    ⊙ (the_sign 41 ⊙ WordsBehind after)))

-- a call as the grammar has it
abbrev Body : CallHead → List ℕ → List grammar.Argument → List ℕ → Mentioning
Body head name args after = WithHead head (silent (one (IsGlobal name)) ⊙ (the_sign 40
    ⊙ (Listing SpellsArgument args ⊙ (the_sign 41 ⊙ silent (SpellsWords after)))))

-- the attachments apart
body_there : (head : CallHead) (name : List ℕ) (args : List grammar.Argument) (after : List ℕ)
    (ms : List Mention) (ts : List Lexeme) → WithHead head (WithArguments name args after) ms ts
    → (Body head name args after ⊙ silent attachments) ms ts
body_there head name args after ms ts l =
    last_apart (last_apart (last_apart (last_apart (last_apart (last_apart (last_apart (last_apart
    (λ ms ts l. l)))))))) ms ts l

body_back : (head : CallHead) (name : List ℕ) (args : List grammar.Argument) (after : List ℕ)
    (ms : List Mention) (ts : List Lexeme) → (Body head name args after ⊙ silent attachments) ms ts
    → WithHead head (WithArguments name args after) ms ts
body_back head name args after ms ts l =
    last_along (last_along (last_along (last_along (last_along (last_along (last_along (last_along
    (λ ms ts l. l)))))))) ms ts l

-- a named callee, and what stands behind it
abbrev WithNamed : Bool → CallHead → List ℕ → List Argument × Behind → Mentioning
WithNamed has_result head name p = silent (one (IsRead has_result (Named name))) ⊙ CalledParts p

named_there : (has_result : Bool) (head : CallHead) (name : List ℕ) (p : List Argument × Behind)
    (ms : List Mention) (ts : List Lexeme) → WithNamed has_result head name p ms ts
    → WithArguments name (map plain_argument p.0) p.1.0.1 ms ts
named_there has_result head name p ms ts l =
    first_as (silent_as (one_as (λ t is. (named_read has_result name t is).0))) ms ts
    (then_as {B = CalledParts p} (then_as {B = SpellsArguments p.0 ⊙ silent (SpellsTrailing p.1)} behind) ms ts l)
  where
    behind : (ms : List Mention) (ts : List Lexeme) → (SpellsArguments p.0 ⊙ silent (SpellsTrailing p.1)) ms ts
        → (Listing SpellsArgument (map plain_argument p.0) ⊙ (the_sign 41 ⊙ WordsBehind p.1.0.1)) ms ts
    behind ms ts l =
        first_as (listing_there p.0) ms ts
        (then_as {B = the_sign 41 ⊙ silent (SpellsTrailing p.1)}
        (then_as {B = silent (SpellsTrailing p.1)}
        (λ ms ts l. silent_parted ms ts (silent_as (trailing_there p.1) ms ts l))) ms ts
        (nested ms ts l))

-- What is named may be called.
called : (has_result : Bool) (head : CallHead) (name : List ℕ) (p : List Argument × Behind)
    (ms : List Mention) (ts : List Lexeme) → (silent (SpellsHead head) ⊙ WithNamed has_result head name p) ms ts
    → IsCallee name
called has_result head name p ms ts l =
    let token = l.3.4.3.3.1 in (named_read has_result name token.0 token.2).1

-- the texts of the arguments
same_words : (args : List Argument) → map (λ (arg : Argument). arg.words) args
    ≡ map (λ (arg : grammar.Argument). arg.words) (map plain_argument args)
same_words [] = refl
same_words (arg ∷ args) = ap (λ (texts : List (List ℕ)). arg.words ∷ texts) (same_words args)

same_typed : (args : List Argument) → map (λ (arg : Argument). arg.typed) args
    ≡ map (λ (arg : grammar.Argument). arg.typed) (map plain_argument args)
same_typed [] = refl
same_typed (arg ∷ args) = ap (λ (typed : List TypedOperand). arg.typed ∷ typed) (same_typed args)

named_call : (has_result : Bool) (head : CallHead) (name : List ℕ) (p : List Argument × Behind)
    (ms : List Mention) (ts : List Lexeme) → (silent (SpellsHead head) ⊙ WithNamed has_result head name p) ms ts
    → SpellsWhole (call_of head name (arguments_of p.0) p.1.0.1) ms ts
named_call has_result head name p ms ts l =
    let args = map plain_argument p.0 in
    let callee = called has_result head name p ms ts l in
    let parts = head_parted head (WithNamed has_result head name p) ms ts l in
    let whole = body_there head name args p.1.0.1 ms ts (head_as head (named_there has_result head name p) ms ts parts)
    in
    first_as {A = Body head name args p.1.0.1} {C = silent attachments} (λ ms ts body. (
      head.tail,
      head.before,
      p.1.0.1,
      args,
      ap (λ (texts : List (List ℕ)). head.tail ∷ (head.before ∷ (texts ++ p.1.0.1 ∷ []))) (same_words p.0),
      same_typed p.0,
      callee,
      body,
    )) ms ts whole

same_operation : (operation other : Operation) → ◌≡◌ {A = Option Operation} (Some operation) (Some other)
    → operation ≡ other
same_operation operation other e = cc

pub call_there : (has_result : Bool) (operation : Operation) (tail : Option Ending) (ms : List Mention)
    (ts : List Lexeme) → SpellsCall has_result (Some operation, tail) ms ts
    → IsCall operation.op × SpellsWhole operation ms ts
call_there has_result operation tail ms ts l =
    of_callee l.0 l.1.3.4.0
    (l.1.0, l.1.1, l.1.2, (l.1.3.0, l.1.3.1, l.1.3.2, l.1.3.3, l.1.3.4.1))
  where
    of_callee : (head : CallHead) (callee : Callee)
        → (silent (SpellsHead head) ⊙ (silent (one (IsRead has_result callee))
        ⊙ SpellsBehindCallee head callee (Some operation, tail))) ms ts
        → IsCall operation.op × SpellsWhole operation ms ts
    of_callee head Dropped l =
        absurd (let none : ◌≡◌ {A = Option Operation} (Some operation) None =
        ap (λ (read : Read). read.0) l.3.4.3.4.1 in cc)
    of_callee head (Named name) l =
        let inner = l.3.4 in
        let b = inner.3.4 in
        let same = same_operation operation (call_of head name (arguments_of b.0.0) b.0.1.0.1)
        (ap (λ (read : Read). read.0) b.1) in
        subst (λ (operation : Operation). IsCall operation.op × SpellsWhole operation ms ts) (sym same) (
          tt,
          named_call has_result head name b.0 ms ts (
            l.0,
            l.1,
            l.2,
            (
              l.3.0,
              l.3.1,
              l.3.2,
              l.3.3,
              (inner.0, inner.1, inner.2, (inner.3.0, inner.3.1, inner.3.2, inner.3.3, b.2)),
            ),
          ),
        )

-- ---- and back

-- Arguments, words and attachments that are read.
record NamedBack (has_result : Bool) (head : CallHead) (name : List ℕ) (args : List grammar.Argument)
    (after : List ℕ) (ms : List Mention) (ts : List Lexeme) : Type 0 where
  found : List Argument × Behind
  same_args : map plain_argument found.0 ≡ args
  same_after : found.1.0.1 ≡ after
  read : WithNamed has_result head name found ms ts

named_back : (has_result : Bool) (head : CallHead) (name : List ℕ) (args : List grammar.Argument) (after : List ℕ)
    (ms : List Mention) (ts : List Lexeme) → IsCallee name → WithArguments name args after ms ts
    → NamedBack has_result head name args after ms ts
named_back has_result head name args after ms ts callee l =
    let b = l.3.4 in
    let c = b.3.4 in
    let d = c.3.4 in
    let listed = listing_back args c.0 c.3.0 c.3.3 in
    let words = silent_joined {A = SpellsWords after} {B = attachments} d.1 d.3.1 d.3.4 in
    let behind = trailing_back after d.3.1 words.1 in
    record {
      found = (listed.found, behind.read);
      same_args = listed.same;
      same_after = behind.same;
      read = (
        l.0,
        l.1,
        l.2,
        (
          l.3.0,
          l.3.1,
          l.3.2,
          silent_as (one_as (λ t is. named_reads has_result name t is callee)) l.0 l.3.0 l.3.3,
          (
            b.0,
            b.1,
            b.2,
            (
              b.3.0,
              b.3.1,
              b.3.2,
              b.3.3,
              grouped {A = Listing SpellsRead listed.found} {B = the_sign 41}
                  {C = silent (SpellsTrailing behind.read)} b.1 b.3.1 (
                    c.0,
                    c.1,
                    c.2,
                    (
                      c.3.0,
                      c.3.1,
                      c.3.2,
                      listed.read,
                      (d.0, d.1, d.2, (d.3.0, d.3.1, d.3.2, d.3.3, (words.0, behind.spelled))),
                    ),
                  ),
            ),
          ),
        ),
      );
    }

-- the texts of a call
abbrev texts_of : CallHead → List (List ℕ) → List ℕ → List (List ℕ)
texts_of head texts after = head.tail ∷ (head.before ∷ (texts ++ after ∷ []))

-- the operation that is read
same_call : (head : CallHead) (name : List ℕ) (args : List TypedOperand) (words : List (List ℕ))
    (arguments : List grammar.Argument) (after : List ℕ) (found : List Argument) (said : List ℕ)
    → words ≡ texts_of head (map (λ (arg : grammar.Argument). arg.words) arguments) after
    → args ≡ map (λ (arg : grammar.Argument). arg.typed) arguments
    → map plain_argument found ≡ arguments → said ≡ after
    → ◌≡◌ {A = Operation} (record { op = Call head.ret name args; words = words })
    (call_of head name (arguments_of found) said)
same_call head name args words arguments after found said words_are args_are same_args same_after =
    let typed : args ≡ map (λ (arg : Argument). arg.typed) found =
    args_are ∙ (ap (λ (gs : List grammar.Argument). map (λ (arg : grammar.Argument). arg.typed) gs) (sym same_args)
    ∙ sym (same_typed found)) in
    let texts : words ≡ texts_of head (map (λ (arg : Argument). arg.words) found) said =
    words_are
    ∙ (ap (λ (gs : List grammar.Argument). texts_of head (map (λ (arg : grammar.Argument). arg.words) gs) after)
    (sym same_args)
    ∙ (ap (λ (texts : List (List ℕ)). texts_of head texts after) (sym (same_words found))
    ∙ ap (texts_of head (map (λ (arg : Argument). arg.words) found)) (sym same_after))) in
    ap (λ (args : List TypedOperand). record { op = Call head.ret name args; words = words }) typed
    ∙ ap (λ (words : List (List ℕ)).
    record { op = Call head.ret name (map (λ (arg : Argument). arg.typed) found); words = words }) texts

back_of : (has_result : Bool) (ret : IrType) (name : List ℕ) (args : List TypedOperand) (words : List (List ℕ))
    (ms : List Mention) (ts : List Lexeme) → (SpellsOp (Call ret name args) words ⊙ silent attachments) ms ts
    → (tail : Option Ending) × SpellsCall has_result
    (Some (record { op = Call ret name args; words = words }), tail) ms ts
back_of has_result ret name args words ms ts l =
    let spelled = l.3.3 in
    let head : CallHead = record { tail = spelled.0; before = spelled.1; ret = ret } in
    let whole : (Body head name spelled.3 spelled.2 ⊙ silent attachments) ms ts =
    (l.0, l.1, l.2, (l.3.0, l.3.1, l.3.2, spelled.7, l.3.4)) in
    let parts = head_joined head (WithArguments name spelled.3 spelled.2) ms ts
    (body_back head name spelled.3 spelled.2 ms ts whole) in
    let b = named_back has_result head name spelled.3 spelled.2 parts.1 parts.3.1 spelled.6 parts.3.4 in
    let same : ◌≡◌ {A = Read} (Some (record { op = Call ret name args; words = words }), tail_of b.found.1)
    (make_call head name b.found) =
    ap (λ (operation : Operation). (Some operation, tail_of b.found.1))
    (same_call head name args words spelled.3 spelled.2 b.found.0 b.found.1.0.1 spelled.4 spelled.5 b.same_args
    b.same_after) in (
      tail_of b.found.1,
      (
        head,
        (
          parts.0,
          parts.1,
          parts.2,
          (
            parts.3.0,
            parts.3.1,
            parts.3.2,
            parts.3.3,
            (
              Named name,
              (
                b.read.0,
                b.read.1,
                b.read.2,
                (b.read.3.0, b.read.3.1, b.read.3.2, b.read.3.3, (b.found, same, b.read.3.4)),
              ),
            ),
          ),
        ),
      ),
    )

pub call_back : (has_result : Bool) (operation : Operation) (ms : List Mention) (ts : List Lexeme)
    → IsCall operation.op → SpellsWhole operation ms ts
    → (tail : Option Ending) × SpellsCall has_result (Some operation, tail) ms ts
call_back has_result operation ms ts is l = of_op operation.op operation.words is l
  where
    of_op : (op : Op) (words : List (List ℕ)) → IsCall op → (SpellsOp op words ⊙ silent attachments) ms ts
        → (tail : Option Ending) × SpellsCall has_result (Some (record { op = op; words = words }), tail) ms ts
    of_op (Call ret name args) words is l = back_of has_result ret name args words ms ts l
    of_op _ words is l = absurd is
