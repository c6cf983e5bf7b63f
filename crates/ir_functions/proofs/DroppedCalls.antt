-- What is read as a call that is dropped is one of the grammar with its attachments; and all that is known of calls.
use Rattle.std.proofs.Common.{◌≡◌, ℕ, Bool, true, false, List, [], ◌++◌, Option, Some, None, inl, inr, refl, sym, ap, ◌∙◌, append_assoc, codes}
use Rattle.ir_text.specs.Tokens.{Lexeme}
use Rattle.ir_text.specs.Language.{Language, ◌·◌, one, keyword}
use Rattle.ir_text.specs.Mentions.{Mention, ◌⊙◌, silent}
use Rattle.ir_model.specs.Kinds.{IsReturned}
use Rattle.ir_text.specs.Types.{SpellsTypeOf}
use Rattle.ir_text.specs.PassedOn.{SpellsWords, attachments, in_parentheses}
use Rattle.ir_grammar.specs.Operations.{SpellsTail}
use Rattle.ir_grammar.specs.Functions.{IsDroppedCallee, dropped_call}
use Rattle.ir_parts.specs.declared.ending.Ending.{Ending}
use Rattle.ir_parts.specs.Reading.{begins}
use Rattle.ir_parts.proofs.Readers.{begins_still}
use Rattle.ir_body.specs.declared.operation.Operation.{Operation}
use Rattle.ir_body.specs.Opcodes.{begins_call}
use Rattle.ir_functions.specs.declared.calls.CallHead.{CallHead}
use Rattle.ir_functions.specs.declared.calls.Callee.{Callee}
use Rattle.ir_functions.specs.declared.calls.Callee.TheVariants.{Dropped, Named}
use Rattle.ir_functions.specs.Calls.{tail_of}
use Rattle.ir_functions.proofs.LineFacts.{ReadsCalls}
use Rattle.ir_functions.proofs.CalleeReaders.{IsRead, dropped_read, dropped_reads, dropped_never}
use Rattle.ir_functions.proofs.HeadReaders.{SpellsHead}
use Rattle.ir_functions.proofs.CallTellers.{Behind, DroppedParts, Read, SpellsBehindCallee, SpellsCall, call_tells}
use Rattle.ir_functions.proofs.CallChains.{one_as, silent_joined, trailing_there, trailing_back, call_there, call_back}

-- ---- parts in other groups

-- two parts and a third, or a part and two
nested : {A B C : Language} (ts : List Lexeme) → ((A · B) · C) ts → (A · (B · C)) ts
nested ts l =
    let both = l.3 in (
      both.0,
      both.1 ++ l.1,
      l.2 ∙ (ap (λ (us : List Lexeme). us ++ l.1) both.2 ∙ append_assoc both.0 both.1 l.1),
      both.3,
      (both.1, l.1, refl, both.4, l.4),
    )

grouped : {A B C : Language} (ts : List Lexeme) → (A · (B · C)) ts → ((A · B) · C) ts
grouped ts l =
    let both = l.4 in (
      l.0 ++ both.0,
      both.1,
      l.2 ∙ (ap (λ (vs : List Lexeme). l.0 ++ vs) both.2 ∙ sym (append_assoc l.0 both.0 both.1)),
      (l.0, both.0, refl, l.3, both.3),
      both.4,
    )

behind_as : {A B C : Language} → ((ts : List Lexeme) → B ts → C ts) → (ts : List Lexeme) → (A · B) ts → (A · C) ts
behind_as there ts l = (l.0, l.1, l.2, l.3, there l.1 l.4)

-- The last of several parts apart.
last_apart : {A Y Z C : Language} → ((ts : List Lexeme) → Z ts → (Y · C) ts) → (ts : List Lexeme)
    → (A · Z) ts → ((A · Y) · C) ts
last_apart {A} {Y} {Z} {C} there ts l =
    grouped {A = A} {B = Y} {C = C} ts (behind_as {A = A} {B = Z} {C = Y · C} there ts l)

last_along : {A Y Z C : Language} → ((ts : List Lexeme) → (Y · C) ts → Z ts) → (ts : List Lexeme)
    → ((A · Y) · C) ts → (A · Z) ts
last_along {A} {Y} {Z} {C} back ts l =
    behind_as {A = A} {B = Y · C} {C = Z} back ts (nested {A = A} {B = Y} {C = C} ts l)

-- ---- the head, part for part

abbrev WithHead : CallHead → Language → Language
WithHead head Z = SpellsTail head.tail · (keyword (codes "call") · (SpellsWords head.before
    · (SpellsTypeOf IsReturned head.ret · Z)))

head_parted : (head : CallHead) (Z : Language) (ts : List Lexeme) → (SpellsHead head · Z) ts → WithHead head Z ts
head_parted head Z ts l = last_along (last_along (last_along (λ ts l. l))) ts l

head_joined : (head : CallHead) (Z : Language) (ts : List Lexeme) → WithHead head Z ts → (SpellsHead head · Z) ts
head_joined head Z ts l = last_apart (last_apart (last_apart (λ ts l. l))) ts l

head_as : (head : CallHead) {Y Z : Language} → ((ts : List Lexeme) → Y ts → Z ts) → (ts : List Lexeme)
    → WithHead head Y ts → WithHead head Z ts
head_as head {Y} {Z} there ts l = behind_as (behind_as (behind_as (behind_as there))) ts l

-- ---- calls that are dropped

-- what stands at and behind the callee
abbrev BehindHead : List ℕ → Language
BehindHead after = one IsDroppedCallee · (in_parentheses · (SpellsWords after · attachments))

-- a dropped call as the grammar has it
abbrev Body : CallHead → List ℕ → Language
Body head after = WithHead head (one IsDroppedCallee · (in_parentheses · SpellsWords after))

body_there : (head : CallHead) (after : List ℕ) (ts : List Lexeme) → WithHead head (BehindHead after) ts
    → (Body head after · attachments) ts
body_there head after ts l =
    last_apart (last_apart (last_apart (last_apart (last_apart (last_apart (λ ts l. l)))))) ts l

body_back : (head : CallHead) (after : List ℕ) (ts : List Lexeme) → (Body head after · attachments) ts
    → WithHead head (BehindHead after) ts
body_back head after ts l =
    last_along (last_along (last_along (last_along (last_along (last_along (λ ts l. l)))))) ts l

-- a head, a callee that is dropped, and what stands behind it
abbrev ReadDropped : CallHead → Behind → Language
ReadDropped head p = SpellsHead head · (one (IsRead false Dropped) · DroppedParts p)

dropped_is : (head : CallHead) (p : Behind) (ts : List Lexeme) → ReadDropped head p ts
    → (dropped_call · attachments) ts
dropped_is head p ts l =
    let parts = head_as head {Z = BehindHead p.0.1} behind ts
    (head_parted head (one (IsRead false Dropped) · DroppedParts p) ts l) in
    let body = body_there head p.0.1 ts parts in
    (body.0, body.1, body.2, (head.tail, head.before, p.0.1, head.ret, body.3), body.4)
  where
    behind : (ts : List Lexeme) → (one (IsRead false Dropped) · DroppedParts p) ts → BehindHead p.0.1 ts
    behind ts l = (
      l.0,
      l.1,
      l.2,
      one_as dropped_read l.0 l.3,
      (l.4.0, l.4.1, l.4.2, l.4.3, trailing_there p l.4.1 l.4.4),
    )

-- the head, and what was read behind it
record DroppedBack (ts : List Lexeme) : Type 0 where
  head : CallHead
  found : Behind
  read : ReadDropped head found ts

dropped_has : (ts : List Lexeme) → (dropped_call · attachments) ts → DroppedBack ts
dropped_has ts l =
    let call = l.3 in
    let head : CallHead = record { tail = call.0; before = call.1; ret = call.3 } in
    let whole : (Body head call.2 · attachments) ts = (l.0, l.1, l.2, call.4, l.4) in
    let parts = head_joined head (BehindHead call.2) ts (body_back head call.2 ts whole) in
    let b = parts.4 in
    let behind = trailing_back call.2 b.4.1 b.4.4 in
    record {
      head = head;
      found = behind.read;
      read = (
        parts.0,
        parts.1,
        parts.2,
        parts.3,
        (
          b.0,
          b.1,
          b.2,
          one_as dropped_reads b.0 b.3,
          (b.4.0, b.4.1, b.4.2, b.4.3, behind.spelled),
        ),
      );
    }

pub dropped_there : (tail : Option Ending) (ms : List Mention) (ts : List Lexeme)
    → SpellsCall false (None, tail) ms ts → (ms ≡ []) × (dropped_call · attachments) ts
dropped_there tail ms ts l =
    of_callee l.0 l.1.3.4.0
    (l.1.0, l.1.1, l.1.2, (l.1.3.0, l.1.3.1, l.1.3.2, l.1.3.3, l.1.3.4.1))
  where
    of_callee : (head : CallHead) (callee : Callee)
        → (silent (SpellsHead head) ⊙ (silent (one (IsRead false callee))
        ⊙ SpellsBehindCallee head callee (None, tail))) ms ts
        → (ms ≡ []) × (dropped_call · attachments) ts
    of_callee head (Named name) l =
        absurd (let none : ◌≡◌ {A = Option Operation} None (Some _) = ap (λ (read : Read). read.0) l.3.4.3.4.1 in cc)
    of_callee head Dropped l =
        let inner = l.3.4 in
        let b = inner.3.4 in
        let behind = silent_joined {A = one (IsRead false Dropped)} {B = DroppedParts b.0} l.1 l.3.1
        (inner.0, inner.1, inner.2, (inner.3.0, inner.3.1, inner.3.2, inner.3.3, b.2)) in
        let whole = silent_joined {A = SpellsHead head}
        {B = one (IsRead false Dropped) · DroppedParts b.0} ms ts
        (l.0, l.1, l.2, (l.3.0, l.3.1, l.3.2, l.3.3, behind)) in
        (whole.0, dropped_is head b.0 ts whole.1)

pub dropped_back : (ts : List Lexeme) → (dropped_call · attachments) ts
    → (tail : Option Ending) × SpellsCall false (None, tail) [] ts
dropped_back ts l =
    let b = dropped_has ts l in
    let r = b.read in (
      tail_of b.found,
      (
        b.head,
        (
          [],
          [],
          refl,
          (
            r.0,
            r.1,
            r.2,
            (refl, r.3),
            (
              Dropped,
              ([], [], refl, (r.4.0, r.4.1, r.4.2, (refl, r.4.3), (b.found, refl, (refl, r.4.4)))),
            ),
          ),
        ),
      ),
    )

-- Behind a result no call is dropped.
pub never_dropped : (tail : Option Ending) (ms : List Mention) (ts : List Lexeme)
    → SpellsCall true (None, tail) ms ts → ⊥
never_dropped tail ms ts l = of_callee l.0 l.1.3.4.0 l.1.1 l.1.3.1 l.1.3.4.1
  where
    of_callee : (head : CallHead) (callee : Callee) (ms : List Mention) (ts : List Lexeme)
        → (silent (one (IsRead true callee)) ⊙ SpellsBehindCallee head callee (None, tail)) ms ts → ⊥
    of_callee head (Named name) ms ts l =
        let none : ◌≡◌ {A = Option Operation} None (Some _) = ap (λ (read : Read). read.0) l.3.4.1 in cc
    of_callee head Dropped ms ts l = let token = l.3.3.1 in dropped_never token.0 token.2

-- ---- how they begin

-- the first of the words
head_first : (head : CallHead) (ts : List Lexeme) → SpellsHead head ts → begins begins_call ts ≡ true
head_first head ts (us, vs, parts, (text, (xs, ys, flags, inl tail, notail)), behind) = rw (parts, flags, tail) refl
head_first head ts (us, vs, parts, (text, (xs, ys, flags, inr tail, inl notail)), behind) =
    rw (parts, flags, tail, notail) refl
head_first head ts (us, vs, parts, (text, (xs, ys, flags, inr tail, inr notail)), (ks, ws, call, is, others)) =
    rw (parts, flags, tail, notail, call, is) refl

pub call_begins : (has_result : Bool) (read : Read) (ms : List Mention) (ts : List Lexeme)
    → SpellsCall has_result read ms ts → begins begins_call ts ≡ true
call_begins has_result read ms ts l =
    ap (begins begins_call) l.1.3.2
    ∙ begins_still begins_call l.1.3.0 l.1.3.1 (head_first l.0 l.1.3.0 l.1.3.3.1)

-- ---- all of it

-- Calls, and what is dropped, are read.
pub reads_calls : ReadsCalls SpellsCall
reads_calls = record {
  tells = call_tells;
  call_there = call_there;
  call_back = call_back;
  dropped_there = dropped_there;
  dropped_back = dropped_back;
  never_dropped = never_dropped;
  starts = call_begins;
}
