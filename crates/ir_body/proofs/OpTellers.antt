-- Any operation but a call is read, with the attachments behind it.
use Rattle.std.proofs.Common.{◌≡◌, ℕ, Bool, List, [], ◌∷◌, ◌++◌, Some, None, inl, inr, refl, sym, ap, subst, ◌∙◌, IsTrue, codes}
use Rattle.std.proofs.lemmas.List.{append-nil}
use Rattle.ir_model.specs.declared.op.Op.{Op}
use Rattle.ir_model.specs.declared.op.Op.TheVariants as op
use Rattle.ir_text.specs.Tokens.{Lexeme}
use Rattle.ir_text.specs.Listed.{word}
use Rattle.ir_text.specs.PassedOn.{attachments}
use Rattle.ir_text.specs.Mentions.{Mention, Mentioning, ◌⊙◌, silent}
use Rattle.ir_grammar.specs.Operations.{SpellsOp, SpellsTyped, SpellsEntry, binary_text, cast_text, the_word}
use Rattle.ir_model.specs.Shapes.{MayHaveResult}
use Rattle.ir_parts.proofs.Readers.{stops_at_all}
use Rattle.ir_parts.proofs.MetadataReaders.{NoComma, attachments_read}
use Rattle.ir_body.specs.declared.opcode.Opcode.{Opcode}
use Rattle.ir_body.specs.declared.opcode.Opcode.TheVariants.{Binary, Cast, Icmp, Select, Phi, Freeze, Alloca, Load, Store, Gep, Br, Switch, Ret, Unreachable}
use Rattle.ir_body.specs.declared.operation.Operation.{Operation}
use Rattle.ir_body.specs.Opcodes.{may_have_result}
use Rattle.ir_body.specs.Plain.{plain}
use Rattle.ir_body.specs.Operation.{behind_at, op_at, IsNoCall, SpellsAttached}
use Rattle.ir_body.proofs.Tellers.{IsTeller, IsMade, silent_tells, each_tells, told_as, kept, first_as, then_as, assoc_there, assoc_back, pushed, pulled, silent_joined, silent_parted}
use Rattle.ir_body.proofs.OpcodeReaders.{opcode_text, opcode_reads}
use Rattle.ir_body.proofs.PlainTellers.{make_binary, SpellsBinary, binary_tells, make_comparison, SpellsComparison, comparison_tells, make_freeze, freeze_tells, make_jump, SpellsJump, make_branch, SpellsBranch, SpellsBr, br_tells, make_nothing, SpellsNothing, make_returned, SpellsRet, ret_tells}
use Rattle.ir_body.proofs.ValueTellers.{make_cast, SpellsCast, cast_tells, make_select, SpellsSelect, select_tells}
use Rattle.ir_body.proofs.CaseTellers.{make_switch, SpellsSwitch, switch_tells, unreachable_tells}
use Rattle.ir_body.proofs.AlignedTellers.{make_alloca, SpellsAlloca, alloca_tells, make_load, SpellsLoad, load_tells, make_store, SpellsStore, store_tells}
use Rattle.ir_body.proofs.ListTellers.{make_gep, SpellsGep, gep_tells, make_phi, SpellsPhi, phi_tells}
use Rattle.ir_body.proofs.GatheredTellers.{commas_there, commas_back}

-- ---- from behind the opcode

abbrev pub SpellsBehind : Opcode → Operation → Mentioning
SpellsBehind (Binary op) operation = IsMade (make_binary op) (SpellsBinary op) operation ⊙ silent attachments
SpellsBehind Icmp operation = IsMade make_comparison SpellsComparison operation ⊙ silent attachments
SpellsBehind (Cast op) operation = IsMade (make_cast op) (SpellsCast op) operation ⊙ silent attachments
SpellsBehind Select operation = IsMade make_select SpellsSelect operation ⊙ silent attachments
SpellsBehind Phi operation = IsMade make_phi SpellsPhi operation
SpellsBehind Freeze operation = IsMade make_freeze SpellsTyped operation ⊙ silent attachments
SpellsBehind Alloca operation = IsMade make_alloca SpellsAlloca operation
SpellsBehind Load operation = IsMade make_load SpellsLoad operation
SpellsBehind Store operation = IsMade make_store SpellsStore operation
SpellsBehind Gep operation = IsMade make_gep SpellsGep operation
SpellsBehind Br operation = SpellsBr operation ⊙ silent attachments
SpellsBehind Switch operation = IsMade make_switch SpellsSwitch operation ⊙ silent attachments
SpellsBehind Ret operation = SpellsRet operation ⊙ silent attachments
SpellsBehind Unreachable operation = silent (λ ts. (operation ≡ plain op.Unreachable) × (ts ≡ []))
    ⊙ silent attachments

pub behind_tells : (code : Opcode) → IsTeller (behind_at code) (SpellsBehind code) (λ operation. NoComma tt)
unfolding behind_at
behind_tells (Binary op) = kept (binary_tells op) (silent_tells attachments_read)
behind_tells Icmp = kept comparison_tells (silent_tells attachments_read)
behind_tells (Cast op) = kept (cast_tells op) (silent_tells attachments_read)
behind_tells Select = kept select_tells (silent_tells attachments_read)
behind_tells Phi = phi_tells
behind_tells Freeze = kept freeze_tells (silent_tells attachments_read)
behind_tells Alloca = alloca_tells
behind_tells Load = load_tells
behind_tells Store = store_tells
behind_tells Gep = gep_tells
behind_tells Br = kept br_tells (silent_tells attachments_read)
behind_tells Switch = kept switch_tells (silent_tells attachments_read)
behind_tells Ret = kept ret_tells (silent_tells attachments_read)
behind_tells Unreachable = kept unreachable_tells (silent_tells attachments_read)

-- ---- what was made of what was read

-- the operation of the grammar, and attachments
abbrev Whole : Operation → Mentioning
Whole operation = SpellsOp operation.op operation.words ⊙ silent attachments

-- an operation with the attachments in its last part
module _ {R : Type 0} (text : List ℕ) (make : R → Operation) (Spells : R → Mentioning) where
  of_made : (K : Op → Type 0)
      → ((read : R) → K (make read).op)
      → ((read : R) (ms : List Mention) (ts : List Lexeme) → (the_word text ⊙ Spells read) ms ts
      → Whole (make read) ms ts)
      → (operation : Operation) (ms : List Mention) (ts : List Lexeme)
      → (the_word text ⊙ IsMade make Spells operation) ms ts → K operation.op × Whole operation ms ts
  of_made K each there operation ms ts l =
      let made = l.3.4 in
      subst (λ (operation : Operation). K operation.op × Whole operation ms ts) (sym made.1)
      (each made.0, there made.0 ms ts (l.0, l.1, l.2, (l.3.0, l.3.1, l.3.2, l.3.3, made.2)))

  made_of : (read : R) (operation : Operation) → operation ≡ make read → (ms : List Mention) (ts : List Lexeme)
      → (the_word text ⊙ Spells read) ms ts → (the_word text ⊙ IsMade make Spells operation) ms ts
  made_of read operation is ms ts l =
      (l.0, l.1, l.2, (l.3.0, l.3.1, l.3.2, l.3.3, (read, is, l.3.4)))

-- an operation with attachments behind it
module _ {R : Type 0} (text : List ℕ) (make : R → Operation) (Spells : R → Mentioning) where
  of_attached : (K : Op → Type 0)
      → ((read : R) → K (make read).op)
      → ((read : R) (ms : List Mention) (ts : List Lexeme) → (the_word text ⊙ Spells read) ms ts
      → SpellsOp (make read).op (make read).words ms ts)
      → (operation : Operation) (ms : List Mention) (ts : List Lexeme)
      → (the_word text ⊙ (IsMade make Spells operation ⊙ silent attachments)) ms ts
      → K operation.op × Whole operation ms ts
  of_attached K each there operation ms ts l =
      let parts = assoc_back ms ts l in
      let made = parts.3.3.3.4 in
      let first = parts.3.3 in
      subst (λ (operation : Operation). K operation.op × Whole operation ms ts) (sym made.1) (
        each made.0,
        (
          parts.0,
          parts.1,
          parts.2,
          (
            parts.3.0,
            parts.3.1,
            parts.3.2,
            there made.0 parts.0 parts.3.0
                (first.0, first.1, first.2, (first.3.0, first.3.1, first.3.2, first.3.3, made.2)),
            parts.3.4,
          ),
        ),
      )

  attached_of : (read : R) (operation : Operation) → operation ≡ make read → (ms : List Mention) (ts : List Lexeme)
      → ((the_word text ⊙ Spells read) ⊙ silent attachments) ms ts
      → (the_word text ⊙ (IsMade make Spells operation ⊙ silent attachments)) ms ts
  attached_of read operation is ms ts l =
      pushed (λ ms ts l. (l.0, l.1, l.2, (l.3.0, l.3.1, l.3.2, (read, is, l.3.3), l.3.4))) ms ts l

-- ---- each opcode

-- It is no call, and may have a result where its opcode may.
abbrev IsFor : Opcode → Op → Type 0
IsFor code op = IsNoCall op × (IsTrue (may_have_result code) → MayHaveResult op)

there : (code : Opcode) (operation : Operation) (ms : List Mention) (ts : List Lexeme)
    → (the_word (opcode_text code) ⊙ SpellsBehind code operation) ms ts
    → IsFor code operation.op × Whole operation ms ts
there (Binary op) operation ms ts l = of_attached (binary_text op) (make_binary op) (SpellsBinary op)
    (IsFor (Binary op)) (λ read. (tt, λ may. refl)) (λ read ms ts l. (refl, l)) operation ms ts l
there Icmp operation ms ts l = of_attached (codes "icmp") make_comparison SpellsComparison
    (IsFor Icmp) (λ read. (tt, λ may. refl)) (λ read ms ts l. (refl, l)) operation ms ts l
there (Cast op) operation ms ts l = of_attached (cast_text op) (make_cast op) (SpellsCast op)
    (IsFor (Cast op)) (λ read. (tt, λ may. refl)) (λ read ms ts l. (refl, l)) operation ms ts l
there Select operation ms ts l = of_attached (codes "select") make_select SpellsSelect
    (IsFor Select) (λ read. (tt, λ may. refl)) (λ read ms ts l. (refl, l)) operation ms ts l
there Phi operation ms ts l = of_made (codes "phi") make_phi SpellsPhi
    (IsFor Phi) (λ read. (tt, λ may. refl))
    (λ read ms ts l. first_as (λ ms ts l. (refl, l)) ms ts
    (pulled (pulled (λ ms ts l. first_as (commas_there SpellsEntry read.1.0 read.1.1) ms ts
    (assoc_back ms ts l))) ms ts l))
    operation ms ts l
there Freeze operation ms ts l = of_attached (codes "freeze") make_freeze SpellsTyped
    (IsFor Freeze) (λ read. (tt, λ may. refl)) (λ read ms ts l. (refl, l)) operation ms ts l
there Alloca operation ms ts l = of_made (codes "alloca") make_alloca SpellsAlloca
    (IsFor Alloca) (λ read. (tt, λ may. refl))
    (λ read ms ts l. first_as (λ ms ts l. (read.1, refl, l)) ms ts
    (pulled (pulled silent_parted) ms ts l)) operation ms ts l
there Load operation ms ts l = of_made (codes "load") make_load SpellsLoad
    (IsFor Load) (λ read. (tt, λ may. refl))
    (λ read ms ts l. first_as (λ ms ts l. (read.1.1, refl, l)) ms ts
    (pulled (pulled (pulled (pulled silent_parted))) ms ts l)) operation ms ts l
there Store operation ms ts l = of_made (codes "store") make_store SpellsStore
    (IsFor Store) (λ read. (tt, λ may. absurd cc))
    (λ read ms ts l. first_as (λ ms ts l. (read.1.1.1, refl, l)) ms ts
    (pulled (pulled (pulled (pulled (pulled silent_parted)))) ms ts l)) operation ms ts l
there Gep operation ms ts l = of_made (codes "getelementptr") make_gep SpellsGep
    (IsFor Gep) (λ read. (tt, λ may. refl))
    (λ read ms ts l. first_as (λ ms ts l. (refl, l)) ms ts
    (pulled (pulled (pulled (pulled assoc_back))) ms ts l)) operation ms ts l
there Switch operation ms ts l = of_attached (codes "switch") make_switch SpellsSwitch
    (IsFor Switch) (λ read. (tt, λ may. absurd cc)) (λ read ms ts l. (refl, l)) operation ms ts l
there Br operation ms ts l = of_one l.3.4.3.3
  where
    behind : {A : Mentioning} → A l.3.4.0 l.3.4.3.0
        → (the_word (codes "br") ⊙ (A ⊙ silent attachments)) ms ts
    behind a =
        let parts = l.3.4 in (
          l.0,
          l.1,
          l.2,
          (
            l.3.0,
            l.3.1,
            l.3.2,
            l.3.3,
            (parts.0, parts.1, parts.2, (parts.3.0, parts.3.1, parts.3.2, a, parts.3.4)),
          ),
        )

    of_one : SpellsBr operation l.3.4.0 l.3.4.3.0 → IsFor Br operation.op × Whole operation ms ts
    of_one (inl jump) = of_attached (codes "br") make_jump SpellsJump
        (IsFor Br) (λ read. (tt, λ may. absurd cc)) (λ read ms ts l. (refl, l)) operation ms ts (behind jump)
    of_one (inr branch) = of_attached (codes "br") make_branch SpellsBranch
        (IsFor Br) (λ read. (tt, λ may. absurd cc)) (λ read ms ts l. (refl, l)) operation ms ts (behind branch)
there Ret operation ms ts l = of_one l.3.4.3.3
  where
    behind : {A : Mentioning} → A l.3.4.0 l.3.4.3.0
        → (the_word (codes "ret") ⊙ (A ⊙ silent attachments)) ms ts
    behind a =
        let parts = l.3.4 in (
          l.0,
          l.1,
          l.2,
          (
            l.3.0,
            l.3.1,
            l.3.2,
            l.3.3,
            (parts.0, parts.1, parts.2, (parts.3.0, parts.3.1, parts.3.2, a, parts.3.4)),
          ),
        )

    of_one : SpellsRet operation l.3.4.0 l.3.4.3.0 → IsFor Ret operation.op × Whole operation ms ts
    of_one (inl nothing_there) = of_attached (codes "ret") make_nothing SpellsNothing
        (IsFor Ret) (λ read. (tt, λ may. absurd cc)) (λ read ms ts l. (refl, l)) operation ms ts (behind nothing_there)
    of_one (inr value) = of_attached (codes "ret") make_returned SpellsTyped
        (IsFor Ret) (λ read. (tt, λ may. absurd cc)) (λ read ms ts l. (refl, l)) operation ms ts (behind value)
there Unreachable operation ms ts l =
    subst (λ (operation : Operation). IsFor Unreachable operation.op × Whole operation ms ts)
    (sym l.3.4.3.3.1.0)
    ((tt, λ may. absurd cc), first_as (λ ms ts l. (refl, only_first ms ts l)) ms ts (assoc_back ms ts l))
  where
    only_first : (ms : List Mention) (ts : List Lexeme)
        → (the_word (codes "unreachable") ⊙ silent (λ ts. (operation ≡ plain op.Unreachable) × (ts ≡ []))) ms ts
        → the_word (codes "unreachable") ms ts
    only_first ms ts l = (
      l.2 ∙ (ap (λ (before : List Mention). before ++ l.1) l.3.3.0 ∙ l.3.4.0),
      l.3.2 ∙ (ap (λ (us : List Lexeme). us ++ l.3.1) l.3.3.1
          ∙ ap (λ (vs : List Lexeme). word (codes "unreachable") ∷ vs) l.3.4.1.1),
    )

-- ---- each operation

-- It is read behind one of the opcodes, which may have a result where it may.
abbrev IsBehind : Operation → List Mention → List Lexeme → Type 0
IsBehind operation ms ts = (code : Opcode) × (MayHaveResult operation.op → IsTrue (may_have_result code))
    × (the_word (opcode_text code) ⊙ SpellsBehind code operation) ms ts

-- the words of an operation, which stand beside its text
words_apart : {A B : Mentioning} {P : Type 0} (ms : List Mention) (ts : List Lexeme)
    → ((λ ms ts. P × A ms ts) ⊙ B) ms ts → P × (A ⊙ B) ms ts
words_apart ms ts l = (l.3.3.0, (l.0, l.1, l.2, (l.3.0, l.3.1, l.3.2, l.3.3.1, l.3.4)))

align_apart : {A : List ℕ → Mentioning} {B : Mentioning} (words : List (List ℕ)) (ms : List Mention) (ts : List Lexeme)
    → ((λ ms ts. (align : List ℕ) × (words ≡ align ∷ []) × A align ms ts) ⊙ B) ms ts
    → (align : List ℕ) × (words ≡ align ∷ []) × (A align ⊙ B) ms ts
align_apart words ms ts l =
    (l.3.3.0, l.3.3.1, (l.0, l.1, l.2, (l.3.0, l.3.1, l.3.2, l.3.3.2, l.3.4)))

with_words : (o : Op) (words others : List (List ℕ)) → words ≡ others
    → ◌≡◌ {A = Operation} (record { op = o; words = words }) (record { op = o; words = others })
with_words o words others e = ap (λ (words : List (List ℕ)). record { op = o; words = words }) e

back : (o : Op) (words : List (List ℕ)) (ms : List Mention) (ts : List Lexeme) → IsNoCall o
    → (SpellsOp o words ⊙ silent attachments) ms ts → IsBehind (record { op = o; words = words }) ms ts
back (op.Binary b nuw nsw exact disjoint kind left right) words ms ts no_call l =
    let parts = words_apart ms ts l in (
      Binary b,
      λ may. refl,
      attached_of (binary_text b) (make_binary b) (SpellsBinary b) (
        record { nuw = nuw; nsw = nsw; exact = exact; disjoint = disjoint },
        record { kind = kind; left = left; right = right },
      )
          (record { op = op.Binary b nuw nsw exact disjoint kind left right; words = words })
          (with_words (op.Binary b nuw nsw exact disjoint kind left right) words [] parts.0) ms ts parts.1,
    )
back (op.Icmp pred kind left right) words ms ts no_call l =
    let parts = words_apart ms ts l in (
      Icmp,
      λ may. refl,
      attached_of (codes "icmp") make_comparison SpellsComparison
          (pred, record { kind = kind; left = left; right = right })
          (record { op = op.Icmp pred kind left right; words = words })
          (with_words (op.Icmp pred kind left right) words [] parts.0) ms ts parts.1,
    )
back (op.Cast c nneg from value to) words ms ts no_call l =
    let parts = words_apart ms ts l in (
      Cast c,
      λ may. refl,
      attached_of (cast_text c) (make_cast c) (SpellsCast c) (nneg, (record { kind = from; value = value }, to))
          (record { op = op.Cast c nneg from value to; words = words })
          (with_words (op.Cast c nneg from value to) words [] parts.0) ms ts parts.1,
    )
back (op.Select cond left right) words ms ts no_call l =
    let parts = words_apart ms ts l in (
      Select,
      λ may. refl,
      attached_of (codes "select") make_select SpellsSelect (cond, (left, right))
          (record { op = op.Select cond left right; words = words })
          (with_words (op.Select cond left right) words [] parts.0) ms ts parts.1,
    )
back (op.Phi kind []) words ms ts no_call l = absurd l.3.3.1.3.4.3.4
back (op.Phi kind (entry ∷ entries)) words ms ts no_call l =
    let parts = words_apart ms ts l in (
      Phi,
      λ may. refl,
      made_of (codes "phi") make_phi SpellsPhi (kind, (entry, entries))
          (record { op = op.Phi kind (entry ∷ entries); words = words })
          (with_words (op.Phi kind (entry ∷ entries)) words [] parts.0) ms ts
          (pushed (pushed (λ ms ts l. assoc_there ms ts (first_as (commas_back SpellsEntry entry entries) ms ts l)))
          ms ts parts.1),
    )
back (op.Freeze kind value) words ms ts no_call l =
    let parts = words_apart ms ts l in (
      Freeze,
      λ may. refl,
      attached_of (codes "freeze") make_freeze SpellsTyped (record { kind = kind; value = value })
          (record { op = op.Freeze kind value; words = words })
          (with_words (op.Freeze kind value) words [] parts.0) ms ts parts.1,
    )
back (op.Alloca kind) words ms ts no_call l =
    let parts = align_apart words ms ts l in (
      Alloca,
      λ may. refl,
      made_of (codes "alloca") make_alloca SpellsAlloca (kind, parts.0)
          (record { op = op.Alloca kind; words = words })
          (with_words (op.Alloca kind) words (parts.0 ∷ []) parts.1) ms ts
          (pushed (pushed silent_joined) ms ts parts.2),
    )
back (op.Load kind from) words ms ts no_call l =
    let parts = align_apart words ms ts l in (
      Load,
      λ may. refl,
      made_of (codes "load") make_load SpellsLoad (kind, (from, parts.0))
          (record { op = op.Load kind from; words = words })
          (with_words (op.Load kind from) words (parts.0 ∷ []) parts.1) ms ts
          (pushed (pushed (pushed (pushed silent_joined))) ms ts parts.2),
    )
back (op.Store kind value to) words ms ts no_call l =
    let parts = align_apart words ms ts l in (
      Store,
      λ may. absurd may,
      made_of (codes "store") make_store SpellsStore (kind, (value, (to, parts.0)))
          (record { op = op.Store kind value to; words = words })
          (with_words (op.Store kind value to) words (parts.0 ∷ []) parts.1) ms ts
          (pushed (pushed (pushed (pushed (pushed silent_joined)))) ms ts parts.2),
    )
back (op.Gep inbounds kind base indices) words ms ts no_call l =
    let parts = words_apart ms ts l in (
      Gep,
      λ may. refl,
      made_of (codes "getelementptr") make_gep SpellsGep (inbounds, (kind, (base, indices)))
          (record { op = op.Gep inbounds kind base indices; words = words })
          (with_words (op.Gep inbounds kind base indices) words [] parts.0) ms ts
          (pushed (pushed (pushed (pushed assoc_there))) ms ts parts.1),
    )
back (op.Call ret callee args) words ms ts no_call l = absurd no_call
back (op.Jump to) words ms ts no_call l =
    let parts = words_apart ms ts l in (
      Br,
      λ may. absurd cc,
      then_as (λ ms ts l. first_as (λ ms ts l. inl l) ms ts l) ms ts
          (attached_of (codes "br") make_jump SpellsJump to (record { op = op.Jump to; words = words })
          (with_words (op.Jump to) words [] parts.0) ms ts parts.1),
    )
back (op.Branch cond one other) words ms ts no_call l =
    let parts = words_apart ms ts l in (
      Br,
      λ may. absurd cc,
      then_as (λ ms ts l. first_as (λ ms ts l. inr l) ms ts l) ms ts
          (attached_of (codes "br") make_branch SpellsBranch (cond, (one, other))
          (record { op = op.Branch cond one other; words = words })
          (with_words (op.Branch cond one other) words [] parts.0) ms ts parts.1),
    )
back (op.Switch kind value other cases) words ms ts no_call l =
    let parts = words_apart ms ts l in (
      Switch,
      λ may. absurd cc,
      attached_of (codes "switch") make_switch SpellsSwitch (record { kind = kind; value = value }, (other, cases))
          (record { op = op.Switch kind value other cases; words = words })
          (with_words (op.Switch kind value other cases) words [] parts.0) ms ts parts.1,
    )
back (op.Ret None) words ms ts no_call l =
    let parts = words_apart ms ts l in (
      Ret,
      λ may. absurd cc,
      then_as (λ ms ts l. first_as (λ ms ts l. inl l) ms ts l) ms ts
          (attached_of (codes "ret") make_nothing SpellsNothing tt (record { op = op.Ret None; words = words })
          (with_words (op.Ret None) words [] parts.0) ms ts parts.1),
    )
back (op.Ret (Some typed)) words ms ts no_call l =
    let parts = words_apart ms ts l in (
      Ret,
      λ may. absurd cc,
      then_as (λ ms ts l. first_as (λ ms ts l. inr l) ms ts l) ms ts
          (attached_of (codes "ret") make_returned SpellsTyped typed
          (record { op = op.Ret (Some typed); words = words })
          (with_words (op.Ret (Some typed)) words [] parts.0) ms ts parts.1),
    )
back op.Unreachable words ms ts no_call l =
    let parts = words_apart ms ts l in (
      Unreachable,
      λ may. absurd cc,
      assoc_there ms ts (first_as (λ ms ts l. (
        ms,
        [],
        sym (append-nil ms),
        (ts, [], sym (append-nil ts), l, (refl, (with_words op.Unreachable words [] parts.0, refl))),
      )) ms ts parts.1),
    )

-- ---- any operation

pub op_tells : (has_result : Bool) → IsTeller (op_at has_result) (SpellsAttached has_result) (λ operation. NoComma tt)
unfolding op_at
op_tells has_result =
    told_as (SpellsAttached has_result)
    (λ operation ms ts l.
    let read = l.1.3.3 in
    let found = there l.0 operation ms ts
    (l.1.0, l.1.1, l.1.2, (l.1.3.0, l.1.3.1, l.1.3.2, (read.0, read.1.1), l.1.3.4)) in (
      found.0.0,
      λ has. found.0.1 (read.1.0 has),
      found.1,
    ))
    (λ operation ms ts l.
    let found = back operation.op operation.words ms ts l.0 l.2 in
    let parts = found.2 in (
      found.0,
      (
        parts.0,
        parts.1,
        parts.2,
        (
          parts.3.0,
          parts.3.1,
          parts.3.2,
          (parts.3.3.0, (λ has. found.1 (l.1 has), parts.3.3.1)),
          parts.3.4,
        ),
      ),
    ))
    (each_tells behind_at SpellsBehind (λ operation. NoComma tt) (silent_tells (opcode_reads has_result)) behind_tells
    (λ code operation ms taken rest l stops. stops_at_all (taken ++ rest) (λ t. tt)))
