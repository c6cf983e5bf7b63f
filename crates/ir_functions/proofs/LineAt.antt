-- What the operation that is read at a place says of its line.
use Rattle.std.proofs.Common.{◌≡◌, ℕ, Bool, true, false, if◌then◌else◌, List, [], ◌∷◌, ◌++◌, Option, Some, None, Ok, refl, sym, ap, ◌∙◌}
use Rattle.std.proofs.lemmas.List.{append-nil}
use Rattle.std.specs.Option.{option_map}
use Rattle.scev_base.specs.declared.ids.ValueId.{ValueId}
use Rattle.ir_model.specs.declared.op.Op.{Op}
use Rattle.ir_model.specs.declared.op.Op.TheVariants.{Binary, Icmp, Cast, Select, Phi, Freeze, Alloca, Load, Store, Gep, Call, Jump, Branch, Switch, Ret, Unreachable}
use Rattle.ir_model.specs.declared.function.Instr.{Instr}
use Rattle.ir_text.specs.Tokens.{Lexeme}
use Rattle.ir_text.specs.Said.{said_local}
use Rattle.ir_text.specs.Written.{Name}
use Rattle.ir_text.specs.Mentions.{Mention, DefinesValue}
use Rattle.ir_text.specs.Sites.{bare_op}
use Rattle.ir_model.specs.Shapes.{is_terminator}
use Rattle.ir_lex.specs.Tokenized.{Tokenized}
use Rattle.ir_parts.specs.declared.ending.Ending.{Ending}
use Rattle.ir_parts.specs.Reading.{punctuation_at}
use Rattle.ir_parts.specs.Places.{said_at, mentions_at}
use Rattle.ir_body.specs.declared.operation.Operation.{Operation}
use Rattle.ir_body.specs.Views.{bare_operation, operation_sites}
use Rattle.ir_functions.specs.declared.lines.Line.{Line}
use Rattle.ir_functions.specs.Lines.{defined_at, operation_at, instr_of, named_line, named_line_at, gives_value, with_number, numbered_line, unnamed_line_at, ends_block}
use Rattle.ir_functions.specs.Views.{bare_value, definition_sites, bare_read_operation, read_operation_sites, bare_line, line_sites}
use Rattle.ir_functions.proofs.ChainTellers.{operation_tells}
use Rattle.ir_functions.proofs.LineSayings.{none_says}
use Rattle.ir_functions.proofs.DroppedCalls.{reads_calls, never_dropped}

-- ---- without ids

same_end : (op : Op) → is_terminator (bare_op op) ≡ is_terminator op
same_end (Ret None) = refl
same_end (Ret (Some typed)) = refl
same_end (Binary op nuw nsw exact disjoint kind left right) = refl
same_end (Icmp pred kind left right) = refl
same_end (Cast op nneg from value to) = refl
same_end (Select cond left right) = refl
same_end (Phi kind entries) = refl
same_end (Freeze kind value) = refl
same_end (Alloca kind) = refl
same_end (Load kind from) = refl
same_end (Store kind value to) = refl
same_end (Gep inbounds kind base indices) = refl
same_end (Call ret callee args) = refl
same_end (Jump to) = refl
same_end (Branch cond there other) = refl
same_end (Switch kind value other cases) = refl
same_end Unreachable = refl

pub same_ends : (line : Line) → ends_block (bare_line line) ≡ ends_block line
same_ends line = of line.instr
  where
    of : (o : Option Instr) → ends_block (bare_line (record { instr = o; tail = line.tail }))
        ≡ ends_block (record { instr = o; tail = line.tail })
    of None = refl
    of (Some instr) = same_end instr.op

same_gives : (op : Op) → gives_value (bare_op op) ≡ gives_value op
same_gives (Ret None) = refl
same_gives (Ret (Some typed)) = refl
same_gives (Binary op nuw nsw exact disjoint kind left right) = refl
same_gives (Icmp pred kind left right) = refl
same_gives (Cast op nneg from value to) = refl
same_gives (Select cond left right) = refl
same_gives (Phi kind entries) = refl
same_gives (Freeze kind value) = refl
same_gives (Alloca kind) = refl
same_gives (Load kind from) = refl
same_gives (Store kind value to) = refl
same_gives (Gep inbounds kind base indices) = refl
same_gives (Call ret callee args) = refl
same_gives (Jump to) = refl
same_gives (Branch cond there other) = refl
same_gives (Switch kind value other cases) = refl
same_gives Unreachable = refl

-- ---- behind a name

-- Behind a result nothing is dropped.
never_none : (ts rest : List Lexeme) (tail : Option Ending) (ms : List Mention)
    → operation_at true ts ≡ Ok (((None, tail), ms), rest) → ⊥
never_none ts rest tail ms e =
    let found = (operation_tells reads_calls true).reader.takes ts rest ((None, tail), ms) e in
    never_dropped tail ms found.taken (none_says reads_calls true tail ms found.taken found.spelled)

abbrev line_of : Option Instr → Option Ending → Line
line_of instr tail = record { instr = instr; tail = tail }

abbrev pub seen : Tokenized → Line → Line × List Mention
seen t line = (bare_line line, mentions_at t (line_sites line))

abbrev read : Tokenized → Option Operation → Option Ending → (Option Operation × Option Ending) × List Mention
read t o tail = (bare_read_operation (o, tail), mentions_at t (read_operation_sites (o, tail)))

pub named_read : (t : Tokenized) (value : ValueId) (o : Option Operation) (tail : Option Ending)
    (ts after signed rest : List Lexeme)
    → defined_at ts ≡ Ok ((bare_value value, mentions_at t (definition_sites value)), after)
    → punctuation_at 61 after ≡ Ok (tt, signed) → operation_at true signed ≡ Ok (read t o tail, rest)
    → named_line_at ts ≡ Ok (seen t (line_of (option_map (instr_of (Some value)) o) tail), rest)
unfolding named_line_at
named_read t value None tail ts after signed rest d s e = absurd (never_none signed rest tail [] e)
named_read t value (Some operation) tail ts after signed rest d s e =
    let behind : List Mention = mentions_at t (operation_sites operation) in
    rw (d, s, e) (ap (λ (ms : List Mention).
    Ok (
      (
        named_line (bare_value value, bare_read_operation (Some operation, tail)),
        mentions_at t (definition_sites value) ++ ms,
      ),
      rest,
    )) (append-nil (behind ++ []) ∙ append-nil behind))

-- ---- without one

numbered : (t : Tokenized) (at : ℕ) (operation : Operation) (tail : Option Ending) → said_at said_local t at ≡ None
    → numbered_line (read t (Some operation) tail) ≡ seen t (line_of (Some (with_number at operation)) tail)
numbered t at operation tail none =
    ap (λ (b : Bool). as_line (of_value b)) (same_gives operation.op) ∙ of (gives_value operation.op)
  where
    ms : List Mention
    ms = mentions_at t (operation_sites operation)

    of_value : Bool → Instr × List Mention
    of_value b = if b then (instr_of (Some (record { 0 = 0 })) (bare_operation operation), DefinesValue None ∷ ms)
        else (instr_of None (bare_operation operation), ms)

    as_line : Instr × List Mention → Line × List Mention
    as_line p = (line_of (Some p.0) tail, p.1)

    instr : Bool → Instr
    instr b = if b then instr_of (Some (record { 0 = at })) operation else instr_of None operation

    of : (b : Bool) → as_line (of_value b) ≡ seen t (line_of (Some (instr b)) tail)
    of true = ap (λ (said : Option Name).
        (line_of (Some (instr_of (Some (record { 0 = 0 })) (bare_operation operation))) tail, DefinesValue said ∷ ms))
        (sym none)
    of false = refl

pub unnamed_read : (t : Tokenized) (at : ℕ) (o : Option Operation) (tail : Option Ending) (ts rest : List Lexeme)
    → said_at said_local t at ≡ None → operation_at false ts ≡ Ok (read t o tail, rest)
    → unnamed_line_at ts ≡ Ok (seen t (line_of (option_map (with_number at) o) tail), rest)
unfolding unnamed_line_at
unnamed_read t at None tail ts rest none e = rw e refl
unnamed_read t at (Some operation) tail ts rest none e =
    rw e (ap (λ (p : Line × List Mention). Ok (p, rest)) (numbered t at operation tail none))
