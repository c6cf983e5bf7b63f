-- The lines of a block are read, to the first that ends it, and spell the block's instructions.
use Rattle.std.proofs.Common.{◌≡◌, Bool, true, false, List, [], ◌∷◌, ◌++◌, Option, Some, None, refl, sym, ap, subst, ◌∙◌, append_assoc, codes}
use Rattle.ir_model.specs.declared.op.Op.TheVariants.{Unreachable}
use Rattle.ir_model.specs.declared.function.Instr.{Instr}
use Rattle.ir_text.specs.Tokens.{Lexeme}
use Rattle.ir_text.specs.Listed.{word}
use Rattle.ir_text.specs.Language.{Many}
use Rattle.ir_text.specs.Language.Many.{none, more}
use Rattle.ir_text.specs.Mentions.{Mention, Mentioning}
use Rattle.ir_model.specs.Shapes.{is_terminator}
use Rattle.ir_grammar.specs.Functions.{SpellsInstr, SpellsLine, SpellsInstrs, dropped_instr}
use Rattle.ir_parts.specs.declared.ending.Ending.{Ending}
use Rattle.ir_parts.specs.Reading.{is_punctuation}
use Rattle.ir_parts.proofs.Readers.{StopsAt}
use Rattle.ir_body.specs.declared.operation.Operation.{Operation}
use Rattle.ir_body.proofs.Tellers.{IsTeller}
use Rattle.ir_functions.specs.declared.lines.Line.{Line}
use Rattle.ir_functions.specs.Lines.{ends_block, lines_at, with_instr, instrs_of}
use Rattle.ir_functions.proofs.LineStarts.{EndsLines}
use Rattle.ir_functions.proofs.LineFacts.{EndsTail, StopsTail, ReadsCalls}
use Rattle.ir_functions.proofs.LineTellers.{SpellsAnyLine, line_tells, line_begins}
use Rattle.ir_functions.proofs.LineSayings.{line_says, line_drops, line_ends, dropped_line, is_line}
use Rattle.ir_functions.proofs.UntilTellers.{UntilLastTold, until_tells}

module _ {Chain : Bool → Option Operation × Option Ending → List Mention → List Lexeme → Type 0}
    (calls : ReadsCalls Chain) where
  -- the lines, of which only the last ends the block
  abbrev pub SpellsLines : List Line → Mentioning
  SpellsLines = UntilLastTold ends_block (SpellsAnyLine calls)

  -- ---- what one line is to the next

  some_tokens : (line : Line) (ms : List Mention) → SpellsAnyLine calls line ms [] → ⊥
  some_tokens line ms l = let b = line_begins calls line ms [] l in let e = b.parts in cc

  ends_tail : (tail : Option Ending) (t : Lexeme) → EndsLines t → EndsTail tail t
  ends_tail None t ends = tt
  ends_tail (Some ending) t ends = ends.no_words ending

  next_ends : (line next : Line) (ms : List Mention) (taken rest : List Lexeme) → ends_block line ≡ false
      → SpellsAnyLine calls next ms taken → StopsAt (StopsTail line.tail) (taken ++ rest)
  next_ends line next ms taken rest isnt l =
      let b = line_begins calls next ms taken l in
      subst (λ (ts : List Lexeme). StopsAt (StopsTail line.tail) (ts ++ rest)) (sym b.parts)
      (b.ends.no_comma, ends_tail line.tail b.first b.ends)

  -- the instruction tells whether the line ends the block
  ends_by : (line : Line) (instr : Instr) → line.instr ≡ Some instr → ends_block line ≡ is_terminator instr.op
  ends_by line instr e = ap (λ (o : Option Instr). let line : Line = record { instr = o; tail = line.tail } in
      ends_block line) e

  ends_none : (line : Line) → line.instr ≡ None → ends_block line ≡ false
  ends_none line e = ap (λ (o : Option Instr). let line : Line = record { instr = o; tail = line.tail } in
      ends_block line) e

  -- ---- an end of a block

  stuck : Instr
  stuck = record { result = None; op = Unreachable; words = [] }

  stuck_spelled : SpellsInstr stuck [] (word (codes "unreachable") ∷ [])
  unfolding stuck
  stuck_spelled = (
    [],
    [],
    refl,
    (
      [],
      word (codes "unreachable") ∷ [],
      refl,
      (λ gives. absurd (let e = gives in cc), (refl, refl)),
      ([], [], refl, (word (codes "unreachable") ∷ [], [], refl, (refl, (refl, refl)), (refl, none))),
    ),
  )

  stuck_line : (line : Line) × (line.instr ≡ Some stuck)
      × SpellsAnyLine calls line [] (word (codes "unreachable") ∷ [])
  stuck_line = is_line calls stuck [] (word (codes "unreachable") ∷ []) stuck_spelled

  stuck_ends : ends_block stuck_line.0 ≡ true
  unfolding stuck
  stuck_ends = ends_by stuck_line.0 stuck stuck_line.1

  -- ---- the reading

  pub lines_tell : IsTeller lines_at SpellsLines (λ lines t. is_punctuation 44 t ≡ false)
  unfolding lines_at
  lines_tell = until_tells ends_block (SpellsAnyLine calls) (λ line. StopsTail line.tail)
      (line_tells calls) some_tokens next_ends
      stuck_line.0 [] (word (codes "unreachable") ∷ []) stuck_ends stuck_line.2
      (λ t. is_punctuation 44 t ≡ false)
      (λ line ms ts t is l stop. stop.0)
      (λ line ms ts t is l stop. (
        stop,
        subst (λ (tail : Option Ending). EndsTail tail t) (sym (line_ends calls line ms ts is l)) tt,
      ))

  -- ---- the instructions of lines

  -- what is dropped before the first instruction
  prepended : (instrs : List Instr) (ms : List Mention) (ts us vs : List Lexeme) → ts ≡ us ++ vs → dropped_instr us
      → SpellsInstrs instrs ms vs → SpellsInstrs instrs ms ts
  prepended [] ms ts us vs parts dropped l = l
  prepended (instr ∷ []) ms ts us vs parts dropped l = (l.0, before instr ms ts us vs parts dropped l.1)
    where
      before : (instr : Instr) (ms : List Mention) (ts us vs : List Lexeme) → ts ≡ us ++ vs → dropped_instr us
          → SpellsLine instr ms vs → SpellsLine instr ms ts
      before instr ms ts us vs parts dropped l = (
        l.0,
        l.1,
        l.2,
        (
          us ++ l.3.0,
          l.3.1,
          parts ∙ (ap (λ (vs : List Lexeme). us ++ vs) l.3.2 ∙ sym (append_assoc us l.3.0 l.3.1)),
          (l.3.3.0, more us l.3.0 refl dropped l.3.3.1),
          l.3.4,
        ),
      )
  prepended (instr ∷ next ∷ others) ms ts us vs parts dropped l =
      let m = l.1 in
      let first = m.3.3 in (
        l.0,
        (
          m.0,
          m.1,
          m.2,
          (
            us ++ m.3.0,
            m.3.1,
            parts ∙ (ap (λ (vs : List Lexeme). us ++ vs) m.3.2 ∙ sym (append_assoc us m.3.0 m.3.1)),
            (
              first.0,
              first.1,
              first.2,
              (
                us ++ first.3.0,
                first.3.1,
                ap (λ (vs : List Lexeme). us ++ vs) first.3.2 ∙ sym (append_assoc us first.3.0 first.3.1),
                (first.3.3.0, more us first.3.0 refl dropped first.3.3.1),
                first.3.4,
              ),
            ),
            m.3.4,
          ),
        ),
      )

  -- an instruction with nothing dropped before it
  alone : (instr : Instr) (ms : List Mention) (ts : List Lexeme) → SpellsInstr instr ms ts → SpellsLine instr ms ts
  alone instr ms ts l = ([], ms, refl, ([], ts, refl, (refl, none), l))

  appended : (instr : Instr) (instrs : List Instr) (ms before behind : List Mention) (ts us vs : List Lexeme)
      → is_terminator instr.op ≡ false → ms ≡ before ++ behind → ts ≡ us ++ vs → SpellsInstr instr before us
      → SpellsInstrs instrs behind vs → SpellsInstrs (instr ∷ instrs) ms ts
  appended instr [] ms before behind ts us vs isnt whole parts first l = absurd l
  appended instr (next ∷ others) ms before behind ts us vs isnt whole parts first l =
      (isnt, (before, behind, whole, (us, vs, parts, alone instr before us first, l)))

  -- a line more
  line_more : (line : Line) (o : Option Instr) → line.instr ≡ o → (instrs : List Instr)
      → (ms before behind : List Mention) (ts us vs : List Lexeme)
      → ends_block line ≡ false → ms ≡ before ++ behind → ts ≡ us ++ vs
      → SpellsAnyLine calls line before us → SpellsInstrs instrs behind vs
      → SpellsInstrs (with_instr o instrs) ms ts
  line_more line None is instrs ms before behind ts us vs isnt whole parts first l =
      let drops = line_drops calls line before us is first in
      subst (λ (ms : List Mention). SpellsInstrs instrs ms ts)
      (sym (whole ∙ ap (λ (b : List Mention). b ++ behind) drops.0))
      (prepended instrs behind ts us vs parts drops.1 l)
  line_more line (Some instr) is instrs ms before behind ts us vs isnt whole parts first l =
      appended instr instrs ms before behind ts us vs (sym (ends_by line instr is) ∙ isnt) whole parts
      (line_says calls line instr before us is first) l

  -- the last line
  line_last : (line : Line) (o : Option Instr) → line.instr ≡ o → (ms : List Mention) (ts : List Lexeme)
      → ends_block line ≡ true → SpellsAnyLine calls line ms ts → SpellsInstrs (with_instr o []) ms ts
  line_last line None is ms ts ends l = absurd (let isnt = ends_none line is in cc)
  line_last line (Some instr) is ms ts ends l =
      (sym (ends_by line instr is) ∙ ends, alone instr ms ts (line_says calls line instr ms ts is l))

  -- Lines spell their instructions.
  pub lines_say : (lines : List Line) (ms : List Mention) (ts : List Lexeme) → SpellsLines lines ms ts
      → SpellsInstrs (instrs_of lines) ms ts
  lines_say [] ms ts l = l
  lines_say (line ∷ []) ms ts l = line_last line line.instr refl ms ts l.0 l.1
  lines_say (line ∷ next ∷ others) ms ts l =
      let m = l.1 in
      line_more line line.instr refl (instrs_of (next ∷ others)) ms m.0 m.1 ts m.3.0 m.3.1 l.0 m.2 m.3.2 m.3.3
      (lines_say (next ∷ others) m.1 m.3.1 m.3.4)

  -- ---- the lines of instructions

  -- lines of which these are the instructions
  pub record LinesOf (instrs : List Instr) (ms : List Mention) (ts : List Lexeme) : Type 0 where
    pub lines : List Line
    pub same : instrs_of lines ≡ instrs
    pub spelled : SpellsLines lines ms ts

  one_more : (line : Line) (o : Option Instr) → line.instr ≡ o → (instrs : List Instr)
      → (ms before behind : List Mention) (ts us vs : List Lexeme)
      → ends_block line ≡ false → ms ≡ before ++ behind → ts ≡ us ++ vs
      → SpellsAnyLine calls line before us → LinesOf instrs behind vs
      → LinesOf (with_instr o instrs) ms ts
  one_more line o is instrs ms before behind ts us vs isnt whole parts first m = of_lines m.lines m.same m.spelled
    where
      of_lines : (lines : List Line) → instrs_of lines ≡ instrs → SpellsLines lines behind vs
          → LinesOf (with_instr o instrs) ms ts
      of_lines [] same l = absurd l
      of_lines (next ∷ others) same l = record {
        lines = line ∷ next ∷ others;
        same = ap (λ (o : Option Instr). with_instr o (instrs_of (next ∷ others))) is ∙ ap (with_instr o) same;
        spelled = (isnt, (before, behind, whole, (us, vs, parts, first, l)));
      }

  -- what is dropped before lines
  dropped_before : (instrs : List Instr) (ms : List Mention) (us vs : List Lexeme) → Many dropped_instr us
      → LinesOf instrs ms vs → LinesOf instrs ms (us ++ vs)
  dropped_before instrs ms us vs none m = m
  dropped_before instrs ms us vs (more front behind parts first others) m =
      let line = dropped_line calls front first in
      one_more line.0 None line.1 instrs ms [] ms (us ++ vs) front (behind ++ vs) (ends_none line.0 line.1) refl
      (ap (λ (us : List Lexeme). us ++ vs) parts ∙ append_assoc front behind vs) line.2
      (dropped_before instrs ms behind vs others m)

  -- an instruction with what is dropped before it
  line_of : (instr : Instr) (instrs : List Instr) (ms : List Mention) (ts us vs : List Lexeme) → ts ≡ us ++ vs
      → Many dropped_instr us → LinesOf instrs ms vs → LinesOf instrs ms ts
  line_of instr instrs ms ts us vs parts dropped m =
      subst (λ (ts : List Lexeme). LinesOf instrs ms ts) (sym parts) (dropped_before instrs ms us vs dropped m)

  last_lines : (instr : Instr) (ms : List Mention) (ts : List Lexeme) → is_terminator instr.op ≡ true
      → SpellsLine instr ms ts → LinesOf (instr ∷ []) ms ts
  last_lines instr ms ts is l =
      let line = is_line calls instr l.1 l.3.1 l.3.4 in
      let mentions : ms ≡ l.1 = l.2 ∙ ap (λ (b : List Mention). b ++ l.1) l.3.3.0 in
      line_of instr (instr ∷ []) ms ts l.3.0 l.3.1 l.3.2 l.3.3.1 (record {
        lines = line.0 ∷ [];
        same = ap (λ (o : Option Instr). with_instr o []) line.1;
        spelled = (
          ends_by line.0 instr line.1 ∙ is,
          subst (λ (ms : List Mention). SpellsAnyLine calls line.0 ms l.3.1) (sym mentions) line.2,
        );
      })

  more_lines : (instr : Instr) (instrs : List Instr) (ms before behind : List Mention) (ts us vs : List Lexeme)
      → is_terminator instr.op ≡ false → ms ≡ before ++ behind → ts ≡ us ++ vs → SpellsLine instr before us
      → LinesOf instrs behind vs → LinesOf (instr ∷ instrs) ms ts
  more_lines instr instrs ms before behind ts us vs isnt whole parts l m =
      let line = is_line calls instr l.1 l.3.1 l.3.4 in
      let mentions : before ≡ l.1 = l.2 ∙ ap (λ (b : List Mention). b ++ l.1) l.3.3.0 in
      line_of instr (instr ∷ instrs) ms ts l.3.0 (l.3.1 ++ vs)
      (parts ∙ (ap (λ (us : List Lexeme). us ++ vs) l.3.2 ∙ append_assoc l.3.0 l.3.1 vs)) l.3.3.1
      (one_more line.0 (Some instr) line.1 instrs ms before behind (l.3.1 ++ vs) l.3.1 vs
      (ends_by line.0 instr line.1 ∙ isnt) whole refl
      (subst (λ (ms : List Mention). SpellsAnyLine calls line.0 ms l.3.1) (sym mentions) line.2) m)

  -- Instructions are spelled by lines.
  pub are_lines : (instrs : List Instr) (ms : List Mention) (ts : List Lexeme) → SpellsInstrs instrs ms ts
      → LinesOf instrs ms ts
  are_lines [] ms ts l = absurd l
  are_lines (instr ∷ []) ms ts l = last_lines instr ms ts l.0 l.1
  are_lines (instr ∷ next ∷ others) ms ts l =
      let m = l.1 in
      more_lines instr (next ∷ others) ms m.0 m.1 ts m.3.0 m.3.1 l.0 m.2 m.3.2 m.3.3
      (are_lines (next ∷ others) m.1 m.3.1 m.3.4)
