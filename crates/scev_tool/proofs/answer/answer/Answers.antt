-- What the bytes are refused for holds of what the source had left.
use Rattle.std.proofs.Common.{ℕ, List, Ok, ap}
use Rattle.ir_grammar.specs.Spelled.{IsNotInGrammar, IsUnsupported}
use Rattle.ir_read_back.proofs.HaveIds.{module_has_ids}
use Rattle.ir_read_back.proofs.WellMade.{spelled_is_well_made}
use Rattle.scev_outside.specs.Bytes.{Appended, AppendedFront}
use Rattle.scev_words.specs.Found.{seen}
use Rattle.scev_tool.specs.Mode.{IsTextOf}
use Rattle.scev_tool.proofs.Answered.{of_input, ill_answer}
use Rattle.scev_tool.proofs.answer.answer.Goals as goal

pub returns-in-Err-NotInGrammar-clause-answer : goal.returns-in-Err-NotInGrammar-clause-answer
returns-in-Err-NotInGrammar-clause-answer g c =
    let fault = rw c.in-Err-NotInGrammar.field-0-is at c.in-Err-NotInGrammar.ensures.fault in
    let refused : IsNotInGrammar c.in-Ok.bytes.items c.in-Err-NotInGrammar.at = rw c.deref.ensures.value at fault in
    rw c.plain-in-Err-NotInGrammar.ensures.status (
      seen c.args.mode,
      c.requires,
      of_input _ _ c.in-Ok.bytes.items (λ bytes. IsNotInGrammar bytes c.in-Err-NotInGrammar.at) c.in-Ok.ensures.all
          c.in-Ok.ensures.short refused,
    )

pub returns-in-Err-Unsupported-clause-answer : goal.returns-in-Err-Unsupported-clause-answer
returns-in-Err-Unsupported-clause-answer g c =
    let fault = rw c.in-Err-Unsupported.field-0-is at c.in-Err-Unsupported.ensures.fault in
    let refused : IsUnsupported c.in-Ok.bytes.items c.in-Err-Unsupported.word c.in-Err-Unsupported.at =
    rw c.deref.ensures.value at fault in
    rw c.plain-in-Err-Unsupported.ensures.status (
      seen c.args.mode,
      c.requires,
      of_input _ _ c.in-Ok.bytes.items
          (λ bytes. IsUnsupported bytes c.in-Err-Unsupported.word c.in-Err-Unsupported.at) c.in-Ok.ensures.all
          c.in-Ok.ensures.short refused,
    )

pub first_fault-requires-clause-ids : goal.first_fault-requires-clause-ids
first_fault-requires-clause-ids g c =
    let spelled = c.in-Ok-read_module.ensures.spells in
    module_has_ids spelled.drafts c.in-Ok-read_module.module spelled.numbered

pub first_fault-requires-clause-well_made : goal.first_fault-requires-clause-well_made
first_fault-requires-clause-well_made g c =
    spelled_is_well_made _ c.in-Ok-read_module.module c.in-Ok-read_module.ensures.spells

pub refused-requires : goal.refused-requires
refused-requires g c =
    let spelled = c.in-Ok-read_module.ensures.spells in
    module_has_ids spelled.drafts c.in-Ok-read_module.module spelled.numbered

pub returns-in-Ok-Some-clause-answer : goal.returns-in-Ok-Some-clause-answer
returns-in-Ok-Some-clause-answer g c =
    let fault = rw c.in-Ok-Some.field-0-is at c.in-Ok-Some.ensures.refused in
    let spelled = rw c.deref.ensures.value at c.in-Ok-read_module.ensures.spells in
    (ill_answer _ (seen c.args.mode) c.requires c.in-Ok.bytes.items c.in-Ok-read_module.module c.in-Ok-Some.fault.rule
    c.in-Ok-Some.fault.function c.in-Ok-Some.fault.place c.refused.result.status c.refused.result.line.items
    c.in-Ok.ensures.all c.in-Ok.ensures.short spelled fault c.refused.ensures).0

pub returns-in-Ok-Some-clause-line : goal.returns-in-Ok-Some-clause-line
returns-in-Ok-Some-clause-line g c =
    let fault = rw c.in-Ok-Some.field-0-is at c.in-Ok-Some.ensures.refused in
    let spelled = rw c.deref.ensures.value at c.in-Ok-read_module.ensures.spells in
    (ill_answer (record {
      words = c.args.words.now;
      left_old = g.S.Source.left c.args.source.now;
      left_new = g.S.Source.left c.read_all.new.source;
      taken_old = g.K.Sink.taken c.args.out.now;
      taken_new = g.K.Sink.taken c.args.out.now;
      reads_old = g.S.Source.faults c.args.source.now;
      reads_new = g.S.Source.faults c.read_all.new.source;
      writes_old = g.K.Sink.faults c.args.out.now;
      writes_new = g.K.Sink.faults c.args.out.now;
    }) (seen c.args.mode) c.requires c.in-Ok.bytes.items c.in-Ok-read_module.module c.in-Ok-Some.fault.rule
    c.in-Ok-Some.fault.function c.in-Ok-Some.fault.place c.refused.result.status c.refused.result.line.items
    c.in-Ok.ensures.all c.in-Ok.ensures.short spelled fault c.refused.ensures).1

pub text_of-requires-clause-ids : goal.text_of-requires-clause-ids
text_of-requires-clause-ids g c =
    let spelled = c.in-Ok-read_module.ensures.spells in
    module_has_ids spelled.drafts c.in-Ok-read_module.module spelled.numbered

pub text_of-requires-clause-well_made : goal.text_of-requires-clause-well_made
text_of-requires-clause-well_made g c =
    spelled_is_well_made _ c.in-Ok-read_module.module c.in-Ok-read_module.ensures.spells

-- The text is the mode's for the input, and was written,
pub returns-in-Ok-write_all-clause-answer : goal.returns-in-Ok-write_all-clause-answer
returns-in-Ok-write_all-clause-answer g c =
    let bytes = c.in-Ok.bytes.items in
    let small = rw c.deref-2.ensures.value at c.are_bytes.ensures in
    let spelled = rw c.deref.ensures.value at c.in-Ok-read_module.ensures.spells in
    let is = c.in-Ok-text_of.ensures.text bytes small c.in-Ok.ensures.short spelled in
    let whole = rw c.deref-3.ensures.value at c.in-Ok-write_all.ensures.whole in
    rw c.plain-in-Ok-write_all.ensures.status (
      seen c.args.mode,
      c.requires,
      of_input _ _ bytes (λ bytes. (text : List ℕ) × IsTextOf (seen c.args.mode) bytes text
          × Appended (g.K.Sink.taken c.args.out.now) text (g.K.Sink.taken c.write_all.new.sink))
          c.in-Ok.ensures.all c.in-Ok.ensures.short (c.in-Ok-text_of.text.items, is, whole),
    )

-- or a prefix of it.
pub returns-clause-answer : goal.returns-clause-answer
returns-clause-answer g c =
    let bytes = c.in-Ok.bytes.items in
    let small = rw c.deref-2.ensures.value at c.are_bytes.ensures in
    let spelled = rw c.deref.ensures.value at c.in-Ok-read_module.ensures.spells in
    let is = c.in-Ok-text_of.ensures.text bytes small c.in-Ok.ensures.short spelled in
    let front = rw c.deref-3.ensures.value at c.in-Err-write_all.ensures.front in
    rw c.plain-in-Err-write_all.ensures.status (
      seen c.args.mode,
      c.requires,
      (
        c.in-Err-write_all.ensures.failed,
        of_input _ _ bytes (λ bytes. (text : List ℕ) × IsTextOf (seen c.args.mode) bytes text
            × AppendedFront (g.K.Sink.taken c.args.out.now) text (g.K.Sink.taken c.write_all.new.sink))
            c.in-Ok.ensures.all c.in-Ok.ensures.short (c.in-Ok-text_of.text.items, is, front),
      ),
    )
