use Rattle.std.proofs.Common.{◌≡◌, ◌<◌, ◌==◌, cond, Some, None, length, take, get_or, nat_eq, sym, ap, ◌∙◌, arith}
use Rattle.std.specs.List.{list_all}
use Rattle.std.specs.Option.{option_or}
use Rattle.std.proofs.lemmas.Bool.{and_from}
use Rattle.std.proofs.lemmas.List.{take_more, take_all}
use Rattle.std.proofs.lemmas.List.Folds.{list_all_more, list_all_at}
use Rattle.indexmap.specs.IndexMap.{get}
use Rattle.ir_model.specs.declared.op.Operand.TheVariants as operand
use Rattle.ir_model.specs.declared.op.PhiEntry.{PhiEntry}
use Rattle.ir_check.proofs.AgreeingEntries.{first_in, first_in-push, fits_first, firsts_agree, fits_noted}
use Rattle.ir_check.proofs.entries.entries_agree.Goals as goal

abbrev blank : PhiEntry
blank = record { value = operand.Reg (record { 0 = 0 }); from = record { 0 = 0 } }

pub loop-entry-preserved : goal.loop-entry-preserved
loop-entry-preserved c =
    let entries = c.args.entries.now in
    let kind = c.args.kind.now in
    let i = c.loop-entry.entry-index in
    let entry = get_or entries i blank in
    let within : i < length entries = omega arith in
    let fits = fits_noted entries i blank within kind (get nat_eq c.loop-entry.firsts entry.from.0) c.in_ok-first.first
    (c.loop-entry.invariant.noted entry.from.0) c.in_ok-first.ensures.first
    ∙ (sym c.same_operand.ensures ∙ c.if-not-same_operand.false) in
    record {
      noted = λ q. c.in_ok-first.ensures.noted q
          ∙ (ap (λ o. option_or o (cond (entry.from.0 == q) (Some entry.value) None)) (c.loop-entry.invariant.noted q)
          ∙ (sym (first_in-push (take i entries) entry q)
          ∙ ap (λ all. first_in all q) (sym (take_more entries i blank within))));
      agree = list_all_more (fits_first kind entries) entries i blank within
          ∙ and_from (list_all (fits_first kind entries) (take i entries)) (fits_first kind entries entry)
          c.loop-entry.invariant.agree fits;
    }

pub returns-then-not-same_operand : goal.returns-then-not-same_operand
returns-then-not-same_operand c =
    let entries = c.args.entries.now in
    let kind = c.args.kind.now in
    let i = c.loop-entry.entry-index in
    let entry = get_or entries i blank in
    let within : i < length entries = omega arith in
    let differs = fits_noted entries i blank within kind (get nat_eq c.loop-entry.firsts entry.from.0)
    c.in_ok-first.first (c.loop-entry.invariant.noted entry.from.0) c.in_ok-first.ensures.first
    ∙ (sym c.same_operand.ensures ∙ c.if-not-same_operand.true) in
    sym (list_all_at (fits_first kind entries) entries i blank within differs) ∙ firsts_agree kind entries

pub returns : goal.returns
returns c =
    let entries = c.args.entries.now in
    let kind = c.args.kind.now in
    let all : take c.loop-entry.entry-index entries ≡ entries =
    take_all c.loop-entry.entry-index entries (omega arith) in
    sym (ap (list_all (fits_first kind entries)) (sym all) ∙ c.loop-entry.invariant.agree) ∙ firsts_agree kind entries
