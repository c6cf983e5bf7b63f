use Rattle.std.proofs.Common.{Bool, List, [], ◌∷◌, ◌++◌, refl, sym, subst, ◌∙◌, arith}
use Rattle.std.proofs.lemmas.Result.{err_from_is_err_and}
use Rattle.ir_model.specs.declared.function.Instr.{Instr}
use Rattle.ir_text.specs.Mentions.{Mention}
use Rattle.ir_lex.specs.Tokenized.{Tokenized}
use Rattle.ir_parts.specs.Reading.{left_from}
use Rattle.ir_parts.specs.ListReading.{all_until_at}
use Rattle.ir_parts.specs.Places.{mentions_at}
use Rattle.ir_functions.specs.declared.lines.Line.{Line}
use Rattle.ir_functions.specs.Lines.{line_at, lines_at, instrs_of, instrs_at}
use Rattle.ir_functions.specs.Views.{bare_instrs, instrs_sites}
use Rattle.ir_functions.proofs.GatheredLists.{made_read, made_faults}
use Rattle.ir_functions.proofs.ListViews.{one_more_line}
use Rattle.ir_functions.proofs.LineAt.{seen, same_ends}
use Rattle.ir_functions.proofs.UntilLoops.{Stands, until_begins, until_forth, until_faults}
use Rattle.ir_functions.proofs.lines.read_instrs.Invariants.{last}
use Rattle.ir_functions.proofs.lines.read_instrs.Goals as goal

abbrev instrs_seen : Tokenized → List Instr → List Instr × List Mention
instrs_seen t instrs = (bare_instrs instrs, mentions_at t (instrs_sites instrs))

abbrev all : List (Line × List Mention) → List (Line × List Mention)
all found = found

pub lines-init : goal.lines-init
lines-init c =
    let t = c.args.tokens.now in
    record {
      reading = ([], rw c.new-instrs.ensures refl, until_begins last line_at (left_from t c.args.from));
      forth = omega arith;
      further = λ e. absurd (let never = e in cc);
      within = c.requires;
    }

pub returns-in_err-next-clause-value : goal.returns-in_err-next-clause-value
unfolding instrs_at lines_at
returns-in_err-next-clause-value c =
    let t = c.args.tokens.now in
    let p = err_from_is_err_and c.from_residual.result c.from_residual.ensures.1 in
    let so_far = c.lines.invariant.reading in
    let total = all_until_at last line_at (left_from t c.args.from) in
    let loop = subst (λ (ended : Bool). Stands last line_at ended so_far.0 (left_from t c.lines.at) total) c.lines-test.true
    so_far.2 in
    rw (p.1, p.2) (made_faults instrs_of all (instrs_seen t) (all_until_at last line_at) t c.in_err-next.field-0.0
    (left_from t c.args.from)
    (until_faults last line_at (seen t) all t c.in_err-next.field-0.0 so_far.0 (left_from t c.lines.at) total
    c.in_err-next.ensures.value loop))

pub lines-preserved : goal.lines-preserved
lines-preserved c =
    let t = c.args.tokens.now in
    let so_far = c.lines.invariant.reading in
    let next = seen t c.in_ok-next.next in
    let total = all_until_at last line_at (left_from t c.args.from) in
    let loop = subst (λ (ended : Bool). Stands last line_at ended so_far.0 (left_from t c.lines.at) total) c.lines-test.true
    so_far.2 in
    record {
      reading = rw c.in_ok-push_instr.ensures (
        so_far.0 ++ next ∷ [],
        one_more_line t c.lines.instrs c.in_ok-next.next so_far.0 so_far.1,
        until_forth last line_at t so_far.0 c.lines.at c.in_ok-next.behind next total c.ends_block-ended.result
            c.in_ok-next.ensures.value c.in_ok-next.ensures.forth
            (same_ends c.in_ok-next.next ∙ sym c.ends_block-ended.ensures) loop,
      );
      forth = omega (arith, c.in_ok-next.ensures.forth, c.lines.invariant.forth);
      further = λ e. omega (arith, c.in_ok-next.ensures.forth, c.lines.invariant.forth);
      within = c.in_ok-next.ensures.forth.1;
    }

pub returns-clause-value : goal.returns-clause-value
unfolding instrs_at lines_at
returns-clause-value c =
    let t = c.args.tokens.now in
    let so_far = c.lines.invariant.reading in
    let total = all_until_at last line_at (left_from t c.args.from) in
    let read = subst (λ (ended : Bool). Stands last line_at ended so_far.0 (left_from t c.lines.at) total)
    c.lines-test.false so_far.2 in
    made_read instrs_of (all_until_at last line_at) (left_from t c.args.from) (left_from t c.lines.at) so_far.0
    (instrs_seen t c.lines.instrs) read so_far.1
