use Rattle.std.proofs.Common.{◌+◌, length, ◌∙◌, sym, ap, drop, arith}
use Rattle.ir_items.specs.LayoutScan.{first_part, left_out}
use Rattle.ir_items.proofs.LayoutFaults.{faults_on, fault_here, no_fault, the_first, all_first, more_behind}
use Rattle.ir_items.proofs.layout.layout_fault.Goals as goal

pub returns-in-Some : goal.returns-in-Some
returns-in-Some c =
    let first = the_first c.args.text.now c.first_part-spec.result.now c.specifications.from c.first_part-spec.ensures
    in
    fault_here c.args.text.now (drop c.specifications.from c.args.text.now) c.specifications.from c.in-Some.word
    c.specifications.invariant.faults (sym (c.in-Some.ensures ∙ ap left_out first))

pub returns-then-end-text : goal.returns-then-end-text
returns-then-end-text c =
    let first = the_first c.args.text.now c.first_part-spec.result.now c.specifications.from c.first_part-spec.ensures
    in
    let reaches = all_first c.args.text.now c.specifications.from
    (omega (arith, c.if-end-text.true, ap length first)) in
    no_fault c.args.text.now (drop c.specifications.from c.args.text.now) c.specifications.from
    c.specifications.invariant.faults reaches (sym (c.in_default.ensures ∙ ap left_out first))

pub specifications-preserved : goal.specifications-preserved
specifications-preserved c =
    let first = the_first c.args.text.now c.first_part-spec.result.now c.specifications.from c.first_part-spec.ensures
    in
    let parts = more_behind c.args.text.now c.specifications.from
    (omega (arith, c.if-end-text.false, ap length first)) in
    record {
      within = omega arith;
      faults = rw first (faults_on c.args.text.now (drop c.specifications.from c.args.text.now)
          (drop (c.specifications.from + length (first_part 45 (drop c.specifications.from c.args.text.now)) + 1)
          c.args.text.now) c.specifications.from c.specifications.invariant.faults parts
          (sym (c.in_default.ensures ∙ ap left_out first)));
    }
