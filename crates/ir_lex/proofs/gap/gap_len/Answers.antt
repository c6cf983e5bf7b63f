use Rattle.std.proofs.Common.{sym, ◌∙◌, arith, false}
use Rattle.ir_lex.specs.Gap.{gap_len}
use Rattle.ir_lex.proofs.Gaps.{turn-inside, turn-comment, turn-blank, turn-stop, turn-end, no_line_feed-is}
use Rattle.ir_lex.proofs.gap.gap_len.Goals as goal
use Rattle.ir_lex.proofs.gap.gap_len.Goals.{then-commented, else-commented+then-byte-eq59, else-commented+else-byte-eq59+else-not-is_blank}

pub returns-then-not-is_blank-clause-value : goal.returns-then-not-is_blank-clause-value
returns-then-not-is_blank-clause-value c =
    let s = c.args.bytes.now in
    turn-stop s c.loop-at.at
    (gap_len false s) c.loop-at-test.true c.loop-at.commented c.if-commented.false c.if-byte-eq59.false
    (sym c.is_blank.ensures ∙ c.if-not-is_blank.true) c.loop-at.invariant

pub loop-at-preserved : goal.loop-at-preserved
loop-at-preserved c =
    let s = c.args.bytes.now in
    let i = c.loop-at.at in
    let n = gap_len false s in
    let lt = c.loop-at-test.true in
    let was = c.loop-at.commented in
    let is = c.if-commented.commented in
    let inv = c.loop-at.invariant in
    elim c.if-commented.branch [
      | then-commented w ↦ turn-inside s i n lt was is w.if-commented.true (w.commented-is ∙ no_line_feed-is _) inv
      | else-commented+then-byte-eq59 w ↦ turn-comment s i n lt was is w.if-commented.false w.commented-is
          w.if-byte-eq59.true inv
      | else-commented+else-byte-eq59+else-not-is_blank w ↦ turn-blank s i n lt was is w.if-commented.false
          (w.commented-is ∙ w.if-commented.false) (sym w.is_blank.ensures ∙ w.if-not-is_blank.false) inv
    ]

pub returns-clause-value : goal.returns-clause-value
returns-clause-value c =
    let s = c.args.bytes.now in
    let done = turn-end s c.loop-at.at c.loop-at.commented (gap_len false s) c.loop-at-test.false c.loop-at.invariant in
    omega (arith, c.loop-at.auto.at-end)
