use Rattle.std.proofs.Common.{arith, ◌≡◌, ◌+◌, ◌<◌, suc, length, sym, ◌∙◌}
use Rattle.ir_check.proofs.SameTypes.{other_length, same_behind}
use Rattle.ir_check.proofs.kinds.same_types.Goals as goal

pub returns-then-args-kinds : goal.returns-then-args-kinds
returns-then-args-kinds c = sym (other_length c.args.args.now c.args.kinds.now c.if-args-kinds.true)

pub loop-at-preserved : goal.loop-at-preserved
loop-at-preserved c =
    let next : c.loop-at.at + 1 ≡ suc c.loop-at.at = omega arith in
    let there : c.loop-at.at < length c.args.kinds.now = omega arith in
    let behind = same_behind c.args.args.now c.args.kinds.now c.loop-at.at c.index-args-at.result
    c.index-kinds-at.result c.loop-at-test.true there c.index-args-at.is c.index-kinds-at.is in
    record {
      long = c.loop-at.invariant.long;
      rest = rw (next) (sym (rw (sym c.same_type.ensures ∙ c.if-not-same_type.false) at behind)
          ∙ c.loop-at.invariant.rest);
    }
