use Rattle.std.proofs.Common.{subst, sym}
use Rattle.ir_meaning.specs.Thin.{AreThinInstrs}
use Rattle.classify.proofs.ThinInstrs.{joined, parted}
use Rattle.classify.proofs.thin.are_thin_instrs.Goals as goal

pub returns-then-ends : goal.returns-then-ends
returns-then-ends c =
    let values = c.args.values in
    let labels = c.args.labels in
    let whole = c.in-Some.ensures.cases.0 in (
      λ holds. subst (AreThinInstrs values labels) (sym whole)
          (joined values labels c.in-Some.others.now c.in-Some.last.now (c.all_give.ensures.0 holds)
          (c.ends.ensures.0 c.if-ends.true)),
      λ thin. c.all_give.ensures.1
          (parted values labels c.in-Some.others.now c.in-Some.last.now
          (subst (AreThinInstrs values labels) whole thin)).0,
    )

pub returns-else-ends : goal.returns-else-ends
returns-else-ends c =
    let values = c.args.values in
    let labels = c.args.labels in
    let whole = c.in-Some.ensures.cases.0 in (
      λ holds. absurd (let no = holds in cc),
      λ thin.
          let passes = c.ends.ensures.1
          (parted values labels c.in-Some.others.now c.in-Some.last.now (subst (AreThinInstrs values labels) whole thin)).1
          in absurd (let no = c.if-ends.false in cc),
    )
