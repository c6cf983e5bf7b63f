use Rattle.std.proofs.Common.{rules}
use Rattle.scev_base.proofs.NestLemmas.{height_falls, contains_parent, contained_by_parent, outermost_alone}
use Rattle.scev_base.proofs.nest.LoopNest.contains.Goals as goal

pub loop-at-smaller : goal.loop-at-smaller
loop-at-smaller c =
    height_falls c.args.self.now c.loop-at.at c.in-Some.parent c.in-Some.ensures.nest c.in-Some.ensures.parent

pub loop-at-preserved : goal.loop-at-preserved
loop-at-preserved c = record {
  listed = c.in-Some.ensures.nest.within c.loop-at.at c.in-Some.parent c.in-Some.ensures.parent;
  out = λ inside. c.loop-at.invariant.out (contained_by_parent c.args.self.now c.args.outer.0 c.loop-at.at c.in-Some.parent c.in-Some.ensures.parent inside);
  back = λ inside. contains_parent c.args.self.now c.args.outer.0 c.loop-at.at c.in-Some.parent c.in-Some.ensures.parent c.loop-at-test.true (c.loop-at.invariant.back inside);
}

pub returns-in-None : goal.returns-in-None
returns-in-None c = (
  λ never. absurd (search rules),
  λ inside. absurd (outermost_alone c.args.self.now c.args.outer.0 c.loop-at.at c.in-None.ensures.parent c.loop-at-test.true (c.loop-at.invariant.back inside)),
)
