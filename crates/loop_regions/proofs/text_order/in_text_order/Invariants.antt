use Rattle.loop_regions.proofs.TextOrderLemmas.{AreListedTo}
use Rattle.loop_regions.proofs.text_order.in_text_order.Given as goal

abbrev pub invariant-loop-block : goal.invariant-loop-block
invariant-loop-block l = AreListedTo l.f l.initial.marks.items l.marks.items l.headers l.block-index
