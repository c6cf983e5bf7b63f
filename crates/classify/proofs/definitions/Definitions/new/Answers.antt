use Rattle.std.proofs.Common.{◌↔◌, IsTrue, List, sym, subst, ◌∙◌}
use Rattle.ir_model.specs.declared.function.Block.{Block}
use Rattle.classify.specs.Definitions.{TellFirst}
use Rattle.classify.specs.Names.{NamesAreOnce}
use Rattle.classify.proofs.definitions.Definitions.new.Goals as goal
use Rattle.classify.proofs.definitions.Definitions.new.Goals.{then-registers, else-registers}

pub returns : goal.returns
returns c =
    let once : IsTrue c.if-registers.result ↔ NamesAreOnce c.args.f.now =
    elim c.if-registers.branch [
      | then-registers w ↦ (
        λ yes. record { values = c.in_ok-registers.ensures.0 w.if-registers.true; blocks = c.in_ok-labels.ensures.0 (sym w.result-is ∙ yes) },
        λ names. w.result-is ∙ c.in_ok-labels.ensures.1 names.blocks,
      )
      | else-registers w ↦ (
        λ yes. absurd (cc (w.result-is, w.if-registers.false, yes)),
        λ names. absurd (cc (w.if-registers.false, c.in_ok-registers.ensures.1 names.values)),
      )
    ]
    in
    let exact = c.in_ok-places.ensures.exact in
    record { exact = record { once = once; count = c.in_ok-places.ensures.count; given = exact.given; none = exact.none; first = subst (λ (blocks : List Block). TellFirst blocks c.in_ok-first.first) c.as_slice.ensures c.in_ok-first.ensures } }
