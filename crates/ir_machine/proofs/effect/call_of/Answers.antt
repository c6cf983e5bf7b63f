use Rattle.std.specs.Prelude.{◌≡◌, ℕ, true}
use Rattle.std.proofs.Common.{sym, ap, ◌∙◌}
use Rattle.std.specs.Option.{is_some}
use Rattle.ir_model.specs.declared.op.Op.{Op}
use Rattle.ir_model.specs.declared.op.Op.TheVariants.{Call}
use Rattle.ir_model.specs.Callees.{is_min_max}
use Rattle.ir_meaning.specs.Operands.{chosen}
use Rattle.ir_meaning.specs.Step.{computed}
use Rattle.ir_machine.specs.Stands.{register}
use Rattle.ir_machine.proofs.Gone.{gone_computed}
use Rattle.ir_machine.proofs.effect.call_of.Goals as goal

pub returns-then-is_some-clause-does : goal.returns-then-is_some-clause-does
returns-then-is_some-clause-does c = λ s held same below.
    let registers = register c.args.registers.now in
    let op : Op = Call c.args.ret.now c.args.callee.now c.args.args.now in
    let named : is_min_max c.args.callee.now ≡ true = sym (c.if-is_some.ensures ∙ ap is_some c.named.ensures) in
    let gives = c.computed_call.ensures ∙ ap (λ (n : ℕ). computed registers n op) c.number-n.ensures in
    rw (
      named,
      gone_computed s registers c.args.memory.now (chosen c.args.choice) op c.computed_call.result held same gives,
    )
    (c.read.ensures c.args.memory.now c.args.events.now below)
