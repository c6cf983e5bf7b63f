use Rattle.std.specs.Prelude.{◌≡◌, ℕ, [], refl}
use Rattle.std.proofs.Common.{sym, ap, ◌∙◌, arith}
use Rattle.ir_model.specs.declared.op.Op.{Op}
use Rattle.ir_model.specs.declared.op.Op.TheVariants.{Alloca, Load, Store, Gep, Call}
use Rattle.ir_meaning.specs.declared.choice.Choice.{Choice}
use Rattle.ir_meaning.specs.State.{State}
use Rattle.ir_meaning.specs.Operands.{chosen}
use Rattle.ir_meaning.specs.Step.{computed, gone, effect}
use Rattle.ir_machine.specs.Stands.{register}
use Rattle.ir_machine.proofs.Gone.{gone_computed}
use Rattle.ir_machine.proofs.effect.effect_of.Goals as goal

-- an operation that neither works on memory nor calls is computed
only_computed : (choice : Choice) (s : State) (op : Op) → ((kind : _) → op ≡ Alloca kind → ⊥)
    → ((kind from : _) → op ≡ Load kind from → ⊥) → ((kind operand to : _) → op ≡ Store kind operand to → ⊥)
    → ((inbounds kind base indices : _) → op ≡ Gep inbounds kind base indices → ⊥)
    → ((ret callee args : _) → op ≡ Call ret callee args → ⊥)
    → effect choice s op ≡ gone s (computed s.registers (chosen choice) op)
only_computed choice s (Alloca kind) a l t g c = absurd (a kind refl)
only_computed choice s (Load kind from) a l t g c = absurd (l kind from refl)
only_computed choice s (Store kind operand to) a l t g c = absurd (t kind operand to refl)
only_computed choice s (Gep inbounds kind base indices) a l t g c = absurd (g inbounds kind base indices refl)
only_computed choice s (Call ret callee args) a l t g c = absurd (c ret callee args refl)
only_computed choice s _ a l t g c = refl

pub returns-in_ok-x-in-Alloca-clause-does : goal.returns-in_ok-x-in-Alloca-clause-does
returns-in_ok-x-in-Alloca-clause-does c = λ s held same below.
    ([], rw (c.in-Alloca.is, same) (sym c.in_ok-x-in-Alloca.ensures.ok), omega arith)

pub returns-in-Load-clause-does : goal.returns-in-Load-clause-does
returns-in-Load-clause-does c = λ s held same below.
    rw (c.in-Load.is, ← c.load_of.ensures c.args.choice s c.number-n.ensures held same)
    (c.read.ensures c.args.memory.now c.args.events.now below)

pub returns-in-Store-clause-does : goal.returns-in-Store-clause-does
returns-in-Store-clause-does c = λ s held same below.
    rw c.in-Store.is
    (c.store_of.ensures.does c.args.choice s c.args.events.now below c.number-n.ensures held same)

pub returns-in-Gep-clause-does : goal.returns-in-Gep-clause-does
returns-in-Gep-clause-does c = λ s held same below.
    rw (c.in-Gep.is, held, same, ← c.number-n.ensures, ← c.as_slice.ensures, ← c.address.ensures)
    (c.read-in-Gep.ensures c.args.memory.now c.args.events.now below)

pub returns-in_default-clause-does : goal.returns-in_default-clause-does
returns-in_default-clause-does c = λ s held same below.
    let op = c.args.op.now in
    let registers = register c.args.registers.now in
    let no = c.in_default in
    let is = only_computed c.args.choice s op no.not-Alloca no.not-Load no.not-Store no.not-Gep no.not-Call in
    let gives = c.computed_of.ensures ∙ ap (λ (n : ℕ). computed registers n op) c.number-n.ensures in
    rw (
      is,
      gone_computed s registers c.args.memory.now (chosen c.args.choice) op c.computed_of.result held same gives,
    )
    (c.read-in_default.ensures c.args.memory.now c.args.events.now below)
