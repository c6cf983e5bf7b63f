use Rattle.std.proofs.Common.{◌≡◌, List, Option, None, length, replicate, ap, ◌∙◌}
use Rattle.std.proofs.lemmas.List.{with_items_is, length-replicate}
use Rattle.ir_meaning.specs.declared.value.Value.{Value}
use Rattle.ir_meaning.specs.Run.{with_args, start}
use Rattle.ir_machine.specs.declared.phase.Phase.TheVariants as found
use Rattle.ir_machine.specs.Stands.{Stands, register}
use Rattle.never_stuck.proofs.Runs.{never_stuck}
use Rattle.ir_machine.proofs.AcceptedParts.{params_held}
use Rattle.ir_machine.proofs.MachineSteps.{stands_started}
use Rattle.ir_machine.proofs.Alike.{safe_from}
use Rattle.ir_machine.proofs.machine.Machine.start.Goals as goal
use Rattle.ir_machine.proofs.machine.Machine.start.Goals.{After-entry}

pub set_args-requires : goal.set_args-requires
set_args-requires c =
    let count : length c.deref_mut.result.now ≡ length c.args.f.now.values =
    ap (λ (held : List (Option Value)). length held) (c.deref_mut.ensures.value ∙ c.in_ok-registers.ensures)
    ∙ length-replicate c.len.result None ∙ c.len.ensures in
    rw (c.as_slice.ensures, count) (params_held c.args.f.now c.requires.runnable)

-- the machine stands at the start of a run
stands : (c : After-entry) → Stands (record {
  block = c.entry.result.0;
  place = 0;
  previous = None;
  registers = c.set_args.new.registers;
  memory = c.args.blocks;
  events = 0;
  phase = found.Running;
}) (start c.args.f.now c.args.args.items c.args.blocks)
stands c =
    let n = c.len.result in
    let params = c.as_slice.result.now in
    let unset = ap (λ (held : List (Option Value)). with_args (register held) params c.deref.result.now)
    (c.deref_mut.ensures.value ∙ c.in_ok-registers.ensures) in
    let args = ap (λ (xs : List Value). with_args (register (replicate n None)) params xs) c.deref.ensures.value in
    stands_started c.args.f.now c.args.args.items c.args.blocks c.entry.result.0 n params c.set_args.new.registers
    c.entry.ensures c.as_slice.ensures (c.set_args.ensures ∙ unset ∙ args)

pub returns-clause-exact : goal.returns-clause-exact
returns-clause-exact c =
    let size = c.set_args.auto.registers ∙ c.deref_mut.ensures.len in
    rw (with_items_is c.in_ok-registers.registers c.set_args.new.registers size)
    (stands (goal.at.returns-clause-exact c).After-entry)

pub returns-clause-safe : goal.returns-clause-safe
returns-clause-safe c =
    let f = c.args.f.now in
    let runs = c.requires.runnable in
    let size = c.set_args.auto.registers ∙ c.deref_mut.ensures.len in
    let registers = with_items_is c.in_ok-registers.registers c.set_args.new.registers size in
    safe_from f _ (start f c.args.args.items c.args.blocks)
    (rw registers (stands (goal.at.returns-clause-safe c).After-entry))
    (never_stuck runs.signatures f runs.well_made runs.accepted runs.accepted.uses c.args.args.items c.args.blocks
    (record { fit = c.requires.fit; bytes = c.bytes_fit.ensures }))
