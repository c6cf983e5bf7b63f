use Rattle.std.proofs.Common.{◌≡◌, drop}
use Rattle.ir_machine.specs.Stands.{register}
use Rattle.ir_machine.specs.Taken.{taken}
use Rattle.ir_machine.proofs.phis.take_results.Given as goal

-- what the phis from here on do to the registers is what all did to those at the start
abbrev pub invariant-loop-phi : goal.invariant-loop-phi
invariant-loop-phi l =
    taken (register l.room) (drop l.phi-index l.phis) (register l.registers)
    ≡ taken (register l.room) l.phis (register l.initial.registers)
