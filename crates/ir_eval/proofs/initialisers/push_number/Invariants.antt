use Rattle.std.proofs.Common.{◌≡◌, ◌/◌, ◌^◌}
use Rattle.ir_memory.specs.Spelling.{number_bytes}
use Rattle.ir_eval.specs.Parts.{GoesOn}
use Rattle.ir_eval.proofs.initialisers.push_number.Given as goal

abbrev pub invariant-loop-byte : goal.invariant-loop-byte
invariant-loop-byte l =
    GoesOn l.initial.out.items l.out.items (number_bytes l._byte l.initial.rest)
    × (l.rest ≡ l.initial.rest / 256 ^ l._byte)
