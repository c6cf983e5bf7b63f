-- The statuses by their numbers.
use Rattle.std.specs.Prelude.{ℕ}
use Rattle.scev_tool.specs.declared.status.Status.{Status}
use Rattle.scev_tool.specs.declared.status.Status.TheVariants.{Done, Usage, ReadFault, TooLong, NotInGrammar}
use Rattle.scev_tool.specs.declared.status.Status.TheVariants.{Unsupported, Ill, NoFunction, BadArgs, WriteFault}
use Rattle.scev_tool.specs.declared.status.Status.TheVariants.{OutOfMemory}

-- the exit status
abbrev pub code_of : Status → ℕ
code_of Done = 0
code_of Usage = 2
code_of ReadFault = 4
code_of TooLong = 6
code_of (NotInGrammar at) = 3
code_of (Unsupported word at) = 3
code_of (Ill rule function place) = 3
code_of NoFunction = 3
code_of BadArgs = 3
code_of WriteFault = 5
code_of OutOfMemory = 7

-- Nothing is written to the output.
abbrev pub LeavesOutput : Status → Type 0
LeavesOutput Done = ⊥
LeavesOutput WriteFault = ⊥
LeavesOutput _ = Unit {0}

-- The input is refused, at a place or at what is left out by name.
abbrev pub Refuses : Status → Type 0
Refuses (NotInGrammar at) = Unit {0}
Refuses (Unsupported word at) = Unit {0}
Refuses _ = ⊥
