-- What a call answers, status by status.
use Rattle.std.specs.Prelude.{◌≡◌, ℕ, ◌<◌, ◌≤◌, List, [], length, Option, Some, IfSome}
use Rattle.ir_model.specs.declared.item.Module.{Module}
use Rattle.ir_rules.specs.Accepted.{IsAcceptedModule, IsFault}
use Rattle.ir_grammar.specs.Spelled.{Spells, IsNotInGrammar, IsUnsupported}
use Rattle.scev_outside.specs.Bytes.{Appended, AppendedFront}
use Rattle.scev_outside.specs.Faults.{Rose}
use Rattle.scev_tool.specs.declared.status.Status.{Status}
use Rattle.scev_tool.specs.declared.status.Status.TheVariants.{Done, Usage, ReadFault, TooLong, NotInGrammar}
use Rattle.scev_tool.specs.declared.status.Status.TheVariants.{Unsupported, Ill, NoFunction, BadArgs, WriteFault}
use Rattle.scev_tool.specs.declared.status.Status.TheVariants.{OutOfMemory}
use Rattle.eval_request.specs.Asked.{Asked}
use Rattle.ir_eval.specs.Outcome.{HasNoFunction, HasBadArgs}
use Rattle.scev_words.specs.Modes.{Mode, Eval, AskFor}
use Rattle.scev_tool.specs.Mode.{IsTextOf}

-- What is seen of a call: its words, what the source had left and what the output had taken, before and after, and the
-- counts of faults of both. None is the content of an object that doesn't tell it.
pub record Seen : Type 0 where
  pub words : List (List ℕ)
  pub left_old : Option (List ℕ)
  pub left_new : Option (List ℕ)
  pub taken_old : Option (List ℕ)
  pub taken_new : Option (List ℕ)
  pub reads_old : ℕ
  pub reads_new : ℕ
  pub writes_old : ℕ
  pub writes_new : ℕ

-- the most bytes of an input
abbrev pub input_limit : ℕ
input_limit = 8388608

-- All of the input was read. It is within the limit, and this holds of its bytes.
abbrev pub OfInput : Seen → (List ℕ → Type 0) → Type 0
OfInput seen Holds = IfSome seen.left_old (λ bytes.
    (length bytes ≤ input_limit) × (seen.left_new ≡ Some []) × Holds bytes)

-- The text that a mode writes for the bytes was appended; and a prefix of it.
abbrev pub Writes : Seen → Mode → List ℕ → Type 0
Writes seen mode bytes = (text : List ℕ) × IsTextOf mode bytes text × Appended seen.taken_old text seen.taken_new

abbrev pub WritesPrefix : Seen → Mode → List ℕ → Type 0
WritesPrefix seen mode bytes =
    (text : List ℕ) × IsTextOf mode bytes text × AppendedFront seen.taken_old text seen.taken_new

-- The words ask for a mode, of which this holds.
abbrev pub AskedFor : Seen → (Mode → Type 0) → Type 0
AskedFor seen Holds = (mode : Mode) × AskFor mode seen.words × Holds mode

-- The words ask for a run of a module that is accepted, of which this holds.
abbrev pub AskedOfModule : Seen → (Module → Asked → Type 0) → Type 0
AskedOfModule seen Holds = (asked : Asked) × AskFor (Eval asked) seen.words
    × OfInput seen (λ bytes. (m : Module) × Spells bytes m × IsAcceptedModule m × Holds m asked)

-- When each status comes.
abbrev pub IsAnswer : Seen → Status → Type 0
IsAnswer seen Usage = (mode : Mode) → AskFor mode seen.words → ⊥
IsAnswer seen ReadFault = AskedFor seen (λ mode. Rose seen.reads_old seen.reads_new)
IsAnswer seen TooLong = AskedFor seen (λ mode. IfSome seen.left_old (λ bytes. input_limit < length bytes))
IsAnswer seen (NotInGrammar at) = AskedFor seen (λ mode. OfInput seen (λ bytes. IsNotInGrammar bytes at))
IsAnswer seen (Unsupported word at) = AskedFor seen (λ mode. OfInput seen (λ bytes. IsUnsupported bytes word at))
IsAnswer seen (Ill rule function place) = AskedFor seen (λ mode. OfInput seen (λ bytes.
    (m : Module) × Spells bytes m × IsFault m rule function.0 place))
IsAnswer seen NoFunction = AskedOfModule seen HasNoFunction
IsAnswer seen BadArgs = AskedOfModule seen HasBadArgs
IsAnswer seen Done = AskedFor seen (λ mode. OfInput seen (Writes seen mode))
IsAnswer seen WriteFault = AskedFor seen (λ mode.
    Rose seen.writes_old seen.writes_new × OfInput seen (WritesPrefix seen mode))
IsAnswer seen OutOfMemory = AskedFor seen (λ mode. Unit {0})
