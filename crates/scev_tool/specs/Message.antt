-- What is written about a status.
use Rattle.std.specs.Prelude.{◌≡◌, ℕ, List, [], ◌++◌, Option, codes, decimal, unwrap_or, slice_get, ◌⊎◌, IfSome}
use Rattle.ir_model.specs.declared.item.Module.{Module}
use Rattle.ir_model.specs.declared.rule.Rule.{Rule}
use Rattle.ir_model.specs.declared.rule.Place.{Place}
use Rattle.ir_grammar.specs.Spelled.{left_out, Spells}
use Rattle.ir_grammar.specs.Printing.{name_text}
use Rattle.eval_request.specs.Asked.{Asked}
use Rattle.scev_words.specs.Modes.{Eval, AskFor}
use Rattle.scev_outside.specs.Bytes.{Appended, AppendedFront}
use Rattle.scev_outside.specs.Faults.{Rose}
use Rattle.scev_tool.specs.declared.status.Status.{Status}
use Rattle.scev_tool.specs.declared.status.Status.TheVariants.{Usage, ReadFault, TooLong, NotInGrammar, Unsupported}
use Rattle.scev_tool.specs.declared.status.Status.TheVariants.{Ill, NoFunction, BadArgs, WriteFault, OutOfMemory}
use Rattle.ir_accept.specs.Line.{fault_text}

-- The line of a status that is the same for every call, with its line feed.
abbrev pub message : Status → List ℕ
message Usage = codes "scev: usage\n"
message ReadFault = codes "scev: read fault\n"
message TooLong = codes "scev: input longer than 8388608 bytes\n"
message (NotInGrammar at) = codes "scev: not in grammar at " ++ (decimal at ++ codes "\n")
message (Unsupported word at) = codes "scev: unsupported "
    ++ (unwrap_or (slice_get left_out word) [] ++ (codes " at " ++ (decimal at ++ codes "\n")))
message BadArgs = codes "scev: bad arguments\n"
message WriteFault = codes "scev: write fault\n"
message OutOfMemory = codes "scev: out of memory\n"
message _ = []

-- The line about a module that isn't well formed, which is the one that the bytes spell; other statuses have none of
-- their own.
abbrev pub IsIllLine : Option (List ℕ) → Rule → ℕ → Place → List ℕ → Type 0
IsIllLine left rule number place text =
    IfSome left (λ bytes. (m : Module) × Spells bytes m × (text ≡ fault_text m rule number place))

-- the line about a name that no function has, which is the one that the words ask for
abbrev pub no_function_text : List ℕ → List ℕ
no_function_text name = codes "scev: no function " ++ (name_text name ++ codes "\n")

abbrev pub IsNoFunctionLine : List (List ℕ) → List ℕ → Type 0
IsNoFunctionLine words text = (asked : Asked) × AskFor (Eval asked) words × (text ≡ no_function_text asked.name)

abbrev pub IsOwnLine : List (List ℕ) → Option (List ℕ) → Status → List ℕ → Type 0
IsOwnLine words left (Ill rule function place) text = IsIllLine left rule function.0 place text
IsOwnLine words left NoFunction text = IsNoFunctionLine words text
IsOwnLine words left status text = text ≡ []

-- the line that is written, with that of its own
abbrev pub line_of : Status → List ℕ → List ℕ
line_of (Ill rule function place) own = own
line_of NoFunction own = own
line_of status own = message status

-- The line of a status, with the words and what the source had left.
abbrev pub IsLine : List (List ℕ) → Option (List ℕ) → Status → List ℕ → Type 0
IsLine words left (Ill rule function place) text = IsIllLine left rule function.0 place text
IsLine words left NoFunction text = IsNoFunctionLine words text
IsLine words left status text = text ≡ message status

-- The text was added; or a front of it, and the count of faults rose.
abbrev pub AddsUnlessFaulty : Option (List ℕ) → List ℕ → Option (List ℕ) → ℕ → ℕ → Type 0
AddsUnlessFaulty old text new faults_old faults_new =
    Appended old text new ⊎ (AppendedFront old text new × Rose faults_old faults_new)
