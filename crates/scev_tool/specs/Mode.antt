-- What a mode writes.
use Rattle.std.specs.Prelude.{ℕ, List}
use Rattle.ir_model.specs.declared.item.Module.{Module}
use Rattle.ir_rules.specs.Accepted.{IsAcceptedModule}
use Rattle.ir_grammar.specs.Spelled.{Spells}
use Rattle.eval_request.specs.Asked.{Asked}
use Rattle.ir_eval.specs.Outcome.{IsEval, HasNoFunction, HasBadArgs}
use Rattle.scev_words.specs.Modes.{Mode, Print, Report, Eval}
use Rattle.scev_tool.specs.Print.{IsPrintOf}
use Rattle.scev_tool.specs.Report.{IsReportOf}

-- The bytes spell a module that is accepted, and the text is about the run that is asked for.
pub record IsEvalOf (asked : Asked) (bytes text : List ℕ) : Type 0 where
  pub m : Module
  pub spelled : Spells bytes m
  pub accepted : IsAcceptedModule m
  pub eval : IsEval m asked text

-- The text is what the mode writes for the bytes.
abbrev pub IsTextOf : Mode → List ℕ → List ℕ → Type 0
IsTextOf Print bytes text = IsPrintOf bytes text
IsTextOf Report bytes text = IsReportOf bytes text
IsTextOf (Eval asked) bytes text = IsEvalOf asked bytes text

-- A module that is accepted has what the mode asks for: of a run the function, with arguments that fit.
abbrev pub HasAsked : Mode → Module → Type 0
HasAsked (Eval asked) m = (HasNoFunction m asked → ⊥) × (HasBadArgs m asked → ⊥)
HasAsked _ m = Unit {0}
