-- The lines of a function.
use Rattle.std.proofs.Common.{◌≡◌, ℕ, List, ◌++◌, Result, Ok, Err, OnOk, append_assoc, refl, subst, ◌∙◌}
use Rattle.ir_model.specs.declared.function.Function.{Function}
use Rattle.ir_model.specs.declared.item.Item.TheVariants.{Define}
use Rattle.ir_grammar.specs.Printing.{Shown, shown_in}
use Rattle.scev_tool.specs.Report.{AreLoopsLines, AreItemLines, function_line}

-- They are the line of its name, and those of its loops.
pub function_lines : {E : Type 0} (r : Result (Unit {0}) E) (globals : List (List ℕ)) (f : Function) (shown : Shown)
    (old middle new : List ℕ)
    → shown ≡ shown_in globals f
    → middle ≡ old ++ function_line f
    → OnOk r ((lines : List ℕ) × AreLoopsLines shown f lines × (new ≡ middle ++ lines))
    → OnOk r ((piece : List ℕ) × AreItemLines globals (Define f) piece × (new ≡ old ++ piece))
function_lines (Ok x) globals f shown old middle new is line h = (
  function_line f ++ h.0,
  (h.0, refl, subst (λ (shown : Shown). AreLoopsLines shown f h.0) is h.1),
  h.2 ∙ rw line (append_assoc old (function_line f) h.0),
)
function_lines (Err e) globals f shown old middle new is line h = tt
