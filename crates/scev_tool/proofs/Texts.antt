-- What the two modes write.
use Rattle.std.proofs.Common.{◌≡◌, ℕ, ◌<◌, ◌≤◌, ◌^◌, List, length, subst, sym, arith, All}
use Rattle.ir_model.specs.declared.function.Function.{Function}
use Rattle.ir_model.specs.declared.item.Module.{Module}
use Rattle.ir_rules.specs.Accepted.{IsAcceptedModule}
use Rattle.ir_grammar.specs.Spelled.{Spells}
use Rattle.ir_grammar.specs.Printing.{module_text}
use Rattle.ir_read_back.specs.Normal.{normal}
use Rattle.ir_read_back.proofs.ReadsBack.{reads_back}
use Rattle.classify.proofs.RecurrenceTruth.{true_by_header}
use Rattle.scev_tool.specs.Answer.{input_limit}
use Rattle.scev_tool.specs.Print.{IsPrintOf}
use Rattle.scev_tool.specs.Report.{IsReport, IsReportOf, RecurrencesAreTrue}

pub is_print_of : (bytes : List ℕ) (m : Module) (text : List ℕ) → text ≡ module_text m → All (λ b. b < 2 ^ 8) bytes
    → length bytes ≤ input_limit
    → Spells bytes m
    → IsAcceptedModule m
    → IsPrintOf bytes text
is_print_of bytes m text text_is small short spelled accepted = record {
  m = m;
  spelled = spelled;
  accepted = accepted;
  text_is = text_is;
  again = subst (λ (t : List ℕ). Spells t (normal m)) (sym text_is) (reads_back bytes m small (omega arith) spelled);
}

-- Each recurrence of a function of the thin forms is true.
recurrences : (f : Function) → RecurrencesAreTrue f
recurrences f headers b p first step k thin are at is = true_by_header f headers b p k first step thin is at

pub is_report_of : (bytes : List ℕ) (m : Module) (text : List ℕ) → Spells bytes m → IsAcceptedModule m
    → IsReport m text
    → IsReportOf bytes text
is_report_of bytes m text spelled accepted text_is = record {
  m = m;
  spelled = spelled;
  accepted = accepted;
  text_is = text_is;
  holds = λ f among. recurrences f;
}
