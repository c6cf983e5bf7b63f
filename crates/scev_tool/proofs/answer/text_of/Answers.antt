use Rattle.std.proofs.Common.{refl}
use Rattle.eval_request.specs.Asked.{asked_by}
use Rattle.scev_tool.proofs.Texts.{is_print_of, is_report_of}
use Rattle.scev_tool.proofs.answer.text_of.Goals as goal

pub returns-in_ok-report_module-in-Report-clause-text : goal.returns-in_ok-report_module-in-Report-clause-text
returns-in_ok-report_module-in-Report-clause-text c =
    rw c.in-Report.is
    (λ bytes small short spelled. is_report_of bytes c.args.m.now c.in_ok-report_module-in-Report.field-0.items spelled
    c.requires.accepted c.in_ok-report_module-in-Report.ensures)

pub returns-in_ok-print_module-in-Print-clause-text : goal.returns-in_ok-print_module-in-Print-clause-text
returns-in_ok-print_module-in-Print-clause-text c =
    rw c.in-Print.is
    (λ bytes small short spelled. is_print_of bytes c.args.m.now c.in_ok-print_module-in-Print.field-0.items
    c.in_ok-print_module-in-Print.ensures small short spelled c.requires.accepted)

-- The mode is a run.
pub returns-in-Eval-clause-no_function : goal.returns-in-Eval-clause-no_function
returns-in-Eval-clause-no_function c =
    rw c.in-Eval.is (λ none. (asked_by c.in-Eval.request, refl, c.evaluate.ensures.no_function none))

pub returns-in-Eval-clause-bad_args : goal.returns-in-Eval-clause-bad_args
returns-in-Eval-clause-bad_args c =
    rw c.in-Eval.is (λ bad. (asked_by c.in-Eval.request, refl, c.evaluate.ensures.bad_args bad))
