-- The mode that was found, as it is seen.
use Rattle.eval_request.specs.Asked.{asked_by}
use Rattle.scev_words.specs.Modes.{Mode, Print, Report, Eval}
use Rattle.scev_words.specs.declared.mode.Mode.{Mode as Found}
use Rattle.scev_words.specs.declared.mode.Mode.TheVariants as found

abbrev pub seen : Found → Mode
seen found.Print = Print
seen found.Report = Report
seen (found.Eval request) = Eval (asked_by request)
