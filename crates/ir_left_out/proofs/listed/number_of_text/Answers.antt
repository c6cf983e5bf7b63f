use Rattle.std.proofs.Common.{sym, ◌∙◌}
use Rattle.ir_left_out.proofs.ListedTexts.{of_words}
use Rattle.ir_left_out.proofs.listed.number_of_text.Goals as goal

pub returns-in-None : goal.returns-in-None
returns-in-None c =
    of_words c.args.text.now c.word_number.result (sym c.first_place.ensures ∙ c.in-None.is) c.word_number.ensures
