use Rattle.ir_left_out.proofs.ListedTexts.{of_text}
use Rattle.ir_left_out.proofs.listed.number_of.Goals as goal

pub returns-in-Word : goal.returns-in-Word
returns-in-Word c =
    of_text c.args.kind c.args.text.now c.number_of_text.result c.in-Word.is c.number_of_text.ensures
