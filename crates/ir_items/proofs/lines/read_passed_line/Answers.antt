use Rattle.ir_parts.proofs.Told.{tells}
use Rattle.ir_items.proofs.LineReaders.{passed_line_reads}
use Rattle.ir_items.proofs.lines.read_passed_line.Goals as goal

pub returns-clause-sentence : goal.returns-clause-sentence
returns-clause-sentence c =
    tells passed_line_reads c.args.tokens.now c.args.from c.requires c.passed_line.result c.passed_line.ensures.value
