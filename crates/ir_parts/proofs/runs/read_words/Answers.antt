use Rattle.std.proofs.Common.{ℕ, List}
use Rattle.ir_text.specs.PassedOn.{SpellsWords}
use Rattle.ir_parts.specs.declared.ending.Run.{Run}
use Rattle.ir_parts.specs.WordsReading.{words_text_at}
use Rattle.ir_parts.proofs.Told.{tells_view}
use Rattle.ir_parts.proofs.WordsReader.{words_read, text_of_words, words_of_text}
use Rattle.ir_parts.proofs.runs.read_words.Goals as goal

pub returns-clause-sentence : goal.returns-clause-sentence
unfolding words_text_at
returns-clause-sentence c =
    tells_view (λ (said : Run × List ℕ). said.1) SpellsWords text_of_words words_of_text words_read
    c.args.tokens.now c.args.from c.requires c.words_text.result c.words_text.ensures.value
