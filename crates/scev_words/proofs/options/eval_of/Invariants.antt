use Rattle.std.proofs.Common.{◌≡◌, drop}
use Rattle.scev_words.specs.Said.{nothing_said, asked_with}
use Rattle.scev_words.specs.SaidBy.{said_by}
use Rattle.scev_words.proofs.options.eval_of.Given as goal

-- what was said so far asks for the same with the words to come
abbrev pub invariant-loop-word : goal.invariant-loop-word
invariant-loop-word l = asked_with (said_by l.said) (drop l.word-index l.words) ≡ asked_with nothing_said l.words
