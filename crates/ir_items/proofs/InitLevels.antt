-- Initialisers with at most so many lists within lists are read.
use Rattle.std.proofs.Common.{ℕ, zero, suc}
use Rattle.ir_model.specs.declared.item.Init.{Init}
use Rattle.ir_text.specs.Language.{Language, ◌or◌}
use Rattle.ir_parts.specs.Reading.{is_punctuation}
use Rattle.ir_parts.proofs.Readers.{IsReader, Anything, chosen}
use Rattle.ir_parts.proofs.SingleTokens.{is_sign_itself}
use Rattle.ir_items.specs.InitReading.{nested_at}
use Rattle.ir_items.proofs.PlainInits.{SpellsPlain, plain_reads, plain_no_bracket}
use Rattle.ir_items.proofs.PartReaders.{SpellsList, list_reads, list_begun}

unfoldable pub SpellsNested : ℕ → Init → Language
SpellsNested zero value = SpellsPlain value
SpellsNested (suc most) value = SpellsList (SpellsNested most) value or SpellsPlain value

pub nested_reads : (most : ℕ) → IsReader (nested_at most) (SpellsNested most) Anything
unfolding nested_at SpellsNested
nested_reads zero = plain_reads
nested_reads (suc most) = chosen (is_punctuation 91) (list_reads (nested_reads most)) plain_reads
    (λ value ts l. rw (l.2.2, l.2.3) (is_sign_itself 91))
    (λ value taken rest l stops. plain_no_bracket value taken rest l)
    (list_begun (nested_reads most))
