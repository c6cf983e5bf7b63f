use Rattle.std.proofs.Common.{◌&&◌, not, drop, sym, ap, ◌∙◌}
use Rattle.ir_parts.specs.Reading.{left_from, begins}
use Rattle.ir_parts.specs.MetadataReading.{is_metadata_word}
use Rattle.ir_parts.proofs.Places.{left_behind}
use Rattle.ir_items.proofs.global.starts_run.Goals as goal

pub returns-then-starts_sign : goal.returns-then-starts_sign
returns-then-starts_sign c =
    ap not (c.starts_metadata_word.ensures.value
    ∙ ap (begins is_metadata_word) (sym (left_behind c.args.tokens.now c.args.from)))
    ∙ ap (λ b. b && not (begins is_metadata_word (drop 1 (left_from c.args.tokens.now c.args.from))))
    c.if-starts_sign.ensures.value
