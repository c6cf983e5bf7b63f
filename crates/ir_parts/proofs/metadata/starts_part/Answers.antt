use Rattle.std.proofs.Common.{◌&&◌, not, drop, sym, ap, ◌∙◌}
use Rattle.ir_parts.specs.Reading.{left_from, begins}
use Rattle.ir_parts.specs.MetadataReading.{is_metadata}
use Rattle.ir_parts.proofs.Places.{left_behind}
use Rattle.ir_parts.proofs.metadata.starts_part.Goals as goal

pub returns-then-starts_sign-clause-value : goal.returns-then-starts_sign-clause-value
returns-then-starts_sign-clause-value c =
    ap not (c.starts_metadata.ensures.value
    ∙ ap (begins is_metadata) (sym (left_behind c.args.tokens.now c.args.from)))
    ∙ ap (λ b. b && not (begins is_metadata (drop 1 (left_from c.args.tokens.now c.args.from))))
    c.if-starts_sign.ensures.value
