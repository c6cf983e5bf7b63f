-- Whether a thing stands next, behind a comma.
use Rattle.std.proofs.Common.{◌≡◌, ℕ, ◌+◌, Bool, true, ◌&&◌, drop, sym, ap, ◌∙◌}
use Rattle.std.specs.Prelude.{not}
use Rattle.ir_lex.specs.Tokenized.{Tokenized}
use Rattle.ir_parts.specs.Reading.{begins, is_punctuation, left_from}
use Rattle.ir_parts.specs.MetadataReading.{is_metadata}
use Rattle.ir_parts.specs.ListReading.{begins_part}
use Rattle.ir_parts.proofs.Places.{left_behind}

-- A comma stands there, and no metadata behind it.
pub part_starts : (t : Tokenized) (at : ℕ) (metadata : Bool) → true ≡ begins (is_punctuation 44) (left_from t at)
    → metadata ≡ begins is_metadata (left_from t (at + 1)) → not metadata ≡ begins_part (left_from t at)
part_starts t at metadata comma is =
    ap not (is ∙ ap (begins is_metadata) (sym (left_behind t at)))
    ∙ ap (λ (b : Bool). b && not (begins is_metadata (drop 1 (left_from t at)))) comma
