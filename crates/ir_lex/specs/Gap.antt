-- How long the blanks and comments at the start of a text are.
use Rattle.std.specs.Prelude.{ℕ, suc, Bool, true, false, if◌then◌else◌, ◌==◌, List, [], ◌∷◌}
use Rattle.ir_text.specs.Bytes.{is_blank, is_no_line_feed}

-- `commented` says that a comment has begun; one that never ends is counted to the end
unfoldable pub gap_len : Bool → List ℕ → ℕ
gap_len commented [] = 0
gap_len true (b ∷ bs) = suc (gap_len (is_no_line_feed b) bs)
gap_len false (b ∷ bs) = if b == 59 then suc (gap_len true bs) else (if is_blank b then suc (gap_len false bs) else 0)
