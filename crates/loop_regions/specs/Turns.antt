-- Turns of loops, read off the trail of a state.
use Rattle.std.specs.Prelude.{ℕ, suc, ◌==◌, List, [], ◌∷◌, Bool, if◌then◌else◌, slice_get, unwrap_or}
use Rattle.std.specs.List.{list_any}
use Rattle.loop_regions.specs.Loops.{Loop}

-- whether the loop has the block
abbrev pub has : Loop → ℕ → Bool
has l b = list_any (λ other. other == b) l.blocks

-- The turn of a loop: how many of its back edges were taken since its header was last entered from outside. The trail has
-- the newest block first. At the header the turn is one more than before where the block before it is in the loop, and 0
-- where it isn't; at each other block it is what it was, so it stays when the loop is left.
abbrev pub turn : Loop → List ℕ → ℕ
turn l [] = 0
turn l (b ∷ []) = 0
turn l (b ∷ before ∷ trail) =
    if b == l.header then (if has l before then suc (turn l (before ∷ trail)) else 0) else turn l (before ∷ trail)

-- the turns of loops by their numbers in a list of loops
abbrev pub turns : List Loop → List ℕ → ℕ → ℕ
turns loops trail k = turn (unwrap_or (slice_get loops k) (record { header = 0; blocks = [] })) trail
