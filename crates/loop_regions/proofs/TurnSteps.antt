-- How a turn changes when a block is entered. It doesn't where none is: the trail stays.
use Rattle.std.specs.Prelude.{◌≡◌, ◌≢◌, ℕ, suc, ◌==◌, List, [], ◌∷◌, true, false, Option, if◌then◌else◌, refl}
use Rattle.std.proofs.Common.{sym, ◌∙◌}
use Rattle.std.proofs.lemmas.Bool.{eq-eqb, ne_eqb, cond-true, cond-false}
use Rattle.ir_meaning.proofs.Trails.{Follows}
use Rattle.loop_regions.specs.Loops.{Loop}
use Rattle.loop_regions.specs.OneBlock.{one_block}
use Rattle.loop_regions.specs.Turns.{has, turn}

newest_is : (newest : ℕ) (older : List ℕ) (b : ℕ) (previous : Option ℕ) → Follows (newest ∷ older) b previous → newest ≡ b
newest_is newest [] b previous h = h.0
newest_is newest (second ∷ older) b previous h = h.0

again_from : (l : Loop) (from : ℕ) (older : List ℕ) (b : ℕ) → b ≡ l.header → has l from ≡ true → turn l (b ∷ from ∷ older) ≡ suc (turn l (from ∷ older))
again_from l from older b header inside =
    let t = turn l (from ∷ older) in
    cond-true (b == l.header) (if has l from then suc t else 0) t (eq-eqb b l.header header) ∙ cond-true (has l from) (suc t) 0 inside

anew_from : (l : Loop) (from : ℕ) (older : List ℕ) (b : ℕ) → b ≡ l.header → has l from ≡ false → turn l (b ∷ from ∷ older) ≡ 0
anew_from l from older b header outside =
    let t = turn l (from ∷ older) in
    cond-true (b == l.header) (if has l from then suc t else 0) t (eq-eqb b l.header header) ∙ cond-false (has l from) (suc t) 0 outside

-- the header, entered from inside: one more
pub turn_again : (l : Loop) (trail : List ℕ) (from : ℕ) (previous : Option ℕ) (b : ℕ) → Follows trail from previous → b ≡ l.header → has l from ≡ true → turn l (b ∷ trail) ≡ suc (turn l trail)
turn_again l [] from previous b h header inside = absurd h
turn_again l (newest ∷ older) from previous b h header inside =
    again_from l newest older b header (rw (newest_is newest older from previous h) inside)

-- the header, entered from outside: 0
pub turn_anew : (l : Loop) (trail : List ℕ) (from : ℕ) (previous : Option ℕ) (b : ℕ) → Follows trail from previous → b ≡ l.header → has l from ≡ false → turn l (b ∷ trail) ≡ 0
turn_anew l [] from previous b h header outside = absurd h
turn_anew l (newest ∷ older) from previous b h header outside =
    anew_from l newest older b header (rw (newest_is newest older from previous h) outside)

-- any other block: as before
pub turn_stays : (l : Loop) (trail : List ℕ) (b : ℕ) → b ≢ l.header → turn l (b ∷ trail) ≡ turn l trail
turn_stays l [] b other = refl
turn_stays l (newest ∷ older) b other =
    let t = turn l (newest ∷ older) in
    cond-false (b == l.header) (if has l newest then suc t else 0) t (ne_eqb b l.header other)

pub one_block_again : (b : ℕ) (trail : List ℕ) → turn (one_block b) (b ∷ b ∷ trail) ≡ suc (turn (one_block b) (b ∷ trail))
one_block_again b trail =
    let inside : has (one_block b) b ≡ true = rw (eq-eqb b b refl) refl in
    again_from (one_block b) b trail b refl inside

pub one_block_anew : (b from : ℕ) (trail : List ℕ) → from ≢ b → turn (one_block b) (b ∷ from ∷ trail) ≡ 0
one_block_anew b from trail apart =
    let outside : has (one_block b) from ≡ false = rw (ne_eqb b from (λ e. apart (sym e))) refl in
    anew_from (one_block b) from trail b refl outside
