-- Blocks of which it is told whether their phis come first.
use Rattle.std.specs.Prelude.{◌≡◌, ◌↔◌, ℕ, zero, suc, ◌+◌, ◌<◌, List, [], ◌∷◌, ◌++◌, length, Bool, true, IsTrue, Some}
use Rattle.std.specs.Prelude.{slice_get, take}
use Rattle.std.proofs.Common.{ap, sym, subst, get_or}
use Rattle.std.proofs.lemmas.List.{take_more}
use Rattle.std.proofs.lemmas.Option.{none-some, same_Some}
use Rattle.ir_model.specs.declared.function.Block.{Block}
use Rattle.classify.specs.Definitions.{IsPhisFirst, TellFirst}

-- one block more
tell_push : (blocks : List Block) (first : List Bool) (block : Block) (b : Bool) → TellFirst blocks first
    → (IsTrue b ↔ IsPhisFirst block) → TellFirst (blocks ++ block ∷ []) (first ++ b ∷ [])
tell_push [] [] block b told one = (one, tt)
tell_push (x ∷ xs) (y ∷ ys) block b told one = (told.0, tell_push xs ys block b told.1 one)
tell_push [] (y ∷ ys) block b told one = absurd told
tell_push (x ∷ xs) [] block b told one = absurd told

pub tell_more : (blocks : List Block) (first : List Bool) (i : ℕ) (block : Block) (b : Bool) → i < length blocks
    → block ≡ get_or blocks i block → TellFirst (take i blocks) first → (IsTrue b ↔ IsPhisFirst block)
    → TellFirst (take (i + 1) blocks) (first ++ b ∷ [])
tell_more blocks first i block b within is told one =
    rw (take_more blocks i block within, ← is) (tell_push (take i blocks) first block b told one)

-- what is told of a block at a place
pub told_at : (blocks : List Block) (first : List Bool) (k : ℕ) (block : Block) → TellFirst blocks first
    → slice_get blocks k ≡ Some block → (slice_get first k ≡ Some true) ↔ IsPhisFirst block
told_at [] first k block told at = absurd (none-some block at)
told_at (x ∷ xs) [] k block told at = absurd told
told_at (x ∷ xs) (y ∷ ys) zero block told at =
    let same : x ≡ block = same_Some x block at in
    (λ yes. subst IsPhisFirst same (told.0.0 (same_Some y true yes)), λ comes. ap (λ (b : Bool). Some b) (told.0.1 (subst IsPhisFirst (sym same) comes)))
told_at (x ∷ xs) (y ∷ ys) (suc k) block told at = told_at xs ys k block told.1 at
