-- The first place of what passes a test, one place at a time.
use Rattle.std.proofs.Common.{rules, arith, ◌≡◌, ℕ, zero, suc, Bool, cond, List, [], ◌∷◌, Some, None, option_map, position, slice_get, drop}
use Rattle.std.proofs.lemmas.Grind.{common_steps}
use Rattle.ir_model.specs.declared.function.Instr.{Instr}
use Rattle.ir_model.specs.declared.function.Block.{Block}
use Rattle.ir_model.specs.Defined.{is_value}
use Rattle.ir_model.specs.Places.{given_at}

pub position_cons : {X : Type 0} (p : X → Bool) (x : X) (xs : List X)
    → position p (x ∷ xs) ≡ cond (p x) (Some 0) (option_map suc (position p xs))
position_cons p x xs = grind (arith, common_steps)

-- a block that doesn't give the value may be left out
pub given_behind : (blocks : List Block) (i v : ℕ) (block : Block)
    → slice_get blocks i ≡ Some block
    → position (λ (instr : Instr). is_value instr.result v) block.instrs ≡ None
    → given_at (drop i blocks) v ≡ given_at (drop (suc i) blocks) v
given_behind [] i v block is none = search rules
given_behind (first ∷ blocks) zero v block is none = search rules
given_behind (first ∷ blocks) (suc i) v block is none = given_behind blocks i v block is none
