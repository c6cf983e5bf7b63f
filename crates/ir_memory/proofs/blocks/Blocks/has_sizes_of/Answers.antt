use Rattle.std.proofs.Common.{◌≡◌, ◌≢◌, ◌==◌, false, [], ◌∷◌, length, refl, sym, arith}
use Rattle.std.proofs.lemmas.Bool.{and_right}
use Rattle.ir_memory.specs.Memory.{Memory, same_sizes}
use Rattle.ir_memory.proofs.blocks.Blocks.has_sizes_of.Goals as goal

-- with more blocks in one of them
sizes_of_more : (memory others : Memory) → length memory ≢ length others → same_sizes memory others ≡ false
sizes_of_more [] [] more = absurd (more refl)
sizes_of_more [] (other ∷ others) more = refl
sizes_of_more (block ∷ memory) [] more = refl
sizes_of_more (block ∷ memory) (other ∷ others) more =
    and_right (length block == length other) (same_sizes memory others)
    (sizes_of_more memory others (λ e. more (omega (arith, e))))

pub returns-then-len : goal.returns-then-len
returns-then-len c = sym (sizes_of_more c.args.other.now c.args.self.now (λ same. omega arith))
