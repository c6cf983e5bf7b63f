-- Recurrences of two parts that don't wrap.
use Rattle.std.specs.Prelude.{◌≡◌, ℕ, ◌+◌, ◌*◌, ◌^◌, ◌-◌, ◌<◌, Option, Some, ℤ, pos, neg_ℤ, ◌+ℤ◌, ◌*ℤ◌}
use Rattle.std.specs.Prelude.{◌≤ℤ◌, ◌<ℤ◌}
use Rattle.scev_base.specs.Residue.{reading}
use Rattle.scev_base.specs.declared.ids.LoopId.{LoopId}
use Rattle.scev_tree.specs.declared.kind.Kind.{Kind}
use Rattle.scev_tree.specs.declared.kind.Kind.TheVariants as kind
use Rattle.scev_tree.specs.Tree.{Tree, atom, part, no_parts}
use Rattle.scev_tree.specs.Value.{tree_value}
use Rattle.scev_forms.specs.Atoms.{alone}

-- a whole number that can be read of w bits with sign
abbrev pub IsSigned : ℕ → ℤ → Type 0
IsSigned w n = (neg_ℤ (pos (2 ^ (w - 1))) ≤ℤ n) × (n <ℤ pos (2 ^ (w - 1)))

-- The whole number start + turn · step, of numbers of w bits, is in the range of the reading: with sign for `Sext`, and
-- else without.
abbrev pub IsInRange : Kind → ℕ → ℕ → ℕ → ℕ → Type 0
IsInRange kind.Sext w start step turn = IsSigned w (reading w start +ℤ pos turn *ℤ reading w step)
IsInRange _ w start step turn = start + turn * step < 2 ^ w

-- If the tree is a recurrence of two parts alone, start + turn · step is in range at its loop's turn. At turn 0 it is the
-- start, whatever the step.
abbrev pub StaysInRange : Kind → (ℕ → Option ℕ) → (ℕ → ℕ) → Tree → Type 0
StaysInRange k held turns tree = (loop : LoopId) (w : ℕ) (first step : Tree) (a b : ℕ)
    → alone tree ≡ Some (atom (kind.Rec loop) w (part first (part step no_parts)))
    → tree_value held turns first ≡ Some a
    → tree_value held turns step ≡ Some b
    → (turns loop.0 ≡ 0 → ⊥)
    → IsInRange k w a b (turns loop.0)
