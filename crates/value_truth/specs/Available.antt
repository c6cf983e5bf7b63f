-- Where a value is available, and what an expression of it may name.
use Rattle.std.specs.Prelude.{◌≡◌, ◌⊎◌, ℕ, List, ◌∷◌, Some, slice_get}
use Rattle.scev_base.specs.declared.ids.BlockId.{BlockId}
use Rattle.ir_model.specs.declared.function.Function.{Function}
use Rattle.ir_model.specs.Walks.{Trail}
use Rattle.ir_rules.specs.Uses.{HasPassed}
use Rattle.ssa_check.specs.Checked.{Dominates}
use Rattle.ssa_check.specs.declared.definitions.Definition.TheVariants.{At}
use Rattle.ssa_check.specs.Tables.{definition_of}
use Rattle.loop_regions.specs.Loops.{Loop}
use Rattle.scev_tree.specs.declared.kind.Kind.{Kind}
use Rattle.scev_tree.specs.declared.kind.Kind.TheVariants as kind
use Rattle.scev_tree.specs.Tree.{Tree}
use Rattle.tree_names.specs.Names.{HasOnly}

-- Every walk from the entry that stands in a block, behind so many of its instructions, has passed the value's
-- definition.
abbrev pub IsAvailable : Function → ℕ → ℕ → ℕ → Type 0
IsAvailable f v b index = (before : List ℕ) → Trail f (b ∷ before) → HasPassed f v before b index

-- What an expression of a value that is defined at a place may name: itself, registers that are available there, and
-- loops whose headers dominate its block.
abbrev pub MayName : Function → List Loop → ℕ → ℕ → ℕ → Kind → Type 0
MayName f loops v b index (kind.Leaf register home) = (register.0 ≡ v) ⊎ IsAvailable f register.0 b index
MayName f loops v b index (kind.Rec l) = (loop : Loop) × (slice_get loops l.0 ≡ Some loop) × Dominates f loop.header b
MayName f loops v b index k = Unit {0}

-- what an expression of a value may name that no instruction defines: itself
abbrev pub NamesItself : ℕ → Kind → Type 0
NamesItself v (kind.Leaf register home) = register.0 ≡ v
NamesItself v (kind.Rec l) = ⊥
NamesItself v k = Unit {0}

-- An expression of a value names only what it may.
pub record IsInScope (f : Function) (loops : List Loop) (v : ℕ) (tree : Tree) : Type 0 where
  pub at : (b : BlockId) (index : ℕ) → definition_of f v ≡ At b index → HasOnly (MayName f loops v b.0 index) tree
  pub bare : ((b : BlockId) (index : ℕ) → definition_of f v ≡ At b index → ⊥) → HasOnly (NamesItself v) tree
