-- Extensions of expressions, as they are asked for.
use Rattle.std.specs.Prelude.{◌≡◌, ℕ, Bool, IsTrue, List, Option, Some, None}
use Rattle.scev_base.specs.declared.ids.ExprId.{ExprId}
use Rattle.scev_base.specs.declared.ids.LoopId.{LoopId}
use Rattle.scev_tree.specs.declared.kind.Kind.{Kind}
use Rattle.scev_tree.specs.declared.kind.Kind.TheVariants as kind
use Rattle.scev_tree.specs.Tree.{Tree, Atom, atom, part, no_parts, width_of}
use Rattle.scev_tree.specs.Value.{tree_value}
use Rattle.scev_arena.specs.declared.node.Node.{Node}
use Rattle.scev_arena.specs.Meaning.{tree_of}
use Rattle.scev_forms.specs.Casts.{extended_number}
use Rattle.scev_forms.specs.Ranges.{StaysInRange}
use Rattle.scev_casts.specs.declared.extensions.Extension.{Extension}
use Rattle.scev_casts.specs.declared.extensions.Extension.TheVariants as how

-- the kind of the atoms of an extension
abbrev pub kind_of : Extension → Kind
kind_of how.Zero = kind.Zext
kind_of how.Sign = kind.Sext

-- the kind of the one extension that an extension of an atom is, if it is one
abbrev pub joined_kind : Extension → Kind → Option Kind
joined_kind how.Zero kind.Zext = Some kind.Zext
joined_kind how.Sign kind.Zext = Some kind.Zext
joined_kind how.Sign kind.Sext = Some kind.Sext
joined_kind _ _ = None

-- the loop and the parts of an affine recurrence
abbrev pub affine_parts : Option Atom → Option (LoopId × Tree × Tree)
affine_parts (Some (atom (kind.Rec loop) w (part first (part step no_parts)))) = Some (loop, first, step)
affine_parts _ = None

-- Wherever the tree at a place has a value, the tree at another one has it, read without sign or with it, at w bits. Where
-- it is said that the first one doesn't wrap, this holds as long as it doesn't.
abbrev pub HasExtension : List Node → List Node → Kind → ℕ → Bool → ExprId → ExprId → Type 0
HasExtension old new k w no_wrap id out = (held : ℕ → Option ℕ) (turns : ℕ → ℕ) (n : ℕ)
    → (IsTrue no_wrap → StaysInRange k held turns (tree_of old id))
    → tree_value held turns (tree_of old id) ≡ Some n
    → tree_value held turns (tree_of new out) ≡ Some (extended_number k (width_of (tree_of old id)) w n)
