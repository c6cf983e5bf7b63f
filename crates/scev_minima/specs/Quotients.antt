-- The parts of a quotient.
use Rattle.std.specs.Prelude.{ℕ, Option, Some, None}
use Rattle.scev_tree.specs.declared.kind.Kind.TheVariants as kind
use Rattle.scev_tree.specs.Tree.{Tree, Atom, atom, part, no_parts}
use Rattle.scev_forms.specs.Atoms.{number_of}

-- what a quotient divides, and the number by which it does, if that is one
abbrev pub quotient_parts : Option Atom → Option (Tree × Option ℕ)
quotient_parts (Some (atom kind.Udiv w (part x (part by no_parts)))) = Some (x, number_of by)
quotient_parts _ = None
