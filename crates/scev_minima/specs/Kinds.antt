-- The kinds of minima and maxima.
use Rattle.scev_tree.specs.declared.kind.Kind.{Kind}
use Rattle.scev_tree.specs.declared.kind.Kind.TheVariants as kind
use Rattle.scev_forms.specs.Minima.{IsMinimum}
use Rattle.scev_minima.specs.declared.kinds.MinKind.{MinKind}
use Rattle.scev_minima.specs.declared.kinds.MinKind.TheVariants as min

-- the kind of its atoms
abbrev pub kind_of : MinKind → Kind
kind_of min.Smax = kind.Smax
kind_of min.Umax = kind.Umax
kind_of min.Smin = kind.Smin
kind_of min.Umin = kind.Umin

-- a kind of minimum or maximum, or of a sequential one: its atoms take in the parts of those of the same kind
abbrev pub IsFlattened : Kind → Type 0
IsFlattened kind.Seq = Unit {0}
IsFlattened k = IsMinimum k
