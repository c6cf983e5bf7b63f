-- Trees that are numbers, or one atom.
use Rattle.std.specs.Prelude.{ℕ, ◌==◌, if◌then◌else◌, List, Option, Some, None}
use Rattle.scev_tree.specs.declared.kind.Kind.{Kind}
use Rattle.scev_tree.specs.Tree.{Tree, Atom, polynomial, no_terms, term, no_factors, factor, atom, of_atom}
use Rattle.scev_tree.specs.Tree.{parts_of}
use Rattle.scev_forms.specs.Outcome.{Outcome, tested}

-- the number of a constant
abbrev pub number_of : Tree → Option ℕ
number_of (polynomial w no_terms) = Some 0
number_of (polynomial w (term no_factors n no_terms)) = Some n
number_of (polynomial w _) = None

-- the atom that a tree is alone
abbrev pub alone : Tree → Option Atom
alone (polynomial w (term (factor a no_factors) n no_terms)) = if n == 1 then Some a else None
alone (polynomial w _) = None

-- the tree of an atom of a kind with these parts is looked at
abbrev pub made : Kind → ℕ → List Tree → Outcome Tree
made kind w parts = tested (of_atom w (atom kind w (parts_of parts)))
