-- Trees as they are formed of.
use Rattle.std.specs.Prelude.{◌≡◌, ℕ, List, [], ◌∷◌}
use Rattle.scev_tree.specs.Tree.{Tree, width_of}
use Rattle.scev_tree.specs.Canonical.{IsCanonical}

-- a canonical tree of w bits
abbrev pub IsTreeOf : ℕ → Tree → Type 0
IsTreeOf w tree = (width_of tree ≡ w) × IsCanonical tree

abbrev pub AreTreesOf : ℕ → List Tree → Type 0
AreTreesOf w [] = Unit {0}
AreTreesOf w (tree ∷ trees) = IsTreeOf w tree × AreTreesOf w trees
