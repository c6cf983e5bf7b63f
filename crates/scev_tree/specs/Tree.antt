-- Expressions as plain trees.
use Rattle.std.specs.Prelude.{ℕ, ◌%◌, ◌^◌, ◌==◌, if◌then◌else◌, List, [], ◌∷◌}
use Rattle.scev_tree.specs.declared.kind.Kind.{Kind}
use Rattle.scev_tree.specs.declared.kind.Kind.TheVariants as kind

-- A tree is a polynomial of a width in bits: monomials with their coefficients. A monomial is a list of atoms, with the
-- empty one for the constant.
mutual
  pub data Tree : Type 0 where
    polynomial : ℕ → Terms → Tree

  pub data Terms : Type 0 where
    no_terms : Terms
    -- the factors of a monomial, its coefficient, and the other monomials
    term : Factors → ℕ → Terms → Terms

  pub data Factors : Type 0 where
    no_factors : Factors
    factor : Atom → Factors → Factors

  pub data Atom : Type 0 where
    -- what it is, its width in bits, and its parts
    atom : Kind → ℕ → Parts → Atom

  pub data Parts : Type 0 where
    no_parts : Parts
    part : Tree → Parts → Parts

abbrev pub width_of : Tree → ℕ
width_of (polynomial w terms) = w

-- the tree of a constant
abbrev pub constant : ℕ → ℕ → Tree
constant w n = if n % 2 ^ w == 0 then polynomial w no_terms else polynomial w (term no_factors (n % 2 ^ w) no_terms)

-- the tree of one atom
abbrev pub of_atom : ℕ → Atom → Tree
of_atom w a = polynomial w (term (factor a no_factors) 1 no_terms)

-- trees as the parts of an atom, and the other way round
abbrev pub parts_of : List Tree → Parts
parts_of [] = no_parts
parts_of (tree ∷ trees) = part tree (parts_of trees)

abbrev pub trees_of : Parts → List Tree
trees_of no_parts = []
trees_of (part tree parts) = tree ∷ trees_of parts

-- {first,+,step} of a loop, for two constants
abbrev pub affine : ℕ → ℕ → ℕ → ℕ → Tree
affine w loop first step = of_atom w
    (atom (kind.Rec (record { 0 = loop })) w (part (constant w first) (part (constant w step) no_parts)))
