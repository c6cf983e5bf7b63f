-- What the places of an arena stand for, as plain trees.
use Rattle.std.specs.Prelude.{List, [], ◌∷◌, ◌++◌, map, fold, Option, Some, None, slice_get}
use Rattle.scev_base.specs.declared.ids.ExprId.{ExprId}
use Rattle.scev_tree.specs.declared.kind.Kind.TheVariants as kind
use Rattle.scev_tree.specs.Tree.{Tree, Terms, Factors, Atom, polynomial, no_terms, term, no_factors, factor}
use Rattle.scev_tree.specs.Tree.{atom, no_parts, parts_of}
use Rattle.poly_terms.specs.declared.term.Term.{Term}
use Rattle.scev_arena.specs.declared.node.Node.{Node}
use Rattle.scev_arena.specs.declared.node.Node.TheVariants as node

-- what one place holds
pub data Meant : Type 0 where
  TreeOf : Tree → Meant
  AtomOf : Atom → Meant

-- The tree that a place holds. One that isn't there, or holds an atom, counts as the constant 0 of no bits.
abbrev pub tree_in : Option Meant → Tree
tree_in (Some (TreeOf tree)) = tree
tree_in (Some (AtomOf a)) = polynomial 0 no_terms
tree_in None = polynomial 0 no_terms

-- The atom that a place holds. One that isn't there, or holds a tree, counts as an atom of no bits.
abbrev pub atom_in : Option Meant → Atom
atom_in (Some (AtomOf a)) = a
atom_in (Some (TreeOf tree)) = atom kind.Trunc 0 no_parts
atom_in None = atom kind.Trunc 0 no_parts

abbrev pub tree_at : List Meant → ExprId → Tree
tree_at meant id = tree_in (slice_get meant id.0)

abbrev pub atom_at : List Meant → ExprId → Atom
atom_at meant id = atom_in (slice_get meant id.0)

-- the atoms at these places, as factors
abbrev pub factors_at : List Meant → List ExprId → Factors
factors_at meant [] = no_factors
factors_at meant (id ∷ ids) = factor (atom_at meant id) (factors_at meant ids)

-- the monomials of these terms with their coefficients
abbrev pub terms_at : List Meant → List Term → Terms
terms_at meant [] = no_terms
terms_at meant (t ∷ ts) = term (factors_at meant t.ids) t.coefficient (terms_at meant ts)

-- what a node stands for, of what the places hold that it names
abbrev pub node_meant : List Meant → Node → Meant
node_meant meant (node.Tree width terms) = TreeOf (polynomial width.bits (terms_at meant terms))
node_meant meant (node.Atom kind width parts) = AtomOf (atom kind width.bits (parts_of (map (tree_at meant) parts)))

-- the places with one more behind them
abbrev pub with_meant : List Meant → Node → List Meant
with_meant meant n = meant ++ node_meant meant n ∷ []

-- what each place holds, of those before it
abbrev pub meanings : List Node → List Meant
meanings nodes = fold with_meant [] nodes

abbrev pub tree_of : List Node → ExprId → Tree
tree_of nodes id = tree_at (meanings nodes) id

abbrev pub atom_of : List Node → ExprId → Atom
atom_of nodes id = atom_at (meanings nodes) id
