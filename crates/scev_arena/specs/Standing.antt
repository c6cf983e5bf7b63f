-- Which nodes may stand in an arena, and how it grows.
use Rattle.std.specs.Prelude.{◌≡◌, ℕ, ◌⊎◌, List, [], ◌∷◌, ◌++◌, length, map, take, Option, Some, None, slice_get, Contains}
use Rattle.scev_base.specs.declared.ids.ExprId.{ExprId}
use Rattle.scev_tree.specs.Tree.{polynomial, parts_of}
use Rattle.scev_tree.specs.Canonical.{HasParts, IsCanonical}
use Rattle.poly_terms.specs.declared.term.Term.{Term}
use Rattle.scev_arena.specs.declared.node.Node.{Node}
use Rattle.scev_arena.specs.declared.node.Node.TheVariants as node
use Rattle.scev_arena.specs.Meaning.{meanings, terms_at, tree_of}

-- what stands there is a tree
abbrev pub HoldsTree : Option Node → Type 0
HoldsTree (Some (node.Tree width terms)) = Unit {0}
HoldsTree (Some (node.Atom kind width parts)) = ⊥
HoldsTree None = ⊥

-- what stands there is an atom of w bits
abbrev pub HoldsAtom : ℕ → Option Node → Type 0
HoldsAtom w (Some (node.Atom kind width parts)) = width.bits ≡ w
HoldsAtom w (Some (node.Tree width terms)) = ⊥
HoldsAtom w None = ⊥

abbrev pub IsTreeAt : List Node → ExprId → Type 0
IsTreeAt nodes id = HoldsTree (slice_get nodes id.0)

abbrev pub IsAtomAt : List Node → ℕ → ExprId → Type 0
IsAtomAt nodes w id = HoldsAtom w (slice_get nodes id.0)

abbrev pub AreTrees : List Node → List ExprId → Type 0
AreTrees nodes [] = Unit {0}
AreTrees nodes (id ∷ ids) = IsTreeAt nodes id × AreTrees nodes ids

abbrev pub AreAtoms : List Node → ℕ → List ExprId → Type 0
AreAtoms nodes w [] = Unit {0}
AreAtoms nodes w (id ∷ ids) = IsAtomAt nodes w id × AreAtoms nodes w ids

-- the ids of each monomial are places of atoms of w bits
abbrev pub AreOverAtoms : List Node → ℕ → List Term → Type 0
AreOverAtoms nodes w [] = Unit {0}
AreOverAtoms nodes w (t ∷ ts) = AreAtoms nodes w t.ids × AreOverAtoms nodes w ts

-- The node may stand behind these: a tree is over atoms of its width and canonical, so that its monomials and their
-- factors are in order, and an atom has the parts that its kind asks for.
abbrev pub MayStand : List Node → Node → Type 0
MayStand nodes (node.Tree width terms) =
    IsCanonical (polynomial width.bits (terms_at (meanings nodes) terms)) × AreOverAtoms nodes width.bits terms
MayStand nodes (node.Atom kind width parts) =
    AreTrees nodes parts × HasParts kind width.bits (parts_of (map (tree_of nodes) parts))

-- Each node may stand behind those before it, and no two are equal.
pub record IsArena (nodes : List Node) : Type 0 where
  pub stand : (i : ℕ) (n : Node) → slice_get nodes i ≡ Some n → MayStand (take i nodes) n
  pub distinct : (i j : ℕ) (n : Node) → slice_get nodes i ≡ Some n → slice_get nodes j ≡ Some n → i ≡ j

-- the list where the node stands in it, and else the list with the node behind it, which is then at the place
abbrev pub IsGrown : List Node → Node → List Node → ExprId → Type 0
IsGrown old n new id = ((slice_get old id.0 ≡ Some n) × (new ≡ old))
    ⊎ (((Contains old n → ⊥) × (new ≡ old ++ n ∷ [])) × (id.0 ≡ length old))
