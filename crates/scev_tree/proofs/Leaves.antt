-- What holds of each register in a tree.
use Rattle.std.proofs.Common.{Option}
use Rattle.scev_base.specs.declared.ids.LoopId.{LoopId}
use Rattle.scev_base.specs.declared.ids.ValueId.{ValueId}
use Rattle.scev_tree.specs.declared.kind.Kind.{Kind}
use Rattle.scev_tree.specs.declared.kind.Kind.TheVariants as kind
use Rattle.scev_tree.specs.Tree.{Tree, Terms, Factors, Atom, Parts, polynomial, no_terms, term, no_factors, factor}
use Rattle.scev_tree.specs.Tree.{atom, no_parts, part}

-- where the kind is that of a register, P holds of this and of the loop that it is defined in
abbrev pub KindLeaf : (ValueId → Option LoopId → Type 0) → Kind → Type 0
KindLeaf P (kind.Leaf register loop) = P register loop
KindLeaf P _ = Unit {0}

-- P holds of each register in the tree, and of its loop
abbrev mutual
  pub EachLeaf : (ValueId → Option LoopId → Type 0) → Tree → Type 0
  EachLeaf P (polynomial w ts) = TermsLeaves P ts

  pub TermsLeaves : (ValueId → Option LoopId → Type 0) → Terms → Type 0
  TermsLeaves P no_terms = Unit {0}
  TermsLeaves P (term f c ts) = FactorsLeaves P f × TermsLeaves P ts

  pub FactorsLeaves : (ValueId → Option LoopId → Type 0) → Factors → Type 0
  FactorsLeaves P no_factors = Unit {0}
  FactorsLeaves P (factor a f) = AtomLeaves P a × FactorsLeaves P f

  pub AtomLeaves : (ValueId → Option LoopId → Type 0) → Atom → Type 0
  AtomLeaves P (atom k w parts) = KindLeaf P k × PartsLeaves P parts

  pub PartsLeaves : (ValueId → Option LoopId → Type 0) → Parts → Type 0
  PartsLeaves P no_parts = Unit {0}
  PartsLeaves P (part tree parts) = EachLeaf P tree × PartsLeaves P parts

module _ (P : ValueId → Option LoopId → Type 0)
    (all : (register : ValueId) (loop : Option LoopId) → P register loop) where
  -- what holds of every register, at a kind
  kind_leaf : (k : Kind) → KindLeaf P k
  kind_leaf (kind.Leaf register loop) = all register loop
  kind_leaf _ = tt

  -- what holds of every register holds of each in a tree
  mutual
    pub each_leaf : (tree : Tree) → EachLeaf P tree
    each_leaf (polynomial w ts) = terms_leaves ts

    terms_leaves : (ts : Terms) → TermsLeaves P ts
    terms_leaves no_terms = tt
    terms_leaves (term f c ts) = (factors_leaves f, terms_leaves ts)

    factors_leaves : (f : Factors) → FactorsLeaves P f
    factors_leaves no_factors = tt
    factors_leaves (factor a f) = (atom_leaves a, factors_leaves f)

    atom_leaves : (a : Atom) → AtomLeaves P a
    atom_leaves (atom k w parts) = (kind_leaf k, parts_leaves parts)

    parts_leaves : (parts : Parts) → PartsLeaves P parts
    parts_leaves no_parts = tt
    parts_leaves (part tree parts) = (each_leaf tree, parts_leaves parts)
