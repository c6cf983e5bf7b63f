-- What tells the first limit that a tree is above, from what tells it of the places that a node names.
use Rattle.std.specs.Prelude.{ℕ, suc, ◌+◌, ◌<◌, min, max, nat_lt, ◌==◌, Bool, false, ◌||◌, if◌then◌else◌}
use Rattle.std.specs.Prelude.{Option, Some, None, List, length, map, fold, slice_index_or, All}
use Rattle.scev_base.specs.declared.limits.TheConstants.{MONOMIALS, FACTORS, DEGREE, DEPTH, NODES}
use Rattle.scev_base.specs.declared.ids.ExprId.{ExprId}
use Rattle.scev_tree.specs.declared.kind.Kind.{Kind}
use Rattle.scev_tree.specs.declared.kind.Kind.TheVariants as kind
use Rattle.scev_tree.specs.Tree.{Tree, Atom}
use Rattle.scev_tree.specs.Size.{depth, atom_depth, nodes, atom_nodes}
use Rattle.poly_terms.specs.declared.term.Term.{Term}
use Rattle.scev_arena.specs.declared.limit.Limit.{Limit}
use Rattle.scev_arena.specs.declared.limit.Limit.TheVariants.{TooWide, TooHigh, TooDeep}
use Rattle.scev_arena.specs.declared.measure.Measure.{Measure}
use Rattle.scev_arena.specs.declared.node.Node.{Node}
use Rattle.scev_arena.specs.declared.node.Node.TheVariants as node
use Rattle.scev_arena.specs.Limits.{is_in_atom, are_wide, is_high, is_too_wide, is_too_high}
use Rattle.scev_arena.specs.Meaning.{Meant, TreeOf, AtomOf, meanings}

-- ---- of plain trees

-- A depth, or a number of nodes, above the limit counts as one above it.
abbrev pub tree_measure : Tree → Measure
tree_measure tree = record {
  wide = is_too_wide tree;
  high = is_too_high tree;
  depth = min (depth tree) (suc DEPTH);
  nodes = min (nodes tree) (suc NODES);
}

abbrev pub atom_measure : Atom → Measure
atom_measure a = record {
  wide = is_in_atom are_wide (λ kind parts. false) a;
  high = is_in_atom (λ terms. false) is_high a;
  depth = min (atom_depth a) (suc DEPTH);
  nodes = min (atom_nodes a) (suc NODES);
}

-- the measure of what a place holds
abbrev pub meant_measure : Meant → Measure
meant_measure (TreeOf tree) = tree_measure tree
meant_measure (AtomOf a) = atom_measure a

-- those of what all places hold
abbrev pub measures_of : List Node → List Measure
measures_of nodes = map meant_measure (meanings nodes)

-- the first limit that a tree of the measure is above
abbrev pub limit_of : Measure → Option Limit
limit_of m =
    if m.wide then Some TooWide
    else (if m.high then Some TooHigh
    else (if (m.depth == suc DEPTH) || (m.nodes == suc NODES) then Some TooDeep else None))

-- ---- of nodes

abbrev pub nothing : Measure
nothing = record { wide = false; high = false; depth = 0; nodes = 0 }

-- of both, side by side
abbrev pub beside : Measure → Measure → Measure
beside m n = record {
  wide = m.wide || n.wide;
  high = m.high || n.high;
  depth = max m.depth n.depth;
  nodes = min (m.nodes + n.nodes) (suc NODES);
}

-- of a tree or an atom, of what stands in it, and whether it is too wide, or too high, itself
abbrev pub around : Bool → Bool → Measure → Measure
around wide high m = record {
  wide = wide || m.wide;
  high = high || m.high;
  depth = min (suc m.depth) (suc DEPTH);
  nodes = min (suc m.nodes) (suc NODES);
}

abbrev pub measure_at : List Measure → ExprId → Measure
measure_at measures id = slice_index_or measures id.0 nothing

-- of what stands at all of these places
abbrev pub together : List Measure → List ExprId → Measure
together measures ids = fold (λ m id. beside m (measure_at measures id)) nothing ids

-- of a monomial, which is too wide where it has too many factors
abbrev pub with_length : ℕ → Measure → Measure
with_length factors m =
    record { wide = nat_lt FACTORS factors || m.wide; high = m.high; depth = m.depth; nodes = m.nodes }

abbrev pub term_measure : List Measure → Term → Measure
term_measure measures t = with_length (length t.ids) (together measures t.ids)

abbrev pub terms_together : List Measure → List Term → Measure
terms_together measures terms = fold (λ m t. beside m (term_measure measures t)) nothing terms

-- an atom of so many parts is a recurrence of a degree above the limit
abbrev pub is_high_kind : Kind → ℕ → Bool
is_high_kind (kind.Rec loop) parts = nat_lt (suc DEGREE) parts
is_high_kind _ parts = false

abbrev pub node_measure : List Measure → Node → Measure
node_measure measures (node.Tree width terms) =
    around (nat_lt MONOMIALS (length terms)) false (terms_together measures terms)
node_measure measures (node.Atom kind width parts) =
    around false (is_high_kind kind (length parts)) (together measures parts)

-- ---- which places a node may name

abbrev pub AreWithin : ℕ → List ExprId → Type 0
AreWithin places ids = All (λ id. id.0 < places) ids

abbrev pub TermsAreWithin : ℕ → List Term → Type 0
TermsAreWithin places terms = All (λ t. AreWithin places t.ids) terms

abbrev pub IsWithin : ℕ → Node → Type 0
IsWithin places (node.Tree width terms) = TermsAreWithin places terms
IsWithin places (node.Atom kind width parts) = AreWithin places parts
