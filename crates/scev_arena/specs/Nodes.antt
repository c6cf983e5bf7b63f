-- Equality and hashes of nodes.
use Rattle.std.specs.Prelude.{ℕ, ◌==◌, Bool, false, ◌&&◌, List, ◌++◌}
use Rattle.std.specs.Cmp.Lexicographic.{pointwise}
use Rattle.std.specs.Hash as fed
use Rattle.scev_base.specs.declared.ids.ExprId.{ExprId}
use Rattle.scev_tree.specs.declared.kind.Kind.{Kind}
use Rattle.scev_tree.specs.contracts.kind.KindPartialEq.TheImpl.{eq-value}
use Rattle.scev_tree.specs.contracts.kind.KindHash.TheImpl.{hash_input-value}
use Rattle.poly_terms.specs.declared.term.Term.{Term}
use Rattle.scev_arena.specs.declared.node.Node.{Node}
use Rattle.scev_arena.specs.declared.node.Node.TheVariants as node

-- the width of a node in bits
abbrev pub node_bits : Node → ℕ
node_bits (node.Tree width terms) = width.bits
node_bits (node.Atom kind width parts) = width.bits

abbrev pub same_kind : Kind → Kind → Bool
same_kind a b = eq-value.it a b

abbrev pub same_id : ExprId → ExprId → Bool
same_id a b = a.0 == b.0

abbrev pub same_term : Term → Term → Bool
same_term s t = pointwise same_id s.ids t.ids && (s.coefficient == t.coefficient)

-- whether two nodes are of one sort with equal parts
abbrev pub same_node : Node → Node → Bool
same_node (node.Tree v ss) (node.Tree w ts) = (v.bits == w.bits) && pointwise same_term ss ts
same_node (node.Atom k v ids) (node.Atom l w others) =
    same_kind k l && ((v.bits == w.bits) && pointwise same_id ids others)
same_node (node.Tree v ss) (node.Atom l w others) = false
same_node (node.Atom k v ids) (node.Tree w ts) = false

abbrev pub id_input : ExprId → List (List ℕ)
id_input id = fed.u64 id.0

abbrev pub term_input : Term → List (List ℕ)
term_input t = fed.slice id_input t.ids ++ fed.u64 t.coefficient

-- what a hash reads of a node: its sort, and its parts
abbrev pub node_input : Node → List (List ℕ)
node_input (node.Tree width terms) = fed.u8 0 ++ (fed.u32 width.bits ++ fed.slice term_input terms)
node_input (node.Atom kind width parts) =
    fed.u8 1 ++ (hash_input-value.it kind ++ (fed.u32 width.bits ++ fed.slice id_input parts))
