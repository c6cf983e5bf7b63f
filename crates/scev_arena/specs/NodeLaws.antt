-- Nodes are equal exactly where they are one.
use Rattle.std.proofs.Common.{◌≡◌, ℕ, ◌≤◌, true, ◌&&◌, ◌==◌, List, Option, Some, None, refl, sym, ap, ◌∙◌}
use Rattle.std.proofs.Math.Bridge.{le_prop}
use mathlib.Core.HLevel.{is_prop→PathP}
use Rattle.std.proofs.lemmas.Bool.{false≢true, and_parts, and_from}
use Rattle.std.proofs.lemmas.Bool.Decides.{Decides-eqb, Decides-and}
use Rattle.std.proofs.lemmas.Slice.Eq.{slice_eq-Decides}
use Rattle.std.specs.Bool.{Decides}
use Rattle.std.specs.Cmp.{IsEquivalence, IsPartialEquivalence, partial_equiv_from_equiv, decided}
use Rattle.std.specs.Cmp.Lexicographic.{pointwise}
use Rattle.std.specs.Option.{option_eq}
use Rattle.scev_base.specs.declared.ids.ExprId.{ExprId}
use Rattle.scev_base.specs.declared.ids.LoopId.{LoopId}
use Rattle.scev_base.specs.declared.ids.ValueId.{ValueId}
use Rattle.scev_base.specs.declared.width.Width.{Width}
use Rattle.scev_tree.specs.declared.kind.Kind.{Kind}
use Rattle.scev_tree.specs.declared.kind.Kind.TheVariants as kind
use Rattle.poly_terms.specs.declared.term.Term.{Term}
use Rattle.scev_arena.specs.declared.node.Node.{Node}
use Rattle.scev_arena.specs.declared.node.Node.TheVariants as node
use Rattle.scev_arena.specs.Nodes.{same_kind, same_id, same_term, same_node, node_input}

-- ---- a value is known by its numbers

id_of : ℕ → ExprId
id_of n = record { 0 = n }

pub one_id : (x y : ExprId) → x.0 ≡ y.0 → x ≡ y
unfolding id_of
one_id x y e = ap id_of e

loop_of : ℕ → LoopId
loop_of n = record { 0 = n }

one_loop : (x y : LoopId) → x.0 ≡ y.0 → x ≡ y
unfolding loop_of
one_loop x y e = ap loop_of e

value_of : ℕ → ValueId
value_of n = record { 0 = n }

one_value : (x y : ValueId) → x.0 ≡ y.0 → x ≡ y
unfolding value_of
one_value x y e = ap value_of e

pub one_width : (v w : Width) → v.bits ≡ w.bits → v ≡ w
one_width v w e = λ i. record {
  bits = e i;
  at_least_one = is_prop→PathP (λ j. 1 ≤ e j) (λ j. le_prop) v.at_least_one w.at_least_one i;
  at_most_64 = is_prop→PathP (λ j. e j ≤ 64) (λ j. le_prop) v.at_most_64 w.at_most_64 i;
}

pub one_term : (s t : Term) → s.ids ≡ t.ids → s.coefficient ≡ t.coefficient → s ≡ t
one_term s t e f = λ i. record { ids = e i; coefficient = f i }

-- ---- the tests of parts

id_decides : (x y : ExprId) → Decides (same_id x y) (x ≡ y)
id_decides x y = (λ h. one_id x y ((Decides-eqb x.0 y.0).0 h), λ e. (Decides-eqb x.0 y.0).1 (ap (λ z. z.0) e))

ids_decide : (xs ys : List ExprId) → Decides (pointwise same_id xs ys) (xs ≡ ys)
ids_decide xs ys = slice_eq-Decides id_decides xs ys (pointwise same_id xs ys) refl

term_decides : (s t : Term) → Decides (same_term s t) (s ≡ t)
term_decides s t =
    let both = Decides-and (pointwise same_id s.ids t.ids) (s.coefficient == t.coefficient) (ids_decide s.ids t.ids)
    (Decides-eqb s.coefficient t.coefficient) in
    (λ h. one_term s t (both.0 h).0 (both.0 h).1, λ e. both.1 (ap (λ u. u.ids) e, ap (λ u. u.coefficient) e))

terms_decide : (ss ts : List Term) → Decides (pointwise same_term ss ts) (ss ≡ ts)
terms_decide ss ts = slice_eq-Decides term_decides ss ts (pointwise same_term ss ts) refl

width_decides : (v w : Width) → Decides (v.bits == w.bits) (v ≡ w)
width_decides v w =
    (λ h. one_width v w ((Decides-eqb v.bits w.bits).0 h), λ e. (Decides-eqb v.bits w.bits).1 (ap (λ u. u.bits) e))

one_home : (x y : Option LoopId) → option_eq (λ a b. a.0 == b.0) x y ≡ true → x ≡ y
one_home None None h = refl
one_home None (Some y) h = absurd (false≢true h)
one_home (Some x) None h = absurd (false≢true h)
one_home (Some x) (Some y) h = ap Some (one_loop x y ((Decides-eqb x.0 y.0).0 h))

home_itself : (x : Option LoopId) → option_eq (λ a b. a.0 == b.0) x x ≡ true
home_itself None = refl
home_itself (Some x) = (Decides-eqb x.0 x.0).1 refl

-- kinds that the test joins are one
one_kind : (k l : Kind) → same_kind k l ≡ true → k ≡ l
one_kind kind.Trunc kind.Trunc h = refl
one_kind kind.Zext kind.Zext h = refl
one_kind kind.Sext kind.Sext h = refl
one_kind kind.Udiv kind.Udiv h = refl
one_kind kind.Smax kind.Smax h = refl
one_kind kind.Umax kind.Umax h = refl
one_kind kind.Smin kind.Smin h = refl
one_kind kind.Umin kind.Umin h = refl
one_kind kind.Seq kind.Seq h = refl
one_kind (kind.Rec x) (kind.Rec y) h = ap kind.Rec (one_loop x y ((Decides-eqb x.0 y.0).0 h))
one_kind (kind.Leaf v x) (kind.Leaf w y) h =
    let both = and_parts (v.0 == w.0) (option_eq (λ a b. a.0 == b.0) x y) h in
    ap (λ u. kind.Leaf u x) (one_value v w ((Decides-eqb v.0 w.0).0 both.0)) ∙ ap (kind.Leaf w) (one_home x y both.1)
one_kind _ _ h = absurd (false≢true h)

same_kind_itself : (k : Kind) → same_kind k k ≡ true
same_kind_itself kind.Trunc = refl
same_kind_itself kind.Zext = refl
same_kind_itself kind.Sext = refl
same_kind_itself kind.Udiv = refl
same_kind_itself kind.Smax = refl
same_kind_itself kind.Umax = refl
same_kind_itself kind.Smin = refl
same_kind_itself kind.Umin = refl
same_kind_itself kind.Seq = refl
same_kind_itself (kind.Rec x) = (Decides-eqb x.0 x.0).1 refl
same_kind_itself (kind.Leaf v x) =
    and_from (v.0 == v.0) (option_eq (λ a b. a.0 == b.0) x x) ((Decides-eqb v.0 v.0).1 refl) (home_itself x)

-- ---- the test of nodes

-- nodes that the test joins are one
one_node : (m n : Node) → same_node m n ≡ true → m ≡ n
one_node (node.Tree v ss) (node.Tree w ts) h =
    let parts = and_parts (v.bits == w.bits) (pointwise same_term ss ts) h in
    ap (λ u. node.Tree u ss) ((width_decides v w).0 parts.0) ∙ ap (node.Tree w) ((terms_decide ss ts).0 parts.1)
one_node (node.Atom k v xs) (node.Atom l w ys) h =
    let parts = and_parts (same_kind k l) ((v.bits == w.bits) && pointwise same_id xs ys) h in
    let others = and_parts (v.bits == w.bits) (pointwise same_id xs ys) parts.1 in
    ap (λ u. node.Atom u v xs) (one_kind k l parts.0)
    ∙ ap (λ u. node.Atom l u xs) ((width_decides v w).0 others.0)
    ∙ ap (node.Atom l w) ((ids_decide xs ys).0 others.1)
one_node (node.Tree v ss) (node.Atom l w ys) h = absurd (false≢true h)
one_node (node.Atom k v xs) (node.Tree w ts) h = absurd (false≢true h)

same_node_itself : (n : Node) → same_node n n ≡ true
same_node_itself (node.Tree w ts) =
    and_from (w.bits == w.bits) (pointwise same_term ts ts) ((width_decides w w).1 refl) ((terms_decide ts ts).1 refl)
same_node_itself (node.Atom k w ids) =
    and_from (same_kind k k) ((w.bits == w.bits) && pointwise same_id ids ids) (same_kind_itself k)
    (and_from (w.bits == w.bits) (pointwise same_id ids ids) ((width_decides w w).1 refl) ((ids_decide ids ids).1 refl))

-- The test tells exactly where nodes are one.
pub same_node_decides : (m n : Node) → Decides (same_node m n) (m ≡ n)
same_node_decides m n = (one_node m n, λ e. ap (same_node m) (sym e) ∙ same_node_itself m)

pub same_node_laws : IsEquivalence same_node
same_node_laws = decided same_node same_node_decides

pub same_node_partial : IsPartialEquivalence same_node
same_node_partial = partial_equiv_from_equiv same_node_laws

-- equal nodes are fed alike
pub same_node_alike : (m n : Node) → same_node m n ≡ true → node_input m ≡ node_input n
same_node_alike m n h = ap node_input ((same_node_decides m n).0 h)
