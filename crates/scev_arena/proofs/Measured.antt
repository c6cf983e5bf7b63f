-- Measures of plain trees, from those of what stands in them.
use Rattle.std.proofs.Common.{◌≡◌, ℕ, suc, ◌+◌, ◌≤◌, min, max, nat_lt, Bool, true, false, ◌||◌}
use Rattle.std.proofs.Common.{List, [], ◌∷◌, fold, refl, sym, ap, ◌∙◌, arith}
use Rattle.scev_base.specs.declared.limits.TheConstants.{MONOMIALS, FACTORS, DEPTH, NODES}
use Rattle.scev_tree.specs.declared.kind.Kind.{Kind}
use Rattle.scev_tree.specs.declared.kind.Kind.TheVariants as kind
use Rattle.scev_tree.specs.Tree.{Tree, Terms, Factors, Atom, Parts, polynomial, term, factor, atom, part}
use Rattle.scev_tree.specs.Order.{count_terms, count_factors, count_parts}
use Rattle.scev_tree.specs.Size.{depth, terms_depth, factors_depth, atom_depth, parts_depth}
use Rattle.scev_tree.specs.Size.{nodes, terms_nodes, factors_nodes, atom_nodes, parts_nodes}
use Rattle.scev_arena.specs.declared.measure.Measure.{Measure}
use Rattle.scev_arena.specs.Limits.{is_in_terms, is_in_factors, is_in_parts, has_long_monomial, are_wide, is_high}
use Rattle.scev_arena.specs.Measures.{tree_measure, atom_measure, nothing, beside, around, with_length, is_high_kind}

-- measures are one where all that they say is
same_measure : (m n : Measure) → m.wide ≡ n.wide → m.high ≡ n.high → m.depth ≡ n.depth → m.nodes ≡ n.nodes → m ≡ n
same_measure m n wide high deep many =
    ap (λ x. record { wide = x; high = m.high; depth = m.depth; nodes = m.nodes }) wide
    ∙ ap (λ x. record { wide = n.wide; high = x; depth = m.depth; nodes = m.nodes }) high
    ∙ ap (λ x. record { wide = n.wide; high = n.high; depth = x; nodes = m.nodes }) deep
    ∙ ap (λ x. record { wide = n.wide; high = n.high; depth = n.depth; nodes = x }) many

-- ---- either of several

or_again : (a b c : Bool) → ((a || b) || c) ≡ (a || (b || c))
or_again true b c = refl
or_again false b c = refl

or_pairs : (a b c d : Bool) → ((a || b) || (c || d)) ≡ ((a || c) || (b || d))
or_pairs true b c d = refl
or_pairs false true true d = refl
or_pairs false true false d = refl
or_pairs false false c d = refl

-- ---- numbers up to one

most_of_sum : (x y k : ℕ) → min (x + y) k ≡ min (min x k + min y k) k
most_of_sum x y k = omega arith

most_of_greater : (x y k : ℕ) → min (max x y) k ≡ max (min x k) (min y k)
most_of_greater x y k = omega arith

most_of_next : (x k : ℕ) → min (suc x) k ≡ min (suc (min x k)) k
most_of_next x k = omega arith

sum_again : (x y z k : ℕ) → min (min (x + y) k + z) k ≡ min (x + min (y + z) k) k
sum_again x y z k = omega arith

greater_again : (x y z : ℕ) → max (max x y) z ≡ max x (max y z)
greater_again x y z = omega arith

-- ---- side by side

beside_again : (l m n : Measure) → beside (beside l m) n ≡ beside l (beside m n)
beside_again l m n =
    same_measure (beside (beside l m) n) (beside l (beside m n))
    (or_again l.wide m.wide n.wide) (or_again l.high m.high n.high) (greater_again l.depth m.depth n.depth)
    (sum_again l.nodes m.nodes n.nodes (suc NODES))

-- all of a list, from the last
abbrev pub all_of : {X : Type 0} → (X → Measure) → List X → Measure
all_of of [] = nothing
all_of of (x ∷ xs) = beside (of x) (all_of of xs)

or_none : (a : Bool) → (a || false) ≡ a
or_none true = refl
or_none false = refl

greater_none : (x : ℕ) → max x 0 ≡ x
greater_none x = omega arith

none_greater : (x : ℕ) → max 0 x ≡ x
none_greater x = omega arith

sum_none : (x k : ℕ) → x ≤ k → min (x + 0) k ≡ x
sum_none x k h = omega arith

none_sum : (x k : ℕ) → x ≤ k → min (0 + x) k ≡ x
none_sum x k h = omega arith

most_below : (x k : ℕ) → min x k ≤ k
most_below x k = omega arith

all_below : {X : Type 0} (of : X → Measure) (xs : List X) → (all_of of xs).nodes ≤ suc NODES
all_below of [] = omega arith
all_below of (x ∷ xs) = most_below ((of x).nodes + (all_of of xs).nodes) (suc NODES)

-- the same from the first
from_first : {X : Type 0} (of : X → Measure) (m : Measure) (xs : List X)
    → m.nodes ≤ suc NODES
    → fold (λ n x. beside n (of x)) m xs ≡ beside m (all_of of xs)
from_first of m [] h =
    same_measure m (beside m nothing) (sym (or_none m.wide)) (sym (or_none m.high)) (sym (greater_none m.depth))
    (sym (sum_none m.nodes (suc NODES) h))
from_first of m (x ∷ xs) h =
    from_first of (beside m (of x)) xs (most_below (m.nodes + (of x).nodes) (suc NODES))
    ∙ beside_again m (of x) (all_of of xs)

pub fold_is_all : {X : Type 0} (of : X → Measure) (xs : List X)
    → fold (λ n x. beside n (of x)) nothing xs ≡ all_of of xs
fold_is_all of xs =
    from_first of nothing xs (omega arith)
    ∙ same_measure (beside nothing (all_of of xs)) (all_of of xs) refl refl (none_greater (all_of of xs).depth)
    (none_sum (all_of of xs).nodes (suc NODES) (all_below of xs))

-- ---- what stands in a tree

-- all terms, of which some may be too long
abbrev pub terms_measure : Terms → Measure
terms_measure ts = record {
  wide = has_long_monomial ts || is_in_terms are_wide (λ kind parts. false) ts;
  high = is_in_terms (λ terms. false) is_high ts;
  depth = min (terms_depth ts) (suc DEPTH);
  nodes = min (terms_nodes ts) (suc NODES);
}

abbrev pub factors_measure : Factors → Measure
factors_measure f = record {
  wide = is_in_factors are_wide (λ kind parts. false) f;
  high = is_in_factors (λ terms. false) is_high f;
  depth = min (factors_depth f) (suc DEPTH);
  nodes = min (factors_nodes f) (suc NODES);
}

abbrev pub parts_measure : Parts → Measure
parts_measure parts = record {
  wide = is_in_parts are_wide (λ kind parts. false) parts;
  high = is_in_parts (λ terms. false) is_high parts;
  depth = min (parts_depth parts) (suc DEPTH);
  nodes = min (parts_nodes parts) (suc NODES);
}

-- of a monomial, which may be too long
abbrev pub long_measure : Factors → Measure
long_measure f = with_length (count_factors f) (factors_measure f)

pub tree_measured : (w : ℕ) (ts : Terms)
    → tree_measure (polynomial w ts) ≡ around (nat_lt MONOMIALS (count_terms ts)) false (terms_measure ts)
tree_measured w ts =
    same_measure (tree_measure (polynomial w ts))
    (around (nat_lt MONOMIALS (count_terms ts)) false (terms_measure ts))
    (or_again (nat_lt MONOMIALS (count_terms ts)) (has_long_monomial ts)
    (is_in_terms are_wide (λ kind parts. false) ts))
    refl (most_of_next (terms_depth ts) (suc DEPTH)) (most_of_next (terms_nodes ts) (suc NODES))

pub terms_measured : (f : Factors) (n : ℕ) (ts : Terms)
    → terms_measure (term f n ts) ≡ beside (long_measure f) (terms_measure ts)
terms_measured f n ts =
    same_measure (terms_measure (term f n ts)) (beside (long_measure f) (terms_measure ts))
    (or_pairs (nat_lt FACTORS (count_factors f)) (has_long_monomial ts) (factors_measure f).wide
    (is_in_terms are_wide (λ kind parts. false) ts))
    refl (most_of_greater (factors_depth f) (terms_depth ts) (suc DEPTH))
    (most_of_sum (factors_nodes f) (terms_nodes ts) (suc NODES))

pub factors_measured : (a : Atom) (f : Factors)
    → factors_measure (factor a f) ≡ beside (atom_measure a) (factors_measure f)
factors_measured a f =
    same_measure (factors_measure (factor a f)) (beside (atom_measure a) (factors_measure f)) refl refl
    (most_of_greater (atom_depth a) (factors_depth f) (suc DEPTH))
    (most_of_sum (atom_nodes a) (factors_nodes f) (suc NODES))

-- whether a recurrence is too high is told by the number of its parts
high_by_count : (k : Kind) (parts : Parts) → is_high k parts ≡ is_high_kind k (count_parts parts)
high_by_count (kind.Rec loop) parts = refl
high_by_count _ parts = refl

pub atom_measured : (k : Kind) (w : ℕ) (parts : Parts)
    → atom_measure (atom k w parts) ≡ around false (is_high_kind k (count_parts parts)) (parts_measure parts)
atom_measured k w parts =
    same_measure (atom_measure (atom k w parts))
    (around false (is_high_kind k (count_parts parts)) (parts_measure parts)) refl
    (ap (λ b. b || is_in_parts (λ terms. false) is_high parts) (high_by_count k parts))
    (most_of_next (parts_depth parts) (suc DEPTH)) (most_of_next (parts_nodes parts) (suc NODES))

pub parts_measured : (tree : Tree) (parts : Parts)
    → parts_measure (part tree parts) ≡ beside (tree_measure tree) (parts_measure parts)
parts_measured tree parts =
    same_measure (parts_measure (part tree parts)) (beside (tree_measure tree) (parts_measure parts)) refl refl
    (most_of_greater (depth tree) (parts_depth parts) (suc DEPTH))
    (most_of_sum (nodes tree) (parts_nodes parts) (suc NODES))
