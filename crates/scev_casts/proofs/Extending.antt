-- Extensions by their cases, as they are formed.
use Rattle.std.proofs.Common.{◌≡◌, ℕ, ◌<◌, ◌≤◌, ◌^◌, ◌==◌, eqb, not, Bool, true, false, List, [], ◌∷◌, length, map}
use Rattle.std.proofs.Common.{Option, Some, None, Ok, Err, Result, IfOk, refl, sym, ap, ◌∙◌, subst, eq-eqb}
use Rattle.std.proofs.lemmas.Bool.{ne_eqb, cond_both, eqb-true, eqb-false, not-true, not-false}
use Rattle.std.proofs.lemmas.List.{length-map}
use Rattle.scev_base.specs.declared.ids.ExprId.{ExprId}
use Rattle.scev_base.specs.declared.ids.LoopId.{LoopId}
use Rattle.scev_tree.specs.declared.kind.Kind.{Kind}
use Rattle.scev_tree.specs.declared.kind.Kind.TheVariants as kind
use Rattle.scev_tree.specs.Tree.{Tree, Atom, Parts, atom, part, no_parts, width_of, parts_of, trees_of, constant}
use Rattle.scev_tree.specs.Canonical.{IsCanonical}
use Rattle.scev_tree.specs.Value.{tree_value}
use Rattle.scev_arena.specs.declared.node.Node.{Node}
use Rattle.scev_arena.specs.Meaning.{tree_of}
use Rattle.scev_arena.specs.Standing.{IsArena, IsTreeAt}
use Rattle.scev_forms.specs.Outcome.{Outcome, Done, next}
use Rattle.scev_forms.specs.Sums.{recurrence_of}
use Rattle.scev_forms.specs.Atoms.{number_of, alone, made}
use Rattle.scev_forms.specs.Casts.{extended_number, extended_atom, extended_tree, extended, extended_rec, extended_when}
use Rattle.scev_forms.proofs.Atoms.{number_value}
use Rattle.scev_forms.proofs.Extensions.{IsExtension}
use Rattle.scev_forms.proofs.WithinRange.{within_value}
use Rattle.scev_sums.specs.declared.error.FoldError.{FoldError}
use Rattle.scev_sums.specs.Answers.{IsAt, Tells}
use Rattle.scev_sums.proofs.Making.{canonical_at}
use Rattle.scev_sums.proofs.Refusals.{LeadsOn, led_on}
use Rattle.scev_casts.specs.declared.extensions.Extension.{Extension}
use Rattle.scev_casts.specs.declared.extensions.Extension.TheVariants as how
use Rattle.scev_casts.specs.Extensions.{HasExtension, kind_of, joined_kind, affine_parts}

-- ---- atoms

-- a recurrence of fewer or more than two parts is not affine
other_parts : (l : LoopId) (w : ℕ) (trees : List Tree)
    → (length trees ≡ 2 → ⊥)
    → affine_parts (Some (atom (kind.Rec l) w (parts_of trees))) ≡ None
other_parts l w [] other = refl
other_parts l w (first ∷ []) other = refl
other_parts l w (first ∷ step ∷ []) other = absurd (other refl)
other_parts l w (first ∷ step ∷ more ∷ trees) other = refl

-- the same of the parts at places
pub not_affine : (nodes : List Node) (ids : List ExprId) (l : LoopId) (w : ℕ) {k : Kind} {a : Atom} {o : Option Atom}
    → Some a ≡ o
    → a ≡ atom k w (parts_of (map (tree_of nodes) ids))
    → k ≡ kind.Rec l
    → (length ids ≡ 2 → ⊥)
    → None ≡ affine_parts o
not_affine nodes ids l w only is rec other =
    let trees = map (tree_of nodes) ids in
    let count = length-map ids (tree_of nodes) in
    sym (other_parts l w trees (λ two. other (sym count ∙ two)))
    ∙ ap affine_parts (sym (ap Some (is ∙ ap (λ one. atom one w (parts_of trees)) rec)) ∙ only)

-- trees as parts, and as trees again
trees_again : (trees : List Tree) → trees_of (parts_of trees) ≡ trees
trees_again [] = refl
trees_again (tree ∷ trees) = ap (λ ts. tree ∷ ts) (trees_again trees)

-- two extensions that are one
joined_parts : (how : Extension) (inner k : Kind) (w v : ℕ) (tree : Tree) (parts : Parts)
    → joined_kind how inner ≡ Some k
    → made k w (trees_of parts) ≡ extended_atom (kind_of how) w tree (Some (atom inner v parts))
joined_parts how.Zero kind.Zext k w v tree parts joined =
    let e : kind.Zext ≡ k = cc in
    ap (λ one. made one w (trees_of parts)) (sym e)
joined_parts how.Sign kind.Zext k w v tree parts joined =
    let e : kind.Zext ≡ k = cc in
    ap (λ one. made one w (trees_of parts)) (sym e)
joined_parts how.Sign kind.Sext k w v tree parts joined =
    let e : kind.Sext ≡ k = cc in
    ap (λ one. made one w (trees_of parts)) (sym e)
joined_parts how.Zero _ k w v tree parts joined = absurd cc
joined_parts how.Sign _ k w v tree parts joined = absurd cc

-- the same of the parts at places
pub joined_made : (how : Extension) (nodes : List Node) (ids : List ExprId) (w v : ℕ) (tree : Tree)
    {inner k : Kind} {a : Atom} {o : Option Atom} {parts : List ExprId}
    → Some a ≡ o
    → a ≡ atom inner v (parts_of (map (tree_of nodes) ids))
    → Some k ≡ joined_kind how inner
    → parts ≡ ids
    → made k w (map (tree_of nodes) parts) ≡ extended_atom (kind_of how) w tree o
joined_made how nodes ids w v tree {inner} {k} only is joined same =
    let trees = map (tree_of nodes) ids in
    ap (λ l. made k w (map (tree_of nodes) l)) same
    ∙ ap (made k w) (sym (trees_again trees))
    ∙ joined_parts how inner k w v tree (parts_of trees) (sym joined)
    ∙ ap (extended_atom (kind_of how) w tree) (sym (ap Some is) ∙ only)

-- ---- any tree

-- a test whether two widths are one
module _ (w : ℕ) {from v : ℕ} {test : Bool} (is : from ≡ v) (tells : test ≡ eqb from w) where
  -- they are
  pub is_same : test ≡ true → v ≡ w
  is_same so = sym is ∙ eqb-true from w (sym tells ∙ so)

  -- they aren't
  pub is_other : test ≡ false → v ≡ w → ⊥
  is_other so same = eqb-false from w (sym tells ∙ so) (is ∙ same)

-- a test whether they differ
module _ (w : ℕ) {from v : ℕ} {test : Bool} (is : from ≡ v) (tells : test ≡ not (eqb from w)) where
  -- they don't
  pub not_other : test ≡ false → v ≡ w
  not_other so = sym is ∙ eqb-true from w (not-false (eqb from w) (sym tells ∙ so))

  -- they do
  pub not_same : test ≡ true → v ≡ w → ⊥
  not_same so same = eqb-false from w (not-true (eqb from w) (sym tells ∙ so)) (is ∙ same)

module _ (k : Kind) (w : ℕ) (tree : Tree) where
  -- of the same width it is itself
  pub same_extended : width_of tree ≡ w → extended k w tree ≡ Done tree
  unfolding extended
  same_extended same = rw (eq-eqb (width_of tree) w same) refl

  -- and of another one it goes by the number that it may be
  other_extended : (width_of tree ≡ w → ⊥) → (number : Option ℕ) → number ≡ number_of tree
      → extended_tree k w tree number ≡ extended k w tree
  unfolding extended
  other_extended other number same = rw (ne_eqb (width_of tree) w other) (ap (extended_tree k w tree) same)

  -- a number is extended
  pub number_extended : (width_of tree ≡ w → ⊥) → (n : ℕ) → Some n ≡ number_of tree
      → extended k w tree ≡ Done (constant w (extended_number k (width_of tree) w n))
  number_extended other n number = sym (other_extended other (Some n) number)

  -- and what is none is extended as an atom
  pub atom_extended : (width_of tree ≡ w → ⊥) → None ≡ number_of tree
      → extended_atom k w tree (alone tree) ≡ extended k w tree
  atom_extended other none = other_extended other None none

-- the number of a canonical tree is below the modulus
pub number_below : (tree : Tree) (n : ℕ) → IsCanonical tree → Some n ≡ number_of tree → n < 2 ^ width_of tree
number_below tree n canonical number = (number_value (λ _. None) (λ _. 0) tree n canonical (sym number)).1

-- ---- recurrences of two parts

-- the extension by the parts of an affine recurrence, if it is one
abbrev by_parts : Kind → ℕ → Tree → Option (LoopId × Tree × Tree) → Outcome Tree
by_parts k w tree (Some parts) =
    next (extended k w parts.1) (λ start. next (extended k w parts.2) (λ more.
    recurrence_of w parts.0.0 (start ∷ more ∷ [])))
by_parts k w tree None = extended k w tree

-- each atom by what parts it has
rec_by_parts : (k : Kind) (w : ℕ) (tree : Tree) (o : Option Atom)
    → extended_rec k w tree o ≡ by_parts k w tree (affine_parts o)
rec_by_parts k w tree (Some (atom (kind.Rec loop) v (part first (part step no_parts)))) = refl
rec_by_parts k w tree _ = refl

module _ (k : Kind) (w : ℕ) (tree : Tree) where
  -- of the same width nothing is to be known
  pub same_when : (no_wrap : Bool) → width_of tree ≡ w → extended k w tree ≡ extended_when k w no_wrap tree
  unfolding extended extended_when
  same_when no_wrap same = rw (eq-eqb (width_of tree) w same) refl

  -- where nothing is known it is extended as any other tree
  pub unknown_when : extended k w tree ≡ extended_when k w false tree
  unfolding extended_when
  unknown_when =
      cond_both (width_of tree == w) (Done tree) (extended k w tree) (λ o. extended k w tree ≡ o)
      (λ same. same_extended k w tree (eqb-true (width_of tree) w same)) (λ other. refl)

  -- of another width it goes by its parts
  parts_when : (width_of tree ≡ w → ⊥) → (parts : Option (LoopId × Tree × Tree)) → parts ≡ affine_parts (alone tree)
      → by_parts k w tree parts ≡ extended_when k w true tree
  unfolding extended_when
  parts_when other parts same =
      rw (ne_eqb (width_of tree) w other) (ap (by_parts k w tree) same ∙ sym (rec_by_parts k w tree (alone tree)))

-- of a tree of another width, of which it may be known
module _ (k : Kind) (w : ℕ) (tree : Tree) {no_wrap : Bool} (known : no_wrap ≡ true)
    (other : width_of tree ≡ w → ⊥) where
  -- it is known
  known_when : extended_when k w true tree ≡ extended_when k w no_wrap tree
  known_when = ap (λ b. extended_when k w b tree) (sym known)

  -- what is no affine recurrence is extended as any other tree
  pub no_parts_when : None ≡ affine_parts (alone tree) → extended k w tree ≡ extended_when k w no_wrap tree
  no_parts_when none = parts_when k w tree other None none ∙ known_when

  module _ (l : LoopId) (first step : Tree) (parts : Some (l, first, step) ≡ affine_parts (alone tree)) where
    -- the extended start of an affine one leads on to all
    pub start_leads : LeadsOn (extended k w first)
        (λ start. next (extended k w step) (λ more. recurrence_of w l.0 (start ∷ more ∷ [])))
        (extended_when k w no_wrap tree)
    start_leads = record { leads = parts_when k w tree other (Some (l, first, step)) parts ∙ known_when }

    module _ (start : Tree) (starts : extended k w first ≡ Done start) {here : Tree} (same : here ≡ step) where
      -- so does its extended step
      pub more_leads : LeadsOn (extended k w here) (λ more. recurrence_of w l.0 (start ∷ more ∷ []))
          (extended_when k w no_wrap tree)
      more_leads = record {
        leads = ap (λ one. next (extended k w one) (λ more. recurrence_of w l.0 (start ∷ more ∷ []))) same
            ∙ led_on start start_leads starts;
      }

-- ---- values

-- What an extension gives has the extended value, wherever the tree has one.
pub extension_told : (old new : List Node) (k : Kind) (w : ℕ) (no_wrap : Bool) (id : ExprId)
    (result : Result ExprId FoldError)
    → IsArena old
    → IsTreeAt old id
    → IsExtension k
    → 0 < width_of (tree_of old id)
    → width_of (tree_of old id) ≤ w
    → Tells (IsAt new w) (extended_when k w no_wrap (tree_of old id)) result
    → IfOk result (HasExtension old new k w no_wrap id)
extension_told old new k w no_wrap id (Ok out) arena at is some most told =
    λ held turns n stays value.
    let tree = tree_of old id in
    let canonical = (canonical_at old (width_of tree) id arena (at, refl)).1 in
    subst (λ one. tree_value held turns one ≡ Some (extended_number k (width_of tree) w n)) (sym told.2.1)
    (within_value k w tree told.0 is some most canonical held turns no_wrap n told.1 stays value)
extension_told old new k w no_wrap id (Err why) arena at is some most told = tt
