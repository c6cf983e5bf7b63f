-- Extensions of recurrences of two parts that don't wrap: the recurrence of the extended parts has the extended value.
use Rattle.std.proofs.Common.{◌≡◌, ℕ, zero, suc, ◌+◌, ◌*◌, ◌%◌, ◌^◌, ◌<◌, ◌≤◌, ◌==◌, ◌⊎◌, inl, inr, Bool, true, false}
use Rattle.std.proofs.Common.{[], ◌∷◌, Option, Some, None, refl, sym, ap, ◌∙◌, subst, arith}
use Rattle.std.specs.Prelude.{IsTrue, cond}
use Rattle.std.proofs.lemmas.Bool.{cond_both}
use Rattle.std.proofs.Math.Nat.{mod-eq_of_lt}
use Rattle.scev_base.specs.Iterated.{iterated}
use Rattle.scev_base.specs.Residue.{residue, reading}
use Rattle.scev_base.specs.declared.ids.LoopId.{LoopId}
use Rattle.scev_tree.specs.declared.kind.Kind.{Kind}
use Rattle.scev_tree.specs.declared.kind.Kind.TheVariants as kind
use Rattle.scev_tree.specs.Tree.{Tree, Atom, atom, no_parts, part, width_of}
use Rattle.scev_tree.specs.Canonical.{IsCanonical}
use Rattle.scev_tree.specs.Value.{sum, tree_value}
use Rattle.scev_tree.proofs.AffineValue.{first_turn, next_turn}
use Rattle.scev_forms.specs.Outcome.{Done, next}
use Rattle.scev_forms.specs.Trees.{IsTreeOf}
use Rattle.scev_forms.specs.Sums.{recurrence_of}
use Rattle.scev_forms.specs.Atoms.{alone}
use Rattle.scev_forms.specs.Casts.{extended_number, extended, extended_rec, extended_when}
use Rattle.scev_forms.specs.Ranges.{IsInRange, StaysInRange}
use Rattle.scev_forms.proofs.Atoms.{number_small, alone_is_canonical, alone_value}
use Rattle.scev_forms.proofs.Readings.{pow_more, residue_reading}
use Rattle.scev_forms.proofs.Residues.{residue_affine, reading_residue}
use Rattle.scev_forms.proofs.Extensions.{IsExtension, extension_is_canonical, extension_value}
use Rattle.scev_forms.proofs.SumsFormed.{recurrence_canonical, recurrence_value}
use Rattle.scev_forms.proofs.Truncations.{next_done}

-- ---- numbers

-- a step with nothing behind it stays
step_stays : (w t : ℕ) (x : Option ℕ) → iterated (sum w) t x [] ≡ x
unfolding iterated
step_stays w zero x = refl
step_stays w (suc t) x = refl

-- two parts at a turn
numbers_at : (w t a b : ℕ)
    → a < 2 ^ w
    → iterated (sum w) t (Some a) (Some b ∷ []) ≡ Some ((a + t * b) % 2 ^ w)
unfolding iterated
numbers_at w zero a b below = ap (λ (n : ℕ). Some n) (sym (first_turn a b (2 ^ w) below))
numbers_at w (suc t) a b below =
    rw (numbers_at w t a b below, step_stays w t (Some b)) (ap (λ (n : ℕ). Some n) (next_turn a b t (2 ^ w)))

-- the sum with none is none
none_more : (w : ℕ) (x : Option ℕ) → sum w x None ≡ None
none_more w None = refl
none_more w (Some a) = refl

-- a first part without a number leaves none
none_first : (w t : ℕ) (y : Option ℕ) → iterated (sum w) t None (y ∷ []) ≡ None
unfolding iterated
none_first w zero y = refl
none_first w (suc t) y = rw (none_first w t y) refl

-- so does a step without one, at each further turn
none_step : (w t : ℕ) (x : Option ℕ) → iterated (sum w) (suc t) x (None ∷ []) ≡ None
unfolding iterated
none_step w t x =
    ap (sum w (iterated (sum w) t x (None ∷ []))) (step_stays w t None)
    ∙ none_more w (iterated (sum w) t x (None ∷ []))

-- Where there is a number at a further turn, both parts have one.
both_numbers : (w t : ℕ) (x y : Option ℕ) (n : ℕ)
    → iterated (sum w) (suc t) x (y ∷ []) ≡ Some n
    → (a : ℕ) × (b : ℕ) × (x ≡ Some a) × (y ≡ Some b)
both_numbers w t (Some a) (Some b) n h = (a, b, refl, refl)
both_numbers w t (Some a) None n h = let gone = none_step w t (Some a) in absurd cc
both_numbers w t None y n h = let gone = none_first w (suc t) y in absurd cc

-- the sum of an extended start and the multiple of an extended step, where it stays in range
affine_extended : (k : Kind) (v w t a b : ℕ)
    → IsExtension k
    → 0 < v
    → v ≤ w
    → a < 2 ^ v
    → b < 2 ^ v
    → IsInRange k v a b t
    → (extended_number k v w a + t * extended_number k v w b) % 2 ^ w ≡ extended_number k v w ((a + t * b) % 2 ^ v)
affine_extended kind.Zext v w t a b is some most first step fits =
    mod-eq_of_lt (omega (arith, pow_more v w most)) ∙ sym (mod-eq_of_lt fits)
affine_extended kind.Sext v w t a b is some most first step fits =
    let whole = residue_affine v t (reading v a) (reading v b) in
    let its = whole ∙ rw (residue_reading v a first, residue_reading v b step) refl in
    sym (residue_affine w t (reading v a) (reading v b))
    ∙ ap (residue w) (sym (reading_residue v _ some fits) ∙ ap (reading v) its)
affine_extended _ v w t a b is some most first step fits = absurd is

-- ---- what is done

-- the tree is a recurrence of two parts alone, both were extended, and their recurrence came out
record IsRecExtended (k : Kind) (w : ℕ) (tree out : Tree) : Type 0 where
  loop : LoopId
  width : ℕ
  first : Tree
  step : Tree
  start : Tree
  more : Tree
  only : alone tree ≡ Some (atom (kind.Rec loop) width (part first (part step no_parts)))
  starts : extended k w first ≡ Done start
  steps : extended k w step ≡ Done more
  done : recurrence_of w loop.0 (start ∷ more ∷ []) ≡ Done out

-- the tree was extended as any other, or so
abbrev WhenDone : Kind → ℕ → Bool → Tree → Tree → Type 0
WhenDone k w no_wrap tree out = (extended k w tree ≡ Done out) ⊎ (IsTrue no_wrap × IsRecExtended k w tree out)

-- what comes out for a tree that may be an atom alone
rec_done : (k : Kind) (w : ℕ) (tree out : Tree) (o : Option Atom)
    → alone tree ≡ o
    → extended_rec k w tree o ≡ Done out
    → WhenDone k w true tree out
rec_done k w tree out (Some (atom (kind.Rec loop) v (part first (part step no_parts)))) one h =
    let start = next_done (extended k w first)
    (λ s. next (extended k w step) (λ m. recurrence_of w loop.0 (s ∷ m ∷ []))) out h in
    let more = next_done (extended k w step) (λ m. recurrence_of w loop.0 (start.0 ∷ m ∷ [])) out start.2 in
    inr (
      refl,
      record {
        loop = loop;
        width = v;
        first = first;
        step = step;
        start = start.0;
        more = more.0;
        only = one;
        starts = start.1;
        steps = more.1;
        done = more.2;
      },
    )
rec_done k w tree out _ one h = inl h

-- whether or not it is known that it doesn't wrap
known_done : (k : Kind) (w : ℕ) (no_wrap : Bool) (tree out : Tree)
    → cond no_wrap (extended_rec k w tree (alone tree)) (extended k w tree) ≡ Done out
    → WhenDone k w no_wrap tree out
known_done k w true tree out h = rec_done k w tree out (alone tree) refl h
known_done k w false tree out h = inl h

-- a tree of the width stays
same_width : (k : Kind) (w : ℕ) (tree : Tree) → (width_of tree == w) ≡ true → extended k w tree ≡ Done tree
unfolding extended
same_width k w tree same = rw same refl

-- one of both was done
when_done : (k : Kind) (w : ℕ) (no_wrap : Bool) (tree out : Tree)
    → extended_when k w no_wrap tree ≡ Done out
    → WhenDone k w no_wrap tree out
unfolding extended_when
when_done k w no_wrap tree out h =
    cond_both (width_of tree == w) (Done tree)
    (cond no_wrap (extended_rec k w tree (alone tree)) (extended k w tree))
    (λ o. o ≡ Done out → WhenDone k w no_wrap tree out)
    (λ same all. inl (same_width k w tree same ∙ all))
    (λ _ all. known_done k w no_wrap tree out all)
    h

-- ---- trees

module _ (k : Kind) (w : ℕ) (tree out : Tree) (is : IsExtension k) (some : 0 < width_of tree)
    (most : width_of tree ≤ w) (canonical : IsCanonical tree) where
  -- the parts of the recurrence are canonical trees of its width
  parts_are_trees : (r : IsRecExtended k w tree out)
      → (r.width ≡ width_of tree) × IsTreeOf (width_of tree) r.first × IsTreeOf (width_of tree) r.step
  parts_are_trees r =
      let a = alone_is_canonical tree (atom (kind.Rec r.loop) r.width (part r.first (part r.step no_parts))) canonical
      r.only in
      (a.0, (a.1.1.0, a.2.0), (a.1.1.1.0, a.2.1.0))

  -- an extended part is one of w bits
  part_is_tree : (one extension : Tree)
      → IsTreeOf (width_of tree) one
      → extended k w one ≡ Done extension
      → IsTreeOf w extension
  part_is_tree one extension of h = extension_is_canonical k w one extension is (omega (arith, of.0)) of.1 h

  -- what comes out is canonical
  pub within_is_canonical : (no_wrap : Bool) → extended_when k w no_wrap tree ≡ Done out → IsTreeOf w out
  within_is_canonical no_wrap h =
      elim (when_done k w no_wrap tree out h) [
        | inl plain ↦ extension_is_canonical k w tree out is most canonical plain
        | inr known ↦
            let r = known.1 in
            let parts = parts_are_trees r in
            recurrence_canonical w r.loop.0 r.start out (r.more ∷ []) (omega arith)
            (part_is_tree r.first r.start parts.1 r.starts) (part_is_tree r.step r.more parts.2 r.steps, tt) r.done
      ]

  -- ---- values

  module _ (held : ℕ → Option ℕ) (turns : ℕ → ℕ) where
    -- an extended part has the extended value
    part_keeps : (one extension : Tree) (n : ℕ)
        → IsTreeOf (width_of tree) one
        → extended k w one ≡ Done extension
        → tree_value held turns one ≡ Some n
        → tree_value held turns extension ≡ Some (extended_number k (width_of tree) w n)
    part_keeps one extension n of h value =
        extension_value held turns k w one extension n is (omega (arith, of.0)) of.1 h value
        ∙ ap (λ v. Some (extended_number k v w n)) of.0

    -- the recurrence of the extended parts, at a further turn
    further_turn : (r : IsRecExtended k w tree out) (t n : ℕ)
        → turns r.loop.0 ≡ suc t
        → StaysInRange k held turns tree
        → iterated (sum (width_of tree)) (suc t) (tree_value held turns r.first) (tree_value held turns r.step ∷ [])
        ≡ Some n
        → (a : ℕ) × (b : ℕ) × (tree_value held turns r.first ≡ Some a) × (tree_value held turns r.step ≡ Some b)
        → iterated (sum w) (suc t) (tree_value held turns r.start) (tree_value held turns r.more ∷ [])
        ≡ Some (extended_number k (width_of tree) w n)
    further_turn r t n turn stays h both =
        let v = width_of tree in
        let a = both.0 in
        let b = both.1 in
        let parts = parts_are_trees r in
        let first = number_small held turns v r.first a parts.1 both.2 in
        let step = number_small held turns v r.step b parts.2 both.3 in
        let range = stays r.loop r.width r.first r.step a b r.only both.2 both.3 (λ none. absurd (omega arith)) in
        let fits = subst (λ u. IsInRange k u a b (suc t)) parts.0
        (subst (λ u. IsInRange k r.width a b u) turn range) in
        let here = rw (both.2, both.3, numbers_at v (suc t) a b first) at h in
        let there : (a + suc t * b) % 2 ^ v ≡ n = cc here in
        let start = part_keeps r.first r.start a parts.1 r.starts both.2 in
        let more = part_keeps r.step r.more b parts.2 r.steps both.3 in
        rw (
          start,
          more,
          numbers_at w (suc t) (extended_number k v w a) (extended_number k v w b)
              (number_small held turns w r.start _ (part_is_tree r.first r.start parts.1 r.starts) start),
        )
        (ap (λ (m : ℕ). Some m)
        (affine_extended k v w (suc t) a b is some most first step fits ∙ ap (extended_number k v w) there))

    -- the recurrence of the extended parts, at a turn
    turn_keeps : (r : IsRecExtended k w tree out) (t n : ℕ)
        → turns r.loop.0 ≡ t
        → StaysInRange k held turns tree
        → iterated (sum (width_of tree)) t (tree_value held turns r.first) (tree_value held turns r.step ∷ []) ≡ Some n
        → iterated (sum w) t (tree_value held turns r.start) (tree_value held turns r.more ∷ [])
        ≡ Some (extended_number k (width_of tree) w n)
    unfolding iterated
    turn_keeps r zero n turn stays h = part_keeps r.first r.start n (parts_are_trees r).1 r.starts h
    turn_keeps r (suc t) n turn stays h =
        further_turn r t n turn stays h (both_numbers (width_of tree) t _ _ n h)

    -- the recurrence that comes out
    rec_keeps : (r : IsRecExtended k w tree out) (n : ℕ)
        → StaysInRange k held turns tree
        → tree_value held turns tree ≡ Some n
        → tree_value held turns out ≡ Some (extended_number k (width_of tree) w n)
    rec_keeps r n stays value =
        let parts = parts_are_trees r in
        let own = part r.first (part r.step no_parts) in
        let its = sym (alone_value held turns tree (kind.Rec r.loop) r.width own tt canonical r.only) ∙ value in
        recurrence_value w r.loop.0 r.start out (r.more ∷ []) held turns (extended_number k (width_of tree) w n)
        (omega arith) (part_is_tree r.first r.start parts.1 r.starts)
        (part_is_tree r.step r.more parts.2 r.steps, tt) r.done
        (turn_keeps r (turns r.loop.0) n refl stays
        (subst (λ u. iterated (sum u) (turns r.loop.0) (tree_value held turns r.first)
        (tree_value held turns r.step ∷ []) ≡ Some n) parts.0 its))

    -- what comes out has the extended value
    pub within_value : (no_wrap : Bool) (n : ℕ)
        → extended_when k w no_wrap tree ≡ Done out
        → (IsTrue no_wrap → StaysInRange k held turns tree)
        → tree_value held turns tree ≡ Some n
        → tree_value held turns out ≡ Some (extended_number k (width_of tree) w n)
    within_value no_wrap n h stays value =
        elim (when_done k w no_wrap tree out h) [
          | inl plain ↦ extension_value held turns k w tree out n is most canonical plain value
          | inr known ↦ rec_keeps known.1 n (stays known.0) value
        ]
