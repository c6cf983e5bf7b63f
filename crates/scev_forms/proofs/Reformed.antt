-- An atom that is formed anew, of trees that stand for the values of its parts, stands for its value.
use Rattle.std.proofs.Common.{◌≡◌, ℕ, ◌*◌, ◌%◌, ◌^◌, ◌<◌, ◌≤◌, List, [], ◌∷◌, Option, Some}
use Rattle.std.proofs.Common.{refl, sym, ap, ◌∙◌, subst, arith}
use Rattle.scev_base.specs.Residue.{residue, reading}
use Rattle.rec_algebra.proofs.AlgebraLemmas.{Each}
use Rattle.scev_tree.specs.declared.kind.Kind.{Kind}
use Rattle.scev_tree.specs.declared.kind.Kind.TheVariants as kind
use Rattle.scev_tree.specs.Tree.{Tree, Parts, atom, no_parts, part, width_of}
use Rattle.scev_tree.specs.Order.{count_parts}
use Rattle.scev_tree.specs.Canonical.{HaveWidth, HasParts}
use Rattle.scev_tree.specs.Value.{product, tree_value, values, parts_values, atom_value}
use Rattle.scev_tree.proofs.Arithmetic.{IsBelow}
use Rattle.scev_tree.proofs.Values.{tree_below}
use Rattle.scev_forms.specs.Outcome.{Outcome}
use Rattle.scev_forms.specs.Sums.{recurrence_of}
use Rattle.scev_forms.specs.Casts.{truncated, extended}
use Rattle.scev_forms.specs.Quotients.{tree_quotient}
use Rattle.scev_forms.specs.Minima.{IsMinimum}
use Rattle.scev_forms.specs.Turns.{minimum_of_all, sequence_of_all, reformed}
use Rattle.scev_forms.proofs.Outcomes.{Gives, gives_more}
use Rattle.scev_forms.proofs.Atoms.{atom_is_tree, of_atom_value}
use Rattle.scev_forms.proofs.CutNumbers.{both_numbers}
use Rattle.scev_forms.proofs.TruncatedValues.{mapped_number}
use Rattle.scev_forms.proofs.Minima.{kind_joined}
use Rattle.scev_forms.proofs.Supposed.{StandsIf, AllStandIf, once_if, quotient_if, recurrence_if}
use Rattle.scev_forms.proofs.Supposed.{truncated_if, extended_if}
use Rattle.scev_forms.proofs.FoldedValues.{minimum_of_all_if, sequence_of_all_if}

module _ (held : ℕ → Option ℕ) (turns : ℕ → ℕ) (P : Type 0) where
  -- each tree stands for the value of a part, at its width
  abbrev pub StandForParts : Parts → List Tree → Type 0
  StandForParts no_parts [] = Unit {0}
  StandForParts no_parts (tree ∷ trees) = ⊥
  StandForParts (part first parts) [] = ⊥
  StandForParts (part first parts) (tree ∷ trees) =
      StandsIf held turns P (width_of first) (tree_value held turns first) tree × StandForParts parts trees

  -- parts of one width
  all_of_width : (w : ℕ) (parts : Parts) (trees : List Tree)
      → HaveWidth w parts
      → StandForParts parts trees
      → AllStandIf held turns P w (values (parts_values held turns parts)) trees
  all_of_width w no_parts [] width h = tt
  all_of_width w no_parts (tree ∷ trees) width h = absurd h
  all_of_width w (part first parts) [] width h = absurd h
  all_of_width w (part first parts) (tree ∷ trees) width h = (
    subst (λ v. StandsIf held turns P v (tree_value held turns first) tree) width.0 h.0,
    all_of_width w parts trees width.1 h.1,
  )

  -- the values of such parts are below
  all_below : (w : ℕ) (parts : Parts)
      → HaveWidth w parts
      → Each (IsBelow w) (values (parts_values held turns parts))
  all_below w no_parts width = tt
  all_below w (part first parts) width =
      (subst (λ v. IsBelow v (tree_value held turns first)) width.0 (tree_below held turns first), all_below w parts width.1)

  -- of two parts or more there is a first one
  first_of_parts : (Q : Parts → List Tree → Type 0) (parts : Parts) (trees : List Tree)
      → 2 ≤ count_parts parts
      → StandForParts parts trees
      → ((first : Tree) (others : Parts) (tree : Tree) (more : List Tree) → Q (part first others) (tree ∷ more))
      → Q parts trees
  first_of_parts Q no_parts trees many h all = absurd (omega arith)
  first_of_parts Q (part first parts) [] many h all = absurd h
  first_of_parts Q (part first parts) (tree ∷ trees) many h all = all first parts tree trees

  module _ (parents : List (Option ℕ)) (w : ℕ) (some : 0 < w) where
    -- what is formed anew stands for the value of the atom
    abbrev pub ReformsTo : Kind → Parts → Outcome Tree → Type 0
    ReformsTo k parts o = Gives (StandsIf held turns P w (product w (atom_value held turns (atom k w parts)) (Some 1))) o

    -- which may be formed without the 1
    as_value : (k : Kind) (parts : Parts) (o : Outcome Tree)
        → Gives (StandsIf held turns P w (atom_value held turns (atom k w parts))) o
        → ReformsTo k parts o
    as_value k parts o h =
        let value = atom_value held turns (atom k w parts) in
        gives_more (StandsIf held turns P w value) (StandsIf held turns P w (product w value (Some 1))) o h
        (once_if held turns P w value)

    -- a minimum or a maximum
    minimum_reformed : (k : Kind) (first : Tree) (others : Parts) (tree : Tree) (more : List Tree)
        → IsMinimum k
        → HaveWidth w (part first others)
        → StandForParts (part first others) (tree ∷ more)
        → ReformsTo k (part first others) (minimum_of_all k w tree more)
    minimum_reformed k first others tree more is width h =
        let parts = part first others in
        let xs = values (parts_values held turns others) in
        let all = all_of_width w parts (tree ∷ more) width h in
        let below = all_below w parts width in
        let value = atom_value held turns (atom k w parts) in
        as_value k parts (minimum_of_all k w tree more)
        (subst (λ x. Gives (StandsIf held turns P w x) (minimum_of_all k w tree more))
        (sym (kind_joined held turns k w parts is))
        (minimum_of_all_if held turns P w some k is (tree_value held turns first) xs tree more below.0 below.1
        all.0 all.1))

    -- the same of parts of its width
    abbrev ReformedAs : Kind → Parts → List Tree → Type 0
    ReformedAs k parts trees =
        HaveWidth w parts → StandForParts parts trees → ReformsTo k parts (reformed parents w k trees)

    -- an atom of w bits is formed anew
    pub reforms : (k : Kind) (parts : Parts) (trees : List Tree)
        → HasParts k w parts
        → StandForParts parts trees
        → ReformsTo k parts (reformed parents w k trees)
    unfolding reformed
    reforms kind.Trunc (part first no_parts) (tree ∷ []) has h =
        as_value kind.Trunc (part first no_parts) (truncated parents w tree)
        (truncated_if held turns P w some parents (tree_value held turns first) tree (omega (arith, has, h.0.0.0))
        (refl, h.0.0.1) h.0.1)
    reforms kind.Trunc (part first no_parts) [] has h = absurd h
    reforms kind.Trunc (part first no_parts) (tree ∷ other ∷ trees) has h = absurd h.1
    reforms kind.Trunc _ trees has h = absurd has
    reforms kind.Zext (part first no_parts) (tree ∷ []) has h =
        let x = tree_value held turns first in
        as_value kind.Zext (part first no_parts) (extended kind.Zext w tree)
        (extended_if held turns P w kind.Zext x x tree tt (omega (arith, has, h.0.0.0)) (refl, h.0.0.1) h.0.1
        (λ p n e. (n, e, refl)))
    reforms kind.Zext (part first no_parts) [] has h = absurd h
    reforms kind.Zext (part first no_parts) (tree ∷ other ∷ trees) has h = absurd h.1
    reforms kind.Zext _ trees has h = absurd has
    reforms kind.Sext (part first no_parts) (tree ∷ []) has h =
        let x = tree_value held turns first in
        as_value kind.Sext (part first no_parts) (extended kind.Sext w tree)
        (extended_if held turns P w kind.Sext x (atom_value held turns (atom kind.Sext w (part first no_parts))) tree tt
        (omega (arith, has, h.0.0.0)) (refl, h.0.0.1) h.0.1
        (λ p n e.
        let number = mapped_number (λ m. residue w (reading (width_of first) m)) x n e in
        (number.0, number.1, ap (λ v. residue w (reading v number.0)) h.0.0.0 ∙ number.2)))
    reforms kind.Sext (part first no_parts) [] has h = absurd h
    reforms kind.Sext (part first no_parts) (tree ∷ other ∷ trees) has h = absurd h.1
    reforms kind.Sext _ trees has h = absurd has
    reforms kind.Udiv (part over (part by no_parts)) (left ∷ right ∷ []) has h =
        let parts = part over (part by no_parts) in
        let all = all_of_width w parts (left ∷ right ∷ []) has.1 h in
        as_value kind.Udiv parts (tree_quotient w left right)
        (quotient_if held turns P w some (tree_value held turns over) (tree_value held turns by) left right all.0
        all.1.0)
    reforms kind.Udiv (part over (part by no_parts)) [] has h = absurd h
    reforms kind.Udiv (part over (part by no_parts)) (left ∷ []) has h = absurd h.1
    reforms kind.Udiv (part over (part by no_parts)) (left ∷ right ∷ other ∷ trees) has h = absurd h.1.1
    reforms kind.Udiv _ trees has h = absurd (let two = has.0 in omega arith)
    reforms kind.Smax parts trees has h =
        first_of_parts (ReformedAs kind.Smax) parts trees has.0 h
        (λ first others tree more. minimum_reformed kind.Smax first others tree more tt) has.1 h
    reforms kind.Umax parts trees has h =
        first_of_parts (ReformedAs kind.Umax) parts trees has.0 h
        (λ first others tree more. minimum_reformed kind.Umax first others tree more tt) has.1 h
    reforms kind.Smin parts trees has h =
        first_of_parts (ReformedAs kind.Smin) parts trees has.0 h
        (λ first others tree more. minimum_reformed kind.Smin first others tree more tt) has.1 h
    reforms kind.Umin parts trees has h =
        first_of_parts (ReformedAs kind.Umin) parts trees has.0 h
        (λ first others tree more. minimum_reformed kind.Umin first others tree more tt) has.1 h
    reforms kind.Seq parts trees has h =
        first_of_parts (ReformedAs kind.Seq) parts trees has.0 h
        (λ first others tree more width both.
        let all = all_of_width w (part first others) (tree ∷ more) width both in
        as_value kind.Seq (part first others) (sequence_of_all w tree more)
        (sequence_of_all_if held turns P w some (tree_value held turns first) (values (parts_values held turns others))
        tree more all.0 all.1))
        has.1 h
    reforms (kind.Rec loop) parts trees has h =
        first_of_parts (ReformedAs (kind.Rec loop)) parts trees has.0 h
        (λ first others tree more width both.
        as_value (kind.Rec loop) (part first others) (recurrence_of w loop.0 (tree ∷ more))
        (recurrence_if held turns P w some loop.0 (values (parts_values held turns (part first others))) (tree ∷ more)
        (all_of_width w (part first others) (tree ∷ more) width both)))
        has.1 h
    reforms (kind.Leaf register loop) no_parts [] has h =
        let a = atom (kind.Leaf register loop) w no_parts in (
          atom_is_tree w a some (refl, has, tt),
          λ p n e.
              let both = both_numbers (λ i j. i * j % 2 ^ w) (atom_value held turns a) (Some 1) n e in
              let once : both.0 * both.1 ≡ both.0 = let one : 1 ≡ both.1 = cc in omega (arith, ap (λ k. both.0 * k) one) in
              of_atom_value held turns w a both.0 both.2 ∙ ap Some (ap (λ k. k % 2 ^ w) (sym once) ∙ both.4),
        )
    reforms (kind.Leaf register loop) no_parts (tree ∷ trees) has h = absurd h
    reforms (kind.Leaf register loop) (part first parts) trees has h = absurd cc
