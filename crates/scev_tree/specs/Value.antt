-- What a tree stands for, given the numbers that registers hold and the turns of the loops.
use Rattle.std.specs.Prelude.{ℕ, zero, ◌+◌, ◌*◌, ◌/◌, ◌%◌, ◌^◌, List, [], ◌∷◌, map, min, max, if◌then◌else◌}
use Rattle.std.specs.Prelude.{Option, Some, None, option_map, int_lt}
use Rattle.scev_base.specs.Iterated.{iterated}
use Rattle.scev_base.specs.Residue.{residue, reading}
use Rattle.scev_tree.specs.declared.kind.Kind.{Kind}
use Rattle.scev_tree.specs.declared.kind.Kind.TheVariants as kind
use Rattle.scev_tree.specs.Tree.{Tree, Terms, Factors, Atom, Parts, polynomial, no_terms, term, no_factors, factor}
use Rattle.scev_tree.specs.Tree.{atom, no_parts, part, width_of}

-- ---- numbers, or none

-- what an operation gives of two numbers; there is none where one side has none
abbrev pub lifted : (ℕ → ℕ → ℕ) → Option ℕ → Option ℕ → Option ℕ
lifted op (Some a) (Some b) = Some (op a b)
lifted op _ _ = None

-- sums and products modulo 2^w
abbrev pub sum : ℕ → Option ℕ → Option ℕ → Option ℕ
sum w = lifted (λ a b. (a + b) % 2 ^ w)

abbrev pub product : ℕ → Option ℕ → Option ℕ → Option ℕ
product w = lifted (λ a b. (a * b) % 2 ^ w)

-- the quotient, rounded down; there is none by 0
abbrev pub quotient : Option ℕ → Option ℕ → Option ℕ
quotient a (Some zero) = None
quotient a b = lifted ◌/◌ a b

-- of two numbers of w bits the one that is greater, or less, where they are read as signed
abbrev pub signed_max : ℕ → ℕ → ℕ → ℕ
signed_max w a b = if int_lt (reading w a) (reading w b) then b else a

abbrev pub signed_min : ℕ → ℕ → ℕ → ℕ
signed_min w a b = if int_lt (reading w b) (reading w a) then b else a

-- the numbers of a list, one after another; none has none
abbrev pub joined : (ℕ → ℕ → ℕ) → List (Option ℕ) → Option ℕ
joined op [] = None
joined op (x ∷ []) = x
joined op (x ∷ y ∷ xs) = lifted op x (joined op (y ∷ xs))

-- the least number of a list, which is 0 at the first 0, whatever stands behind it
abbrev pub least_in_sequence : List (Option ℕ) → Option ℕ
least_in_sequence [] = None
least_in_sequence (x ∷ []) = x
least_in_sequence (Some zero ∷ y ∷ xs) = Some zero
least_in_sequence (x ∷ y ∷ xs) = lifted min x (least_in_sequence (y ∷ xs))

-- ---- atoms

-- the width of a part, and its value
pub record Valued : Type 0 where
  pub width : ℕ
  pub value : Option ℕ

abbrev pub values : List Valued → List (Option ℕ)
values parts = map (λ p. p.value) parts

-- The value of an atom of w bits, of those of its parts. A register has the number that it holds, and none where that
-- is poison. A recurrence is the iterated sum of its parts at its loop's turn, so at turn 0 it is its first part,
-- whatever the others are. No atom has other parts than these.
abbrev pub kind_value : (ℕ → Option ℕ) → (ℕ → ℕ) → ℕ → Kind → List Valued → Option ℕ
kind_value held turns w kind.Trunc (p ∷ []) = option_map (λ n. n % 2 ^ w) p.value
kind_value held turns w kind.Zext (p ∷ []) = p.value
kind_value held turns w kind.Sext (p ∷ []) = option_map (λ n. residue w (reading p.width n)) p.value
kind_value held turns w kind.Udiv (p ∷ q ∷ []) = quotient p.value q.value
kind_value held turns w kind.Smax parts = joined (signed_max w) (values parts)
kind_value held turns w kind.Umax parts = joined max (values parts)
kind_value held turns w kind.Smin parts = joined (signed_min w) (values parts)
kind_value held turns w kind.Umin parts = joined min (values parts)
kind_value held turns w kind.Seq parts = least_in_sequence (values parts)
kind_value held turns w (kind.Rec loop) (p ∷ parts) = iterated (sum w) (turns loop.0) p.value (values parts)
kind_value held turns w (kind.Leaf register loop) [] = held register.0
kind_value held turns w _ _ = None

-- ---- trees

-- The value of a tree: a number below 2^w, or none.
abbrev mutual
  pub tree_value : (ℕ → Option ℕ) → (ℕ → ℕ) → Tree → Option ℕ
  tree_value held turns (polynomial w terms) = terms_value held turns w terms

  pub terms_value : (ℕ → Option ℕ) → (ℕ → ℕ) → ℕ → Terms → Option ℕ
  terms_value held turns w no_terms = Some 0
  terms_value held turns w (term factors coefficient terms) =
      sum w (product w (factors_value held turns w factors) (Some coefficient)) (terms_value held turns w terms)

  pub factors_value : (ℕ → Option ℕ) → (ℕ → ℕ) → ℕ → Factors → Option ℕ
  factors_value held turns w no_factors = Some 1
  factors_value held turns w (factor a factors) =
      product w (atom_value held turns a) (factors_value held turns w factors)

  pub atom_value : (ℕ → Option ℕ) → (ℕ → ℕ) → Atom → Option ℕ
  atom_value held turns (atom kind w parts) = kind_value held turns w kind (parts_values held turns parts)

  pub parts_values : (ℕ → Option ℕ) → (ℕ → ℕ) → Parts → List Valued
  parts_values held turns no_parts = []
  parts_values held turns (part tree parts) =
      record { width = width_of tree; value = tree_value held turns tree } ∷ parts_values held turns parts
