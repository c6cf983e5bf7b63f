-- Sums, products and recurrences as they are formed, without a value and with one.
use Rattle.std.proofs.Common.{◌≡◌, ℕ, ◌<◌, List, ◌∷◌, map, Option, Some, None}
use Rattle.scev_base.specs.Iterated.{iterated}
use Rattle.scev_tree.specs.Tree.{Tree}
use Rattle.scev_tree.specs.Value.{sum, product, tree_value}
use Rattle.scev_forms.specs.Trees.{IsTreeOf, AreTreesOf}
use Rattle.scev_forms.specs.Outcome.{Done}
use Rattle.scev_forms.specs.Sums.{tree_sum, tree_product, recurrence_of}
use Rattle.scev_forms.proofs.Outcomes.{given}
use Rattle.scev_forms.proofs.Standing.{Stands, tree_stands, parts_stand, parts_value}
use Rattle.scev_forms.proofs.Formers.{tree_sum_stands, tree_product_stands, recurrence_of_stands}

module _ (held : ℕ → Option ℕ) (turns : ℕ → ℕ) where
  -- a sum that is formed stands for the sum of the values
  pub sum_formed : (parents : List (Option ℕ)) (w : ℕ) (left right tree : Tree)
      → 0 < w
      → IsTreeOf w left
      → IsTreeOf w right
      → tree_sum parents w left right ≡ Done tree
      → Stands held turns w (sum w (tree_value held turns left) (tree_value held turns right)) tree
  sum_formed parents w left right tree some h h' e =
      given (Stands held turns w _) (tree_sum parents w left right) tree
      (tree_sum_stands held turns w some parents (tree_value held turns left) (tree_value held turns right) left right
      (tree_stands held turns w left h) (tree_stands held turns w right h')) e

  -- a product that is formed stands for the product of the values
  pub product_formed : (parents : List (Option ℕ)) (w : ℕ) (left right tree : Tree)
      → 0 < w
      → IsTreeOf w left
      → IsTreeOf w right
      → tree_product parents w left right ≡ Done tree
      → Stands held turns w (product w (tree_value held turns left) (tree_value held turns right)) tree
  product_formed parents w left right tree some h h' e =
      given (Stands held turns w _) (tree_product parents w left right) tree
      (tree_product_stands held turns w some parents (tree_value held turns left) (tree_value held turns right) left
      right (tree_stands held turns w left h) (tree_stands held turns w right h')) e

  -- a recurrence that is formed stands for the iterated sum of the values of its parts
  pub recurrence_formed : (w l : ℕ) (parts : List Tree) (tree : Tree)
      → 0 < w
      → AreTreesOf w parts
      → recurrence_of w l parts ≡ Done tree
      → Stands held turns w (parts_value held turns w l parts) tree
  recurrence_formed w l parts tree some h e =
      given (Stands held turns w _) (recurrence_of w l parts) tree
      (recurrence_of_stands held turns w some l (parts_value held turns w l parts) parts
      (parts_stand held turns w l parts h)) e

-- ---- canonical, whatever registers hold

-- registers that hold nothing
nothing_held : ℕ → Option ℕ
nothing_held register = None

-- no turn of any loop
no_turns : ℕ → ℕ
no_turns l = 0

-- a sum is canonical
pub sum_canonical : (parents : List (Option ℕ)) (w : ℕ) (left right tree : Tree)
    → 0 < w
    → IsTreeOf w left
    → IsTreeOf w right
    → tree_sum parents w left right ≡ Done tree
    → IsTreeOf w tree
sum_canonical parents w left right tree some h h' e =
    (sum_formed nothing_held no_turns parents w left right tree some h h' e).0

-- a product is canonical
pub product_canonical : (parents : List (Option ℕ)) (w : ℕ) (left right tree : Tree)
    → 0 < w
    → IsTreeOf w left
    → IsTreeOf w right
    → tree_product parents w left right ≡ Done tree
    → IsTreeOf w tree
product_canonical parents w left right tree some h h' e =
    (product_formed nothing_held no_turns parents w left right tree some h h' e).0

-- a recurrence is canonical
pub recurrence_canonical : (w l : ℕ) (first tree : Tree) (parts : List Tree)
    → 0 < w
    → IsTreeOf w first
    → AreTreesOf w parts
    → recurrence_of w l (first ∷ parts) ≡ Done tree
    → IsTreeOf w tree
recurrence_canonical w l first tree parts some h hs e =
    (recurrence_formed nothing_held no_turns w l (first ∷ parts) tree some (h, hs) e).0

-- ---- values

-- a sum has the sum of the values, where that is a number
pub sum_value : (parents : List (Option ℕ)) (w : ℕ) (left right tree : Tree)
    (held : ℕ → Option ℕ) (turns : ℕ → ℕ) (n : ℕ)
    → 0 < w
    → IsTreeOf w left
    → IsTreeOf w right
    → tree_sum parents w left right ≡ Done tree
    → sum w (tree_value held turns left) (tree_value held turns right) ≡ Some n
    → tree_value held turns tree ≡ Some n
sum_value parents w left right tree held turns n some h h' e =
    (sum_formed held turns parents w left right tree some h h' e).1 n

-- a product has the product of the values, where that is a number
pub product_value : (parents : List (Option ℕ)) (w : ℕ) (left right tree : Tree)
    (held : ℕ → Option ℕ) (turns : ℕ → ℕ) (n : ℕ)
    → 0 < w
    → IsTreeOf w left
    → IsTreeOf w right
    → tree_product parents w left right ≡ Done tree
    → product w (tree_value held turns left) (tree_value held turns right) ≡ Some n
    → tree_value held turns tree ≡ Some n
product_value parents w left right tree held turns n some h h' e =
    (product_formed held turns parents w left right tree some h h' e).1 n

-- a recurrence has the iterated sum of the values of its parts, where that is a number
pub recurrence_value : (w l : ℕ) (first tree : Tree) (parts : List Tree)
    (held : ℕ → Option ℕ) (turns : ℕ → ℕ) (n : ℕ)
    → 0 < w
    → IsTreeOf w first
    → AreTreesOf w parts
    → recurrence_of w l (first ∷ parts) ≡ Done tree
    → iterated (sum w) (turns l) (tree_value held turns first) (map (tree_value held turns) parts) ≡ Some n
    → tree_value held turns tree ≡ Some n
recurrence_value w l first tree parts held turns n some h hs e =
    (recurrence_formed held turns w l (first ∷ parts) tree some (h, hs) e).1 n
