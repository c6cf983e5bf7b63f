-- The texts of expressions.
use Rattle.std.specs.Prelude.{ℕ, pos, zero, suc, List, [], ◌∷◌, ◌++◌, Option, Some, None, slice_get, codes}
use Rattle.std.specs.List.{flat_map}
use Rattle.scev_base.specs.declared.ids.BlockId.{BlockId}
use Rattle.scev_base.specs.declared.ids.LoopId.{LoopId}
use Rattle.scev_tree.specs.declared.kind.Kind.{Kind}
use Rattle.scev_tree.specs.declared.kind.Kind.TheVariants as kind
use Rattle.scev_tree.specs.Tree.{Tree, Terms, Factors, Atom, Parts, polynomial, no_terms, term, no_factors, factor}
use Rattle.scev_tree.specs.Tree.{atom, no_parts, part, width_of}
use Rattle.ir_model.specs.declared.types.IrType.TheVariants.{Int}
use Rattle.ir_grammar.specs.Printing.{Shown, joined, number_text, type_text, block_text}

-- ---- small parts

-- a number of w bits: its signed reading, or `true` or `false` at one bit
abbrev pub constant_text : ℕ → ℕ → List ℕ
constant_text w n = number_text (Int w) (pos n)

-- texts with a separator between them
abbrev pub listed : List ℕ → List (List ℕ) → List ℕ
listed between texts = joined (λ text. text) between texts

-- texts, each behind a separator
abbrev pub each_behind : List ℕ → List (List ℕ) → List ℕ
each_behind before texts = flat_map (λ text. before ++ text) texts

-- one text as it is, and several in parentheses, with a separator between them
abbrev pub enclosed : List ℕ → List (List ℕ) → List ℕ
enclosed between (text ∷ []) = text
enclosed between texts = codes "(" ++ (listed between texts ++ codes ")")

-- the header of a loop, with its sigil; nothing for a loop that isn't among these
abbrev pub header_text : Shown → Option BlockId → List ℕ
header_text shown None = []
header_text shown (Some b) = block_text shown b.0

-- ---- monomials

-- A coefficient before the texts of factors. It isn't written before factors where it is 1.
abbrev pub with_coefficient : ℕ → ℕ → List (List ℕ) → List (List ℕ)
with_coefficient w n [] = constant_text w n ∷ []
with_coefficient w (suc zero) (text ∷ texts) = text ∷ texts
with_coefficient w n texts = constant_text w n ∷ texts

-- a constant, one factor, or the product of the coefficient and the factors
abbrev pub monomial_text : ℕ → ℕ → List (List ℕ) → List ℕ
monomial_text w n texts = enclosed (codes " * ") (with_coefficient w n texts)

-- a sum of monomials in order; that of none is 0
abbrev pub sum_text : ℕ → List (List ℕ) → List ℕ
sum_text w [] = constant_text w 0
sum_text w (text ∷ texts) = enclosed (codes " + ") (text ∷ texts)

-- ---- atoms

-- the width of the first part
abbrev pub part_width : Parts → ℕ
part_width no_parts = 0
part_width (part tree parts) = width_of tree

-- `(word iF X to iW)`
abbrev pub cast_text : List ℕ → ℕ → ℕ → List (List ℕ) → List ℕ
cast_text word from w texts = codes "(" ++ (word ++ (type_text (Int from) ++ (32 ∷ (listed [] texts
    ++ (codes " to " ++ (type_text (Int w) ++ codes ")"))))))

-- `{first,+,second}<%header>`
abbrev pub recurrence_text : Shown → List BlockId → LoopId → List (List ℕ) → List ℕ
recurrence_text shown headers loop texts = codes "{" ++ (listed (codes ",+,") texts
    ++ (codes "}<" ++ (header_text shown (slice_get headers loop.0) ++ codes ">")))

-- an atom of a width, of the width of its first part and the texts of its parts
abbrev pub kind_text : Shown → List BlockId → Kind → ℕ → ℕ → List (List ℕ) → List ℕ
kind_text shown headers kind.Trunc w from texts = cast_text (codes "trunc ") from w texts
kind_text shown headers kind.Zext w from texts = cast_text (codes "zext ") from w texts
kind_text shown headers kind.Sext w from texts = cast_text (codes "sext ") from w texts
kind_text shown headers kind.Udiv w from texts = enclosed (codes " /u ") texts
kind_text shown headers kind.Smax w from texts = enclosed (codes " smax ") texts
kind_text shown headers kind.Umax w from texts = enclosed (codes " umax ") texts
kind_text shown headers kind.Smin w from texts = enclosed (codes " smin ") texts
kind_text shown headers kind.Umin w from texts = enclosed (codes " umin ") texts
kind_text shown headers kind.Seq w from texts = enclosed (codes " umin_seq ") texts
kind_text shown headers (kind.Rec loop) w from texts = recurrence_text shown headers loop texts
kind_text shown headers (kind.Leaf register home) w from texts = 37 ∷ shown.values register.0

-- ---- trees

-- The text of an expression: registers and headers by the names that are shown of them, and the header of each loop by
-- a list.
unfoldable mutual
  pub tree_text : Shown → List BlockId → Tree → List ℕ
  tree_text shown headers (polynomial w terms) = sum_text w (terms_texts shown headers w terms)

  pub terms_texts : Shown → List BlockId → ℕ → Terms → List (List ℕ)
  terms_texts shown headers w no_terms = []
  terms_texts shown headers w (term factors n terms) =
      monomial_text w n (factors_texts shown headers factors) ∷ terms_texts shown headers w terms

  pub factors_texts : Shown → List BlockId → Factors → List (List ℕ)
  factors_texts shown headers no_factors = []
  factors_texts shown headers (factor a factors) = atom_text shown headers a ∷ factors_texts shown headers factors

  pub atom_text : Shown → List BlockId → Atom → List ℕ
  atom_text shown headers (atom k w parts) =
      kind_text shown headers k w (part_width parts) (parts_texts shown headers parts)

  pub parts_texts : Shown → List BlockId → Parts → List (List ℕ)
  parts_texts shown headers no_parts = []
  parts_texts shown headers (part tree parts) = tree_text shown headers tree ∷ parts_texts shown headers parts
