-- The expression of a value takes of the phis in progress those alone that it and that depend on it.
use Rattle.std.proofs.Common.{◌↔◌, ℕ, List, Contains}
use Rattle.scev_tree.specs.Tree.{Tree}
use Rattle.value_exprs.specs.View.{View}
use Rattle.value_exprs.specs.Dependence.{AreMutual, IsCut}
use Rattle.value_exprs.specs.Exprs.{IsExpr, opaque, pair, cast, named, advances, stays}

-- lists with the same ones of these have one cut
abbrev HaveSameMutual : View → ℕ → List ℕ → List ℕ → Type 0
HaveSameMutual view v progress other = (p : ℕ) → AreMutual view v p → Contains progress p ↔ Contains other p

cut_again : (view : View) (v : ℕ) (progress other cut : List ℕ)
    → HaveSameMutual view v progress other
    → IsCut view v progress cut
    → IsCut view v other cut
cut_again view v progress other cut same is = record {
  each = λ p. (
    λ there. let both = (is.each p).0 there in ((same p both.1).0 both.0, both.1),
    λ both. (is.each p).1 ((same p both.1).1 both.0, both.1),
  );
  once = is.once;
}

-- so a value has the same expression with both
pub mutual_count : (view : View) (other : List ℕ) {progress : List ℕ} {v : ℕ} {tree : Tree}
    → HaveSameMutual view v progress other
    → IsExpr view progress v tree
    → IsExpr view other v tree
mutual_count view other {progress} {v} same (opaque is) = opaque is
mutual_count view other {progress} {v} same (pair cut p left right x y is is_cut left_is right_is) =
    pair cut p left right x y is (cut_again view v progress other cut same is_cut) left_is right_is
mutual_count view other {progress} {v} same (cast cut op w of x is is_cut source_is) =
    cast cut op w of x is (cut_again view v progress other cut same is_cut) source_is
mutual_count view other {progress} {v} same (named cut start back is is_cut keeps) =
    named cut start back is (cut_again view v progress other cut same is_cut) keeps
mutual_count view other {progress} {v} same
    (advances cut start back l x y steps is within is_cut keeps_not next_is advance start_is) =
    advances cut start back l x y steps is within (cut_again view v progress other cut same is_cut) keeps_not next_is
    advance start_is
mutual_count view other {progress} {v} same (stays cut start back l y is within is_cut keeps_not next_is none) =
    stays cut start back l y is within (cut_again view v progress other cut same is_cut) keeps_not next_is none
