-- Minima and maxima: the values of what is formed are what the rows give.
use Rattle.std.proofs.Common.{◌≡◌, ℕ, ◌^◌, ◌<◌, nat_le, nat_lt, cond, min, max, Option, Some}
use Rattle.std.proofs.Common.{ℤ, pos, negsuc, int_lt, int_le, refl, sym, ap, ◌∙◌, arith, inr}
use Rattle.std.proofs.lemmas.Bool.{cond_both, cond-true, cond-false, leb-true, leb-false, lt-ltb, le-ltb}
use Rattle.scev_base.specs.Residue.{reading}
use Rattle.scev_tree.specs.declared.kind.Kind.{Kind}
use Rattle.scev_tree.specs.declared.kind.Kind.TheVariants as kind
use Rattle.scev_tree.specs.Tree.{Tree}
use Rattle.scev_tree.specs.Value.{tree_value}
use Rattle.scev_forms.specs.Trees.{IsTreeOf}
use Rattle.scev_forms.specs.Outcome.{Done}
use Rattle.scev_forms.specs.Minima.{IsMinimum, chosen, tree_minimum}
use Rattle.scev_forms.proofs.Atoms.{number_small}
use Rattle.scev_forms.proofs.Choices.{kind_chooses}
use Rattle.scev_forms.proofs.Minima.{minimum_value}
use Rattle.ir_model.specs.declared.min_max.MinMax.{MinMax}
use Rattle.ir_model.specs.declared.min_max.MinMax.TheVariants.{Umin, Umax, Smin, Smax}
use Rattle.ir_meaning.specs.declared.value.Value.TheVariants as value
use Rattle.ir_meaning.specs.Rows.{min_max_row}
use Rattle.value_numbers.proofs.Told.{Follows, lifted_is}

-- the kind of a minimum or maximum
abbrev pub kind_of : MinMax → Kind
kind_of Umin = kind.Umin
kind_of Umax = kind.Umax
kind_of Smin = kind.Smin
kind_of Smax = kind.Smax

-- it is one of a minimum or a maximum
pub is_minimum : (mm : MinMax) → IsMinimum (kind_of mm)
is_minimum Umin = tt
is_minimum Umax = tt
is_minimum Smin = tt
is_minimum Smax = tt

-- what is chosen where one number is at most another is chosen the other way where that one is less
turned_numbers : (a b m n : ℕ) → cond (nat_le a b) m n ≡ cond (nat_lt b a) n m
turned_numbers a b m n =
    cond_both (nat_le a b) m n (λ k. k ≡ cond (nat_lt b a) n m)
    (λ yes. sym (cond-false (nat_lt b a) n m (le-ltb b a (leb-true a b yes))))
    (λ no. sym (cond-true (nat_lt b a) n m (lt-ltb b a (leb-false a b no))))

-- so it is of integers
turned_test : (i j : ℤ) (m n : ℕ) → cond (int_le i j) m n ≡ cond (int_lt j i) n m
turned_test (pos a) (pos b) m n = turned_numbers a b m n
turned_test (pos a) (negsuc b) m n = refl
turned_test (negsuc a) (pos b) m n = refl
turned_test (negsuc a) (negsuc b) m n = turned_numbers b a m n

-- the row gives the number that the kind chooses
row_chooses : (mm : MinMax) (w m n : ℕ)
    → 0 < w
    → m < 2 ^ w
    → n < 2 ^ w
    → min_max_row mm w m n ≡ value.Number (chosen (kind_of mm) w m n)
row_chooses Umin w m n some first second =
    ap value.Number (cond_both (nat_le m n) m n (λ k. k ≡ min m n)
    (λ yes. omega (arith, leb-true m n yes))
    (λ no. omega (arith, leb-false m n no)))
row_chooses Umax w m n some first second =
    ap value.Number (cond_both (nat_le m n) n m (λ k. k ≡ max m n)
    (λ yes. omega (arith, leb-true m n yes))
    (λ no. omega (arith, leb-false m n no)))
row_chooses Smin w m n some first second =
    ap value.Number (turned_test (reading w m) (reading w n) m n)
row_chooses Smax w m n some first second =
    ap value.Number (turned_test (reading w m) (reading w n) n m
    ∙ (kind_chooses kind.Smax w tt some).turned n m second first)

-- `llvm.smax` and its kin
pub minimum_row : (held : ℕ → Option ℕ) (turns : ℕ → ℕ) (mm : MinMax) (w : ℕ) (x y tree : Tree)
    → 0 < w
    → IsTreeOf w x
    → IsTreeOf w y
    → tree_minimum (kind_of mm) w x y ≡ Done tree
    → Follows (min_max_row mm w) (tree_value held turns x) (tree_value held turns y) (tree_value held turns tree)
minimum_row held turns mm w x y tree some l r h m n left right =
    let choice = chosen (kind_of mm) w m n in
    let given = row_chooses mm w m n some (number_small held turns w x m l left)
    (number_small held turns w y n r right) in
    inr (
      choice,
      ap Some given,
      minimum_value held turns (kind_of mm) w x y tree choice (is_minimum mm) some l r h
          (lifted_is _ _ _ m n left right),
    )
