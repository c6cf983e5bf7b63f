-- The order of codes, number by number.
use Rattle.std.proofs.Common.{◌≡◌, ℕ, true, List, [], ◌∷◌, ◌++◌, Ordering, Less, Equal, Greater, refl, sym, ap, ◌∙◌}
use Rattle.std.proofs.Common.{arith}
use Rattle.std.specs.Ordering.{MatchOrdering, nat_cmp, ordering_then}
use Rattle.std.proofs.lemmas.Bool.Decides.{nat_tests}
use Rattle.std.proofs.lemmas.Cmp.{ranked}
use Rattle.std.proofs.lemmas.List.{append-nil}
use Rattle.scev_tree.specs.Order.{lower}
use Rattle.scev_tree.proofs.Lower.{lower_first, same_first}
use Rattle.scev_walk.specs.Reading.{code_order}

-- ---- orders, one after another

then_assoc : (o p q : Ordering) → ordering_then (ordering_then o p) q ≡ ordering_then o (ordering_then p q)
then_assoc Less p q = refl
then_assoc Equal p q = refl
then_assoc Greater p q = refl

pub then_equal : (o : Ordering) → ordering_then o Equal ≡ o
then_equal Less = refl
then_equal Equal = refl
then_equal Greater = refl

-- what isn't equal decides
pub first_decides : (o p : Ordering) → (o ≡ Equal → ⊥) → ordering_then o p ≡ o
first_decides Less p differ = refl
first_decides Equal p differ = absurd (differ refl)
first_decides Greater p differ = refl

-- two orders whose second parts differ only where the first isn't equal
then_where_equal : (o p q : Ordering) → (o ≡ Equal → p ≡ q) → ordering_then o p ≡ ordering_then o q
then_where_equal Less p q same = refl
then_where_equal Equal p q same = same refl
then_where_equal Greater p q same = refl

-- ---- of numbers

pub number_itself : (n : ℕ) → nat_cmp n n ≡ Equal
number_itself n = grind (arith, nat_tests)

one_number : (m n : ℕ) → nat_cmp m n ≡ Equal → m ≡ n
one_number m n e = ranked m n Equal (sym e)

-- ---- of codes

pub code_itself : (code : List ℕ) → code_order code code ≡ Equal
code_itself [] = refl
code_itself (n ∷ code) = ap (λ o. ordering_then o (code_order code code)) (number_itself n) ∙ code_itself code

-- one number more in front
more : (m n : ℕ) (ms ns : List ℕ) (o r : Ordering) → o ≡ nat_cmp m n
    → MatchOrdering r (lower ms ns ≡ true) (ms ≡ ns) (lower ns ms ≡ true)
    → MatchOrdering (ordering_then o r) (lower (m ∷ ms) (n ∷ ns) ≡ true) (m ∷ ms ≡ n ∷ ns)
    (lower (n ∷ ns) (m ∷ ms) ≡ true)
more m n ms ns Less r e h = lower_first m n (lower ms ns) (ranked m n Less e)
more m n ms ns Equal Less e h = same_first m n (lower ms ns) (ranked m n Equal e) ∙ h
more m n ms ns Equal Equal e h = let first : m ≡ n = ranked m n Equal e in cc
more m n ms ns Equal Greater e h = same_first n m (lower ns ms) (sym (ranked m n Equal e)) ∙ h
more m n ms ns Greater r e h = lower_first n m (lower ns ms) (ranked m n Greater e)

-- the order is that of `lower`
pub order_tells : (a b : List ℕ)
    → MatchOrdering (code_order a b) (lower a b ≡ true) (a ≡ b) (lower b a ≡ true)
order_tells [] [] = refl
order_tells [] (n ∷ b) = refl
order_tells (m ∷ a) [] = refl
order_tells (m ∷ a) (n ∷ b) = more m n a b (nat_cmp m n) (code_order a b) refl (order_tells a b)

-- Of codes of which neither is a beginning of the other, what stands behind them counts only where they are one.
pub codes_then : (a b x y : List ℕ)
    → ((u v : List ℕ) → a ++ u ≡ b ++ v → a ≡ b)
    → code_order (a ++ x) (b ++ y) ≡ ordering_then (code_order a b) (code_order x y)
codes_then [] [] x y apart = refl
codes_then [] (n ∷ b) x y apart = let same = apart (n ∷ b) [] (sym (append-nil (n ∷ b))) in absurd cc
codes_then (m ∷ a) [] x y apart = let same = apart [] (m ∷ a) (append-nil (m ∷ a)) in absurd cc
codes_then (m ∷ a) (n ∷ b) x y apart =
    then_where_equal (nat_cmp m n) (code_order (a ++ x) (b ++ y))
    (ordering_then (code_order a b) (code_order x y))
    (λ e. codes_then a b x y (λ u v rest.
    let first : m ≡ n = one_number m n e in
    let same = apart u v (cc) in
    cc))
    ∙ sym (then_assoc (nat_cmp m n) (code_order a b) (code_order x y))

-- ---- lists, one by one

-- where two of them are equal, those behind decide
pub goes_on : (from first behind whole : Ordering) → from ≡ whole → from ≡ ordering_then first behind → Equal ≡ first
    → behind ≡ whole
goes_on from Less behind whole e f g = absurd (cc g)
goes_on from Equal behind whole e f g = sym f ∙ e
goes_on from Greater behind whole e f g = absurd (cc g)

-- else these two do
pub ends_here : (from first behind whole o : Ordering) → from ≡ whole → from ≡ ordering_then first behind → o ≡ first
    → (o ≡ Equal → ⊥)
    → o ≡ whole
ends_here from first behind whole o e f g differ =
    g ∙ sym (first_decides first behind (λ h. differ (g ∙ h))) ∙ sym f ∙ e
