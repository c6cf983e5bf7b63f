-- Walks from parent to parent in a nest of loops.
use Rattle.std.proofs.Common.{◌≡◌, ℕ, zero, suc, ◌+◌, ◌<◌, ◌≤◌, true, false, List, [], ◌∷◌, length, Option, Some, None, eqb, refl, sym, ap, arith, inl, inr}
use Rattle.std.proofs.lemmas.Bool.{ne_eqb}
use Rattle.std.proofs.lemmas.Bool.Decides.{eqb_tells}
use Rattle.std.proofs.lemmas.Option.{slice_get_within}
use Rattle.std.proofs.lemmas.Map.Steps.{length-le_from_distinct_below}
use Rattle.std.specs.List.{slice_get, list_any, IsDistinct, AllByRecursion}
use Rattle.scev_base.specs.Nest.{Climbs, Contains, IsOutermost, HasDepth, IsNest}

-- a loop has one parent
one_parent : (parents : List (Option ℕ)) (l a b : ℕ) → slice_get parents l ≡ Some (Some a) → slice_get parents l ≡ Some (Some b) → a ≡ b
one_parent parents l a b p q = cc

-- one walk ends at an outermost loop
pub one_way : (parents : List (Option ℕ)) (n m l a b : ℕ) → Climbs parents n l a → IsOutermost parents a → Climbs parents m l b → IsOutermost parents b → n ≡ m
one_way parents zero zero l a b p end q stop = refl
one_way parents zero (suc m) l a b p end q stop = let first = q.1 in cc
one_way parents (suc n) zero l a b p end q stop = let first = p.1 in cc
one_way parents (suc n) (suc m) l a b p end q stop =
    let same = one_parent parents l p.0 q.0 p.1 q.1 in
    ap suc (one_way parents n m p.0 a b p.2 end (rw (sym same) at q.2) stop)

-- the depth is one number
pub one_depth : (parents : List (Option ℕ)) (l a b : ℕ) → HasDepth parents l a → HasDepth parents l b → a ≡ b
one_depth parents l a b p q =
    let same = one_way parents p.0 q.0 l p.1 q.1 p.3 p.4 q.3 q.4 in
    omega arith

-- the loops on a walk
visited : (parents : List (Option ℕ)) (n l top : ℕ) → Climbs parents n l top → List ℕ
visited parents zero l top walk = l ∷ []
visited parents (suc n) l top walk = l ∷ visited parents n walk.0 top walk.2

length-visited : (parents : List (Option ℕ)) (n l top : ℕ) (walk : Climbs parents n l top) → length (visited parents n l top walk) ≡ suc n
unfolding visited
length-visited parents zero l top walk = refl
length-visited parents (suc n) l top walk = ap suc (length-visited parents n walk.0 top walk.2)

-- loops from which the walks out differ in length are two
differ : (parents : List (Option ℕ)) (n m l x top : ℕ) → Climbs parents n l top → Climbs parents m x top → IsOutermost parents top → n < m → eqb x l ≡ false
differ parents n m l x top p q end less =
    ne_eqb x l (λ e. let same = one_way parents n m l top top p end (rw e at q) end in omega arith)

-- a loop from which the walk out is longer is none of those on a walk
apart : (parents : List (Option ℕ)) (n m l x top : ℕ) (walk : Climbs parents n l top) → Climbs parents m x top → IsOutermost parents top → n < m → AllByRecursion (λ y. eqb x y ≡ false) (visited parents n l top walk)
unfolding visited
apart parents zero m l x top walk q end less = (differ parents zero m l x top walk q end less, tt)
apart parents (suc n) m l x top walk q end less = (
  differ parents (suc n) m l x top walk q end less,
  apart parents n m walk.0 x top walk.2 q end (omega arith),
)

-- no loop comes twice on a walk that ends
no_loop_twice : (parents : List (Option ℕ)) (n l top : ℕ) (walk : Climbs parents n l top) → IsOutermost parents top → IsDistinct eqb (visited parents n l top walk)
unfolding visited IsDistinct
no_loop_twice parents zero l top walk end = (tt, tt)
no_loop_twice parents (suc n) l top walk end = (
  apart parents n (suc n) walk.0 l top walk.2 walk end (omega arith),
  no_loop_twice parents n walk.0 top walk.2 end,
)

-- a loop on a walk that ends is one of the list
listed : (parents : List (Option ℕ)) (n l top : ℕ) (walk : Climbs parents n l top) → IsOutermost parents top → (q : ℕ) → list_any (eqb q) (visited parents n l top walk) ≡ true → q < length parents
unfolding visited
listed parents zero l top walk end q member =
    elim (eqb_tells q l) [
      | inl same ↦ rw (same.1, walk) (slice_get_within parents top None end)
      | inr other ↦ let step = other.0 in absurd (cc)
    ]
listed parents (suc n) l top walk end q member =
    elim (eqb_tells q l) [
      | inl same ↦ rw (same.1) (slice_get_within parents l (Some walk.0) walk.1)
      | inr other ↦ listed parents n walk.0 top walk.2 end q (rw other.0 at member)
    ]

-- a walk that ends has fewer steps than the list has loops
pub steps_below : (parents : List (Option ℕ)) (n l top : ℕ) → Climbs parents n l top → IsOutermost parents top → n < length parents
steps_below parents n l top walk end =
    let most = length-le_from_distinct_below (visited parents n l top walk) (length parents) (no_loop_twice parents n l top walk end) (listed parents n l top walk end) in
    omega (arith, most, length-visited parents n l top walk)

-- one more than what a parent gives, 0 where there is none
abbrev one_more_than : (ℕ → ℕ) → Option (Option ℕ) → ℕ
one_more_than rest (Some (Some parent)) = suc (rest parent)
one_more_than rest (Some None) = 0
one_more_than rest None = 0

-- how many parents there are one behind another, up to a limit
pub height : List (Option ℕ) → ℕ → ℕ → ℕ
height parents zero l = 0
height parents (suc most) l = one_more_than (height parents most) (slice_get parents l)

-- that is the number of steps of a walk out, where the limit allows as many
height_of_walk : (parents : List (Option ℕ)) (most n l top : ℕ) → Climbs parents n l top → IsOutermost parents top → n ≤ most → height parents most l ≡ n
unfolding height
height_of_walk parents zero zero l top walk end less = refl
height_of_walk parents zero (suc n) l top walk end less = absurd (omega arith)
height_of_walk parents (suc most) zero l top walk end less = rw (walk, end) refl
height_of_walk parents (suc most) (suc n) l top walk end less =
    rw (walk.1) (ap suc (height_of_walk parents most n walk.0 top walk.2 end (omega arith)))

-- each step goes down by one
pub height_falls : (parents : List (Option ℕ)) (l parent : ℕ) → IsNest parents → slice_get parents l ≡ Some (Some parent) → height parents (length parents) parent < height parents (length parents) l
height_falls parents l parent nest step =
    let out = nest.ends parent (nest.within l parent step) in
    let n = out.1.0 in
    let top = out.1.1 in
    let walk = out.1.3 in
    let end = out.1.4 in
    let longer : Climbs parents (suc n) l top = (parent, step, walk) in
    let below = steps_below parents (suc n) l top longer end in
    omega (arith, height_of_walk parents (length parents) n parent top walk end (omega arith), height_of_walk parents (length parents) (suc n) l top longer end (omega arith))

-- one more step at the end of a walk
pub climbs_more : (parents : List (Option ℕ)) (n l at parent : ℕ) → Climbs parents n l at → slice_get parents at ≡ Some (Some parent) → Climbs parents (suc n) l parent
climbs_more parents zero l at parent walk step = (parent, rw walk step, refl)
climbs_more parents (suc n) l at parent walk step =
    (walk.0, walk.1, climbs_more parents n walk.0 at parent walk.2 step)

-- two walks, one behind the other
climbs_both : (parents : List (Option ℕ)) (n m l at top : ℕ) → Climbs parents n l at → Climbs parents m at top → (k : ℕ) × (k ≡ n + m) × Climbs parents k l top
climbs_both parents zero m l at top first second = (m, omega arith, rw first second)
climbs_both parents (suc n) m l at top first second =
    let rest = climbs_both parents n m first.0 at top first.2 second in
    (suc rest.0, omega (arith, rest.1), (first.0, first.1, rest.2))

-- where there is one more step, there are more loops than steps
pub climbs_below : (parents : List (Option ℕ)) (n l at parent : ℕ) → IsNest parents → Climbs parents n l at → slice_get parents at ≡ Some (Some parent) → n + 1 < length parents
climbs_below parents n l at parent nest walk step =
    let out = nest.ends parent (nest.within at parent step) in
    let whole = climbs_both parents (suc n) out.1.0 l parent out.1.1 (climbs_more parents n l at parent walk step) out.1.3 in
    omega (arith, whole.1, steps_below parents whole.0 l out.1.1 whole.2 out.1.4)

-- what contains a loop is the loop, or contains its parent
contains_by_parent : (parents : List (Option ℕ)) (n outer l parent : ℕ) → slice_get parents l ≡ Some (Some parent) → (l ≡ outer → ⊥) → Climbs parents n l outer → Contains parents outer parent
contains_by_parent parents zero outer l parent step other walk = absurd (other walk)
contains_by_parent parents (suc n) outer l parent step other walk =
    (n, rw (one_parent parents l walk.0 parent walk.1 step) at walk.2)

pub contains_parent : (parents : List (Option ℕ)) (outer l parent : ℕ) → slice_get parents l ≡ Some (Some parent) → (l ≡ outer → ⊥) → Contains parents outer l → Contains parents outer parent
contains_parent parents outer l parent step other inside =
    contains_by_parent parents inside.0 outer l parent step other inside.1

pub contained_by_parent : (parents : List (Option ℕ)) (outer l parent : ℕ) → slice_get parents l ≡ Some (Some parent) → Contains parents outer parent → Contains parents outer l
contained_by_parent parents outer l parent step inside =
    (suc inside.0, (parent, step, inside.1))

-- no other loop contains an outermost one
alone : (parents : List (Option ℕ)) (n outer l : ℕ) → IsOutermost parents l → (l ≡ outer → ⊥) → Climbs parents n l outer → ⊥
alone parents zero outer l end other walk = other walk
alone parents (suc n) outer l end other walk = let step = walk.1 in cc

pub outermost_alone : (parents : List (Option ℕ)) (outer l : ℕ) → IsOutermost parents l → (l ≡ outer → ⊥) → Contains parents outer l → ⊥
outermost_alone parents outer l end other inside =
    alone parents inside.0 outer l end other inside.1

-- what contains a container contains
pub contains_again : (parents : List (Option ℕ)) (a b c : ℕ) → Contains parents a b → Contains parents b c → Contains parents a c
contains_again parents a b c first second =
    let both = climbs_both parents second.0 first.0 c b a second.1 first.1 in
    (both.0, both.2)

-- a walk back to its own start has no steps, where there is a way out
no_way_back : (parents : List (Option ℕ)) (n m k a b top : ℕ) → Climbs parents n b a → Climbs parents m a b → Climbs parents k a top → IsOutermost parents top → a ≡ b
no_way_back parents zero m k a b top there back out end = sym there
no_way_back parents (suc n) m k a b top there back out end =
    let round = climbs_both parents m (suc n) a b a back there in
    let long = climbs_both parents round.0 k a a top round.2 out in
    let same = one_way parents long.0 k a top top long.2 end out end in
    absurd (omega (arith, round.1, long.1, same))

-- two loops that contain each other are one
pub contains_each_other : (parents : List (Option ℕ)) (a b : ℕ) → IsNest parents → a < length parents → Contains parents a b → Contains parents b a → a ≡ b
contains_each_other parents a b nest listed there back =
    let out = nest.ends a listed in
    no_way_back parents there.0 back.0 out.1.0 a b out.1.1 there.1 back.1 out.1.3 out.1.4

-- ---- which lists are nests

-- the way out of a loop, from that of its parent
longer_way_out : (parents : List (Option ℕ)) (l parent depth : ℕ) → slice_get parents l ≡ Some (Some parent)
    → HasDepth parents parent depth → HasDepth parents l (suc depth)
longer_way_out parents l parent depth step out =
    (suc out.0, out.1, omega (arith, out.2), (parent, step, out.3), out.4)

-- a loop of the list has an entry
entry_there : (parents : List (Option ℕ)) (l : ℕ) → slice_get parents l ≡ None → l < length parents → ⊥
entry_there [] l is listed = absurd (omega (arith, listed))
entry_there (parent ∷ parents) zero is listed = absurd (cc)
entry_there (parent ∷ parents) (suc l) is listed = entry_there parents l is (omega (arith, listed))

-- a loop has a way out where its parent has one, or where it has no parent
way_by_parent : (parents : List (Option ℕ)) (l : ℕ) (found : Option (Option ℕ)) → slice_get parents l ≡ found
    → l < length parents
    → ((parent : ℕ) → slice_get parents l ≡ Some (Some parent) → (depth : ℕ) × HasDepth parents parent depth)
    → (depth : ℕ) × HasDepth parents l depth
way_by_parent parents l None is listed ways = absurd (entry_there parents l is listed)
way_by_parent parents l (Some None) is listed ways = (1, (0, l, refl, refl, is))
way_by_parent parents l (Some (Some parent)) is listed ways =
    let out = ways parent is in (suc out.0, longer_way_out parents l parent out.0 is out.1)

-- each parent is a loop of the list, and a rank falls from each loop to its parent
module _ (parents : List (Option ℕ)) (rank : ℕ → ℕ)
    (within : (l parent : ℕ) → slice_get parents l ≡ Some (Some parent) → parent < length parents)
    (falls : (l parent : ℕ) → slice_get parents l ≡ Some (Some parent) → rank parent < rank l)
  where
    way_out : (most l : ℕ) → rank l < most → l < length parents → (depth : ℕ) × HasDepth parents l depth
    way_out zero l below listed = absurd (omega (arith, below))
    way_out (suc most) l below listed =
        way_by_parent parents l (slice_get parents l) refl listed
        (λ parent step. way_out most parent (omega (arith, falls l parent step, below)) (within l parent step))

    pub falling_nest : IsNest parents
    falling_nest = record {
      within = within;
      ends = λ l listed. way_out (suc (rank l)) l (omega arith) listed;
    }
