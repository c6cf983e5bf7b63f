-- Lists with the same phis in progress have cuts with the same ones, and as many.
use Rattle.std.proofs.Common.{◌≡◌, ◌≢◌, ◌↔◌, ℕ, zero, suc, List, ◌∷◌, length, AllPairs, Contains, arith}
use Rattle.std.specs.Cmp.{nat_eq_equiv}
use Rattle.std.proofs.lemmas.Bool.Decides.{Decides-eqb, Decides-like, same_from_decides}
use Rattle.std.proofs.lemmas.Map.Made.{IsDistinct-from_AllPairs, is_member-Decides, length-from_same_keys}
use Rattle.value_exprs.specs.View.{View}
use Rattle.value_exprs.specs.Dependence.{IsCut}
use Rattle.value_exprs.specs.Exprs.{KeepsName, in_progress, large_group, fifth}

-- two lists have the same members
abbrev pub HaveSame : List ℕ → List ℕ → Type 0
HaveSame left right = (p : ℕ) → Contains left p ↔ Contains right p

pub same_back : (left right : List ℕ) → HaveSame left right → HaveSame right left
same_back left right same p = ((same p).1, (same p).0)

member_behind_first : (v : ℕ) (left right : List ℕ) → HaveSame left right
    → (p : ℕ) → Contains (v ∷ left) p → Contains (v ∷ right) p
member_behind_first v left right same p (zero, within, is) = (0, omega arith, is)
member_behind_first v left right same p (suc k, within, is) =
    let there = (same p).0 (k, omega arith, is) in
    (suc there.0, omega (arith, there.1), there.2)

-- so they do with one more at the front of each
pub same_with_first : (v : ℕ) (left right : List ℕ) → HaveSame left right → HaveSame (v ∷ left) (v ∷ right)
same_with_first v left right same p = (
  member_behind_first v left right same p,
  member_behind_first v right left (same_back left right same) p,
)

-- lists with the same members, each once, are as long as each other
pub same_length : (left right : List ℕ) → AllPairs (λ a b. a ≢ b) left → AllPairs (λ a b. a ≢ b) right
    → HaveSame left right → length left ≡ length right
same_length left right left_once right_once same =
    length-from_same_keys nat_eq_equiv left right
    (IsDistinct-from_AllPairs Decides-eqb left left_once)
    (IsDistinct-from_AllPairs Decides-eqb right right_once)
    (λ q. same_from_decides _ _
    (is_member-Decides Decides-eqb left q)
    (Decides-like _ (same q).1 (same q).0 (is_member-Decides Decides-eqb right q)))

-- cuts of lists with the same members have the same members
pub same_cuts : (view : View) (v : ℕ) (progress other cut cut' : List ℕ)
    → HaveSame progress other
    → IsCut view v progress cut
    → IsCut view v other cut'
    → HaveSame cut cut'
same_cuts view v progress other cut cut' same is is' p = (
  λ there. let both = (is.each p).0 there in (is'.each p).1 ((same p).0 both.0, both.1),
  λ there. let both = (is'.each p).0 there in (is.each p).1 ((same p).1 both.0, both.1),
)

-- a phi that keeps its name with one of them keeps it with the other one
keeps_with : (view : View) (v : ℕ) (cut cut' : List ℕ) → HaveSame cut cut' → length cut ≡ length cut'
    → KeepsName view v cut → KeepsName view v cut'
keeps_with view v cut cut' same long (in_progress there) = in_progress ((same v).0 there)
keeps_with view v cut cut' same long (large_group group is large) = large_group group is large
keeps_with view v cut cut' same long (fifth many) = fifth (omega (arith, many, long))

pub keeps_too : (view : View) (v : ℕ) (progress other cut cut' : List ℕ)
    → HaveSame progress other
    → IsCut view v progress cut
    → IsCut view v other cut'
    → KeepsName view v cut
    → KeepsName view v cut'
keeps_too view v progress other cut cut' same is is' keeps =
    let members = same_cuts view v progress other cut cut' same is is' in
    keeps_with view v cut cut' members (same_length cut cut' is.once is'.once members) keeps
