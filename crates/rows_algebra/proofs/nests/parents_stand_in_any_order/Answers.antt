use Rattle.std.proofs.Common.{◌≡◌, ℕ, zero, suc, ◌<◌, List, [], ◌∷◌, Option, Some, None}
use Rattle.std.proofs.Common.{slice_get, refl, arith}
use Rattle.scev_base.specs.Nest.{HasDepth, IsNest}
use Rattle.rows_algebra.proofs.nests.parents_stand_in_any_order.Goals as goal

abbrev three : List (Option ℕ)
three = Some 2 ∷ None ∷ Some 1 ∷ []

within_three : (l parent : ℕ) → slice_get three l ≡ Some (Some parent) → parent < 3
within_three zero parent e = let same : 2 ≡ parent = cc in omega arith
within_three (suc zero) parent e = absurd (cc)
within_three (suc (suc zero)) parent e = let same : 1 ≡ parent = cc in omega arith
within_three (suc (suc (suc l))) parent e = absurd (cc)

ends_in_three : (l : ℕ) → l < 3 → (depth : ℕ) × HasDepth three l depth
ends_in_three zero below = (3, (2, 1, refl, (2, refl, (1, refl, refl)), refl))
ends_in_three (suc zero) below = (1, (0, 1, refl, refl, refl))
ends_in_three (suc (suc zero)) below = (2, (1, 1, refl, (1, refl, refl), refl))
ends_in_three (suc (suc (suc l))) below = absurd (omega arith)

nest_of_three : IsNest three
nest_of_three = record { within = within_three; ends = ends_in_three }

pub new-nest-requires : goal.new-nest-requires
new-nest-requires g c = rw c.in_ok-parents.ensures nest_of_three
