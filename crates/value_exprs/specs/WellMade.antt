-- What holds of the view of a function that is accepted.
use Rattle.std.specs.Prelude.{◌≡◌, ℕ, ◌<◌, ◌≤◌, ◌^◌, All, Contains, length, Option, Some, None}
use Rattle.scev_base.specs.declared.ids.LoopId.{LoopId}
use Rattle.scev_base.specs.declared.ids.ValueId.{ValueId}
use Rattle.scev_base.specs.Nest.{IsNest}
use Rattle.ir_model.specs.declared.op.CastOp.{CastOp}
use Rattle.ir_model.specs.declared.op.CastOp.TheVariants as cast
use Rattle.value_view.specs.declared.reading.Reading.{Reading}
use Rattle.value_view.specs.declared.source.Source.{Source}
use Rattle.value_view.specs.declared.source.Source.TheVariants.{Number, Register}
use Rattle.value_view.specs.declared.given.Given.{Given}
use Rattle.value_view.specs.declared.given.Given.TheVariants as given
use Rattle.value_exprs.specs.View.{View, row_of, reads_of, conditions_of, home, outside, number_of_loop}
use Rattle.value_exprs.specs.Dependence.{IsTurn}

-- an operand of w bits of a value, read at a place: a number below 2^w, or a register of that width, that the value
-- reads there
abbrev pub IsSource : View → ℕ → ℕ → Option ℕ → Source → Type 0
IsSource view v w place (Number n) = n < 2 ^ w
IsSource view v w place (Register x) = (x.0 < length view.rows) × ((row_of view x.0).bits ≡ w)
    × ((reading : Reading) × Contains (reads_of view v) reading × (reading.register ≡ x)
    × (number_of_loop reading.place ≡ place))

-- a rank is lower
abbrev pub IsBelow : (ℕ → ℕ) → ℕ → Source → Type 0
IsBelow rank v (Number n) = Unit {0}
IsBelow rank v (Register x) = rank x.0 < rank v

-- an extension isn't to fewer bits, and a truncation isn't to more
abbrev pub AreCastWidths : CastOp → ℕ → ℕ → Type 0
AreCastWidths cast.Zext from to = from ≤ to
AreCastWidths cast.Sext from to = from ≤ to
AreCastWidths cast.Trunc from to = to ≤ from

abbrev pub IsWidth : ℕ → Type 0
IsWidth w = (1 ≤ w) × (w ≤ 64)

-- What gives a value is read at the value's block, and at the edges into a header; each operand but that of the back
-- edges has a lower rank.
abbrev pub IsWellGiven : View → (ℕ → ℕ) → ℕ → Given → Type 0
IsWellGiven view rank v given.Opaque = Unit {0}
IsWellGiven view rank v (given.Pair p left right) = IsWidth (row_of view v).bits
    × IsSource view v (row_of view v).bits (number_of_loop (home view v)) left
    × IsSource view v (row_of view v).bits (number_of_loop (home view v)) right
    × IsBelow rank v left × IsBelow rank v right
IsWellGiven view rank v (given.Cast op w of) = IsWidth (row_of view v).bits × IsWidth w
    × AreCastWidths op w (row_of view v).bits
    × IsSource view v w (number_of_loop (home view v)) of × IsBelow rank v of
IsWellGiven view rank v (given.Header start back) = IsWidth (row_of view v).bits × IsTurn view v
    × ((l : LoopId) × (home view v ≡ Some l)
    × IsSource view v (row_of view v).bits (outside view l) start
    × IsSource view v (row_of view v).bits (Some l.0) back)
    × IsBelow rank v start

-- the loop, where there is one, is of the nest
abbrev pub IsListed : View → Option LoopId → Type 0
IsListed view None = Unit {0}
IsListed view (Some l) = l.0 < length view.parents

pub record IsWellMade (view : View) : Type 0 where
  pub sizes : (length view.reads ≡ length view.rows) × (length view.turns ≡ length view.rows)
      × (length view.conditions ≡ length view.parents)
  pub nest : IsNest view.parents
  pub innermost : All (IsListed view) view.innermost
  pub places : (v : ℕ) → All (λ reading. (reading.register.0 < length view.rows) × IsListed view reading.place)
      (reads_of view v)
  pub conditions : (l : ℕ) (x : ValueId) → Contains (conditions_of view l) x
      → x.0 < length view.rows
  pub rank : ℕ → ℕ
  pub bound : ℕ
  pub bounded : (v : ℕ) → rank v < bound
  pub given : (v : ℕ) → IsWellGiven view rank v (row_of view v).given
