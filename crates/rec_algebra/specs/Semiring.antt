-- Commutative semirings without their zero and one.
use Rattle.std.specs.Prelude.{◌≡◌}

-- The admitted items are closed under both operations, and there both are associative and commutative, and
-- a product of a sum is the sum of the products.
pub record IsSemiring {A : Type 0} (Admits : A → Type 0) (plus times : A → A → A) : Type 0 where
  pub plus_closed : (x y : A) → Admits x → Admits y → Admits (plus x y)
  pub times_closed : (x y : A) → Admits x → Admits y → Admits (times x y)
  pub plus_assoc : (x y z : A) → Admits x → Admits y → Admits z → plus (plus x y) z ≡ plus x (plus y z)
  pub plus_comm : (x y : A) → Admits x → Admits y → plus x y ≡ plus y x
  pub times_assoc : (x y z : A) → Admits x → Admits y → Admits z → times (times x y) z ≡ times x (times y z)
  pub times_comm : (x y : A) → Admits x → Admits y → times x y ≡ times y x
  pub distributes : (x y z : A) → Admits x → Admits y → Admits z → times x (plus y z) ≡ plus (times x y) (times x z)
