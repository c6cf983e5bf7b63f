-- Functions of the right shape.
use Rattle.std.specs.Prelude.{◌≡◌, None}
use Rattle.ir_model.specs.declared.function.Function.{Function}
use Rattle.ir_model.specs.declared.signature.Signatures.{Signatures}
use Rattle.ir_model.specs.WellMade.{IsWellMade}
use Rattle.ir_rules.specs.Rules.{first_broken}

-- a function, and what its rules see of its module
pub record ShapedParts : Type 0 where
  pub function : Function
  pub signatures : Signatures

-- The function is well made and breaks no rule of shape.
pub record IsShaped (signatures : Signatures) (f : Function) : Type 0 where
  pub well_made : IsWellMade f
  pub shape : first_broken signatures f ≡ None
