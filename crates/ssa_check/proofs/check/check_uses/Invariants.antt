use Rattle.std.proofs.Common.{◌≡◌, ◌<◌, ℕ, Some, slice_get}
use Rattle.ir_rules.specs.Uses.{Use, IsBroken}
use Rattle.ssa_check.proofs.check.check_uses.Given as goal

abbrev pub invariant-loop-read : goal.invariant-loop-read
invariant-loop-read l = record {
  function : l.avoiding ≡ l.f;
  defined : (k : ℕ) (use_ : Use) → k < l.read-index → slice_get l.read-items k ≡ Some use_ → IsBroken l.f use_ → ⊥;
}
