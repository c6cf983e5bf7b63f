use Rattle.std.proofs.Common.{◌≡◌, ℕ, None, refl, sym, ap, inr}
use Rattle.scev_base.specs.declared.ids.BlockId.{BlockId}
use Rattle.scev_base.specs.declared.ids.ValueId.{ValueId}
use Rattle.ir_model.specs.declared.function.Function.{Function}
use Rattle.ir_model.specs.declared.signature.Signatures.{Signatures}
use Rattle.ir_model.specs.declared.rule.Rule.TheVariants.{UseBeforeDef}
use Rattle.ir_model.specs.declared.rule.Place.TheVariants.{UseIn}
use Rattle.ir_rules.specs.Uses.{Use, IsFirstBroken}
use Rattle.ir_rules.specs.Rules.{first_broken}
use Rattle.ir_rules.specs.Accepted.{IsBrokenAt}
use Rattle.ir_accept.proofs.fault.use_fault.Goals as goal

-- The first use that comes before its definition is where a function of the right shape breaks a rule.
broken_use : (signatures : Signatures) (f : Function) (v : ValueId) (b : BlockId) → first_broken signatures f ≡ None
    → (use_ : Use) × IsFirstBroken f use_ × (use_.value ≡ v.0) × (use_.user ≡ b.0)
    → IsBrokenAt signatures f UseBeforeDef (UseIn v b)
broken_use signatures f v b shape found =
    let value : v ≡ record { 0 = found.0.value } = ap (λ (k : ℕ). record { 0 = k }) (sym found.2) in
    let user : b ≡ record { 0 = found.0.user } = ap (λ (k : ℕ). record { 0 = k }) (sym found.3) in
    inr (shape, refl, found.0, found.1, cc)

pub returns-in-Err-UseBeforeDef-clause-refused : goal.returns-in-Err-UseBeforeDef-clause-refused
returns-in-Err-UseBeforeDef-clause-refused c =
    let v = c.in-Err-UseBeforeDef.value in
    let b = c.in-Err-UseBeforeDef.block in
    let found = rw c.function-f.ensures.value at (c.in-Err-UseBeforeDef.ensures.refused v b (cc)) in
    let shape = rw c.function-f.ensures.value at c.function-f.ensures.shape in
    broken_use c.args.shaped.now.signatures c.args.shaped.now.function v b shape found
