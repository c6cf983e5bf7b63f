-- The state at the start.
use Rattle.std.proofs.Common.{ℕ, ◌≤◌, List, [], length, None, refl, inl, inr, arith}
use Rattle.ir_model.specs.declared.function.Function.{Function}
use Rattle.ir_model.specs.declared.signature.Signatures.{Signatures}
use Rattle.ir_model.specs.Shapes.{entry, leading_phis}
use Rattle.ir_model.specs.Walks.Trail.{begins}
use Rattle.ir_rules.specs.Uses.{HasPassed}
use Rattle.ir_memory.specs.Memory.{Memory}
use Rattle.ir_meaning.specs.declared.value.Value.{Value}
use Rattle.ir_meaning.specs.Run.{MayStart, with_args, start}
use Rattle.never_stuck.proofs.Elements.{contains_none}
use Rattle.never_stuck.proofs.Sound.{Holds, Sound}
use Rattle.ir_model.specs.WellMade.{IsWellMade}
use Rattle.ir_rules.specs.Accepted.{IsAccepted}
use Rattle.never_stuck.proofs.EnteredPhis.{entry_block}
use Rattle.never_stuck.proofs.DefinedTypes.{param_typed}
use Rattle.never_stuck.proofs.Accepted.{some_instr}
use Rattle.never_stuck.proofs.Registers.{held_args}

module _ (signatures : Signatures) (f : Function) (made : IsWellMade f) (accepted : IsAccepted signatures f)
    (args : List Value) (memory : Memory) (may : MayStart f.params args memory) where
  -- parameters alone are passed at the start
  held_at_start : (v : ℕ) → HasPassed f v [] (entry f.blocks) 0 → Holds f (with_args (λ v. None) f.params args) v
  held_at_start v passed =
      elim passed [
        | inl param ↦
            held_args f memory f.params args (λ v. None) may.fit (param_typed signatures f made accepted) v (inr param)
        | inr there ↦
            elim there.3 [
              | inl earlier ↦ absurd (contains_none there.0.0 earlier)
              | inr here ↦ absurd (omega (arith, here.1))
            ]
      ]

  pub start_sound : Sound f (start f args memory)
  start_sound =
      let first = entry_block signatures f made accepted in
      let behind : length (leading_phis first.0.instrs) ≤ 0 = rw first.2 (omega arith) in
      record {
        before = [];
        trail = refl;
        walk = begins;
        block = first.0;
        at = first.1;
        within = some_instr signatures f made accepted (entry f.blocks) first.0 first.1;
        behind = behind;
        held = held_at_start;
        bytes = may.bytes;
      }
