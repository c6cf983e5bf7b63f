use Rattle.std.proofs.Common.{◌≡◌, ◌≤◌, min, inl, inr, ap, ◌∙◌, arith}
use Rattle.std.proofs.lemmas.Bool.{cases_lt, false≢true}
use Rattle.std.proofs.lemmas.Int.{to_z-of_z}
use Rattle.std.specs.Int.{w128}
use Rattle.scev_base.specs.Residue.{residue}
use Rattle.ir_rules.specs.Limits.{int_size}
use Rattle.ir_memory.specs.declared.byte.Byte.TheVariants as byte
use Rattle.ir_memory.specs.Spelling.{number_bytes}
use Rattle.ir_eval.proofs.Appended.{goes_on_none, goes_on_push}
use Rattle.ir_eval.proofs.Numerals.{number_bytes_push, quotient_push, none_left, numeral_bytes}
use Rattle.ir_eval.proofs.initialisers.push_number.Goals as goal
use Rattle.ir_eval.proofs.initialisers.push_number.Goals.{in-Some, in-None}

pub loop-byte-init : goal.loop-byte-init
unfolding number_bytes
loop-byte-init c = (goes_on_none _, omega arith)

pub loop-byte-preserved : goal.loop-byte-preserved
loop-byte-preserved c =
    let k = c.loop-byte._byte in
    let rest = c.loop-byte.invariant.1 in
    let pushed = rw rest at c.in_ok-push.ensures.items in
    let so = goes_on_push _ c.loop-byte.out.items _ _ (byte.Number _) c.loop-byte.invariant.0 pushed (search arith) in
    (rw (number_bytes_push k c.match-new.rest) so, quotient_push _ _ _ rest)

pub returns : goal.returns
returns c =
    let w = c.args.w in
    let z = c.args.z in
    let rest : c.match-new.rest ≡ residue (min w 64) z =
    elim c.match-new.branch [
      | in-Some case ↦
          let whole = to_z-of_z w128 z c.ranges.z in
          case.rest-is ∙ (rw whole at case.wrap-rest.ensures.value)
          ∙ ap (λ b. residue b z) (case.in-Some.ensures.value ∙ c.min.ensures)
      | in-None case ↦
          let none : min w 64 ≡ 0 =
          elim (cases_lt 0 (min w 64)) [
            | inl some ↦
                let within : (1 ≤ c.min.result) × (c.min.result ≤ 64) = (omega arith, omega arith) in
                absurd (false≢true (case.in-None.ensures.valid.1 within))
            | inr none ↦ omega arith
          ] in
          rw (none, none_left z) case.rest-is
    ] in
    let all : c.loop-byte._byte ≡ int_size w = omega arith in
    let so = c.loop-byte.invariant.0 in
    rw (← numeral_bytes w z, ← all, ← rest) so
