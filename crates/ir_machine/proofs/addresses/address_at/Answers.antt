use Rattle.std.proofs.Common.{◌≡◌, ℕ, zero, suc, ◌+◌, ◌%◌, ◌^◌, [], ◌∷◌, List, length, option_map, refl, arith}
use Rattle.std.specs.Prelude.{slice_get, unwrap_or}
use Rattle.std.proofs.lemmas.Bool.Decides.{nat_tests}
use Rattle.ir_memory.specs.Memory.{Memory, block_at}
use Rattle.ir_memory.specs.Offset.{offset_from}
use Rattle.ir_machine.specs.Effects.{bytes_moved}
use Rattle.ir_machine.proofs.addresses.address_at.Goals as goal
use Rattle.ir_machine.proofs.addresses.address_at.Goals.{else-inbounds-via-then-inbounds+else-offset-unwrap_or}
use Rattle.ir_machine.proofs.addresses.address_at.Goals.{else-inbounds-via-else-inbounds}

-- where there is no block it has no bytes
size_at : (memory : Memory) (block : ℕ)
    → unwrap_or (option_map length (slice_get memory block)) 0 ≡ length (block_at memory block)
size_at [] block = refl
size_at (one ∷ memory) zero = refl
size_at (one ∷ memory) (suc block) = size_at memory block

offset_moved : (offset bytes : ℕ) (parts : List (ℕ × ℕ)) → bytes ≡ bytes_moved parts
    → (offset + bytes) % 2 ^ 64 ≡ offset_from offset parts
offset_moved offset bytes parts same = omega arith

pub returns-then-offset-unwrap_or : goal.returns-then-offset-unwrap_or
returns-then-offset-unwrap_or c parts same =
    let e = offset_moved c.in-Pointer.offset c.args.bytes parts same in
    let size = size_at c.args.memory.now c.in-Pointer.block in
    rw (c.in-Pointer.is, c.if-inbounds.true) (grind (arith, nat_tests))

pub returns-else-inbounds : goal.returns-else-inbounds
returns-else-inbounds c parts same =
    let e = offset_moved c.in-Pointer.offset c.args.bytes parts same in
    let size = size_at c.args.memory.now c.in-Pointer.block in
    elim c.else-inbounds.branch [
      | else-inbounds-via-then-inbounds+else-offset-unwrap_or w ↦
          rw (c.in-Pointer.is, w.if-inbounds.true, e) (grind (arith, nat_tests))
      | else-inbounds-via-else-inbounds w ↦ rw (c.in-Pointer.is, w.if-inbounds.false, e) refl
    ]
