-- In a block of the thin forms the last instruction alone is a terminator, and it gives no result.
use Rattle.std.specs.Prelude.{◌≡◌, ℕ, zero, suc, ◌<◌, List, [], ◌∷◌, length, true, false, Some, slice_get, ◌==◌, refl}
use Rattle.std.proofs.Common.{ap, sym, ◌∙◌, arith}
use Rattle.std.proofs.lemmas.Bool.{both_ways}
use Rattle.std.proofs.lemmas.Option.{none-some, same_Some}
use Rattle.ir_model.specs.declared.op.BinOp.TheVariants as binary
use Rattle.ir_model.specs.declared.op.Op.{Op}
use Rattle.ir_model.specs.declared.op.Op.TheVariants.{Binary, Icmp, Phi}
use Rattle.ir_model.specs.declared.function.Instr.{Instr}
use Rattle.ir_model.specs.declared.function.Block.{Block}
use Rattle.ir_model.specs.declared.function.Function.{Function}
use Rattle.ir_model.specs.Shapes.{block_of, is_terminator}
use Rattle.ir_meaning.specs.Run.{GivesTo}
use Rattle.ir_meaning.proofs.ListPlaces.{all_at, found_there}
use Rattle.ir_meaning.specs.Thin.{IsThinGiving, AreThinInstrs, IsThinFunction}

-- an operation that gives a value is no terminator
giving_goes_on : (values labels : ℕ) (op : Op) → IsThinGiving values labels op → is_terminator op ≡ false
giving_goes_on values labels (Phi kind entries) thin = refl
giving_goes_on values labels (Binary binary.Add nuw nsw exact disjoint kind left right) thin = refl
giving_goes_on values labels (Icmp pred kind left right) thin = refl
giving_goes_on values labels _ thin = absurd thin

-- a terminator is the last instruction
terminator_is_last : (values labels : ℕ) (instrs : List Instr) (j : ℕ) (instr : Instr)
    → AreThinInstrs values labels instrs → slice_get instrs j ≡ Some instr → is_terminator instr.op ≡ true
    → length instrs ≡ suc j
terminator_is_last values labels [] j instr thin at ends = absurd thin
terminator_is_last values labels (x ∷ []) zero instr thin at ends = refl
terminator_is_last values labels (x ∷ []) (suc j) instr thin at ends = absurd (none-some instr at)
terminator_is_last values labels (x ∷ y ∷ more) zero instr thin at ends =
    absurd (both_ways (is_terminator x.op) (giving_goes_on values labels x.op thin.1) (ap (λ (i : Instr). is_terminator i.op) (same_Some x instr at) ∙ ends))
terminator_is_last values labels (x ∷ y ∷ more) (suc j) instr thin at ends =
    ap suc (terminator_is_last values labels (y ∷ more) j instr thin.2 at ends)

-- what gives a result isn't the last instruction
pub giving_before_last : (values labels : ℕ) (instrs : List Instr) (j : ℕ) (instr : Instr) (v : ℕ)
    → AreThinInstrs values labels instrs → slice_get instrs j ≡ Some instr → GivesTo v instr → suc j < length instrs
giving_before_last values labels [] j instr v thin at gives = absurd thin
giving_before_last values labels (x ∷ []) zero instr v thin at gives =
    absurd (none-some (record { 0 = v }) (sym thin.0 ∙ ap (λ (i : Instr). i.result) (same_Some x instr at) ∙ gives))
giving_before_last values labels (x ∷ []) (suc j) instr v thin at gives = absurd (none-some instr at)
giving_before_last values labels (x ∷ y ∷ more) zero instr v thin at gives = omega arith
giving_before_last values labels (x ∷ y ∷ more) (suc j) instr v thin at gives =
    let rest = giving_before_last values labels (y ∷ more) j instr v thin.2 at gives in
    omega (arith, rest)

-- so in a thin function what gives a result stands before the terminator
pub giving_before_terminator : (f : Function) (b : ℕ) (block : Block) (i j : ℕ) (giving ending : Instr) (v : ℕ)
    → IsThinFunction f → block_of f b ≡ Some block → slice_get block.instrs i ≡ Some giving → GivesTo v giving
    → slice_get block.instrs j ≡ Some ending → is_terminator ending.op ≡ true → i < j
giving_before_terminator f b block i j giving ending v thin found at gives there ends =
    let stands = found_there (λ (one : Block). one.id.0 == b) f.blocks block found in
    let instrs = (all_at (λ (one : Block). (one.id.0 < length f.labels) × AreThinInstrs (length f.values) (length f.labels) one.instrs) f.blocks stands.0 block thin.blocks stands.1).1 in
    let last = terminator_is_last (length f.values) (length f.labels) block.instrs j ending instrs there ends in
    let before = giving_before_last (length f.values) (length f.labels) block.instrs i giving v instrs at gives in
    omega (arith, last, before)
