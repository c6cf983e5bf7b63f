-- Registers that hold poison or one number, and what an `add` of a numeral makes of them.
use Rattle.std.specs.Prelude.{◌≡◌, ℕ, ◌+◌, ◌%◌, ◌^◌, ◌<◌, ◌⊎◌, ℤ, pos, negsuc, List, Bool, false, Option, Some, None}
use Rattle.std.specs.Prelude.{refl}
use Rattle.std.proofs.Common.{ap, sym, subst, ◌∙◌, arith, inl, inr}
use Rattle.std.proofs.lemmas.Bool.{cases_cond}
use Rattle.std.proofs.lemmas.Nat.{mod_below}
use Rattle.std.proofs.lemmas.Option.{same_Some, cond_some}
use Rattle.std.proofs.Math.Nat.{add_comm}
use Rattle.scev_base.specs.Residue.{residue}
use Rattle.ir_model.specs.declared.types.IrType.{IrType}
use Rattle.ir_model.specs.declared.types.IrType.TheVariants.{Int}
use Rattle.ir_model.specs.declared.op.Operand.{Operand}
use Rattle.ir_model.specs.declared.op.Operand.TheVariants as operand
use Rattle.ir_model.specs.declared.op.BinOp.TheVariants as binary
use Rattle.ir_model.specs.declared.op.Op.{Op}
use Rattle.ir_model.specs.declared.op.Op.TheVariants.{Binary}
use Rattle.ir_memory.specs.Memory.{Memory}
use Rattle.ir_meaning.specs.declared.value.Value.{Value}
use Rattle.ir_meaning.specs.declared.value.Value.TheVariants as value
use Rattle.ir_meaning.specs.declared.choice.Choice.{Choice}
use Rattle.ir_meaning.specs.State.{Registers, Event, State}
use Rattle.ir_meaning.specs.Operands.{chosen, of_type, operand_value}
use Rattle.ir_meaning.specs.Rows.{on_numbers, added}
use Rattle.ir_model.specs.Shapes.{is_phi}
use Rattle.ir_meaning.specs.Effects.{Goes}
use Rattle.ir_meaning.specs.Step.{Gives, with_value, computed, effect}
use Rattle.ir_meaning.proofs.RegisterChanges.{gone_on}
use Rattle.classify.specs.Recurrence.{IsNumeral, Increments}

-- poison, or this number
abbrev pub Keeps : Option Value → ℕ → Type 0
Keeps held n = (held ≡ Some value.Poison) ⊎ (held ≡ Some (value.Number n))

-- a value of a type is what the register holds
pub of_type_same : (kind : IrType) (held : Option Value) (x : Value) → of_type kind held ≡ Some x → held ≡ Some x
of_type_same kind None x e = e
of_type_same kind (Some y) x e = ap (λ (z : Value). Some z) (cond_some _ y x e).1

-- a numeral has its number
pub numeral_value : (registers : Registers) (n c : ℕ) (o : Operand) → IsNumeral c o
    → operand_value registers n (Int 32) o ≡ Some (value.Number c)
numeral_value registers n c (operand.Num z) is = ap (λ (k : ℕ). Some (value.Number k)) is
numeral_value registers n c _ is = absurd is

residue_below : (w : ℕ) (z : ℤ) → 0 < 2 ^ w → residue w z < 2 ^ w
residue_below w (pos n) some = mod_below n (2 ^ w) some
residue_below w (negsuc n) some = omega arith

pub numeral_small : (c : ℕ) (o : Operand) → IsNumeral c o → c < 2 ^ 32
numeral_small c (operand.Num z) is = subst (λ (k : ℕ). k < 2 ^ 32) is (residue_below 32 z (omega arith))
numeral_small c _ is = absurd is

-- where two operands give a value, both have one
two_given : (left right : Option Value) (give : Value → Value → Value) (x : Value)
    → with_value left (λ a. with_value right (λ b. Gives (give a b))) ≡ Gives x
    → (a b : Value) × (left ≡ Some a) × (right ≡ Some b) × (give a b ≡ x)
two_given None right give x e = cc
two_given (Some a) None give x e = cc
two_given (Some a) (Some b) give x e = (a, b, refl, refl, given a b e)
  where
    given : (a b : Value) → Gives (give a b) ≡ Gives x → give a b ≡ x
    given a b h = cc

-- the sum of what is kept is kept
sum_kept : (nuw nsw : Bool) (a b : Value) (m k : ℕ) → Keeps (Some a) m → Keeps (Some b) k
    → Keeps (Some (on_numbers (added 32 nuw nsw) a b)) ((m + k) % 2 ^ 32)
sum_kept nuw nsw a b m k (inl poison) right =
    inl (ap (λ (x : Value). Some (on_numbers (added 32 nuw nsw) x b)) (same_Some a value.Poison poison))
sum_kept nuw nsw a b m k (inr number) (inl poison) =
    inl (rw (same_Some a (value.Number m) number, same_Some b value.Poison poison))
sum_kept nuw nsw a b m k (inr number) (inr number') =
    rw
    (same_Some a (value.Number m) number, same_Some b (value.Number k) number')
    (chosen (cases_cond _ _ _ (added 32 nuw nsw m k) refl))
  where
    chosen : (added 32 nuw nsw m k ≡ value.Poison) ⊎ (added 32 nuw nsw m k ≡ value.Number ((m + k) % 2 ^ 32))
        → Keeps (Some (added 32 nuw nsw m k)) ((m + k) % 2 ^ 32)
    chosen (inl e) = inl (ap (λ (x : Value). Some x) e)
    chosen (inr e) = inr (ap (λ (x : Value). Some x) e)

computed_kept : (registers : Registers) (n p step m : ℕ) (op : Op) (x : Value) → Increments p step op
    → Keeps (registers p) m → computed registers n op ≡ Gives x → Keeps (Some x) ((m + step) % 2 ^ 32)
computed_kept registers n p step m (Binary binary.Add nuw nsw exact disjoint kind left right) x is kept gives =
    let sum : with_value (operand_value registers n (Int 32) left) (λ a. with_value (operand_value registers n (Int 32) right) (λ b. Gives (on_numbers (added 32 nuw nsw) a b))) ≡ Gives x = subst (λ (t : IrType). computed registers n (Binary binary.Add nuw nsw exact disjoint t left right) ≡ Gives x) is.0 gives in
    let both = two_given (operand_value registers n (Int 32) left) (operand_value registers n (Int 32) right) (on_numbers (added 32 nuw nsw)) x sum in
    subst (λ (y : Value). Keeps (Some y) ((m + step) % 2 ^ 32)) both.4 (in_order both.0 both.1 both.2 both.3 is.1)
  where
    register : (a : Value) (o : Operand) → o ≡ operand.Reg (record { 0 = p })
        → operand_value registers n (Int 32) o ≡ Some a → Keeps (Some a) m
    register a o e has =
        subst (λ (held : Option Value). Keeps held m) (of_type_same (Int 32) (registers p) a (subst (λ (one : Operand). operand_value registers n (Int 32) one ≡ Some a) e has)) kept

    numeral : (a : Value) (o : Operand) → IsNumeral step o → operand_value registers n (Int 32) o ≡ Some a
        → Keeps (Some a) step
    numeral a o e has = inr (sym has ∙ numeral_value registers n step o e)

    in_order : (a b : Value) → operand_value registers n (Int 32) left ≡ Some a
        → operand_value registers n (Int 32) right ≡ Some b
        → ((left ≡ operand.Reg (record { 0 = p })) × IsNumeral step right) ⊎ (IsNumeral step left × (right ≡ operand.Reg (record { 0 = p })))
        → Keeps (Some (on_numbers (added 32 nuw nsw) a b)) ((m + step) % 2 ^ 32)
    in_order a b hasl hasr (inl order) =
        sum_kept nuw nsw a b m step (register a left order.0 hasl) (numeral b right order.1 hasr)
    in_order a b hasl hasr (inr order) =
        subst (λ (k : ℕ). Keeps (Some (on_numbers (added 32 nuw nsw) a b)) (k % 2 ^ 32)) (add_comm step m) (sum_kept nuw nsw a b step m (numeral a left order.0 hasl) (register b right order.1 hasr))
computed_kept registers n p step m _ x is kept gives = absurd is

-- where an `add` of a numeral is carried out
pub add_kept : (choice : Choice) (s : State) (p step m : ℕ) (op : Op) (x : Option Value) (memory : Memory) (events : List Event)
    → Increments p step op → Keeps (s.registers p) m → effect choice s op ≡ Goes x memory events
    → (y : Value) × (x ≡ Some y) × Keeps (Some y) ((m + step) % 2 ^ 32)
add_kept choice s p step m (Binary binary.Add nuw nsw exact disjoint kind left right) x memory events is kept goes =
    let add = Binary binary.Add nuw nsw exact disjoint kind left right in
    let sum = gone_on s (computed s.registers (chosen choice) add) x memory events goes in
    (sum.0, sum.1, computed_kept s.registers (chosen choice) p step m add sum.0 is kept sum.2)
add_kept choice s p step m _ x memory events is kept goes = absurd is

pub increment_no_phi : (p step : ℕ) (op : Op) → Increments p step op → is_phi op ≡ false
increment_no_phi p step (Binary binary.Add nuw nsw exact disjoint kind left right) is = refl
increment_no_phi p step _ is = absurd is
