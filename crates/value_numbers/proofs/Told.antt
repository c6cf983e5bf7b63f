-- What is told of operands, and of what an operation gives on numbers.
use Rattle.std.proofs.Common.{◌≡◌, ℕ, Bool, true, false, if◌then◌else◌, Option, Some, None, refl, ap, ◌∙◌, inl, inr}
use Rattle.std.proofs.lemmas.Bool.{cond_both}
use Rattle.scev_base.specs.Residue.{residue}
use Rattle.scev_tree.specs.Value.{lifted}
use Rattle.ir_model.specs.declared.types.IrType.TheVariants.{Int}
use Rattle.ir_model.specs.declared.op.Operand.{Operand}
use Rattle.ir_model.specs.declared.op.Operand.TheVariants as operand
use Rattle.ir_meaning.specs.declared.value.Value.{Value}
use Rattle.ir_meaning.specs.declared.value.Value.TheVariants as value
use Rattle.ir_meaning.specs.State.{Registers}
use Rattle.ir_meaning.specs.Values.{is_of_type}
use Rattle.ir_meaning.specs.Operands.{of_type, operand_value}
use Rattle.ir_meaning.specs.Rows.{on_numbers}
use Rattle.ir_meaning.specs.Step.{Computed, Gives, with_value, given}
use Rattle.value_view.specs.declared.source.Source.{Source}
use Rattle.value_view.specs.declared.source.Source.TheVariants.{Number, Register}
use Rattle.value_view.specs.Givens.{source_of}
use Rattle.value_truth.specs.Truth.{Denotes}
use Rattle.value_numbers.specs.Held.{held_by}

-- ---- operands

-- two operands of which something is given have values
pub two_given : (o p : Option Value) (f : Value → Value → Computed) (z : Value)
    → with_value o (λ a. with_value p (λ b. f a b)) ≡ Gives z
    → (a : Value) × (b : Value) × (o ≡ Some a) × (p ≡ Some b) × (f a b ≡ Gives z)
two_given (Some a) (Some b) f z h = (a, b, refl, refl, h)
two_given (Some a) None f z h = absurd cc
two_given None p f z h = absurd cc

-- so has one
pub one_given : (o : Option Value) (f : Value → Computed) (z : Value)
    → with_value o f ≡ Gives z
    → (a : Value) × (o ≡ Some a) × (f a ≡ Gives z)
one_given (Some a) f z h = (a, refl, h)
one_given None f z h = absurd cc

-- what is given is there
pub given_some : (o : Option Value) (z : Value) → given o ≡ Gives z → o ≡ Some z
given_some (Some a) z h = cc
given_some None z h = absurd cc

-- a value that is of its type is what is held
held_typed : (w : ℕ) (held : Option Value) (a : Value) → of_type (Int w) held ≡ Some a → held ≡ Some a
held_typed w None a h = h
held_typed w (Some x) a h =
    cond_both (is_of_type (Int w) x) (Some x) None (λ o. o ≡ Some a → Some x ≡ Some a)
    (λ _ same. same)
    (λ _ same. absurd cc)
    h

-- the value of an operand is what it is as a source
pub operand_held : (registers : Registers) (choice w : ℕ) (o : Operand) (s : Source) (a : Value)
    → source_of w o ≡ Some s
    → operand_value registers choice (Int w) o ≡ Some a
    → held_by registers s ≡ Some a
operand_held registers choice w (operand.Reg v) s a from h =
    let same : s ≡ Register v = cc in
    ap (held_by registers) same ∙ held_typed w (registers v.0) a h
operand_held registers choice w (operand.Num z) s a from h =
    let same : s ≡ Number (residue w z) = cc in
    ap (held_by registers) same ∙ h
operand_held registers choice w operand.Null s a from h = absurd cc
operand_held registers choice w (operand.Global g) s a from h = absurd cc
operand_held registers choice w operand.Undef s a from h = absurd cc
operand_held registers choice w operand.Poison s a from h = absurd cc

-- ---- numbers

-- what is told of a number is the number
pub number_told : (n : ℕ) (x : Option ℕ) → Denotes (Some (value.Number n)) x → x ≡ Some n
number_told n x told =
    elim told [
      | inl poison ↦ absurd (cc poison)
      | inr number ↦
          let same = number.1 in
          let here : number.0 ≡ n = cc same in
          number.2 ∙ ap Some here
    ]

-- of any two numbers that are told, a result is told
abbrev pub Follows : (ℕ → ℕ → Value) → Option ℕ → Option ℕ → Option ℕ → Type 0
Follows row x y t = (m n : ℕ) → x ≡ Some m → y ≡ Some n → Denotes (Some (row m n)) t

-- and so it is of any two operands
pub on_operands : (row : ℕ → ℕ → Value) (a b : Value) (x y t : Option ℕ)
    → Follows row x y t
    → Denotes (Some a) x
    → Denotes (Some b) y
    → Denotes (Some (on_numbers row a b)) t
on_operands row (value.Number m) (value.Number n) x y t follows left right =
    follows m n (number_told m x left) (number_told n y right)
on_operands row _ _ x y t follows left right = inl refl

-- a number that is told, unless it is poison
pub unless_poison : (flag : Bool) (k : ℕ) (t : Option ℕ)
    → (flag ≡ false → t ≡ Some k)
    → Denotes (Some (if flag then value.Poison else value.Number k)) t
unless_poison true k t told = inl refl
unless_poison false k t told = inr (k, refl, told refl)

-- what an operation gives of two numbers that are there
pub lifted_is : (op : ℕ → ℕ → ℕ) (x y : Option ℕ) (m n : ℕ)
    → x ≡ Some m
    → y ≡ Some n
    → lifted op x y ≡ Some (op m n)
lifted_is op x y m n left right = ap (λ o. lifted op o y) left ∙ ap (lifted op (Some m)) right
