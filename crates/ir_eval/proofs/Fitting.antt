-- The arguments that words say fit their parameters, in the memory with their blocks.
use Rattle.std.proofs.Common.{◌≡◌, ℕ, ◌≤◌, ◌^◌, Bool, true, false, List, [], ◌∷◌, length, Option, Some, None, codes}
use Rattle.std.proofs.Common.{option_map, option_and_then, IsTrue, refl, subst, inl, inr, ◌⊎◌, if◌then◌else◌, arith}
use Rattle.std.proofs.Common.{length-append}
use Rattle.std.specs.Str.{bytes_eq}
use Rattle.std.proofs.Math.Dec.{ltb, leb}
use Rattle.std.proofs.lemmas.Bool.{lt-ltb}
use Rattle.std.proofs.lemmas.Option.{none-some, same_Some}
use Rattle.ir_model.specs.declared.types.IrType.{IrType}
use Rattle.ir_model.specs.declared.types.IrType.TheVariants.{Int, Ptr}
use Rattle.ir_model.specs.declared.function.Param.{Param}
use Rattle.ir_memory.specs.Memory.{Memory}
use Rattle.ir_meaning.specs.declared.value.Value.{Value}
use Rattle.ir_meaning.specs.declared.value.Value.TheVariants as value
use Rattle.ir_meaning.specs.Values.{fits}
use Rattle.ir_meaning.specs.Run.{ArgsFit}
use Rattle.ir_meaning.proofs.RegisterChanges.{from_and_then}
use Rattle.ir_eval.specs.Arguments.{Argument, Plain, NewBlock, numeral, where_holds, block_most, new_block}
use Rattle.ir_eval.specs.Arguments.{number_of_width, pointer_argument, argument_of, argument_value, with_argument}
use Rattle.ir_eval.specs.Arguments.{begun}

-- ---- one argument

-- The argument fits a parameter of the type, where memory holds its block at the end.
abbrev Fits : Memory → Memory → IrType → Argument → Type 0
Fits memory final kind a = IsTrue (fits final kind (argument_value memory a))

held : (holds : Bool) (a b : Argument) → where_holds holds a ≡ Some b → (holds ≡ true) × (a ≡ b)
held true a b e = (refl, same_Some a b e)
held false a b e = absurd (none-some b e)

either : (b : Bool) (one other : Option Argument) (a : Argument) → (if b then one else other) ≡ Some a
    → (one ≡ Some a) ⊎ (other ≡ Some a)
either true one other a e = inl e
either false one other a e = inr e

module _ (memory final : Memory) where
  value_fits : (kind : IrType) (x : Value) (a : Argument) → fits final kind x ≡ true → Some (Plain x) ≡ Some a
      → Fits memory final kind a
  value_fits kind x a is said = subst (Fits memory final kind) (same_Some (Plain x) a said) is

  number_fits : (w : ℕ) (text : List ℕ) (a : Argument) → number_of_width w text ≡ Some a → Fits memory final (Int w) a
  number_fits w text a said =
      let next : ℕ → Option Argument = λ n. where_holds (ltb n (2 ^ w)) (Plain (value.Number n)) in
      let parts = from_and_then (numeral text) next a said in
      let is = held (ltb parts.0 (2 ^ w)) (Plain (value.Number parts.0)) a parts.2 in
      subst (Fits memory final (Int w)) is.1 is.0

  -- A block is there, where memory stays as long.
  abbrev FitsThen : Argument → Type 0
  FitsThen a = length (with_argument memory a) ≤ length final → Fits memory final Ptr a

  block_fits : (text : List ℕ) (a : Argument) → new_block text ≡ Some a → FitsThen a
  block_fits [] a said = absurd (none-some a said)
  block_fits (c ∷ text) a said =
      let next : ℕ → Option Argument = λ size. where_holds (leb size block_most) (NewBlock size) in
      elim (either (bytes_eq (c ∷ []) (codes "b")) (option_and_then next (numeral text)) None a said) [
        | inl some ↦
            let parts = from_and_then (numeral text) next a some in
            let is = held (leb parts.0 block_most) (NewBlock parts.0) a parts.2 in
            subst FitsThen is.1
            (λ stays. lt-ltb (length memory) (length final) (omega (arith, simp length-append at stays)))
        | inr none ↦ absurd (none-some a none)
      ]

  pointer_fits : (text : List ℕ) (a : Argument) → pointer_argument text ≡ Some a → FitsThen a
  pointer_fits text a said =
      elim (either (bytes_eq text (codes "null")) (Some (Plain value.Null)) (new_block text) a said) [
        | inl null ↦ (λ stays. value_fits Ptr value.Null a refl null)
        | inr block ↦ block_fits text a block
      ]

  argument_fits : (kind : IrType) (text : List ℕ) (a : Argument) → argument_of kind text ≡ Some a
      → length (with_argument memory a) ≤ length final → Fits memory final kind a
  argument_fits (Int w) text a said stays =
      elim (either (bytes_eq text (codes "poison")) (Some (Plain value.Poison)) (number_of_width w text) a said) [
        | inl poison ↦ value_fits (Int w) value.Poison a refl poison
        | inr number ↦ number_fits w text a number
      ]
  argument_fits Ptr text a said stays =
      elim (either (bytes_eq text (codes "poison")) (Some (Plain value.Poison)) (pointer_argument text) a said) [
        | inl poison ↦ value_fits Ptr value.Poison a refl poison
        | inr pointer ↦ pointer_fits text a pointer stays
      ]
  argument_fits _ text a said stays = absurd (none-some a said)

-- ---- all of them

mapped : {X Y : Type 0} (g : X → Y) (o : Option X) (y : Y) → option_map g o ≡ Some y
    → (x : X) × (o ≡ Some x) × (g x ≡ y)
mapped g None y e = absurd (none-some y e)
mapped g (Some x) y e = (x, refl, same_Some (g x) y e)

stays : (memory : Memory) (a : Argument) → length memory ≤ length (with_argument memory a)
stays memory (Plain x) = omega arith
stays memory (NewBlock size) = simp length-append (omega arith)

abbrev Begun : Type 0
Begun = List Value × Memory

abbrev AllFit : Memory → List Param → Begun → Type 0
AllFit memory ps done = ArgsFit done.1 ps done.0 × (length memory ≤ length done.1)

-- They fit, and memory is as long as it was, or longer.
pub begun_fit : (memory : Memory) (ps : List Param) (words : List (List ℕ)) (done : Begun)
    → begun memory ps words ≡ Some done → AllFit memory ps done
begun_fit memory [] [] done said = subst (AllFit memory []) (same_Some ([], memory) done said) (tt, omega arith)
begun_fit memory [] (word ∷ words) done said = absurd (none-some done said)
begun_fit memory (p ∷ ps) [] done said = absurd (none-some done said)
begun_fit memory (p ∷ ps) (word ∷ words) done said =
    let with_first : Argument → Begun → Begun = λ a rest. (argument_value memory a ∷ rest.0, rest.1) in
    let next : Argument → Option Begun = λ a. option_map (with_first a) (begun (with_argument memory a) ps words) in
    let parts = from_and_then (argument_of p.kind word) next done said in
    let a = parts.0 in
    let rest = mapped (with_first a) (begun (with_argument memory a) ps words) done parts.2 in
    let others = begun_fit (with_argument memory a) ps words rest.0 rest.1 in
    let own = argument_fits memory rest.0.1 p.kind word a parts.1 others.1 in
    subst (AllFit memory (p ∷ ps)) rest.2 ((own, others.0), omega (arith, stays memory a, others.1))
