use Rattle.std.specs.Prelude.{◌≡◌, ℕ, List, [], ◌∷◌, Bool, ◌&&◌, refl}
use Rattle.std.specs.Prelude.{Option, Some, None, is_some, option_and_then, option_map}
use Rattle.std.specs.List.{list_all}
use Rattle.std.proofs.Common.{rules, tests, ◌∙◌}
use Rattle.std.proofs.lemmas.Iterator.{YieldsList-from_slice}
use Rattle.std.proofs.lemmas.Iterator.Search.{all_from_yields_List}
use Rattle.ir_model.specs.declared.op.TypedOperand.{TypedOperand}
use Rattle.ir_meaning.specs.declared.value.Value.{Value}
use Rattle.ir_meaning.specs.State.{Registers}
use Rattle.ir_meaning.specs.Operands.{operand_value}
use Rattle.ir_meaning.specs.Calls.{argument_values}
use Rattle.ir_machine.specs.Stands.{register}
use Rattle.ir_machine.proofs.calls.have_values.Goals as goal

-- all operands have values where each has one
module _ (registers : Registers) (n : ℕ) where
  abbrev has_value : TypedOperand → Bool
  has_value typed = is_some (operand_value registers n typed.kind typed.value)

  all_held : (operands : List TypedOperand)
      → list_all has_value operands ≡ is_some (argument_values registers n operands)
  all_held [] = refl
  all_held (typed ∷ more) =
      first (operand_value registers n typed.kind typed.value) (argument_values registers n more) (all_held more)
    where
      first : (o : Option Value) (rest : Option (List Value)) → list_all has_value more ≡ is_some rest
          → (is_some o && list_all has_value more)
          ≡ is_some (option_and_then (λ x. option_map (λ xs. x ∷ xs) rest) o)
      first None rest e = refl
      first (Some x) None e = e
      first (Some x) (Some xs) e = e

pub returns : goal.returns
returns c =
    let registers = register c.args.registers.now in
    let n = c.args.n in
    let operands = c.args.operands.now in
    all_from_yields_List (has_value registers n) _ _ c.all.result c.all.ensures.ran
    (YieldsList-from_slice operands (cc)) (λ x b q k. search (rules, tests))
    ∙ all_held registers n operands
