-- What the mode `print` writes.
use Rattle.std.specs.Prelude.{◌≡◌, ℕ, List}
use Rattle.ir_model.specs.declared.item.Module.{Module}
use Rattle.ir_rules.specs.Accepted.{IsAcceptedModule}
use Rattle.ir_grammar.specs.Spelled.{Spells}
use Rattle.ir_grammar.specs.Printing.{module_text}
use Rattle.ir_read_back.specs.Normal.{normal}

-- The bytes spell a module that is accepted, the text is its printed text, and the text spells the same module, with
-- each numeral as it is printed.
pub record IsPrintOf (bytes text : List ℕ) : Type 0 where
  pub m : Module
  pub spelled : Spells bytes m
  pub accepted : IsAcceptedModule m
  pub text_is : text ≡ module_text m
  pub again : Spells text (normal m)
