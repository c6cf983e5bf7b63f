-- What is shown of the values and blocks of a function, by the numbers that were counted for it.
use Rattle.std.specs.Prelude.{ℕ, Option, Some, None, slice_get}
use Rattle.ir_grammar.specs.Printing.{Shown, text_or_number, named_value, named_block}
use Rattle.ir_printer.specs.declared.shown.Names.{Names}

-- the number in a table, and what has none gets the next one
abbrev pub number_or_next : ℕ → Option (Option ℕ) → ℕ
number_or_next next None = next
number_or_next next (Some None) = next
number_or_next next (Some (Some n)) = n

unfoldable pub shown : Names → Shown
shown names = record {
  values = λ v. text_or_number (named_value names.function.now v)
      (number_or_next names.numbers.next (slice_get names.numbers.values v));
  labels = λ b. text_or_number (named_block names.function.now b)
      (number_or_next names.numbers.next (slice_get names.numbers.blocks b));
  globals = names.globals.now;
}
