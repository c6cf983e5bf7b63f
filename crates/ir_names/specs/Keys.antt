-- The name that a key stands for.
use Rattle.ir_text.specs.Written.{Name, Text, Number}
use Rattle.ir_names.specs.declared.key.Key.{Key}
use Rattle.ir_names.specs.declared.key.Key.TheVariants as key

abbrev pub name_of_key : Key → Name
name_of_key (key.Text text) = Text text.now
name_of_key (key.Number n) = Number n
