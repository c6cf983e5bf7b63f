-- Steps in which the number 0 is chosen.
use Rattle.std.specs.Prelude.{ℕ, List, replicate}
use Rattle.ir_meaning.specs.declared.choice.Choice.{Choice}
use Rattle.ir_meaning.specs.declared.choice.Choice.TheVariants as choice

abbrev pub zeros : ℕ → List Choice
zeros steps = replicate steps (choice.Number 0)
