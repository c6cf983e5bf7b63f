-- The numbers of the things without a name, counted in a walk over the sites of a function.
use Rattle.std.specs.Prelude.{ℕ, ◌+◌, ◌<◌, Bool, true, false, if◌then◌else◌, List, map, length, Option, Some, None, slice_get, slice_set}
use Rattle.std.specs.List.{All}
use Rattle.ir_model.specs.declared.function.ValueInfo.{ValueInfo}
use Rattle.ir_model.specs.declared.function.Function.{Function}
use Rattle.ir_model.specs.declared.item.Item.{Item}
use Rattle.ir_model.specs.declared.item.Item.TheVariants as item
use Rattle.ir_model.specs.declared.item.Module.{Module}
use Rattle.ir_model.specs.Sites.{Site, DefinesValue, UsesValue, DefinesBlock, UsesBlock, UsesGlobal, function_sites}
use Rattle.ir_printer.specs.declared.numbers.Numbers.{Numbers}

-- what has a name needs no number
abbrev pub start_of : Option (List ℕ) → Option ℕ
start_of None = None
start_of (Some name) = Some 0

-- nothing has a number yet
abbrev pub start : Function → Numbers
start f = record {
  values = map
      (λ (info : ValueInfo). start_of info.name) f.values;
  blocks = map start_of f.labels;
  next = 0;
}

-- an entry of a table that has no number
abbrev pub is_missing : Option (Option ℕ) → Bool
is_missing None = false
is_missing (Some None) = true
is_missing (Some (Some n)) = false

-- the next number for a value and for a block, where it has none
unfoldable pub counted_value : Numbers → ℕ → Numbers
counted_value n v = if is_missing (slice_get n.values v)
    then record { values = slice_set n.values v (Some n.next); blocks = n.blocks; next = n.next + 1 } else n

unfoldable pub counted_block : Numbers → ℕ → Numbers
counted_block n b = if is_missing (slice_get n.blocks b)
    then record { values = n.values; blocks = slice_set n.blocks b (Some n.next); next = n.next + 1 } else n

-- the same at a site, in a walk that counts definitions, or in one that counts uses
unfoldable pub counted : Bool → Numbers → Site → Numbers
counted uses n (DefinesValue v) = if uses then n else counted_value n v
counted uses n (UsesValue v) = if uses then counted_value n v else n
counted uses n (DefinesBlock b) = if uses then n else counted_block n b
counted uses n (UsesBlock b) = if uses then counted_block n b else n
counted uses n (UsesGlobal g) = n
