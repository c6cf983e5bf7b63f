-- Reading globals.
use Rattle.std.specs.Prelude.{ℕ, Bool, true, false, List, Option, Some, None, codes}
use Rattle.ir_model.specs.declared.types.IrType.{IrType}
use Rattle.ir_model.specs.declared.item.Init.{Init}
use Rattle.ir_model.specs.declared.item.Global_.{Global_}
use Rattle.ir_text.specs.Said.{said_global}
use Rattle.ir_parts.specs.declared.ending.Run.{Run}
use Rattle.ir_parts.specs.Reading.{Read, ◌>>=◌, pure, ◌⊗◌, ◌▷◌, ◌◁◌, made, one_at, is_keyword, keyword_at, punctuation_at, choose}
use Rattle.ir_parts.specs.TypeReading.{stored_type_at}
use Rattle.ir_parts.specs.WordsReading.{words_at}
use Rattle.ir_items.specs.declared.global_ending.GlobalEnding.{GlobalEnding}
use Rattle.ir_items.specs.declared.global_ending.Typed.{Typed}
use Rattle.ir_items.specs.declared.global_ending.Tail.{Tail}
use Rattle.ir_items.specs.InitReading.{init_at}
use Rattle.ir_items.specs.TailReading.{tail_at}

-- `@name =`
unfoldable pub name_at : Read (List ℕ)
name_at = one_at said_global ◁ punctuation_at 61

-- `constant` or `global`
unfoldable pub constant_at : Read Bool
constant_at = choose (is_keyword (codes "constant")) (keyword_at (codes "constant") ▷ pure true)
    (keyword_at (codes "global") ▷ pure false)

abbrev pub typed_of : (Run × List ℕ) × (Bool × IrType) → Typed
typed_of p = record { run = p.0.0; before = p.0.1; constant = p.1.0; kind = p.1.1 }

unfoldable pub typed_at : Read Typed
typed_at = made typed_of (words_at ⊗ (constant_at ⊗ stored_type_at))

-- the initialiser, where the global doesn't stand outside the module
unfoldable pub initialiser_at : Bool → Read (Option Init)
initialiser_at true = pure None
initialiser_at false = made (λ value. Some value) init_at

unfoldable pub valued_at : Bool → Read (Option Init × Tail)
valued_at external = initialiser_at external ⊗ tail_at

unfoldable pub described_at : Read (Typed × (Option Init × Tail))
described_at = typed_at >>= λ typed. made (λ valued. (typed, valued)) (valued_at typed.run.external)

-- the global, and how it ends
abbrev pub global_of : List ℕ × (Typed × (Option Init × Tail)) → Global_ × GlobalEnding
global_of p = (
  record {
    name = p.0;
    before = p.1.0.before;
    constant = p.1.0.constant;
    kind = p.1.0.kind;
    init = p.1.1.0;
    after = p.1.1.1.after;
  },
  p.1.1.1.ending,
)

unfoldable pub ended_global_at : Read (Global_ × GlobalEnding)
ended_global_at = made global_of (name_at ⊗ described_at)

unfoldable pub global_at : Read Global_
global_at = made (λ ended. ended.0) ended_global_at
