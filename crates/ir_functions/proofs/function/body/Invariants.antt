use Rattle.std.proofs.Common.{◌≡◌, ◌-◌, ℕ, ◌<◌, ◌≤◌, List, ◌∷◌, length, Ok}
use Rattle.ir_model.specs.declared.function.Block.{Block}
use Rattle.ir_text.specs.Mentions.{Mention}
use Rattle.ir_parts.specs.Reading.{left_from}
use Rattle.ir_parts.specs.ListReading.{all_up_to_at}
use Rattle.ir_parts.specs.Places.{mentions_at}
use Rattle.ir_functions.specs.Functions.{block_at}
use Rattle.ir_functions.specs.Views.{bare_blocks, blocks_sites}
use Rattle.ir_functions.proofs.GatheredLists.{made_of}
use Rattle.ir_functions.proofs.UntilLoops.{UpTo}
use Rattle.ir_functions.proofs.function.body.Given as goal

abbrev pub invariant-others : goal.invariant-others
invariant-others l = record {
  middle : ℕ;
  first : Block × List Mention;
  begun : block_at (left_from l.tokens l.from) ≡ Ok (first, left_from l.tokens middle);
  reading : (found : List (Block × List Mention))
      × (◌≡◌ {A = List Block × List Mention} (bare_blocks l.blocks, mentions_at l.tokens (blocks_sites l.blocks))
      (made_of (λ blocks. blocks) (first ∷ found)))
      × UpTo 125 block_at found (left_from l.tokens l.at) (all_up_to_at 125 block_at (left_from l.tokens middle));
  forth : l.from < l.at;
  within : l.at ≤ length l.tokens.tokens;
}

abbrev pub decreases-others : goal.decreases-others
decreases-others l = length l.tokens.tokens - l.at
