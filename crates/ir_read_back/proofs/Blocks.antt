-- Blocks as they are printed, with their labels.
use Rattle.std.proofs.Common.{◌≡◌, ℕ, zero, List, [], ◌∷◌, ◌++◌, map, flat_map, refl, sym, ◌⊎◌, inl, append_assoc, None}
use Rattle.ir_model.specs.declared.function.Block.{Block}
use Rattle.ir_text.specs.Mentions.{Mentioning, DefinesBlock, defines_block, unwritten, InOrder}
use Rattle.ir_model.specs.Sites.{block_sites}
use Rattle.ir_text.specs.Sites.{bare_block}
use Rattle.ir_model.specs.Sites as site
use Rattle.ir_grammar.specs.Functions.{SpellsBlock}
use Rattle.ir_grammar.specs.Printing.{Shown, instr_text, block_lines}
use Rattle.ir_lex.proofs.Plain.{Stops}
use Rattle.ir_read_back.specs.Normal.{normal_block}
use Rattle.ir_read_back.proofs.Named.{Names, Shows, mention_at, IsShown, AreShown, said_at}
use Rattle.ir_read_back.proofs.Sayings.{defined_block_writes}
use Rattle.ir_read_back.proofs.Lists.{mapped_in_order, map_flat_map, in_order_rewrites, each_gives, each_part}
use Rattle.ir_read_back.proofs.Instructions.{behind_a_line_feed, instrs_rewrite}
use Rattle.ir_read_back.proofs.Writes.{Anything, Rewrites, always, text_is, mentions_are, and_then}

-- a label, or none
abbrev SpellsLabel : Mentioning
SpellsLabel ms ts = (zero ≡ zero) × (defines_block ms ts ⊎ unwritten (DefinesBlock None) ms ts)

module _ (shown : Shown) (names : Names) where
  -- A label is printed, where it stood and where it did not.
  label_rewrites : (b : ℕ)
      → Shows (shown.labels b) (names.labels b)
      → Rewrites Stops SpellsLabel SpellsLabel (said_at names (site.DefinesBlock b ∷ [])) (shown.labels b ++ 58 ∷ [])
  label_rewrites b shows =
      let all = defined_block_writes (shown.labels b) (names.labels b) shows in
      always (record { lexemes = all.lexemes; spelled = (refl, inl all.spelled); lexed = all.lexed })

  pub block_rewrites : (block : Block)
      → AreShown shown names (block_sites block)
      → Rewrites Anything (SpellsBlock (bare_block block)) (SpellsBlock (bare_block (normal_block block)))
      (said_at names (block_sites block)) (block_lines shown block)
  block_rewrites block are =
      let lines = flat_map (instr_text shown) block.instrs in
      text_is _ _ (append_assoc (shown.labels block.id.0) (58 ∷ []) (10 ∷ lines))
      (and_then (λ rest any. refl) (label_rewrites block.id.0 are.0)
      (behind_a_line_feed (instrs_rewrite shown names block.instrs are.1)))

  pub blocks_rewrite : (blocks : List Block)
      → AreShown shown names (flat_map block_sites blocks)
      → Rewrites Anything (InOrder SpellsBlock (map bare_block blocks))
      (InOrder SpellsBlock (map bare_block (map normal_block blocks)))
      (said_at names (flat_map block_sites blocks)) (flat_map (block_lines shown) blocks)
  blocks_rewrite blocks are =
      mapped_in_order SpellsBlock bare_block normal_block blocks
      (mentions_are _ _ (sym (map_flat_map (mention_at names) block_sites blocks))
      (in_order_rewrites (λ b. SpellsBlock (bare_block b)) (λ b. SpellsBlock (bare_block (normal_block b)))
      (λ b. said_at names (block_sites b)) (block_lines shown) Anything (λ block rest any. tt) blocks
      (each_gives _ _ block_rewrites blocks (each_part (IsShown shown names) block_sites blocks are))))
