use Rattle.std.proofs.Common.{rules, sym}
use Rattle.ir_rules.specs.Names.{block_definitions}
use Rattle.ir_check.proofs.DefinedSteps.{next_room, next_again, Continues-more, end_again, Continues-all}
use Rattle.ir_check.proofs.defined.define_blocks.Goals as goal

pub define_block-requires : goal.define_block-requires
define_block-requires c =
    next_room block_definitions c.args.blocks.now c.loop-block.block-index
    c.block-item.result c.args.defined.now c.loop-block.defined (search rules) c.block-item.is c.loop-block.invariant

pub loop-block-preserved : goal.loop-block-preserved
loop-block-preserved c =
    Continues-more block_definitions c.args.blocks.now c.loop-block.block-index
    c.block-item.result c.args.defined.now c.loop-block.defined (search rules) c.block-item.is c.loop-block.invariant
    c.define_block.new.defined (search rules) (search rules)

pub returns-in-Some-clause-again : goal.returns-in-Some-clause-again
returns-in-Some-clause-again c =
    sym (next_again block_definitions c.args.blocks.now c.loop-block.block-index
    c.block-item.result c.args.defined.now c.loop-block.defined (search rules) c.block-item.is c.loop-block.invariant
    c.in-Some.place (search rules))

pub returns : goal.returns
returns c = record {
  again =
      end_again block_definitions c.args.blocks.now c.loop-block.block-index
      c.args.defined.now c.loop-block.defined (search rules) c.loop-block.invariant;
  all = λ none.
      Continues-all block_definitions c.args.blocks.now c.loop-block.block-index
      c.args.defined.now c.loop-block.defined (search rules) c.loop-block.invariant;
}
