-- Functions with a body are read, with the readings of operations and of calls.
use Rattle.ir_grammar.specs.Functions.{SpellsBlock, SpellsFunction}
use Rattle.ir_parts.specs.Reading.{is_punctuation}
use Rattle.std.proofs.Common.{◌≡◌, false}
use Rattle.ir_parts.proofs.Readers.{Anything}
use Rattle.ir_body.proofs.Tellers.{IsTeller}
use Rattle.ir_functions.specs.Functions.{block_at, function_at}
use Rattle.ir_functions.proofs.DroppedCalls.{reads_calls}
use Rattle.ir_functions.proofs.BlockTellers.{block_tells}
use Rattle.ir_functions.proofs.FunctionTellers.{function_tells}

pub blocks_are_read : IsTeller block_at SpellsBlock (λ block t. is_punctuation 44 t ≡ false)
blocks_are_read = block_tells reads_calls

pub functions_are_read : IsTeller function_at SpellsFunction Anything
functions_are_read = function_tells reads_calls
