use Rattle.ir_model.specs.declared.function.Function.{Function}
use Rattle.ir_text.specs.Mentions.{Mention}
use Rattle.std.proofs.Common.{List}
use Rattle.ir_model.specs.Sites.{function_sites}
use Rattle.ir_text.specs.Sites.{bare_function}
use Rattle.ir_parts.specs.Places.{mentions_at}
use Rattle.ir_body.proofs.Sentences.{tells_as}
use Rattle.ir_functions.proofs.WholeFunctions.{functions_are_read}
use Rattle.ir_functions.proofs.function.read_function.Goals as goal

pub returns-clause-sentence : goal.returns-clause-sentence
returns-clause-sentence c =
    let view : Function → Function × List Mention = λ f. (
      bare_function f,
      mentions_at c.args.tokens.now
          (function_sites f),
    ) in
    tells_as functions_are_read view c.args.tokens.now c.args.from c.requires c.function.result
    c.function.ensures.value
