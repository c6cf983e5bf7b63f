use Rattle.std.proofs.Common.{refl, ap, ◌∙◌, map}
use Rattle.ir_model.specs.declared.function.Param.{Param}
use Rattle.ir_model.specs.Sites.{Site}
use Rattle.ir_model.specs.Sites as site
use Rattle.ir_grammar.specs.Numbering.{text_of_name}
use Rattle.ir_names.proofs.KeyNames.{texts_of}
use Rattle.ir_names.proofs.Passing.{both, as_map}
use Rattle.ir_names.proofs.TypeTable.{types_of}
use Rattle.ir_names.proofs.FunctionIsNumbered.{function_numbered}
use Rattle.ir_names.proofs.function.function.Goals as goal

-- the value that a parameter is
abbrev value_of : Param → Site
value_of p = site.DefinesValue p.value.0

pub returns : goal.returns
returns c =
    function_numbered c.args.spoken.now c.args.seen.now c.blocks-2.new.seen c.args.function _ (record {
      next = c.requires.next;
      no_values = c.requires.values;
      no_labels = c.requires.labels;
      becomes = both (as_map value_of c.args.function.params c.params.new.params c.in_ok-params.ensures.becomes)
          c.in_ok-blocks.ensures.becomes;
      same = rw (c.in_ok-params.ensures.same, c.in_ok-blocks.ensures.same) refl;
      values = c.in_ok-function.ensures.names ∙ texts_of c.as_slice-names.result.now
          ∙ ap (map text_of_name) c.as_slice-names.ensures;
      labels = c.in_ok-function-2.ensures ∙ texts_of c.as_slice-4.result.now
          ∙ ap (map text_of_name) c.as_slice-4.ensures;
      types = types_of c.params.new.params c.blocks-2.new.blocks c.in_ok-function.field-0 c.in_ok-kinds.kinds
          (rw c.as_slice-3.ensures at c.in_ok-function.ensures.kinds)
          (rw (c.as_slice.ensures, c.as_slice-2.ensures) at c.in_ok-kinds.ensures.kinds);
    })
