use Rattle.scev_tool.proofs.FunctionLines.{function_lines}
use Rattle.scev_tool.proofs.report.push_function.Goals as goal

pub returns : goal.returns
returns c =
    function_lines c.push_loops_of.result c.args.globals.now c.args.f.now _ c.args.out.now.items
    c.push_function_line.new.out.items c.push_loops_of.new.out.items c.in_ok-names.ensures
    c.in_ok-push_function_line.ensures c.push_loops_of.ensures
