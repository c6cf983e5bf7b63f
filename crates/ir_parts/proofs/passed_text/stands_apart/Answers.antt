use Rattle.std.proofs.Common.{not, ap, ◌∙◌}
use Rattle.ir_parts.proofs.Between.{close_there}
use Rattle.ir_parts.proofs.passed_text.stands_apart.Goals as goal

pub returns-then-at-to : goal.returns-then-at-to
returns-then-at-to c =
    ap not c.stand_close.ensures
    ∙ close_there c.args.tokens.now c.args.before c.args.at c.args.to c.if-at-to.true c.requires.1
