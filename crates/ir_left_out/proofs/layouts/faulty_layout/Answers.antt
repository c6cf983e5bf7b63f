use Rattle.std.proofs.Common.{◌≡◌, take, rules}
use Rattle.ir_text.specs.declared.token.TokenKind.TheVariants.{Quoted}
use Rattle.ir_lex.specs.Tokenized.{lexemes}
use Rattle.ir_left_out.proofs.TargetFound.{faulty}
use Rattle.ir_left_out.proofs.layouts.faulty_layout.Goals as goal

pub returns-then-branch-clause-value : goal.returns-then-branch-clause-value
returns-then-branch-clause-value c =
    let kind : c.args.kind ≡ Quoted = search rules in
    faulty (take c.args.at (lexemes c.args.tokens.now)) (record { kind = c.args.kind; text = c.args.text.now })
    c.quoted_fault.result (c.in_ok-ends_target.ensures.0 c.if-branch.true) kind c.quoted_fault.ensures.value
