use Rattle.std.proofs.Common.{◌<◌, length, sym, arith}
use Rattle.ir_parts.proofs.Places.{token_is, not_none, no_text}
use Rattle.ir_parts.proofs.cursor.next.Goals as goal

pub returns-in_err-token : goal.returns-in_err-token
returns-in_err-token c =
    absurd (not_none c.args.tokens.now c.args.from (omega arith) (sym (c.in_err-token.ensures)))

pub returns-in_err-text : goal.returns-in_err-text
returns-in_err-text c =
    absurd (no_text c.args.tokens.now c.args.from c.in_ok-token.token (sym (c.in_ok-token.ensures))
    (c.in_err-text.ensures))

pub returns : goal.returns
returns c =
    let within : c.args.from < length c.args.tokens.now.tokens = omega arith in (
      token_is c.args.tokens.now c.args.from c.in_ok-token.token c.in_ok-text.text.now (sym (c.in_ok-token.ensures))
          (c.in_ok-text.ensures),
      within,
      omega arith,
    )
