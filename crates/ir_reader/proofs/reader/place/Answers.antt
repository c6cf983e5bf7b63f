use Rattle.std.proofs.Common.{sym}
use Rattle.ir_reader.proofs.ReadRefusals.{place_there, place_at_end}
use Rattle.ir_reader.proofs.reader.place.Goals as goal

pub returns-in-Some : goal.returns-in-Some
returns-in-Some c =
    place_there c.args.tokens.now.bytes c.args.tokens.now.tokens c.args.at_token c.args.end c.in-Some.token
    (sym c.in-Some.ensures)

pub returns-in-None : goal.returns-in-None
returns-in-None c =
    place_at_end c.args.tokens.now.bytes c.args.tokens.now.tokens c.args.at_token c.args.end (sym c.in-None.ensures)
