use Rattle.std.proofs.Common.{◌/◌, arith}
use Rattle.std.proofs.lemmas.Bool.Decides.{nat_tests}
use Rattle.std.proofs.lemmas.List.{get_or_read}
use Rattle.bit_rows.proofs.BitLemmas.{bit_test, past-bits_of}
use Rattle.bit_rows.proofs.row.BitRow.get.Goals as goal

pub returns-then-at-self : goal.returns-then-at-self
returns-then-at-self c =
    let words = c.self.inside.words.items in
    rw (← c.self.view_is)
    (bit_test words c.self.inside.count c.args.at c.index.result.now c.if-at-self.true
    (get_or_read words (c.args.at / 64) _ (omega (arith, c.self.inside.words.ok.0)) c.index.ensures 0))

pub returns-else-at-self : goal.returns-else-at-self
returns-else-at-self c =
    let past = past-bits_of c.self.inside.words.items c.self.inside.count c.args.at c.if-at-self.false in
    rw (← c.self.view_is, past) (grind (arith, nat_tests))
