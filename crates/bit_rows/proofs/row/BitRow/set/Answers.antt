use Rattle.std.proofs.Common.{◌<◌, ◌≡◌, ◌/◌, length, get_or, ap, arith}
use Rattle.std.proofs.lemmas.List.{get_or_read}
use Rattle.bit_rows.proofs.BitLemmas.{length-bits_of, bits_of-set_true}
use Rattle.bit_rows.proofs.row.BitRow.set.Goals as goal

pub index-word-requires : goal.index-word-requires
index-word-requires c =
    omega (arith, length-bits_of c.self.inside.words.items c.self.inside.count, ap length c.self.view_is)

pub index_mut-requires : goal.index_mut-requires
index_mut-requires c =
    omega (arith, length-bits_of c.self.inside.words.items c.self.inside.count, ap length c.self.view_is)

pub returns : goal.returns
returns c =
    let words = c.self.inside.words.items in
    let count = c.self.inside.count in
    let within : c.args.at < count = omega (arith, length-bits_of words count, ap length c.self.view_is) in
    let read : c.index-word.result.now ≡ get_or words (c.args.at / 64) 0 =
    get_or_read words (c.args.at / 64) _ (omega (arith, c.self.inside.words.ok.0)) c.index-word.ensures 0 in
    rw (← c.self.view_is)
    (bits_of-set_true words count c.args.at c.index-word.result.now within
    (omega (arith, c.self.inside.words.ok.0)) read)
