use Rattle.std.proofs.Common.{◌≡◌, replicate, arith}
use Rattle.bit_rows.proofs.BitLemmas.{bits_of-zeros}
use Rattle.bit_rows.proofs.row.BitRow.new.Goals as goal

pub returns : goal.returns
returns c =
    let zeros : c.in_ok-words.words.items ≡ replicate c.div_ceil.result 0 =
    c.in_ok-words.ensures.items_if_clones_equal (λ y h. h) in
    rw zeros (bits_of-zeros c.div_ceil.result c.args.count (omega arith))
