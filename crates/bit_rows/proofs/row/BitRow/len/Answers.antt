use Rattle.std.proofs.Common.{◌∙◌, length, sym, ap}
use Rattle.bit_rows.proofs.BitLemmas.{length-bits_of}
use Rattle.bit_rows.proofs.row.BitRow.len.Goals as goal

pub returns : goal.returns
returns c = sym (length-bits_of c.self.inside.words.items c.self.inside.count) ∙ ap length c.self.view_is
