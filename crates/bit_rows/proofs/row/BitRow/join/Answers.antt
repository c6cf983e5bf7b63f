use Rattle.std.proofs.Common.{◌<◌, ◌≤◌, ◌*◌, ◌∙◌, length, sym, ap, arith}
use Rattle.std.proofs.lemmas.List.{get_or_read}
use Rattle.std.specs.Prelude.{bit_or}
use Rattle.bit_rows.proofs.BitLemmas.{length-bits_of, same_count, bits_of-or, IsMerged-more}
use Rattle.bit_rows.proofs.row.BitRow.join.Goals as goal

pub index-requires : goal.index-requires
index-requires c =
    let same = same_count _ _ _ _ _ _ c.self.view_is c.other.view_is c.requires in
    omega arith

pub loop-k-preserved : goal.loop-k-preserved
loop-k-preserved c =
    let old = c.self.inside.words.items in
    let other = c.other.inside.words.items in
    let words = c.loop-k.self-inside.words in
    let k = c.loop-k.k in
    let merged = c.loop-k.invariant.merged in
    let within : k < length old = omega (arith, c.self.inside.words.ok.0) in
    let same = same_count _ _ _ _ _ _ c.self.view_is c.other.view_is c.requires in
    record {
      count = c.loop-k.invariant.count;
      merged =
          IsMerged-more bit_or old other words.items k _ _ merged within
          (get_or_read words.items k _ (omega (arith, merged.len)) c.index_mut.ensures.value 0)
          (get_or_read other k _ (omega (arith, c.other.inside.words.ok.0)) c.index.ensures 0);
    }

pub returns-clause-count : goal.returns-clause-count
returns-clause-count c =
    length-bits_of c.loop-k.self-inside.words.items c.loop-k.self-inside.count
    ∙ c.loop-k.invariant.count
    ∙ sym (length-bits_of c.self.inside.words.items c.self.inside.count)
    ∙ ap length c.self.view_is

pub returns-clause-bits : goal.returns-clause-bits
returns-clause-bits c =
    let same = same_count _ _ _ _ _ _ c.self.view_is c.other.view_is c.requires in
    let count = c.self.inside.count in
    let room : count ≤ c.loop-k.k * 64 = omega (arith, c.self.inside.words.ok.0) in
    rw (c.loop-k.invariant.count, ← c.self.view_is, ← c.other.view_is, ← same)
    (bits_of-or _ _ _ count c.loop-k.k c.loop-k.invariant.merged room)
