use Rattle.std.proofs.Common.{◌≡◌, ◌<◌, length, get_or, take, ◌∙◌, arith, length-set, length-take-le}
use Rattle.std.proofs.lemmas.List.{take_more}
use Rattle.std.proofs.lemmas.List.Elements.{All-get_or}
use Rattle.loop_regions.proofs.TableLemmas.{AreNumbered_more}
use Rattle.loop_regions.proofs.table.numbered.Goals as goal

pub loop-number-preserved : goal.loop-number-preserved
loop-number-preserved c =
    let headers = c.args.headers.now in
    let n = c.loop-number.number in
    let within : n < length headers = omega arith in
    let h = get_or headers n (record { 0 = 0 }) in
    let small = All-get_or (λ b. b.0 < c.args.labels) headers n (record { 0 = 0 }) within c.requires in
    let inside : h.0 < length c.loop-number.innermost.items = omega (arith, small) in
    let before : length (take n headers) ≡ n = length-take-le n headers (omega arith) in (
      length-set c.loop-number.innermost.items h.0 _ ∙ c.loop-number.invariant.0,
      rw (take_more headers n (record { 0 = 0 }) within) (AreNumbered_more (take n headers) c.loop-number.innermost.items h n before inside c.loop-number.invariant.1),
    )
