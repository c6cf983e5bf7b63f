use Rattle.std.proofs.Common.{◌≡◌, ◌<◌, List, [], ◌∷◌, ◌++◌, length, get_or, take, refl, ap, ◌∙◌, arith, length-set}
use Rattle.std.proofs.lemmas.List.{take_more, take_all, get_or_read}
use Rattle.std.proofs.lemmas.List.Elements.{All-get_or}
use Rattle.scev_base.specs.declared.ids.BlockId.{BlockId}
use Rattle.flow_graph.proofs.SourceLemmas.{no_sources, source_added}
use Rattle.flow_graph.proofs.sources.add_source.Goals as goal

pub loop-to-init : goal.loop-to-init
loop-to-init c = record { size = refl; rows = no_sources c.args.rows.now.items c.args.from }

pub loop-to-preserved : goal.loop-to-preserved
loop-to-preserved c =
    let targets = c.args.targets.now in
    let i = c.loop-to.to-index in
    let node = get_or targets i 0 in
    let old = c.args.rows.now.items in
    let rows = c.loop-to.rows.items in
    let from = c.args.from in
    let small = All-get_or (λ k. k < length old) targets i 0 c.loop-to-test.true c.requires in
    let within : node < length rows = omega (arith, small, c.loop-to.invariant.size) in
    let row = get_or_read rows node c.index_mut-row.result.now within c.index_mut-row.ensures.value [] in
    let pushed : c.push.new.self ≡ get_or rows node [] ++ from ∷ [] = c.in_ok-push.ensures.ok
    ∙ ap (λ (xs : List BlockId). xs ++ from ∷ []) row in
    record {
      size = length-set rows node c.push.new.self ∙ c.loop-to.invariant.size;
      rows = rw (take_more targets i 0 c.loop-to-test.true, pushed)
          (source_added old rows from (take i targets) node within c.loop-to.invariant.rows);
    }

pub returns-clause-rows : goal.returns-clause-rows
returns-clause-rows c = rw (take_all c.loop-to.to-index c.args.targets.now c.loop-to-test.false) at
    c.loop-to.invariant.rows
