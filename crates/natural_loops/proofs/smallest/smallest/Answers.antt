use Rattle.std.proofs.Common.{◌≡◌, ◌<◌, ◌+◌, ℕ, false, List, [], ◌∷◌, ◌++◌, Some, length}
use Rattle.std.proofs.Common.{get_or, slice_get, take, sym, ap, ◌∙◌, subst}
use Rattle.std.proofs.lemmas.Bool.{both_ways, not-true, not-false}
use Rattle.std.proofs.lemmas.Option.{slice_get-get_or}
use Rattle.std.proofs.lemmas.List.{take_more, take_all}
use Rattle.scev_base.specs.declared.ids.BlockId.{BlockId}
use Rattle.flow_graph.specs.Graph.{IsMarked}
use Rattle.natural_loops.specs.Table.{RegionParts}
use Rattle.natural_loops.proofs.SmallestLoop.{IsSmallestAmong, IsSmallestAmong_skip}
use Rattle.natural_loops.proofs.SmallestLoop.{IsSmallestAmong_more, IsSmallestAmong_kept, IsSmallestAmong_all}
use Rattle.natural_loops.proofs.SmallestLoop.{same_header, header_same}
use Rattle.natural_loops.proofs.smallest.smallest.Goals as goal
use Rattle.natural_loops.proofs.smallest.smallest.Goals.{then-holds+then-ne+then-is_inside, else-holds}
use Rattle.natural_loops.proofs.smallest.smallest.Goals.{else-holds-via-then-holds+then-ne+else-is_inside}
use Rattle.natural_loops.proofs.smallest.smallest.Goals.{else-holds-via-then-holds+else-ne, else-holds-via-else-holds}

pub loop-at-preserved : goal.loop-at-preserved
loop-at-preserved c =
    let regions : List RegionParts = c.args.regions.now in
    let n = c.loop-at.at in
    let region : RegionParts = c.index-regions-at.result in
    let b = c.args.b.0 in
    let P : RegionParts → Type 0 = λ region. IsMarked region.blocks b × (c.args.other ≡ Some region.header → ⊥) in
    let seen : List RegionParts = take n regions in
    let within : n < length regions = c.loop-at-test.true in
    let h : c.region.inside.header ≡ region.header = ap (λ (one : RegionParts). one.header) c.region.view_is in
    let is : region ≡ get_or regions n region = c.index-regions-at.is in
    let at : slice_get regions n ≡ Some region = slice_get-get_or regions n region within ∙ ap Some (sym is) in
    let front : take (n + 1) regions ≡ seen ++ region ∷ [] = take_more regions n region within
    ∙ ap (λ (one : RegionParts). seen ++ one ∷ []) (sym is) in
    record {
      within = elim c.if-holds.branch [
        | then-holds+then-ne+then-is_inside w ↦ rw w.least-is within
        | else-holds w ↦ rw w.least-is c.loop-at.invariant.within
      ];
      exact = λ f are.
          let old = c.loop-at.invariant.exact f are in
          rw front
          (elim c.if-holds.branch [
            | then-holds+then-ne+then-is_inside w ↦
                let apart : c.args.other ≡ Some region.header → ⊥ =
                λ same.
                both_ways _ (not-true _ (sym w.ne.ensures ∙ w.if-ne.true))
                (header_same c.args.other c.region.inside.header (same ∙ ap Some (sym h))) in
                let also : P region = (sym c.holds.ensures ∙ w.if-holds.true, apart) in
                let says : (k : ℕ) (least : RegionParts) → c.loop-at.least ≡ Some k → slice_get regions k ≡ Some least
                → w.is_inside.result ≡ get_or least.blocks region.header.0 false = λ k least found there.
                w.is_inside.ensures.some k least found there
                ∙ ap (λ (x : BlockId). get_or least.blocks x.0 false) h in
                rw w.least-is
                (IsSmallestAmong_more f regions are.each P b (λ one holds. holds.0) seen region n at also
                w.is_inside.result c.loop-at.least says w.if-is_inside.true old)
            | else-holds w ↦
                rw w.least-is
                (elim w.else-holds.branch [
                  | else-holds-via-then-holds+then-ne+else-is_inside v ↦
                      let apart : c.args.other ≡ Some region.header → ⊥ =
                      λ same.
                      both_ways _ (not-true _ (sym v.ne.ensures ∙ v.if-ne.true))
                      (header_same c.args.other c.region.inside.header (same ∙ ap Some (sym h))) in
                      let also : P region = (sym c.holds.ensures ∙ v.if-holds.true, apart) in
                      let says : (k : ℕ) (least : RegionParts) → c.loop-at.least ≡ Some k
                      → slice_get regions k ≡ Some least
                      → v.is_inside.result ≡ get_or least.blocks region.header.0 false = λ k least found there.
                      v.is_inside.ensures.some k least found there
                      ∙ ap (λ (x : BlockId). get_or least.blocks x.0 false) h in
                      IsSmallestAmong_kept f regions are.each P b (λ one holds. holds.0) seen region n at also
                      v.is_inside.result c.loop-at.least v.is_inside.ensures.none says v.if-is_inside.false old
                  | else-holds-via-then-holds+else-ne v ↦
                      let same : c.args.other ≡ Some region.header =
                      same_header c.args.other c.region.inside.header
                      (not-false _ (sym v.ne.ensures ∙ v.if-ne.false)) ∙ ap Some h in
                      IsSmallestAmong_skip f regions are.each P b (λ one holds. holds.0) seen region
                      (λ holds. holds.1 same) c.loop-at.least old
                  | else-holds-via-else-holds v ↦
                      IsSmallestAmong_skip f regions are.each P b (λ one holds. holds.0) seen region
                      (λ holds. both_ways c.holds.result v.if-holds.false (c.holds.ensures ∙ holds.0)) c.loop-at.least
                      old
                ])
          ]);
    }

pub returns-clause-exact : goal.returns-clause-exact
returns-clause-exact c f are =
    let regions : List RegionParts = c.args.regions.now in
    let P : RegionParts → Type 0 = λ region. IsMarked region.blocks c.args.b.0
    × (c.args.other ≡ Some region.header → ⊥) in
    let all : take c.loop-at.at regions ≡ regions = take_all c.loop-at.at regions c.loop-at-test.false in
    IsSmallestAmong_all regions P c.loop-at.least
    (subst (λ (seen : List RegionParts). IsSmallestAmong regions seen P c.loop-at.least) all
    (c.loop-at.invariant.exact f are))
