use Rattle.std.proofs.Common.{[], ◌∷◌, ◌++◌, get_or, take, map, length, sym, ap, ◌∙◌, subst, arith}
use Rattle.std.proofs.lemmas.List.{length_push, map_push, map_more, get_or-map}
use Rattle.scev_tree.specs.Tree.{constant}
use Rattle.scev_arena.specs.Meaning.{tree_of}
use Rattle.scev_forms.specs.Sums.{at_place}
use Rattle.scev_sums.specs.Answers.{AreTreesOfAt, trees_at}
use Rattle.scev_sums.proofs.Held.{tree_among, trees_and_last}
use Rattle.scev_sums.proofs.parts.results_of.Goals as goal

pub loop-place-preserved : goal.loop-place-preserved
loop-place-preserved c =
    let results = c.args.results.now in
    let places = c.args.places.now in
    let ids = c.loop-place.ids.items in
    let i = c.loop-place.place-index in
    let k = get_or results i 0 in
    let id = get_or places k (record { 0 = 0 }) in
    let within = c.requires i 0 c.loop-place-test.true in
    let added = c.in_ok-push.ensures.items in
    let before = c.loop-place.invariant in
    record {
      trees = λ nodes w h. subst (AreTreesOfAt nodes w) (sym added)
          (trees_and_last nodes w ids id (before.trees nodes w h)
          (tree_among nodes w places k (record { 0 = 0 }) h within));
      count = let many = length_push ids id in let same = ap length added in omega (arith, before.count);
      results = λ nodes w.
          ap (trees_at nodes) added
          ∙ map_push (tree_of nodes) ids id
          ∙ ap (λ l. l ++ tree_of nodes id ∷ []) (before.results nodes w)
          ∙ ap (λ tree. map (at_place w (trees_at nodes places)) (take i results) ++ tree ∷ [])
          (sym (get_or-map (tree_of nodes) places k (record { 0 = 0 }) (constant w 0) within))
          ∙ sym (map_more (at_place w (trees_at nodes places)) results i 0 c.loop-place-test.true);
    }
