use Rattle.std.proofs.Common.{◌≡◌, take, map, nat_eq}
use Rattle.std.specs.Option.{unwrap_or}
use Rattle.indexmap.specs.IndexMap.{get}
use Rattle.value_groups.proofs.counts.sizes.Given as goal

abbrev pub invariant-loop-component : goal.invariant-loop-component
invariant-loop-component l = l.sizes.items
    ≡ map (λ c. unwrap_or (get nat_eq l.counts c) 0) (take l.component-index l.components)
