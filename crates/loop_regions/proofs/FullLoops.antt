-- Loops of one block among the loops as sets of blocks.
use Rattle.std.proofs.Common.{◌≡◌, ℕ, zero, suc, List, [], ◌∷◌, ◌++◌, get_or, All, Contains, refl, sym, subst, arith}
use Rattle.std.proofs.lemmas.List.Elements.{All-nil, All-contains, Contains-get_or, Contains-append_right}
use Rattle.ir_model.specs.declared.function.Function.{Function}
use Rattle.ir_model.specs.Walks.{Edge, Walk, Reachable}
use Rattle.loop_regions.specs.Loops.{Loop, IsRegion, IsLoop}
use Rattle.loop_regions.specs.OneBlock.{IsOneBlockLoop, one_block}
use Rattle.flow_graph.proofs.WalkPaths.{walk_join}

only : (b c : ℕ) → Contains (b ∷ []) c → b ≡ c
only b c (zero, within, is) = is
only b c (suc k, within, is) = absurd (omega arith)

region_of_one : (f : Function) (b : ℕ) → IsOneBlockLoop f b → IsRegion f (one_block b)
region_of_one f b is = record {
  header = (0, omega arith, refl);
  reachable = λ c there. subst (Reachable f) (only b c there) is.reachable;
  connected = λ a c from to. (
    [],
    All-nil (Contains (b ∷ [])),
    subst (Edge f a) (only b c to) (subst (λ (k : ℕ). Edge f k b) (only b a from) is.back),
  );
  entered = λ a c reachable outside there edge. sym (only b c there);
}

-- a region that holds the block has no other one
region_alone : (f : Function) (b : ℕ) (l : Loop) → IsOneBlockLoop f b → IsRegion f l → Contains l.blocks b → (c : ℕ) → Contains l.blocks c → c ≡ b
region_alone f b l is region start c there =
    let out = region.connected b c start there in
    let home = region.connected c b there start in
    let on = out.0 ++ c ∷ home.0 in
    let passed : Contains on c = Contains-append_right out.0 (c ∷ home.0) c (0, omega arith, refl) in
    All-contains (λ k. k ≡ b) on c (is.alone on (walk_join f b c b out.0 home.0 out.2 home.2)) passed

pub loop_of_one : (f : Function) (b : ℕ) → IsOneBlockLoop f b → IsLoop f (one_block b)
loop_of_one f b is = record {
  region = region_of_one f b is;
  largest = λ other region header c there.
      let start : Contains other.blocks b = subst (Contains other.blocks) header region.header in
      (0, omega arith, sym (region_alone f b other is region start c there));
}

pub no_other_loop : (f : Function) (b : ℕ) (l : Loop) → IsOneBlockLoop f b → IsLoop f l → Contains l.blocks b → (l.header ≡ b) × All (λ c. c ≡ b) l.blocks
no_other_loop f b l is loop there =
    let alone = region_alone f b l is loop.region there in
    (alone l.header loop.region.header, λ k d within. alone (get_or l.blocks k d) (Contains-get_or l.blocks k d within))

first_step : (f : Function) (b : ℕ) (between : List ℕ) → All (Contains (b ∷ [])) between → Walk f b between b → Edge f b b
first_step f b [] inside walk = walk
first_step f b (c ∷ between) inside walk = subst (Edge f b) (sym (only b c (inside 0 c (omega arith)))) walk.0

pub back_of_loop : (f : Function) (b : ℕ) → IsLoop f (one_block b) → Reachable f b × Edge f b b
back_of_loop f b is =
    let there = is.region.header in
    let walk = is.region.connected b b there there in
    (is.region.reachable b there, first_step f b walk.0 walk.1 walk.2)
