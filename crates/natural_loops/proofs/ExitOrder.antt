-- The exits of a loop, in the order in which they are passed.
use Rattle.std.proofs.Common.{◌≡◌, ◌≢◌, ◌↔◌, ◌==◌, ◌⊎◌, ℕ, ◌<◌, Bool, List, length, get_or, Some, None, All, AllPairs}
use Rattle.std.proofs.Common.{Contains, sym, ◌∙◌, subst, inl, inr, arith}
use Rattle.std.proofs.lemmas.Bool.{lt-ltb, cond-true}
use Rattle.std.proofs.lemmas.Option.{slice_get_within}
use Rattle.std.proofs.lemmas.List.Elements.{All-get_or, Contains-get_or}
use Rattle.std.proofs.lemmas.List.Folds.{find_at}
use Rattle.std.specs.List.{find, position, position_or_len}
use Rattle.scev_base.specs.declared.ids.BlockId.{BlockId}
use Rattle.ir_model.specs.declared.function.Block.{Block}
use Rattle.ir_model.specs.declared.function.Function.{Function}
use Rattle.ir_model.specs.Shapes.{block_of, entry}
use Rattle.ir_model.specs.Walks.{Edge}
use Rattle.flow_graph.specs.TextOrder.{StandsBefore}
use Rattle.ssa_check.specs.Checked.{Dominates}
use Rattle.loop_regions.specs.Loops.{Loop, IsLoop}
use Rattle.natural_loops.specs.Sides.{AreInTextOrder, IsLatch, IsExit, IsPassedEachTurn, ComesBefore, AreExits}
use Rattle.natural_loops.proofs.Walking.{last_edge}
use Rattle.ssa_check.proofs.Dominance.{dominates_one_way}
use Rattle.natural_loops.proofs.Bodies.{header_dominates}
use Rattle.natural_loops.proofs.Passing.{dominators_chain, walks_pass, turn_passes}

-- what is found stands somewhere
found_place : {X : Type 0} (p : X → Bool) (xs : List X) (x : X) → find p xs ≡ Some x
    → (i : ℕ) × (position p xs ≡ Some i)
found_place p xs x found =
    let n = position_or_len p xs in
    let within : n < length xs = slice_get_within xs n x (sym (find_at p xs) ∙ found) in
    (n, cond-true _ (Some n) None (lt-ltb n (length xs) within))

-- no block stands before itself
pub never_before_itself : (f : Function) (b : ℕ) (block : Block) → block_of f b ≡ Some block → StandsBefore f b b → ⊥
never_before_itself f b block found before =
    let place = found_place (λ block. block.id.0 == b) f.blocks block found in
    let less : place.0 < place.0 = before place.0 place.0 place.1 place.1 in
    omega (arith, less)

module _ (f : Function) (never : (a : ℕ) → Edge f a (entry f.blocks) → ⊥) (l : Loop) (is_loop : IsLoop f l) where
  -- the last block of a turn is a latch
  some_latch : (b : ℕ) × IsLatch f l b
  some_latch =
      let region = is_loop.region in
      let turn = region.connected l.header l.header region.header region.header in
      let last = last_edge f (Contains l.blocks) l.header l.header turn.0 region.header turn.1 turn.2 in
      (last.0, (region.reachable last.0 last.1, last.1, last.2))

  latch_dominated : (x : ℕ) → IsPassedEachTurn f l x → (b : ℕ) → IsLatch f l b → Dominates f x b
  latch_dominated x passed = (turn_passes f never l is_loop x passed.held).0 passed.passed

  -- of two blocks that each turn passes one dominates the other
  pub passed_chain : (a b : ℕ) → IsPassedEachTurn f l a → IsPassedEachTurn f l b → Dominates f a b ⊎ Dominates f b a
  passed_chain a b first second =
      let latch = some_latch in
      dominators_chain f a b latch.0 (is_loop.region.reachable latch.0 latch.1.1)
      (latch_dominated a first latch.0 latch.1) (latch_dominated b second latch.0 latch.1)

  -- and comes before it
  pub passed_before : (a b : ℕ) → Contains l.blocks a → Contains l.blocks b → Dominates f a b → a ≢ b
      → ComesBefore f l a b
  passed_before a b held also dominates apart =
      let region = is_loop.region in
      let later : b ≢ l.header =
      λ is.
      let first : Dominates f a l.header = subst (Dominates f a) is dominates in
      dominates_one_way f a l.header (λ same. apart (same ∙ sym is)) (region.reachable l.header region.header) first
      (header_dominates f never l region a held) in
      record {
        apart = apart;
        later = later;
        passed = λ way.
            elim ((walks_pass f never l is_loop a b held also later).1 dominates way) [
              | inl there ↦ there
              | inr is ↦ absurd (apart is)
            ];
      }

  module _ (exits : List BlockId) (are : AreInTextOrder f (IsExit f l) exits) where
    exit_at : (k : ℕ) (d : BlockId) → k < length exits → IsExit f l (get_or exits k d).0
    exit_at k d within = (are.each (get_or exits k d)).0 (Contains-get_or exits k d within)

    pub exits_apart : AllPairs (λ a b. a.0 ≢ b.0) exits
    exits_apart i j d less within is =
        let exit = exit_at j d within in
        let before = subst (λ (k : ℕ). StandsBefore f k (get_or exits j d).0) is (are.ordered i j d less within) in
        never_before_itself f (get_or exits j d).0 exit.2.0 exit.2.1 before

    -- where each turn passes all of them
    module _ (all : All (λ (b : BlockId). IsPassedEachTurn f l b.0) exits) where
      each_passed : (k : ℕ) (d : BlockId) → k < length exits → IsPassedEachTurn f l (get_or exits k d).0
      each_passed k d within = All-get_or (λ (b : BlockId). IsPassedEachTurn f l b.0) exits k d within all

      pub exits_chain : AllPairs (λ a b. Dominates f a.0 b.0 ⊎ Dominates f b.0 a.0) exits
      exits_chain i j d less within =
          passed_chain (get_or exits i d).0 (get_or exits j d).0 (each_passed i d (omega (arith, less, within)))
          (each_passed j d within)

      all_passed : (b : ℕ) → IsExit f l b → IsPassedEachTurn f l b
      all_passed b exit =
          let id : BlockId = record { 0 = b } in
          let there = (are.each id).1 exit in
          subst (λ (x : BlockId). IsPassedEachTurn f l x.0) there.2 (each_passed there.0 id there.1)

      pub exits_passed : (found : List BlockId) → ((b : BlockId) → Contains found b ↔ Contains exits b)
          → AllPairs (λ a b. a.0 ≢ b.0) found → AllPairs (λ a b. Dominates f a.0 b.0) found → AreExits f l found
      exits_passed found same apart ordered =
          let held : (k : ℕ) (d : BlockId) → k < length found → Contains l.blocks (get_or found k d).0 = λ k d within.
          ((are.each (get_or found k d)).0 ((same (get_or found k d)).0 (Contains-get_or found k d within))).0 in
          record {
            each = λ b. (
              (λ there. (are.each b).0 ((same b).0 there)),
              (λ exit. (same b).1 ((are.each b).1 exit)),
            );
            passed = λ each i j d less within.
                passed_before (get_or found i d).0 (get_or found j d).0 (held i d (omega (arith, less, within)))
                (held j d within) (ordered i j d less within) (apart i j d less within);
            other = λ some. absurd (some all_passed);
          }

    -- where a turn passes not all of them
    pub exits_other : (All (λ (b : BlockId). IsPassedEachTurn f l b.0) exits → ⊥) → AreExits f l exits
    exits_other none = record {
      each = are.each;
      passed = λ each. absurd (none (λ k d within. each (get_or exits k d).0 (exit_at k d within)));
      other = λ some. are.ordered;
    }
