-- Blocks of a function whose ids stand in its tables.
use Rattle.std.proofs.Common.{◌≢◌, ℕ, ◌<◌, List, [], ◌∷◌, ◌++◌, length, map, flat_map, All, refl, arith}
use Rattle.std.proofs.lemmas.List.Elements.{All-nil, All-cons, All-head, All-tail, All-append, All-contains, Contains-get_or, Contains-append_left, Contains-append_right}
use Rattle.ir_model.specs.declared.op.Case.{Case}
use Rattle.ir_model.specs.declared.op.Op.{Op}
use Rattle.ir_model.specs.declared.op.Op.TheVariants.{Jump, Branch, Switch}
use Rattle.ir_model.specs.declared.function.Instr.{Instr}
use Rattle.ir_model.specs.declared.function.Block.{Block}
use Rattle.ir_model.specs.declared.function.Param.{Param}
use Rattle.ir_model.specs.declared.function.Function.{Function}
use Rattle.ir_model.specs.Shapes.{targets, entry}
use Rattle.ir_model.specs.Sites.{DefinesValue, UsesBlock, operand_sites, result_sites, op_sites, instr_sites, block_sites}
use Rattle.ir_model.specs.Walks.{successors}
use Rattle.ir_model.specs.WellMade.{IsInTable, HasIds}

pub all_left : {X : Type 0} (P : X → Type 0) (xs ys : List X) → All P (xs ++ ys) → All P xs
all_left P xs ys all k d within =
    All-contains P (xs ++ ys) _ all (Contains-append_left xs ys _ (Contains-get_or xs k d within))

pub all_right : {X : Type 0} (P : X → Type 0) (xs ys : List X) → All P (xs ++ ys) → All P ys
all_right P xs ys all k d within =
    All-contains P (xs ++ ys) _ all (Contains-append_right xs ys _ (Contains-get_or ys k d within))

module _ (f : Function) where
  -- the number of a block in the function's table
  abbrev pub IsLabel : ℕ → Type 0
  IsLabel k = k < length f.labels

  cases_within : (cases : List Case) → All (IsInTable f) (map (λ (c : Case). UsesBlock c.to.0) cases)
      → All IsLabel (map (λ (one : Case). one.to.0) cases)
  cases_within [] h = All-nil IsLabel
  cases_within (c ∷ cases) h =
      let sites = map (λ (c : Case). UsesBlock c.to.0) cases in
      All-cons IsLabel c.to.0 (map (λ (one : Case). one.to.0) cases) (All-head (IsInTable f) (UsesBlock c.to.0) sites h)
      (cases_within cases (All-tail (IsInTable f) (UsesBlock c.to.0) sites h))

  targets_within : (op : Op) → All (IsInTable f) (op_sites op) → All IsLabel (targets op)
  targets_within (Jump to) h =
      All-cons IsLabel to.0 [] (All-head (IsInTable f) (UsesBlock to.0) [] h) (All-nil IsLabel)
  targets_within (Branch cond there other) h =
      let more = UsesBlock other.0 ∷ [] in
      let both = all_right (IsInTable f) (operand_sites cond) (UsesBlock there.0 ∷ more) h in
      let second = All-tail (IsInTable f) (UsesBlock there.0) more both in
      All-cons IsLabel there.0 (other.0 ∷ []) (All-head (IsInTable f) (UsesBlock there.0) more both)
      (All-cons IsLabel other.0 [] (All-head (IsInTable f) (UsesBlock other.0) [] second) (All-nil IsLabel))
  targets_within (Switch kind value other cases) h =
      let more = map (λ (c : Case). UsesBlock c.to.0) cases in
      let all = all_right (IsInTable f) (operand_sites value) (UsesBlock other.0 ∷ more) h in
      All-cons IsLabel other.0 (map (λ (one : Case). one.to.0) cases)
      (All-head (IsInTable f) (UsesBlock other.0) more all)
      (cases_within cases (All-tail (IsInTable f) (UsesBlock other.0) more all))
  targets_within _ h = All-nil IsLabel

  successors_within : (instrs : List Instr) → All (IsInTable f) (flat_map instr_sites instrs)
      → All IsLabel (successors instrs)
  successors_within [] h = All-nil IsLabel
  successors_within (instr ∷ instrs) h =
      let more = flat_map instr_sites instrs in
      let sites = all_left (IsInTable f) (instr_sites instr) more h in
      let own = targets_within instr.op
      (all_right (IsInTable f) (result_sites instr.result) (op_sites instr.op) sites) in
      let later = successors_within instrs (all_right (IsInTable f) (instr_sites instr) more h) in
      All-append IsLabel (targets instr.op) (successors instrs) own later

  abbrev pub IsLabelledBlock : Block → Type 0
  IsLabelledBlock block = IsLabel block.id.0 × All IsLabel (successors block.instrs)

  blocks_labelled : (blocks : List Block) → All (IsInTable f) (flat_map block_sites blocks) → All IsLabelledBlock blocks
  blocks_labelled [] h = All-nil IsLabelledBlock
  blocks_labelled (block ∷ blocks) h =
      let more = flat_map block_sites blocks in
      let own = all_left (IsInTable f) (block_sites block) more h in
      let at_id = IsInTable f in
      All-cons IsLabelledBlock block blocks (
        own 0 (DefinesValue 0) (omega arith),
        successors_within block.instrs (All-tail (IsInTable f) _ (flat_map instr_sites block.instrs) own),
      ) (blocks_labelled blocks (all_right (IsInTable f) (block_sites block) more h))

  -- each block and each block that it leads to is in the table
  pub labelled : HasIds f → All IsLabelledBlock f.blocks
  unfolding HasIds
  labelled ids =
      blocks_labelled f.blocks
      (all_right (IsInTable f) (map (λ (p : Param). DefinesValue p.value.0) f.params)
      (flat_map block_sites f.blocks) ids)

  entry_in : (blocks : List Block) → All IsLabelledBlock blocks → blocks ≢ [] → IsLabel (entry blocks)
  entry_in [] all some = absurd (some refl)
  entry_in (block ∷ blocks) all some = (All-head IsLabelledBlock block blocks all).0

  pub entry_within : HasIds f → f.blocks ≢ [] → IsLabel (entry f.blocks)
  entry_within ids = entry_in f.blocks (labelled ids)
