-- What is past a limit, one block and one instruction at a time.
use Rattle.std.proofs.Common.{◌≡◌, ℕ, suc, ◌+◌, ◌<◌, ◌≤◌, true, false, ◌&&◌, List, [], ◌∷◌, Some, None, slice_get}
use Rattle.std.proofs.Common.{length, inl, inr, sym, ◌∙◌, ap, arith}
use Rattle.std.specs.Prelude.{nat_lt}
use Rattle.std.specs.Option.{option_or}
use Rattle.std.proofs.lemmas.Bool.{cases_Bool, and_parts, ltb-true, lt-ltb, le-ltb}
use Rattle.ir_model.specs.declared.function.Instr.{Instr}
use Rattle.ir_model.specs.declared.function.Block.{Block}
use Rattle.ir_model.specs.declared.rule.Place.{Place}
use Rattle.ir_model.specs.declared.rule.Place.TheVariants.{BlockAt}
use Rattle.ir_rules.specs.Spots.{named_by}
use Rattle.ir_rules.specs.Limits.{instrs_past, past, types_within}
use Rattle.ir_check.proofs.FirstPlaces.{first-append}

module _ (b n : ℕ) (instr : Instr) (instrs : List Instr) where
  pub past_found : (nat_lt n 8192 && types_within instr.op) ≡ false
      → slice_get (instrs_past b n (instr ∷ instrs)) 0 ≡ Some (named_by b instr.result)
  past_found is = simp is

  pub past_behind : (nat_lt n 8192 && types_within instr.op) ≡ true
      → instrs_past b n (instr ∷ instrs) ≡ instrs_past b (n + 1) instrs
  past_behind is = let next : suc n ≡ n + 1 = omega arith in
      simp is (ap (λ k. instrs_past b k instrs) next)

-- Instructions of which none is past a limit end at the limit or before it.
pub small_behind : (b n : ℕ) (instrs : List Instr) → n ≤ 8192 → slice_get (instrs_past b n instrs) 0 ≡ None
    → n + length instrs ≤ 8192
small_behind b n [] small none = omega arith
small_behind b n (instr ∷ instrs) small none =
    elim (cases_Bool (nat_lt n 8192 && types_within instr.op)) [
      | inl is ↦
          (let below = ltb-true n 8192 (and_parts _ _ is).0 in
          let rest = small_behind b (n + 1) instrs (omega arith)
          (ap (λ places. slice_get places 0) (sym (past_behind b n instr instrs is)) ∙ none) in
          omega arith)
      | inr is ↦
          (let found : Some (named_by b instr.result) ≡ None = sym (past_found b n instr instrs is) ∙ none in cc)
    ]

module _ (n before : ℕ) (block : Block) (more : List Block) where
  pub many_blocks : 1024 ≤ n → slice_get (past n before (block ∷ more)) 0 ≡ Some (BlockAt block.id)
  many_blocks over = simp (le-ltb n 1024 over)

  in_block : n < 1024 → slice_get (past n before (block ∷ more)) 0
      ≡ option_or (slice_get (instrs_past block.id.0 before block.instrs) 0)
      (slice_get (past (n + 1) (before + length block.instrs) more) 0)
  in_block below =
      let next : suc n ≡ n + 1 = omega arith in
      let here = instrs_past block.id.0 before block.instrs in
      let rest = λ (k : ℕ). past k (before + length block.instrs) more in
      simp (lt-ltb n 1024 below)
      (first-append here (rest (suc n)) ∙ ap (λ k. option_or (slice_get here 0) (slice_get (rest k) 0)) next)

  pub block_found : (at : Place) → n < 1024
      → slice_get (instrs_past block.id.0 before block.instrs) 0 ≡ Some at
      → slice_get (past n before (block ∷ more)) 0 ≡ Some at
  block_found at below found =
      in_block below
      ∙ ap (λ first. option_or first (slice_get (past (n + 1) (before + length block.instrs) more) 0)) found

  pub block_behind : n < 1024 → slice_get (instrs_past block.id.0 before block.instrs) 0 ≡ None
      → slice_get (past n before (block ∷ more)) 0 ≡ slice_get (past (n + 1) (before + length block.instrs) more) 0
  block_behind below none =
      in_block below
      ∙ ap (λ first. option_or first (slice_get (past (n + 1) (before + length block.instrs) more) 0)) none

pub ruleset instr_steps = (past_found, past_behind)

pub ruleset block_steps = (small_behind, many_blocks, block_found, block_behind)
