use Rattle.std.specs.Prelude.{◌≡◌, ◌<◌, length, List, Some, slice_get}
use Rattle.std.proofs.Common.{arith, subst, sym, ◌∙◌}
use Rattle.std.proofs.lemmas.Option.{same_Some, slice_get_within, get_or_from_slice_get}
use Rattle.ir_model.specs.declared.function.Instr.{Instr}
use Rattle.ir_model.specs.declared.function.Block.{Block}
use Rattle.classify.specs.Definitions.{IsGivenAt}
use Rattle.classify.proofs.GivenLemmas.{not_given, read_there}
use Rattle.classify.proofs.given.given.Goals as goal
use Rattle.classify.proofs.given.given.Goals.{After-as_slice, After-as_slice-2}

pub returns-in_err-at-clause-none : goal.returns-in_err-at-clause-none
returns-in_err-at-clause-none c =
    rw c.from_residual.ensures
    (not_given c.args.f.now c.args.definitions.now c.args.v.0 c.requires.thin c.requires.definitions c.in_err-at.ensures.none)

-- the place that was found gives the register
place : (c : After-as_slice) → IsGivenAt c.args.f.now c.args.v.0 (c.in_ok-at.at, c.in_ok-at.instr)
place c = c.requires.definitions.given c.args.v.0 (c.in_ok-at.at, c.in_ok-at.instr) c.in_ok-at.ensures.some

block_within : (c : After-as_slice) → c.in_ok-at.at < length c.as_slice.result.now
block_within c =
    let given = place c in
    subst (λ (blocks : List Block). c.in_ok-at.at < length blocks) (sym c.as_slice.ensures) (slice_get_within c.args.f.now.blocks c.in_ok-at.at given.0 given.2)

pub bounds-as_slice-at : goal.bounds-as_slice-at
bounds-as_slice-at c = block_within c

pub offset_bounds-as_slice-at : goal.offset_bounds-as_slice-at
offset_bounds-as_slice-at c = let h = block_within c in omega (arith, h)

-- the block that was read is the one with the instruction
block_is : (c : After-as_slice-2) → slice_get c.args.f.now.blocks c.in_ok-at.at ≡ Some c.index-as_slice-at.result
block_is c =
    read_there c.args.f.now.blocks c.as_slice.result.now c.in_ok-at.at c.index-as_slice-at.result c.as_slice.ensures (block_within (goal.at.bounds-as_slice-instr c).After-as_slice) c.index-as_slice-at.is

instr_is : (c : After-as_slice-2)
    → (instr : Instr) × (slice_get c.index-as_slice-at.result.instrs c.in_ok-at.instr ≡ Some instr) × (instr.result ≡ Some c.args.v)
instr_is c =
    let given = place (goal.at.bounds-as_slice-instr c).After-as_slice in
    let same = same_Some given.0 c.index-as_slice-at.result (sym given.2 ∙ block_is c) in
    (given.1, subst (λ (block : Block). slice_get block.instrs c.in_ok-at.instr ≡ Some given.1) same given.3, given.4)

instr_within : (c : After-as_slice-2) → c.in_ok-at.instr < length c.as_slice-2.result.now
instr_within c =
    let instr = instr_is c in
    subst (λ (instrs : List Instr). c.in_ok-at.instr < length instrs) (sym c.as_slice-2.ensures) (slice_get_within c.index-as_slice-at.result.instrs c.in_ok-at.instr instr.0 instr.1)

pub bounds-as_slice-instr : goal.bounds-as_slice-instr
bounds-as_slice-instr c = instr_within c

pub offset_bounds-as_slice-instr : goal.offset_bounds-as_slice-instr
offset_bounds-as_slice-instr c = let h = instr_within c in omega (arith, h)

pub returns-clause-some : goal.returns-clause-some
returns-clause-some c =
    let before = (goal.at.returns-clause-some c).After-as_slice-2 in
    let block = block_is before in
    let given = instr_is before in
    let instr = read_there c.index-as_slice-at.result.instrs c.as_slice-2.result.now c.in_ok-at.instr c.index-as_slice-instr.result c.as_slice-2.ensures (instr_within before) c.index-as_slice-instr.is in
    let same = same_Some given.0 c.index-as_slice-instr.result (sym given.1 ∙ instr) in (
      (c.in_ok-at.at, slice_get_within c.args.f.now.blocks c.in_ok-at.at c.index-as_slice-at.result block, get_or_from_slice_get c.args.f.now.blocks c.in_ok-at.at c.index-as_slice-at.result c.index-as_slice-at.result block),
      (c.in_ok-at.instr, slice_get_within c.index-as_slice-at.result.instrs c.in_ok-at.instr c.index-as_slice-instr.result instr, get_or_from_slice_get c.index-as_slice-at.result.instrs c.in_ok-at.instr c.index-as_slice-instr.result c.index-as_slice-instr.result instr),
      subst (λ (i : Instr). i.result ≡ Some c.args.v) same given.2,
    )

pub returns-clause-at : goal.returns-clause-at
returns-clause-at c = block_is (goal.at.returns-clause-at c).After-as_slice-2
