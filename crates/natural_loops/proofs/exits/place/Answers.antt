use Rattle.std.proofs.Common.{◌≡◌, ℕ, All, length, take, subst, arith}
use Rattle.std.proofs.lemmas.Bool.{both_ways}
use Rattle.std.proofs.lemmas.List.Elements.{All-more}
use Rattle.std.proofs.lemmas.Option.{get_or_from_slice_get, slice_get_within}
use Rattle.scev_base.specs.declared.ids.BlockId.{BlockId as Block}
use Rattle.ssa_check.specs.Checked.{Dominates}
use Rattle.natural_loops.proofs.exits.place.Goals as goal

pub returns-then-dominates-clause-found : goal.returns-then-dominates-clause-found
returns-then-dominates-clause-found c a there =
    let d : Block = record { 0 = 0 } in
    subst (λ (one : Block). Dominates c.args.c.now.function c.args.b.0 one.0)
    (get_or_from_slice_get c.args.blocks.now c.loop-at.at a d there) (c.dominates.ensures.0 c.if-dominates.true)

pub loop-at-preserved : goal.loop-at-preserved
loop-at-preserved c =
    let P : Block → Type 0 = λ a. Dominates c.args.c.now.function c.args.b.0 a.0 → ⊥ in
    let d : Block = record { 0 = 0 } in
    All-more P c.args.blocks.now c.loop-at.at d c.loop-at-test.true c.loop-at.invariant
    (λ dominates. both_ways c.dominates.result c.if-dominates.false (c.dominates.ensures.1 dominates))

pub returns-clause-before : goal.returns-clause-before
returns-clause-before c =
    let all : c.loop-at.at ≡ length c.args.blocks.now = omega (arith, c.loop-at-test.false, c.loop-at.auto.at-end) in
    subst (λ (n : ℕ). All (λ a. Dominates c.args.c.now.function c.args.b.0 a.0 → ⊥) (take n c.args.blocks.now)) all
    c.loop-at.invariant

pub returns-clause-found : goal.returns-clause-found
returns-clause-found c a there =
    let within = slice_get_within c.args.blocks.now (length c.args.blocks.now) a there in
    absurd (omega (arith, within))
