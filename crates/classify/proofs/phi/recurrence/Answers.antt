use Rattle.std.specs.Prelude.{◌≡◌, Some, Contains, slice_get}
use Rattle.std.proofs.Common.{sym, subst}
use Rattle.std.proofs.lemmas.Bool.{both_ways}
use Rattle.classify.proofs.GivenLemmas.{IsGivenBy}
use Rattle.classify.proofs.PhiLemmas.{none_left, some_when, none_unless, equal, unequal, phi_is_given, block_named}
use Rattle.classify.proofs.PhiLemmas.{has_entries, phis_first, back, outside, starts, next_is_given, same_block}
use Rattle.classify.proofs.PhiLemmas.{increments, recurrence_of}
use Rattle.classify.proofs.FirstPhis.{told_at}
use Rattle.classify.proofs.PhiAnswers.{contains_at}
use Rattle.classify.proofs.phi.recurrence.Goals as goal

pub returns-in_err-block-clause-none : goal.returns-in_err-block-clause-none
returns-in_err-block-clause-none c =
    none_left _ _ c.from_residual.ensures
    (λ b first step header r. let given = phi_is_given c.args.f.now b c.args.p.0 first step r in c.in_err-block.ensures.none given.0 given.1)

pub returns-in_err-innermost-clause-none : goal.returns-in_err-innermost-clause-none
returns-in_err-innermost-clause-none c =
    none_left _ _ c.from_residual-in_err-innermost.ensures
    (λ b first step header r. c.in_err-innermost.ensures.none (subst (λ a. Contains c.args.loops.now a) (block_named c.args.f.now c.args.p.0 c.in_ok-block.block.now c.in_ok-block.phi.now c.in_ok-block.ensures.some b first step r) header))

pub returns-in_err-entries-clause-none : goal.returns-in_err-entries-clause-none
returns-in_err-entries-clause-none c =
    none_left _ _ c.from_residual-in_err-entries.ensures
    (λ b first step header r. let has = has_entries c.args.f.now c.args.p.0 c.in_ok-block.block.now c.in_ok-block.phi.now c.in_ok-block.ensures.some b first step r in c.in_err-entries.ensures.none has.0 has.1)

pub returns-in_err-next-clause-none : goal.returns-in_err-next-clause-none
returns-in_err-next-clause-none c =
    none_left _ _ c.from_residual-in_err-next.ensures
    (λ b first step header r. c.in_err-next.ensures.none r.next (back c.args.f.now c.args.p.0 c.in_ok-block.block.now c.in_ok-block.phi.now c.in_ok-block.ensures.some b first step r c.in_ok-entries.entries.now c.in_ok-entries.ensures.some))

pub returns-in_err-first-clause-none : goal.returns-in_err-first-clause-none
returns-in_err-first-clause-none c =
    none_left _ _ c.from_residual-in_err-first.ensures
    (λ b first step header r. c.in_err-first.ensures.none first (outside c.args.f.now c.args.p.0 c.in_ok-block.block.now c.in_ok-block.phi.now c.in_ok-block.ensures.some b first step r c.in_ok-entries.entries.now c.in_ok-entries.ensures.some) (starts c.args.f.now c.args.p.0 c.in_ok-block.block.now c.in_ok-block.phi.now c.in_ok-block.ensures.some b first step r c.in_ok-entries.entries.now c.in_ok-entries.ensures.some))

pub returns-in_err-other-clause-none : goal.returns-in_err-other-clause-none
returns-in_err-other-clause-none c =
    none_left _ _ c.from_residual-in_err-other.ensures
    (λ b first step header r. let given = next_is_given c.args.f.now c.args.p.0 c.in_ok-block.block.now c.in_ok-block.phi.now c.in_ok-block.ensures.some b first step r c.in_ok-entries.entries.now c.in_ok-entries.ensures.some c.in_ok-next.next.0 c.in_ok-next.ensures.some in c.in_err-other.ensures.none given.0 given.1)

pub returns-then-ne-clause-none : goal.returns-then-ne-clause-none
returns-then-ne-clause-none c = λ b first step header r.
    unequal c.in_ok-other.other.now.id.0 c.in_ok-block.block.now.id.0 c.if-ne.ensures (same_block c.args.f.now c.args.p.0 c.in_ok-block.block.now c.in_ok-block.phi.now c.in_ok-block.ensures.some b first step r c.in_ok-entries.entries.now c.in_ok-entries.ensures.some c.in_ok-next.next.0 c.in_ok-next.ensures.some c.in_ok-other.other.now c.in_ok-other.add.now c.in_ok-other.ensures.some)

pub returns-in_err-step-clause-none : goal.returns-in_err-step-clause-none
returns-in_err-step-clause-none c =
    none_left _ _ c.from_residual-in_err-step.ensures
    (λ b first step header r. c.in_err-step.ensures.none step (increments c.args.f.now c.args.p.0 c.in_ok-block.block.now c.in_ok-block.phi.now c.in_ok-block.ensures.some b first step r c.in_ok-entries.entries.now c.in_ok-entries.ensures.some c.in_ok-next.next.0 c.in_ok-next.ensures.some c.in_ok-other.other.now c.in_ok-other.add.now c.in_ok-other.ensures.some))

pub returns-clause-none : goal.returns-clause-none
returns-clause-none c =
    let told = told_at c.args.f.now.blocks c.args.definitions.now.first c.in_ok-block.at c.in_ok-block.block.now c.requires.definitions.first c.in_ok-block.ensures.at in
    none_unless _ c.are_phis_first.result _ _ c.then_some.ensures
    (λ fails b first step header r. both_ways c.are_phis_first.result fails (c.are_phis_first.ensures.1 (told.1 (phis_first c.args.f.now c.args.p.0 c.in_ok-block.block.now c.in_ok-block.phi.now c.in_ok-block.ensures.some b first step r))))

pub returns-clause-some : goal.returns-clause-some
returns-clause-some c =
    let given : IsGivenBy c.args.f.now c.args.p.0 c.in_ok-block.block.now c.in_ok-block.phi.now = c.in_ok-block.ensures.some in
    let header : slice_get c.args.loops.now c.in_ok-innermost.field-0.0 ≡ Some c.in_ok-block.block.now.id = c.in_ok-innermost.ensures.some in
    let here = equal c.in_ok-other.other.now.id.0 c.in_ok-block.block.now.id.0 c.if-ne.ensures in
    let told = told_at c.args.f.now.blocks c.args.definitions.now.first c.in_ok-block.at c.in_ok-block.block.now c.requires.definitions.first c.in_ok-block.ensures.at in
    some_when _ c.are_phis_first.result _ _ c.then_some.ensures
    (λ holds. (
      c.in_ok-block.block.now.id.0,
      contains_at c.args.loops.now c.in_ok-innermost.field-0.0 c.in_ok-block.block.now.id header,
      recurrence_of c.args.f.now c.args.p.0 c.in_ok-block.block.now c.in_ok-block.phi.now c.in_ok-entries.entries.now c.in_ok-next.next.0 c.in_ok-other.other.now c.in_ok-other.add.now c.in_ok-first.first c.in_ok-step.step (c.requires.definitions.once.0 (sym c.if-not-once.ensures)) given c.in_ok-entries.ensures.some (told.0 (c.are_phis_first.ensures.0 holds)) c.in_ok-next.ensures.some c.in_ok-first.ensures.outside c.in_ok-first.ensures.starts c.in_ok-other.ensures.some here c.in_ok-step.ensures.some,
    ))
