use Rattle.std.proofs.Common.{◌≡◌, ◌-◌, ◌<◌, ◌^◌, get_or, drop, IfSome, sym, ap, ◌∙◌, subst, arith}
use Rattle.std.proofs.Math.Seq.{drop-length}
use Rattle.scev_arena.specs.Meaning.{tree_of}
use Rattle.scev_forms.specs.Atoms.{number_of}
use Rattle.scev_forms.specs.Minima as forms
use Rattle.scev_sums.specs.Answers.{trees_at}
use Rattle.scev_sums.proofs.Placing.{tree_within}
use Rattle.scev_minima.specs.Kinds.{kind_of}
use Rattle.scev_minima.proofs.InOrder.{drop_before}
use Rattle.scev_minima.proofs.Numbers.{number_fits, chosen_fits}
use Rattle.scev_minima.proofs.minima.numbers_joined.Goals as goal
use Rattle.scev_minima.proofs.minima.numbers_joined.Goals.{After-number_of}

pub loop-i-init : goal.loop-i-init
loop-i-init c = record {
  joined =
      sym (ap (λ l. forms.numbers_joined (kind_of c.args.kind) c.args.w.bits (trees_at c.args.arena.now l))
      (drop-length c.args.ids.now));
  fits = tt;
}

-- the number that is read fits
fits_there : (c : After-number_of) → IfSome c.number_of.result (λ n. n < 2 ^ c.args.w.bits)
fits_there c =
    let nodes = c.args.arena.now in
    let w = c.args.w.bits in
    let at = c.loop-i.i - 1 in
    subst (λ o. IfSome o (λ n. n < 2 ^ w)) (sym c.number_of.ensures)
    (number_fits nodes w (get_or c.args.ids.now at (record { 0 = 0 })) c.len.ensures.arena
    (tree_within nodes w c.args.ids.now at (record { 0 = 0 }) c.requires (omega arith)))

pub number_of-requires : goal.number_of-requires
number_of-requires c =
    (tree_within c.args.arena.now c.args.w.bits c.args.ids.now (c.loop-i.i - 1) (record { 0 = 0 }) c.requires
    (omega arith)).0

pub with_number-found-requires-clause-number : goal.with_number-found-requires-clause-number
with_number-found-requires-clause-number c = fits_there c

pub with_number-found-requires-clause-found : goal.with_number-found-requires-clause-found
with_number-found-requires-clause-found c = c.loop-i.invariant.fits

pub loop-i-preserved : goal.loop-i-preserved
loop-i-preserved c =
    let nodes = c.args.arena.now in
    let w = c.args.w.bits in
    let k = kind_of c.args.kind in
    let ids = c.args.ids.now in
    let i = c.loop-i.i in
    let found = c.loop-i.found in
    let left = drop_before ids i (record { 0 = 0 }) c.loop-i-test.true c.loop-i.auto.i in
    record {
      joined =
          c.with_number-found.ensures
          ∙ ap (λ o. forms.with_number k w o found) c.number_of.ensures
          ∙ ap (forms.with_number k w (number_of (tree_of nodes (get_or ids (i - 1) (record { 0 = 0 })))))
          c.loop-i.invariant.joined
          ∙ sym (ap (λ l. forms.numbers_joined k w (trees_at nodes l)) left);
      fits = subst (λ o. IfSome o (λ n. n < 2 ^ w)) (sym c.with_number-found.ensures)
          (chosen_fits c.args.kind w c.number_of.result found (omega (arith, c.args.w.at_least_one))
          (fits_there (goal.at.loop-i-preserved c).After-number_of) c.loop-i.invariant.fits);
    }

pub returns-clause-joined : goal.returns-clause-joined
returns-clause-joined c =
    let none : c.loop-i.i ≡ 0 = omega (arith, c.loop-i-test.false) in
    c.loop-i.invariant.joined
    ∙ ap (λ i. forms.numbers_joined (kind_of c.args.kind) c.args.w.bits (trees_at c.args.arena.now
    (drop i c.args.ids.now))) none

pub returns-clause-fits : goal.returns-clause-fits
returns-clause-fits c = c.loop-i.invariant.fits
