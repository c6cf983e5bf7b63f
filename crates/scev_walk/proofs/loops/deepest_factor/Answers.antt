use Rattle.std.proofs.Common.{◌≡◌, ◌-◌, suc, ℕ, List, get_or, drop, option_map, refl, sym, ap, ◌∙◌, arith}
use Rattle.std.proofs.Math.Seq.{drop-length}
use Rattle.scev_base.specs.declared.ids.ExprId.{ExprId}
use Rattle.scev_arena.specs.Meaning.{meanings, factors_at, atom_of}
use Rattle.scev_arena.proofs.WellMade.{atom_within}
use Rattle.scev_forms.specs.Gather as forms
use Rattle.scev_walk.specs.Reading.{loop_of_atom, deepest_before, deepest_with}
use Rattle.scev_walk.proofs.Among.{atom_among}
use Rattle.scev_walk.proofs.Nests.{factors_from}
use Rattle.scev_walk.proofs.loops.deepest_factor.Goals as goal

-- the place that is looked at
abbrev id_at : List ExprId → ℕ → ExprId
id_at ids i = get_or ids (i - 1) (record { 0 = 0 })

pub loop_of_atom-requires : goal.loop_of_atom-requires
loop_of_atom-requires c =
    let w = c.requires.0 in
    let here = atom_among c.args.arena.now w c.args.ids.now (c.loop-i.i - 1) (record { 0 = 0 })
    (id_at c.args.ids.now c.loop-i.i) c.requires.1 (omega arith) refl in
    atom_within c.args.arena.now w (id_at c.args.ids.now c.loop-i.i) here

pub loop-i-init : goal.loop-i-init
loop-i-init c = rw (drop-length c.args.ids.now) refl

pub loop-i-preserved : goal.loop-i-preserved
loop-i-preserved c =
    let parents = c.args.nest.now in
    let meant = meanings c.args.arena.now in
    let last = option_map (λ k. k.0) c.args.behind in
    let next : c.loop-i.i ≡ suc (c.loop-i.i - 1) = omega arith in
    let before = c.loop-i.invariant
    ∙ ap (λ k. deepest_before parents (forms.loops_of_factors (factors_at meant (drop k c.args.ids.now))) last) next in
    c.deeper_one-found.ensures
    ∙ ap (λ o. deepest_with parents o (option_map (λ k. k.0) c.loop-i.found)) c.loop_of_atom.ensures
    ∙ ap (deepest_with parents (loop_of_atom (atom_of c.args.arena.now (id_at c.args.ids.now c.loop-i.i)))) before
    ∙ sym (factors_from parents meant c.args.ids.now (c.loop-i.i - 1) (record { 0 = 0 })
    (id_at c.args.ids.now c.loop-i.i) last (omega arith) refl)
