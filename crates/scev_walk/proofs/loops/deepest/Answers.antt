use Rattle.std.proofs.Common.{◌≡◌, ◌-◌, suc, drop, sym, ap, subst, ◌∙◌, arith}
use Rattle.scev_arena.specs.Meaning.{meanings, factors_at, terms_at}
use Rattle.scev_arena.specs.Standing.{AreAtoms}
use Rattle.scev_forms.specs.Gather as forms
use Rattle.scev_walk.specs.Reading.{deepest_before}
use Rattle.scev_walk.proofs.Among.{term_among, ids_of}
use Rattle.scev_walk.proofs.Nests.{terms_from}
use Rattle.scev_walk.proofs.loops.deepest.Goals as goal

pub deepest_factor-found-requires : goal.deepest_factor-found-requires
deepest_factor-found-requires c =
    let w = c.requires.0 in
    let t = c.index-terms-i.result in
    let atoms = term_among c.args.arena.now w c.args.terms.now (c.loop-i.i - 1) t t c.requires.1
    (omega arith) c.index-terms-i.is in
    (w, subst (AreAtoms c.args.arena.now w) (sym (ids_of c.as_slice.ensures c.index-terms-i.is)) atoms)

pub loop-i-preserved : goal.loop-i-preserved
loop-i-preserved c =
    let parents = c.args.nest.now in
    let meant = meanings c.args.arena.now in
    let next : c.loop-i.i ≡ suc (c.loop-i.i - 1) = omega arith in
    let before = c.loop-i.invariant
    ∙ ap (λ k. forms.deepest parents (forms.loops_of_terms (terms_at meant (drop k c.args.terms.now)))) next in
    let behind = forms.deepest parents
    (forms.loops_of_terms (terms_at meant (drop (suc (c.loop-i.i - 1)) c.args.terms.now))) in
    c.deepest_factor-found.ensures
    ∙ ap (deepest_before parents (forms.loops_of_factors (factors_at meant c.as_slice.result.now))) before
    ∙ ap (λ ids. deepest_before parents (forms.loops_of_factors (factors_at meant ids)) behind)
    (ids_of c.as_slice.ensures c.index-terms-i.is)
    ∙ sym (terms_from parents meant c.args.terms.now (c.loop-i.i - 1) c.index-terms-i.result
    c.index-terms-i.result (omega arith)
    c.index-terms-i.is)
