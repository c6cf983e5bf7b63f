use Rattle.std.proofs.Common.{◌≡◌, ◌+◌, [], ◌∷◌, ◌++◌, drop, sym, ap, subst, ◌∙◌}
use Rattle.scev_arena.specs.Meaning.{meanings}
use Rattle.scev_arena.specs.Standing.{AreAtoms}
use Rattle.scev_polys.proofs.AtPlaces.{atoms_both}
use Rattle.scev_sums.proofs.Reading.{id_at, one_atom, rest_with, rest_more, rest_without, rest_whole}
use Rattle.scev_sums.proofs.gather.rest_of.Goals as goal
use Rattle.scev_sums.proofs.gather.rest_of.Goals.{then-not-is_rec_of+in_ok-push, else-not-is_rec_of}

pub is_rec_of-requires : goal.is_rec_of-requires
is_rec_of-requires c =
    let w = c.requires.0 in
    (w, (one_atom c.args.arena.now w c.args.ids.now c.loop-id.id-index c.requires.1 c.loop-id-test.true, tt))

pub loop-id-preserved : goal.loop-id-preserved
loop-id-preserved c =
    let nodes = c.args.arena.now in
    let meant = meanings nodes in
    let l = c.args.l.0 in
    let ids = c.args.ids.now in
    let at = c.loop-id.id-index in
    let found = c.loop-id.rest.items in
    let more = c.if-not-is_rec_of.rest.items in
    let left = drop (at + 1) ids in
    elim c.if-not-is_rec_of.branch [
      | then-not-is_rec_of+in_ok-push w ↦
          let pushed : more ≡ found ++ id_at ids at ∷ [] = ap (λ v. v.items) w.rest-is ∙ w.in_ok-push.ensures.items in
          record {
            rest =
                ap (λ xs. rest_with meant l xs left) pushed
                ∙ rest_more meant l found ids at c.loop-id-test.true (sym w.if-not-is_rec_of.ensures)
                ∙ c.loop-id.invariant.rest;
            atoms = λ v h. subst (AreAtoms nodes v) (sym pushed) (atoms_both nodes v found (id_at ids at ∷ [])
                (c.loop-id.invariant.atoms v h) (one_atom nodes v ids at h c.loop-id-test.true, tt));
          }
      | else-not-is_rec_of w ↦
          let same : more ≡ found = ap (λ v. v.items) w.rest-is in
          record {
            rest =
                ap (λ xs. rest_with meant l xs left) same
                ∙ rest_without meant l found ids at c.loop-id-test.true (sym w.if-not-is_rec_of.ensures)
                ∙ c.loop-id.invariant.rest;
            atoms = λ v h. subst (AreAtoms nodes v) (sym same) (c.loop-id.invariant.atoms v h);
          }
    ]

pub returns-clause-rest : goal.returns-clause-rest
returns-clause-rest c =
    rest_whole (meanings c.args.arena.now) c.args.l.0 c.loop-id.rest.items c.args.ids.now c.loop-id.id-index
    c.loop-id-test.false
    ∙ c.loop-id.invariant.rest
