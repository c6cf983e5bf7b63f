use Rattle.scev_sums.proofs.Reading.{one_atom}
use Rattle.scev_sums.proofs.gather.joins.Goals as goal

pub is_rec_of-requires : goal.is_rec_of-requires
is_rec_of-requires c =
    let w = c.requires.0 in
    (w, (one_atom c.args.arena.now w c.args.ids.now c.loop-id.id-index c.requires.1 c.loop-id-test.true, tt))

pub moves-requires : goal.moves-requires
moves-requires c =
    let w = c.requires.0 in
    (w, one_atom c.args.arena.now w c.args.ids.now c.loop-id.id-index c.requires.1 c.loop-id-test.true)
