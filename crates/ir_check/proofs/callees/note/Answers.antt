use Rattle.std.proofs.Common.{arith, ◌≡◌, None}
use Rattle.std.proofs.lemmas.Grind.{common_steps}
use Rattle.ir_check.specs.Firsts.{place_in}
use Rattle.ir_check.proofs.Names.{noted}
use Rattle.ir_check.proofs.callees.note.Goals as goal

pub returns-in_ok-insert : goal.returns-in_ok-insert
returns-in_ok-insert c q =
    let absent : None ≡ place_in c.args.places.now c.args.name.now = grind (arith, common_steps) in
    noted (place_in c.args.places.now) c.args.name.now q c.args.at (place_in c.insert.new.self q) absent
    (c.in_ok-insert.ensures.updates.0 (record c.args.name { now = q }))
