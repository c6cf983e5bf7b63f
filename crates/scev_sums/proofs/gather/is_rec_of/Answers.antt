use Rattle.std.proofs.Common.{rules}
use Rattle.scev_walk.proofs.Places.{atom_is}
use Rattle.scev_sums.proofs.gather.is_rec_of.Goals as goal

pub returns-in-Atom-Rec-default-default : goal.returns-in-Atom-Rec-default-default
returns-in-Atom-Rec-default-default c =
    let arm = c.in-Atom-Rec-default-default in
    let is = atom_is c.args.arena.now c.args.id c.node.result.now c.node.ensures.arena c.node.ensures.node arm.kind
    arm.width arm.parts arm.is in
    rw is (search rules)

pub returns-in_default : goal.returns-in_default
returns-in_default c =
    let arm = c.in_default in
    let is = atom_is c.args.arena.now c.args.id c.node.result.now c.node.ensures.arena c.node.ensures.node arm.field-0
    arm.field-1 arm.field-2 arm.is in
    rw is (search rules)
