use Rattle.std.proofs.Common.{◌≡◌, drop}
use Rattle.ir_model.specs.Places.{given_at}
use Rattle.ir_model.proofs.place.given_among.Given as goal

abbrev pub invariant-loop-block : goal.invariant-loop-block
invariant-loop-block l = given_at (drop l.block-index l.blocks) l.v.0 ≡ given_at l.blocks l.v.0
