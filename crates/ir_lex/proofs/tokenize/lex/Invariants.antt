use Rattle.std.proofs.Common.{◌-◌, length, map}
use Rattle.ir_lex.specs.Packed.{unpacked}
use Rattle.ir_lex.proofs.TokensFound.{AreFound}
use Rattle.ir_lex.proofs.tokenize.lex.Given as goal

abbrev pub invariant-loop-found : goal.invariant-loop-found
invariant-loop-found l = AreFound l.input (map unpacked l.found.items) l.end

abbrev pub decreases-loop-found : goal.decreases-loop-found
decreases-loop-found l = length l.input - l.end
