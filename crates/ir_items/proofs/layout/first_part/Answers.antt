use Rattle.std.proofs.Common.{◌==◌, length, take, sym, ap}
use Rattle.std.proofs.lemmas.List.{take_all}
use Rattle.std.specs.List.{position_or_len}
use Rattle.ir_items.proofs.FirstParts.{some_place, no_place}
use Rattle.ir_items.proofs.layout.first_part.Goals as goal

pub returns-in-Some : goal.returns-in-Some
returns-in-Some c =
    ap (λ n. take n c.args.text.now) (some_place (length c.args.text.now) (position_or_len (λ b. b == c.args.separator)
    c.args.text.now) c.in-Some.length c.in-Some.ensures)

pub returns-in-None : goal.returns-in-None
returns-in-None c =
    sym (take_all (position_or_len (λ b. b == c.args.separator) c.args.text.now) c.args.text.now
    (no_place (length c.args.text.now) (position_or_len (λ b. b == c.args.separator) c.args.text.now)
    c.in-None.ensures))
