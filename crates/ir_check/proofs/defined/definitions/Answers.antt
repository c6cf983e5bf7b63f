use Rattle.std.proofs.Common.{rules}
use Rattle.ir_check.specs.declared.defined.Defined.{Defined}
use Rattle.ir_check.proofs.DefinedNames.{room_at_start, names_again, names_once}
use Rattle.ir_check.proofs.defined.definitions.Goals as goal

pub define_all-requires : goal.define_all-requires
define_all-requires c = room_at_start c.args.f.now c.requires.ids _ (search rules)

pub returns-in-Some : goal.returns-in-Some
returns-in-Some c =
    let start : Defined = record { values = c.in_ok-new.field-0; blocks = c.in_ok-new-2.field-0 } in
    names_again c.args.f.now c.requires.ids start (search rules) c.in-Some.place (search rules)

pub returns-in-None : goal.returns-in-None
returns-in-None c =
    let start : Defined = record { values = c.in_ok-new.field-0; blocks = c.in_ok-new-2.field-0 } in
    names_once c.args.f.now c.requires.ids start (search rules) c.define_all.new.defined (search rules) (search rules)
