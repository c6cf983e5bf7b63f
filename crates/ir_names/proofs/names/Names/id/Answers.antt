use Rattle.ir_names.proofs.KeyNames.{inserted, stored_key}
use Rattle.std.proofs.Common.{ap, ◌∙◌, map}
use Rattle.ir_names.specs.Keys.{name_of_key}
use Rattle.ir_names.proofs.names.Names.id.Goals as goal

pub returns-clause-names : goal.returns-clause-names
returns-clause-names c = rw (← c.self.view_is)
    (ap (map name_of_key) c.in_ok-at.ensures.keys ∙ inserted c.args.name c.self.inside.names.keys)

pub returns-clause-stored : goal.returns-clause-stored
returns-clause-stored c =
    let s = c.in_ok-at.ensures.stored in
    stored_key c.insert_full.new.self.keys c.in_ok-at.at c.args.name s.0 s.1 s.2
