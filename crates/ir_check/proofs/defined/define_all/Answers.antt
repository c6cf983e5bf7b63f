use Rattle.std.proofs.Common.{rules, ◌≡◌, [], ◌∷◌, List, sym}
use Rattle.std.specs.List.{flat_map}
use Rattle.ir_model.specs.declared.function.Param.{Param}
use Rattle.ir_model.specs.declared.function.Function.{Function}
use Rattle.ir_model.specs.declared.rule.Place.{Place}
use Rattle.ir_model.specs.declared.rule.Place.TheVariants.{Value}
use Rattle.ir_rules.specs.Names.{block_definitions, definitions}
use Rattle.ir_check.specs.Definitions.{first_again, with_places}
use Rattle.ir_check.proofs.DefinedRows.{definitions_parts}
use Rattle.ir_check.proofs.DefinedSteps.{room_of_first, room_of_second, again_of_first, again_of_second, all_of_both}
use Rattle.ir_check.proofs.defined.define_all.Goals as goal

abbrev params : Function → List Place
params f = flat_map (λ (p : Param). Value p.value ∷ []) f.params

abbrev blocks : Function → List Place
blocks f = flat_map block_definitions f.blocks

pub define_params-requires : goal.define_params-requires
define_params-requires c =
    let f = c.args.f.now in
    rw c.as_slice.ensures
    (room_of_first c.args.defined.now (definitions f) (params f) (blocks f) (definitions_parts f) c.requires)

pub define_blocks-requires : goal.define_blocks-requires
define_blocks-requires c =
    let f = c.args.f.now in
    rw c.as_slice-in-None.ensures
    (room_of_second c.args.defined.now (definitions f) (params f) (blocks f) (definitions_parts f)
    c.define_params.new.defined c.requires (search rules))

pub returns-in-Some-clause-again : goal.returns-in-Some-clause-again
returns-in-Some-clause-again c =
    let f = c.args.f.now in
    sym (again_of_first c.args.defined.now (definitions f) (params f) (blocks f) (definitions_parts f) c.in-Some.place
    (search rules))

pub returns-in-None-clause-again : goal.returns-in-None-clause-again
returns-in-None-clause-again c =
    let f = c.args.f.now in
    let whole : first_again c.args.defined.now (definitions f) ≡ first_again c.define_params.new.defined (blocks f) =
    again_of_second c.args.defined.now (definitions f) (params f) (blocks f) (definitions_parts f)
    c.define_params.new.defined (search rules) (search rules) in
    search rules

pub returns-in-None-clause-all : goal.returns-in-None-clause-all
returns-in-None-clause-all c =
    let f = c.args.f.now in
    let whole : with_places c.args.defined.now (definitions f) ≡ with_places c.define_params.new.defined (blocks f) =
    all_of_both c.args.defined.now (definitions f) (params f) (blocks f) (definitions_parts f)
    c.define_params.new.defined (search rules) in
    search rules
