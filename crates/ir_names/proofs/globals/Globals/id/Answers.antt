use Rattle.std.proofs.Common.{map, List, ℕ, ap, ◌∙◌, ◌++◌, Bor}
use Rattle.ir_names.proofs.FirstPlaces.{text, place_is, place_missing, known_name, known_place, new_name, new_place}
use Rattle.ir_names.proofs.globals.Globals.id.Goals as goal

pub returns-in-Some-clause-names : goal.returns-in-Some-clause-names
returns-in-Some-clause-names c =
    rw (← c.self.view_is) (known_name c.self.inside.defined.now
    (map text c.self.inside.others.keys) c.args.name.now c.in-Some.place.now
    (place_is c.self.inside.defined.now c.args.name.now _ c.in-Some.place.now
    (c.self.invariant c.args.name.now) c.in-Some.ensures.value))

pub returns-in-Some-clause-first : goal.returns-in-Some-clause-first
returns-in-Some-clause-first c =
    rw (← c.self.view_is) (known_place c.self.inside.defined.now
    (map text c.self.inside.others.keys) c.args.name.now c.in-Some.place.now
    (place_is c.self.inside.defined.now c.args.name.now _ c.in-Some.place.now
    (c.self.invariant c.args.name.now) c.in-Some.ensures.value))

pub returns-clause-names : goal.returns-clause-names
returns-clause-names c =
    rw (← c.self.view_is) (ap (λ (ks : List (Bor (List ℕ))). c.self.inside.defined.now
    ++ map text ks) c.in_ok-at.ensures.keys
    ∙ new_name c.self.inside.defined.now c.self.inside.others.keys c.args.name
    (place_missing c.self.inside.defined.now c.args.name.now _
    (c.self.invariant c.args.name.now) c.in_default.ensures.value))

pub returns-clause-first : goal.returns-clause-first
returns-clause-first c =
    let s = c.in_ok-at.ensures.stored in
    rw c.in-Some-checked_add.ensures.1
    (new_place c.self.inside.defined.now c.insert_full.new.self.keys c.args.name s.0 c.in_ok-at.at
    (place_missing c.self.inside.defined.now c.args.name.now _
    (c.self.invariant c.args.name.now) c.in_default.ensures.value) c.in_ok-at.ensures.unique s.1 s.2)
