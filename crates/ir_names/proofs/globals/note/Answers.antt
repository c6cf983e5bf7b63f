use Rattle.std.proofs.Common.{ℕ, List, Some, ap, ◌∙◌, cond, Bor}
use Rattle.std.specs.Str.{bytes_eq}
use Rattle.std.specs.HashMap.{get_by}
use Rattle.ir_names.proofs.FirstPlaces.{place_is, place_missing, stands_among, places_same, places_more}
use Rattle.ir_names.proofs.globals.note.Goals as goal

pub returns-in-Some : goal.returns-in-Some
returns-in-Some c names at_is are =
    places_same c.args.places.now names c.args.name.now are
    (stands_among names c.args.name.now _
    (place_is names c.args.name.now _ _ (are c.args.name.now) c.in-Some.ensures.value).0)

pub returns : goal.returns
returns c names at_is are =
    places_more c.args.places.now c.insert.new.self names c.args.name.now are
    (place_missing names c.args.name.now _ (are c.args.name.now) c.in_default.ensures.value)
    (λ q. c.in_ok-insert.ensures.updates.0 (record c.args.name { now = q })
    ∙ ap (λ (n : ℕ). cond (bytes_eq c.args.name.now q) (Some n)
    (get_by (λ (k : Bor (List ℕ)). bytes_eq q k.now) c.args.places.now)) at_is)
