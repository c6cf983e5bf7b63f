use Rattle.std.proofs.Common.{◌≡◌, ◌+◌, ◌<◌, ℕ, List, [], ◌∷◌, ◌++◌, length, take, arith, sym, ap, ◌∙◌, subst}
use Rattle.std.proofs.lemmas.List.{take_more, length-take}
use Rattle.ir_names.specs.Firsts.{AreFirstPlaces}
use Rattle.ir_names.proofs.globals.first_places.Goals as goal

pub loop-at-preserved : goal.loop-at-preserved
loop-at-preserved c =
    let names = c.args.names.now in
    let at = c.loop-at.at in
    let within : at < length names = omega arith in
    let step : take (at + 1) names ≡ take at names ++ c.as_slice.result.now ∷ [] =
    take_more names at c.index-names-at.result within
    ∙ ap (λ (q : List ℕ). take at names ++ q ∷ []) (sym c.index-names-at.is ∙ sym c.as_slice.ensures) in
    let long : at ≡ length (take at names) = omega (arith, length-take at names) in
    subst (λ (xs : List (List ℕ)). AreFirstPlaces c.note.new.places xs) (sym step)
    (c.in_ok-note.ensures (take at names) long c.loop-at.invariant)
