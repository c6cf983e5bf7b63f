use Rattle.std.proofs.Common.{◌≡◌, ◌+◌, ◌<◌, ℕ, List, Some, None, [], ◌∷◌, ◌++◌, length, take, get_or, if◌then◌else◌}
use Rattle.std.proofs.Common.{arith, sym, ap, ◌∙◌, subst}
use Rattle.std.specs.Option.{option_or}
use Rattle.std.specs.Str.{bytes_eq}
use Rattle.std.proofs.lemmas.List.{take_more, length-take}
use Rattle.ir_model.specs.declared.signature.Signature.{Signature}
use Rattle.ir_check.specs.Firsts.{place_in, AreFirstPlaces}
use Rattle.ir_check.proofs.Names.{places_more}
use Rattle.ir_check.proofs.callees.Callees.of.Goals as goal

pub loop-at-preserved : goal.loop-at-preserved
loop-at-preserved c =
    let items = c.as_slice-signature-items.result.now in
    let functions = c.args.signatures.now.functions in
    let at = c.loop-at.at in
    let s = c.signature-item.result in
    let same : items ≡ functions = c.as_slice-signature-items.ensures in
    let within : at < length items = omega arith in
    let there : s ≡ get_or items at s = c.signature-item.is in
    let step : take (at + 1) functions ≡ take at functions ++ s ∷ [] =
    subst (λ (xs : List Signature). take (at + 1) xs ≡ take at xs ++ s ∷ []) same (take_more items at s within
    ∙ ap (λ (x : Signature). take at items ++ x ∷ []) (sym there)) in
    let long : at ≡ length (take at functions) = omega (arith, length-take at functions, ap length same) in
    subst (λ (xs : List Signature). AreFirstPlaces c.note.new.places xs) (sym step)
    (places_more c.loop-at.places c.note.new.places (take at functions) s c.loop-at.invariant
    (λ q. c.in_ok-note.ensures q ∙ (ap (λ (name : List ℕ). option_or (place_in c.loop-at.places q)
    (if bytes_eq name q then Some at else None)) c.as_slice.ensures
    ∙ ap (λ (n : ℕ). option_or (place_in c.loop-at.places q) (if bytes_eq s.name q then Some n else None)) long)))
