use Rattle.std.proofs.Common.{◌≡◌, ℕ, ◌+◌, List, [], ◌∷◌, map, not, cond, refl, ap, ◌∙◌, rules, tests, Bor}
use Rattle.std.specs.List.{position_or_len}
use Rattle.std.specs.Str.{bytes_eq}
use Rattle.std.proofs.lemmas.List.{length-map}
use Rattle.std.proofs.lemmas.Iterator.{YieldsList-from_slice}
use Rattle.std.proofs.lemmas.Iterator.Search.{position_from_yields_List}
use Rattle.ir_parts.proofs.passed_words.place_among.Goals as goal

-- A place by what is pointed to is a place in the list of it.
place_in : (text : List ℕ) (texts : List (Bor (List ℕ)))
    → position_or_len (λ (each : Bor (List ℕ)). bytes_eq each.now text) texts
    ≡ position_or_len (λ each. bytes_eq each text) (map (λ (each : Bor (List ℕ)). each.now) texts)
place_in text [] = refl
place_in text (x ∷ texts) = ap (λ (n : ℕ). cond (not (bytes_eq x.now text)) (1 + n) 0) (place_in text texts)

pub returns : goal.returns
returns c =
    position_from_yields_List (λ (each : Bor (List ℕ)). bytes_eq each.now c.args.text.now) _ _ c.position.result
    c.position.ensures.ran (YieldsList-from_slice c.args.texts.now cc) (λ x b q k. search (rules, tests))
    ∙ rw (
      place_in c.args.text.now c.args.texts.now,
      length-map c.args.texts.now (λ (each : Bor (List ℕ)). each.now),
    ) refl
