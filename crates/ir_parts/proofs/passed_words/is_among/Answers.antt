use Rattle.std.proofs.Common.{◌≡◌, ℕ, ◌||◌, List, [], ◌∷◌, map, refl, ap, ◌∙◌, rules, tests, Bor}
use Rattle.std.specs.List.{list_any}
use Rattle.std.specs.Str.{bytes_eq}
use Rattle.std.proofs.lemmas.Iterator.{YieldsList-from_slice}
use Rattle.std.proofs.lemmas.Iterator.Search.{any_from_yields_List}
use Rattle.ir_parts.proofs.passed_words.is_among.Goals as goal

any_text : (text : List ℕ) (texts : List (Bor (List ℕ)))
    → list_any (λ (each : Bor (List ℕ)). bytes_eq each.now text) texts ≡ list_any (λ each. bytes_eq each text) (map (λ
    (each : Bor (List ℕ)). each.now) texts)
any_text text [] = refl
any_text text (x ∷ texts) = ap (λ b. bytes_eq x.now text || b) (any_text text texts)

pub returns : goal.returns
returns c =
    any_from_yields_List (λ (each : Bor (List ℕ)). bytes_eq each.now c.args.text.now) _ _ c.any.result c.any.ensures.ran
    (YieldsList-from_slice c.args.texts.now cc) (λ x b q k. search (rules, tests))
    ∙ any_text c.args.text.now c.args.texts.now
