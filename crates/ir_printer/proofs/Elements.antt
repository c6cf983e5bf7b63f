-- The text of an array's type: what opens each dimension, the elements, and as many brackets.
use Rattle.std.proofs.Common.{◌≡◌, ℕ, suc, ◌+◌, List, [], ◌∷◌, ◌++◌, length, replicate, codes, decimal, append_assoc, sym, ap, ◌∙◌, arith}
use Rattle.std.specs.List.{flat_map}
use Rattle.std.proofs.lemmas.List.{append-nil, replicate_more}
use Rattle.ir_grammar.specs.Printing.{elements_text}

abbrev pub opened : ℕ → List ℕ
opened d = codes "[" ++ (decimal d ++ codes " x ")

one_more : (n : ℕ) → ◌++◌ {A = ℕ} (replicate n 93) (93 ∷ []) ≡ replicate (suc n) 93
one_more n =
    let e : n + 1 ≡ suc n = omega arith in
    replicate_more n 93 ∙ ap (λ k. replicate k 93) e

regrouped : (opening d cross flat digits brackets close : List ℕ)
    → opening ++ (d ++ (cross ++ ((flat ++ (105 ∷ (digits ++ brackets))) ++ close)))
    ≡ ((opening ++ (d ++ cross)) ++ flat) ++ (105 ∷ (digits ++ (brackets ++ close)))
regrouped opening d cross flat digits brackets close = simp append_assoc

pub elements-parts : (dims : List ℕ) (width : ℕ)
    → elements_text dims width ≡ flat_map opened dims ++ (105 ∷ (decimal width ++ replicate (length dims) 93))
elements-parts [] width = ap (λ text. 105 ∷ text) (sym (append-nil (decimal width)))
elements-parts (d ∷ dims) width =
    ap (λ text. codes "[" ++ (decimal d ++ (codes " x " ++ (text ++ codes "]")))) (elements-parts dims width)
    ∙ regrouped (codes "[") (decimal d) (codes " x ") (flat_map opened dims) (decimal width)
    (replicate (length dims) 93) (codes "]")
    ∙ ap (λ closed. flat_map opened (d ∷ dims) ++ (105 ∷ (decimal width ++ closed))) (one_more (length dims))
