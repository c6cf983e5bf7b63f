-- One reading after another, where the second may take nothing: then what stands behind mustn't continue the first.
use Rattle.std.proofs.Common.{◌≡◌, List, [], ◌∷◌, ◌++◌, ◌⊎◌, inl, inr, sym, subst}
use Rattle.ir_text.specs.Tokens.{Lexeme}
use Rattle.ir_text.specs.Language.{Language, ◌·◌}
use Rattle.ir_parts.specs.Reading.{Read, ◌⊗◌}
use Rattle.ir_parts.proofs.Readers.{StopsAt, IsReader}
use Rattle.ir_parts.proofs.Together.{both_until}

module _ {X Y : Type 0} {a : Read X} {b : Read Y} {A : X → Language} {B : Y → Language}
    {StopA : X → Lexeme → Type 0} {StopB : Y → Lexeme → Type 0} (took : Y → Type 0)
    (first : IsReader a A StopA) (second : IsReader b B StopB)
    (some : (x : X) (y : Y) (taken rest : List Lexeme) → B y taken → took y → StopsAt (StopA x) (taken ++ rest))
    (none : (y : Y) (taken : List Lexeme) → B y taken → took y ⊎ ((taken ≡ []) × (took y → ⊥))) where
  -- what continues neither
  abbrev pub StopsBoth : X × Y → Lexeme → Type 0
  StopsBoth p t = StopB p.1 t × ((took p.1 → ⊥) → StopA p.0 t)

  stops_both : (x : X) (y : Y) (taken rest : List Lexeme) → B y taken → StopsAt (StopA x) (taken ++ rest)
      → StopsAt (StopB y) rest → StopsAt (StopsBoth (x, y)) rest
  stops_both x y taken [] l before behind = tt
  stops_both x y taken (t ∷ rest) l before behind = (
    behind,
    λ nothing. elim (none y taken l) [
      | inl is ↦ absurd (nothing is)
      | inr isnt ↦ subst (λ (ts : List Lexeme). StopsAt (StopA x) (ts ++ t ∷ rest)) isnt.0 before
    ],
  )

  stops_first : (x : X) (y : Y) (taken rest : List Lexeme) → B y taken → StopsAt (StopsBoth (x, y)) rest
      → StopsAt (StopA x) (taken ++ rest)
  stops_first x y taken rest l stops = elim (none y taken l) [
    | inl is ↦ some x y taken rest l is
    | inr isnt ↦
        subst (λ (ts : List Lexeme). StopsAt (StopA x) (ts ++ rest)) (sym isnt.0) (alone rest isnt.1 stops)
  ]
    where
      alone : (rest : List Lexeme) → (took y → ⊥) → StopsAt (StopsBoth (x, y)) rest → StopsAt (StopA x) rest
      alone [] nothing stops = tt
      alone (t ∷ rest) nothing stops = stops.1 nothing

  stops_second : (x : X) (y : Y) (rest : List Lexeme) → StopsAt (StopsBoth (x, y)) rest → StopsAt (StopB y) rest
  stops_second x y [] stops = tt
  stops_second x y (t ∷ rest) stops = stops.0

  pub maybe_reads : IsReader (a ⊗ b) (λ p. A p.0 · B p.1) StopsBoth
  maybe_reads = both_until StopsBoth first second stops_both
      (λ x y taken rest l stops. (stops_first x y taken rest l stops, stops_second x y rest stops))
