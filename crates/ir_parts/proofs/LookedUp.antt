-- What a table of words gives is one of its entries.
use Rattle.std.proofs.Common.{◌≡◌, ℕ, Bool, if◌then◌else◌, List, [], ◌∷◌, Option, Some, inl, inr, sym, ap, subst, ◌∙◌}
use Rattle.std.specs.Str.{bytes_eq}
use Rattle.std.proofs.lemmas.Slice.Eq.{bytes_eq-Decides}
use Rattle.ir_parts.specs.Tables.{look_up}
use Rattle.ir_parts.proofs.Readers.{either}

-- what holds of each entry of a table
abbrev pub Entries : {A : Type 0} → (List ℕ → A → Type 0) → List (List ℕ × A) → Type 0
Entries P [] = Unit {0}
Entries P (entry ∷ more) = P entry.0 entry.1 × Entries P more

pub look_up_gives : {A : Type 0} (P : List ℕ → A → Type 0) (table : List (List ℕ × A)) (text : List ℕ) (x : A)
    → Entries P table → look_up table text ≡ Some x → P text x
look_up_gives P [] text x each e = absurd cc
look_up_gives {A} P (entry ∷ more) text x each e = elim (either (bytes_eq text entry.0)) [
  | inl same ↦
      let found : ◌≡◌ {A = Option A} (Some entry.1) (Some x) =
      sym (ap (λ (b : Bool). if b then Some entry.1 else look_up more text) same) ∙ e in
      let is : entry.1 ≡ x = cc in
      subst (λ (text : List ℕ). P text x) (sym ((bytes_eq-Decides text entry.0).0 same))
      (subst (λ (x : A). P entry.0 x) is each.0)
  | inr other ↦
      look_up_gives P more text x each.1 (sym
      (ap (λ (b : Bool). if b then Some entry.1 else look_up more text) other) ∙ e)
]
