-- Whether something in a tree keeps it from having a value at a count, at each level of a tree.
use Rattle.std.specs.Prelude.{ℕ, Bool, false, List, Option}
use Rattle.scev_tree.specs.Tree.{Tree, Terms, Factors, Atom, Parts}
use Rattle.scev_arena.specs.Limits.{is_in, is_in_terms, is_in_factors, is_in_atom, is_in_parts}
use Rattle.scev_forms.specs.Turns.{hinders}

abbrev pub tree_hindered : List (Option ℕ) → ℕ → Tree → Tree → Bool
tree_hindered parents l count = is_in (λ terms. false) (hinders parents l count)

abbrev pub terms_hindered : List (Option ℕ) → ℕ → Tree → Terms → Bool
terms_hindered parents l count = is_in_terms (λ terms. false) (hinders parents l count)

abbrev pub factors_hindered : List (Option ℕ) → ℕ → Tree → Factors → Bool
factors_hindered parents l count = is_in_factors (λ terms. false) (hinders parents l count)

abbrev pub atom_hindered : List (Option ℕ) → ℕ → Tree → Atom → Bool
atom_hindered parents l count = is_in_atom (λ terms. false) (hinders parents l count)

abbrev pub parts_hindered : List (Option ℕ) → ℕ → Tree → Parts → Bool
parts_hindered parents l count = is_in_parts (λ terms. false) (hinders parents l count)
