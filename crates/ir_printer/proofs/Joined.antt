-- Pieces with a separator between them.
use Rattle.std.proofs.Common.{◌≡◌, ℕ, ◌≤◌, length, take, List, [], ◌∷◌, ◌++◌, ◌∙◌, sym, append_assoc}
use Rattle.std.specs.List.{flat_map}
use Rattle.std.proofs.lemmas.List.{append-nil, take_all}
use Rattle.ir_grammar.specs.Printing.{joined}

-- the first piece, and each other one behind a separator
pub joined-cons : {A : Type 0} (text : A → List ℕ) (between : List ℕ) (x : A) (xs : List A)
    → joined text between (x ∷ xs) ≡ text x ++ flat_map (λ y. between ++ text y) xs
joined-cons text between x [] = sym (append-nil (text x))
joined-cons text between x (y ∷ ys) = rw (joined-cons text between y ys) (simp append_assoc)

-- the first piece, and then each other one behind a separator, up to the last
pub joined_all : {A : Type 0} (text : A → List ℕ) (between old mid new : List ℕ) (xs : List A) (x : A) (rest : List A)
    (i : ℕ)
    → xs ≡ x ∷ rest
    → mid ≡ old ++ text x
    → new ≡ mid ++ flat_map (λ y. between ++ text y) (take i rest)
    → length rest ≤ i
    → new ≡ old ++ joined text between xs
joined_all text between old mid new xs x rest i split first others end =
    others ∙ rw (first, take_all, split, joined-cons, append_assoc)
