-- Texts of one piece for each thing of a list.
use Rattle.std.proofs.Common.{◌≡◌, ℕ, ◌+◌, ◌<◌, List, [], ◌∷◌, ◌++◌, length, get_or, take, slice_get, Some}
use Rattle.std.proofs.Common.{append_assoc, refl, sym, ◌∙◌}
use Rattle.std.proofs.lemmas.List.{append-nil, take_more}
use Rattle.std.proofs.lemmas.Option.{slice_get_within, slice_get_read, get_or_from_slice_get}
use Rattle.scev_tool.specs.Report.{InPieces}

-- The pieces of a list were appended to a text.
abbrev pub AppendsPieces : {A : Type 0} → (A → List ℕ → Type 0) → List A → List ℕ → List ℕ → Type 0
AppendsPieces Is xs old new = (lines : List ℕ) × InPieces Is xs lines × (new ≡ old ++ lines)

in_pieces-push : {A : Type 0} (Is : A → List ℕ → Type 0) (xs : List A) (x : A) (text piece : List ℕ)
    → InPieces Is xs text → Is x piece → InPieces Is (xs ++ x ∷ []) (text ++ piece)
in_pieces-push Is [] x text piece h one =
    (piece, [], rw h (sym (append-nil piece)), one, refl)
in_pieces-push Is (y ∷ ys) x text piece h one =
    (h.0, h.1 ++ piece, rw h.2 (append_assoc h.0 h.1 piece), h.3, in_pieces-push Is ys x h.1 piece h.4 one)

-- one piece more
pub appends-push : {A : Type 0} (Is : A → List ℕ → Type 0) (xs : List A) (x : A) (old mid new piece : List ℕ)
    → AppendsPieces Is xs old mid → Is x piece → new ≡ mid ++ piece → AppendsPieces Is (xs ++ x ∷ []) old new
appends-push Is xs x old mid new piece h one added =
    (h.0 ++ piece, in_pieces-push Is xs x h.0 piece h.1 one, added ∙ rw h.2 (append_assoc old h.0 piece))

-- the piece of the next thing of a list
pub appends-next : {A : Type 0} (Is : A → List ℕ → Type 0) (xs : List A) (i : ℕ) (x : A) → slice_get xs i ≡ Some x
    → (old mid new piece : List ℕ) → AppendsPieces Is (take i xs) old mid → Is x piece → new ≡ mid ++ piece
    → AppendsPieces Is (take (i + 1) xs) old new
appends-next Is xs i x at old mid new piece h one added =
    rw (take_more xs i x (slice_get_within xs i x at), get_or_from_slice_get xs i x x at)
    (appends-push Is (take i xs) x old mid new piece h one added)

-- the same where the thing is read at its place
pub appends-item : {A : Type 0} (Is : A → List ℕ → Type 0) (xs : List A) (i : ℕ) (x : A) → i < length xs
    → x ≡ get_or xs i x → (old mid new piece : List ℕ) → AppendsPieces Is (take i xs) old mid → Is x piece
    → new ≡ mid ++ piece → AppendsPieces Is (take (i + 1) xs) old new
appends-item Is xs i x within is =
    appends-next Is xs i x (slice_get_read xs (length xs) i x refl within is)
