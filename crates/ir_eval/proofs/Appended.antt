-- Bytes appended, one after another.
use Rattle.std.proofs.Common.{◌≡◌, ℕ, replicate, true, List, [], ◌∷◌, ◌++◌, refl, sym, append_assoc}
use Rattle.std.proofs.lemmas.Bool.{and_from}
use Rattle.std.proofs.lemmas.List.{append-nil}
use Rattle.std.proofs.lemmas.List.Elements.{All-replicate}
use Rattle.std.proofs.lemmas.List.Folds.{list_all-append}
use Rattle.std.proofs.lemmas.List.Sums.{list_all-from_AllPass}
use Rattle.std.specs.List.{list_all}
use Rattle.ir_memory.specs.declared.byte.Byte.{Byte}
use Rattle.ir_memory.specs.declared.byte.Byte.TheVariants as byte
use Rattle.ir_memory.specs.Memory.{is_byte}
use Rattle.ir_eval.specs.Parts.{GoesOn}

-- nothing
pub goes_on_none : (old : List Byte) → GoesOn old old []
goes_on_none old = record { behind = sym (append-nil old); fit = refl }

-- one piece behind another
pub goes_on_more : (old mid new these those : List Byte) → GoesOn old mid these → GoesOn mid new those
    → GoesOn old new (these ++ those)
goes_on_more old mid new these those one other = record {
  behind = rw (other.behind, one.behind, append_assoc) refl;
  fit =
      rw (list_all-append is_byte these those)
      (and_from (list_all is_byte these) (list_all is_byte those) one.fit other.fit);
}

-- one byte
pub goes_on_push : (old mid new bytes : List Byte) (x : Byte) → GoesOn old mid bytes → new ≡ mid ++ x ∷ []
    → is_byte x ≡ true → GoesOn old new (bytes ++ x ∷ [])
goes_on_push old mid new bytes x so next fit =
    goes_on_more old mid new bytes (x ∷ []) so (record { behind = next; fit = rw fit refl })

-- A block of zeros fits.
pub zeros_fit : (size : ℕ) → list_all is_byte (replicate size (byte.Number 0)) ≡ true
zeros_fit size =
    list_all-from_AllPass is_byte (replicate size (byte.Number 0))
    (All-replicate (λ (one : Byte). is_byte one ≡ true) size (byte.Number 0) refl)
