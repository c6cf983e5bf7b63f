-- How many lists within lists may be read doesn't matter where there are at least as many as tokens.
use Rattle.std.proofs.Common.{◌≡◌, true, false, ℕ, zero, suc, ◌≤◌, List, [], ◌∷◌, length, refl, ◌∙◌, arith}
use Rattle.ir_model.specs.declared.item.Init.{Init}
use Rattle.ir_model.specs.declared.item.Init.TheVariants as init
use Rattle.ir_text.specs.Tokens.{Lexeme}
use Rattle.ir_text.specs.Language.{Language}
use Rattle.ir_parts.specs.Reading.{Read, ◌>>=◌, pure, ◌⊗◌, ◌▷◌, begins, is_punctuation, punctuation_at, choose, repeated_at}
use Rattle.ir_parts.specs.TypeReading.{stored_type_at}
use Rattle.ir_parts.specs.ListReading.{with_commas_at}
use Rattle.ir_parts.proofs.Readers.{IsReader, Anything, chosen_first, chosen_other}
use Rattle.ir_parts.proofs.Combined.{behind_token}
use Rattle.ir_parts.proofs.SingleTokens.{sign_reads}
use Rattle.ir_parts.proofs.TypeReaders.{stored_types}
use Rattle.ir_items.specs.InitReading.{plain_init_at, part_at, list_at, nested_at, init_at}
use Rattle.ir_items.proofs.Agreement.{Agree, shrinks, same_agree, then_agree, made_agree, behind_agree, chosen_agree, repeated_agree}
use Rattle.ir_items.proofs.PartReaders.{part_reads}
use Rattle.ir_items.proofs.InitLevels.{nested_reads}

parts_agree : (most : ℕ) (value other : Read Init) → Agree most value other → Agree most (part_at value) (part_at other)
unfolding part_at
parts_agree most value other same =
    made_agree most (stored_type_at ⊗ value) (stored_type_at ⊗ other) (λ p. pure (record { kind = p.0; init = p.1 }))
    (then_agree most stored_type_at stored_type_at (λ kind. value >>= λ init. pure (kind, init))
    (λ kind. other >>= λ init. pure (kind, init)) (shrinks stored_types)
    (same_agree most stored_type_at)
    (λ kind. made_agree most value other (λ init. pure (kind, init)) same))

with_commas_agree : {X : Type 0} (most : ℕ) (item other : Read X) {I : X → Language} → IsReader item I Anything
    → Agree most item other → Agree most (with_commas_at item) (with_commas_at other)
unfolding with_commas_at
with_commas_agree {X} most item other reads same =
    made_agree most (item ⊗ repeated_at (is_punctuation 44) (punctuation_at 44 ▷ item))
    (other ⊗ repeated_at (is_punctuation 44) (punctuation_at 44 ▷ other)) (λ p. pure (p.0 ∷ p.1))
    (then_agree most item other
    (λ x. repeated_at (is_punctuation 44) (punctuation_at 44 ▷ item) >>= λ xs. pure (x, xs))
    (λ x. repeated_at (is_punctuation 44) (punctuation_at 44 ▷ other) >>= λ xs. pure (x, xs)) (shrinks reads) same
    (λ x. made_agree most (repeated_at (is_punctuation 44) (punctuation_at 44 ▷ item))
    (repeated_at (is_punctuation 44) (punctuation_at 44 ▷ other)) (λ (xs : List X). pure (x, xs))
    (repeated_agree most (is_punctuation 44) (punctuation_at 44 ▷ item) (punctuation_at 44 ▷ other)
    (shrinks (behind_token (sign_reads 44) reads))
    (then_agree most (punctuation_at 44) (punctuation_at 44) (λ _. item) (λ _. other) (shrinks (sign_reads 44))
    (same_agree most (punctuation_at 44)) (λ _. same)))))

lists_agree : (most : ℕ) (value other : Read Init) {V : Init → Language} → IsReader value V Anything
    → Agree most value other → Agree (suc most) (list_at value) (list_at other)
unfolding list_at
lists_agree most value other reads same =
    behind_agree most (is_punctuation 91)
    (λ _. with_commas_at (part_at value) >>= λ parts. punctuation_at 93 >>= λ _. pure (init.List parts))
    (λ _. with_commas_at (part_at other) >>= λ parts. punctuation_at 93 >>= λ _. pure (init.List parts))
    (made_agree most (with_commas_at (part_at value)) (with_commas_at (part_at other))
    (λ parts. punctuation_at 93 >>= λ _. pure (init.List parts))
    (with_commas_agree most (part_at value) (part_at other) (part_reads reads) (parts_agree most value other same)))

-- More than there are tokens are none more.
pub nested_agree : (n m : ℕ) (ts : List Lexeme) → length ts ≤ n → length ts ≤ m → nested_at n ts ≡ nested_at m ts
unfolding nested_at
nested_agree zero zero ts short less = refl
nested_agree zero (suc m) [] short less = refl
nested_agree (suc n) zero [] short less = refl
nested_agree (suc n) (suc m) [] short less = refl
nested_agree zero (suc m) (t ∷ ts) short less = absurd (omega arith)
nested_agree (suc n) zero (t ∷ ts) short less = absurd (omega arith)
nested_agree (suc n) (suc m) (t ∷ ts) short less =
    chosen_agree (suc (length ts)) (is_punctuation 91) (list_at (nested_at n)) (list_at (nested_at m)) plain_init_at
    (lists_agree (length ts) (nested_at n) (nested_at m) (nested_reads n)
    (λ us shorter. nested_agree n m us (omega arith) (omega arith))) (t ∷ ts) (omega arith)

-- An initialiser begins with its bracket, and its parts hold initialisers; or it is no list.
pub init_once : (ts : List Lexeme) → init_at ts ≡ choose (is_punctuation 91) (list_at init_at) plain_init_at ts
unfolding init_at nested_at
init_once [] = refl
init_once (t ∷ ts) =
    chosen_agree (suc (length ts)) (is_punctuation 91) (list_at (nested_at (length ts))) (list_at init_at) plain_init_at
    (lists_agree (length ts) (nested_at (length ts)) init_at (nested_reads (length ts))
    (λ us shorter. nested_agree (length ts) (length us) us shorter (omega arith))) (t ∷ ts) (omega arith)

pub no_list : (ts : List Lexeme) → begins (is_punctuation 91) ts ≡ false → init_at ts ≡ plain_init_at ts
no_list ts e = init_once ts ∙ chosen_other (is_punctuation 91) (list_at init_at) plain_init_at ts e

pub a_list : (ts : List Lexeme) → begins (is_punctuation 91) ts ≡ true → init_at ts ≡ list_at init_at ts
a_list ts e = init_once ts ∙ chosen_first (is_punctuation 91) (list_at init_at) plain_init_at ts e
