-- Tokens that stand somewhere, in a text of bytes.
use Rattle.std.proofs.Common.{ℕ, List, [], ◌∷◌, ◌++◌}
use Rattle.ir_text.specs.Tokens.{Lexeme, IsTokenAt}
use Rattle.ir_printer.proofs.QuotedNames.{AreBytes}

-- It is so of each thing of a list.
abbrev pub Each : {A : Type 0} → (A → Type 0) → List A → Type 0
Each P [] = Unit {0}
Each P (x ∷ xs) = P x × Each P xs

pub each-left : {A : Type 0} (P : A → Type 0) (xs ys : List A) → Each P (xs ++ ys) → Each P xs
each-left P [] ys all = tt
each-left P (x ∷ xs) ys all = (all.0, each-left P xs ys all.1)

pub each-right : {A : Type 0} (P : A → Type 0) (xs ys : List A) → Each P (xs ++ ys) → Each P ys
each-right P [] ys all = all
each-right P (x ∷ xs) ys all = each-right P xs ys all.1

pub each-append : {A : Type 0} (P : A → Type 0) (xs ys : List A) → Each P xs → Each P ys → Each P (xs ++ ys)
each-append P [] ys left right = right
each-append P (x ∷ xs) ys left right = (left.0, each-append P xs ys left.1 right)

-- A token of a text of bytes.
pub record IsReal (t : Lexeme) : Type 0 where
  pub next : List ℕ
  pub token : IsTokenAt t.kind t.text next
  pub bytes : AreBytes t.text

abbrev pub AreReal : List Lexeme → Type 0
AreReal ts = Each IsReal ts
