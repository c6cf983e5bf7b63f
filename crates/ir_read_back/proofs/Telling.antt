-- What sentences of a production tell of what they spell.
use Rattle.std.proofs.Common.{◌≢◌, List, [], ◌∷◌, All}
use Rattle.std.proofs.lemmas.List.Elements.{All-nil, All-cons}
use Rattle.ir_model.specs.declared.types.IrType.{IrType}
use Rattle.ir_text.specs.Tokens.{Lexeme}
use Rattle.ir_text.specs.Mentions.{Mention, Mentioning, ◌⊙◌, silent, InOrder}
use Rattle.ir_grammar.specs.Operations.{the_type, the_comma, WithCommas, Listing}

-- It is so where there is a sentence of the production.
pub record Tells (P : Type 0) (A : List Mention → List Lexeme → Type 0) : Type 0 where
  pub holds : (ms : List Mention) (ts : List Lexeme) → A ms ts → P

-- the first of two parts tells it, and what stands behind the first
pub first : {P : Type 0} {A B : List Mention → List Lexeme → Type 0} → Tells P A → Tells P (A ⊙ B)
first told = record { holds = λ ms ts s. told.holds s.0 s.3.0 s.3.3 }

pub later : {P : Type 0} {A B : List Mention → List Lexeme → Type 0} → Tells P B → Tells P (A ⊙ B)
later told = record { holds = λ ms ts s. told.holds s.1 s.3.1 s.3.4 }

pub without_names : {P : Type 0} {L : List Lexeme → Type 0} → ((ts : List Lexeme) → L ts → P) → Tells P (silent L)
without_names gives = record { holds = λ ms ts s. gives ts s.1 }

-- a type of a kind
pub of_kind : (Is : IrType → Type 0) (kind : IrType) → Tells (Is kind) (the_type Is kind)
of_kind Is kind = record { holds = λ ms ts s. s.1.0 }

-- ---- lists

pub no_less : {X : Type 0} (x : X) (xs : List X) → x ∷ xs ≢ []
no_less x xs e = cc

-- things with commas between them are some
pub some_told : {X : Type 0} (Spells : X → Mentioning) (xs : List X) → Tells (xs ≢ []) (WithCommas Spells xs)
some_told Spells [] = record { holds = λ ms ts s. absurd s }
some_told Spells (x ∷ xs) = record { holds = λ ms ts s. no_less x xs }

module _ {X : Type 0} (P : X → Type 0) (Spells : X → Mentioning) (each : (x : X) → Tells (P x) (Spells x)) where
  pub in_order_told : (xs : List X) → Tells (All P xs) (InOrder Spells xs)
  in_order_told [] = record { holds = λ ms ts s. All-nil P }
  in_order_told (x ∷ xs) = record {
    holds = λ ms ts s.
        All-cons P x xs ((each x).holds s.0 s.3.0 s.3.3) ((in_order_told xs).holds s.1 s.3.1 s.3.4);
  }

  commas_told : (xs : List X) (ms : List Mention) (ts : List Lexeme) → WithCommas Spells xs ms ts → All P xs
  commas_told [] ms ts s = absurd s
  commas_told (x ∷ []) ms ts s = All-cons P x [] ((each x).holds ms ts s) (All-nil P)
  commas_told (x ∷ y ∷ ys) ms ts s =
      let others : Tells (All P (y ∷ ys)) (WithCommas Spells (y ∷ ys)) = record { holds = commas_told (y ∷ ys) } in
      let behind : Tells (All P (y ∷ ys)) (the_comma ⊙ WithCommas Spells (y ∷ ys)) = later others in
      All-cons P x (y ∷ ys) ((each x).holds s.0 s.3.0 s.3.3) (behind.holds s.1 s.3.1 s.3.4)

  pub listing_told : (xs : List X) → Tells (All P xs) (Listing Spells xs)
  listing_told [] = record { holds = λ ms ts s. All-nil P }
  listing_told (x ∷ xs) = record { holds = commas_told (x ∷ xs) }
