-- Lists as they are printed: one thing after another, and with commas between them.
use Rattle.std.proofs.Common.{◌≡◌, ℕ, List, [], ◌∷◌, ◌++◌, map, flat_map, codes, refl, sym, ap, ◌∙◌, subst, append_assoc}
use Rattle.std.proofs.lemmas.List.{append-nil, map-append}
use Rattle.ir_text.specs.Mentions.{Mention, Mentioning, ◌⊙◌, InOrder}
use Rattle.ir_grammar.specs.Operations.{the_comma, WithCommas, Listing}
use Rattle.ir_grammar.specs.Printing.{joined}
use Rattle.ir_lex.proofs.Plain.{Stops}
use Rattle.ir_read_back.proofs.Real.{Each, each-left, each-right}
use Rattle.ir_read_back.proofs.Writes.{Leads, Rewrites, and_then, comma_then, production_is}

-- ---- of the images of things

pub in_order_map : {X Y : Type 0} (Spells : Y → Mentioning) (f : X → Y) (xs : List X)
    → InOrder Spells (map f xs) ≡ InOrder (λ x. Spells (f x)) xs
in_order_map Spells f [] = refl
in_order_map Spells f (x ∷ xs) =
    ap {B = Mentioning} (λ more ms ts. (Spells (f x) ⊙ more) ms ts) (in_order_map Spells f xs)

pub with_commas_map : {X Y : Type 0} (Spells : Y → Mentioning) (f : X → Y) (xs : List X)
    → WithCommas Spells (map f xs) ≡ WithCommas (λ x. Spells (f x)) xs
with_commas_map Spells f [] = refl
with_commas_map Spells f (x ∷ []) = refl
with_commas_map Spells f (x ∷ y ∷ ys) =
    ap {B = Mentioning} (λ more ms ts. (Spells (f x) ⊙ the_comma ⊙ more) ms ts) (with_commas_map Spells f (y ∷ ys))

-- Where each thing is taken twice.
pub mapped_commas : {X : Type 0} {Behind : List ℕ → Type 0} {ms : List Mention} {text : List ℕ}
    (Spells : X → Mentioning) (bare normal : X → X) (xs : List X)
    → Rewrites Behind (WithCommas (λ x. Spells (bare x)) xs) (WithCommas (λ x. Spells (bare (normal x))) xs) ms text
    → Rewrites Behind (WithCommas Spells (map bare xs)) (WithCommas Spells (map bare (map normal xs))) ms text
mapped_commas Spells bare normal xs part =
    production_is _ _ _ _ (sym (with_commas_map Spells bare xs))
    (sym (with_commas_map Spells bare (map normal xs) ∙ with_commas_map (λ x. Spells (bare x)) normal xs)) part

pub mapped_in_order : {X : Type 0} {Behind : List ℕ → Type 0} {ms : List Mention} {text : List ℕ}
    (Spells : X → Mentioning) (bare normal : X → X) (xs : List X)
    → Rewrites Behind (InOrder (λ x. Spells (bare x)) xs) (InOrder (λ x. Spells (bare (normal x))) xs) ms text
    → Rewrites Behind (InOrder Spells (map bare xs)) (InOrder Spells (map bare (map normal xs))) ms text
mapped_in_order Spells bare normal xs part =
    production_is _ _ _ _ (sym (in_order_map Spells bare xs))
    (sym (in_order_map Spells bare (map normal xs) ∙ in_order_map (λ x. Spells (bare x)) normal xs)) part

pub map_flat_map : {X A B : Type 0} (f : A → B) (of : X → List A) (xs : List X)
    → map f (flat_map of xs) ≡ flat_map (λ x. map f (of x)) xs
map_flat_map f of [] = refl
map_flat_map f of (x ∷ xs) =
    map-append f (of x) (flat_map of xs) ∙ ap (λ more. map f (of x) ++ more) (map_flat_map f of xs)

-- what is so of each part of each thing
pub each_part : {X A : Type 0} (P : A → Type 0) (of : X → List A) (xs : List X)
    → Each P (flat_map of xs)
    → Each (λ x. Each P (of x)) xs
each_part P of [] all = tt
each_part P of (x ∷ xs) all =
    (each-left P (of x) (flat_map of xs) all, each_part P of xs (each-right P (of x) (flat_map of xs) all))

pub each_gives : {X : Type 0} (P Q : X → Type 0) → ((x : X) → P x → Q x) → (xs : List X) → Each P xs → Each Q xs
each_gives P Q gives [] all = tt
each_gives P Q gives (x ∷ xs) all = (gives x all.0, each_gives P Q gives xs all.1)

-- ---- one after another

module _ {X : Type 0} (Old New : X → Mentioning) (said : X → List Mention) (text : X → List ℕ) where
  all_lead : (Behind : List ℕ → Type 0) → ((x : X) → Leads Behind (text x) Behind) → (xs : List X)
      → Leads Behind (flat_map text xs) Behind
  all_lead Behind lead [] rest behind = behind
  all_lead Behind lead (x ∷ xs) rest behind =
      rw (append_assoc (text x) (flat_map text xs) rest) (lead x _ (all_lead Behind lead xs rest behind))

  -- Things that are printed one after another, where each text may stand before what may stand behind all.
  pub in_order_rewrites : (Behind : List ℕ → Type 0) → ((x : X) → Leads Behind (text x) Behind) → (xs : List X)
      → Each (λ x. Rewrites Behind (Old x) (New x) (said x) (text x)) xs
      → Rewrites Behind (InOrder Old xs) (InOrder New xs) (flat_map said xs) (flat_map text xs)
  in_order_rewrites Behind lead [] each = record {
    writes = λ old ts spelled real. record {
      lexemes = [];
      spelled = (refl, refl);
      lexed = λ rest others behind tokens. tokens;
    };
  }
  in_order_rewrites Behind lead (x ∷ xs) each =
      and_then (all_lead Behind lead xs) each.0 (in_order_rewrites Behind lead xs each.1)

  -- Things with commas between them.
  pub with_commas_rewrites : (xs : List X)
      → Each (λ x. Rewrites Stops (Old x) (New x) (said x) (text x)) xs
      → Rewrites Stops (WithCommas Old xs) (WithCommas New xs) (flat_map said xs) (joined text (codes ", ") xs)
  with_commas_rewrites [] each = record { writes = λ old ts spelled real. absurd spelled }
  with_commas_rewrites (x ∷ []) each =
      subst (λ ms. Rewrites Stops (Old x) (New x) ms (text x)) (sym (append-nil (said x))) each.0
  with_commas_rewrites (x ∷ y ∷ ys) each = comma_then each.0 (with_commas_rewrites (y ∷ ys) each.1)

  -- The same, where there may be none.
  pub listing_rewrites : (xs : List X)
      → Each (λ x. Rewrites Stops (Old x) (New x) (said x) (text x)) xs
      → Rewrites Stops (Listing Old xs) (Listing New xs) (flat_map said xs) (joined text (codes ", ") xs)
  listing_rewrites [] each = record {
    writes = λ old ts spelled real. record {
      lexemes = [];
      spelled = (refl, refl);
      lexed = λ rest others behind tokens. tokens;
    };
  }
  listing_rewrites (x ∷ xs) each = with_commas_rewrites (x ∷ xs) each
