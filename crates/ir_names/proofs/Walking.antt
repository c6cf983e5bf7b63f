-- Walks over lists that give each item its ids.
use Rattle.std.proofs.Common.{◌≡◌, List, [], ◌∷◌, ◌++◌, map, reverse, refl, sym, ap, ◌∙◌, subst}
use Rattle.std.specs.List.{flat_map}
use Rattle.std.proofs.lemmas.List.{append-nil, append_assoc, reverse-append, reverse-reverse, map-append}
use Rattle.std.proofs.lemmas.Grind.{flat_map-append}
use Rattle.ir_model.specs.Sites.{Site}
use Rattle.ir_lex.specs.Tokenized.{Tokenized}
use Rattle.ir_names.specs.declared.seen.Seen.{Seen}
use Rattle.ir_names.specs.Renumbered.{Renumbers}
use Rattle.ir_names.proofs.Passing.{both, becomes_none}

-- Of all items those in front have their ids, and the others lie in reverse order.
pub record Walked {A : Type 0} (sites : A → List Site) (bare : A → A) (t : Tokenized) (start now : Seen)
    (all rest numbered : List A) : Type 0 where
  pub done : List A
  pub parted : all ≡ done ++ reverse rest
  pub so_far : Renumbers (flat_map sites) (map bare) t start now done numbered

module _ {A : Type 0} (sites : A → List Site) (bare : A → A) where
  flat_one : (x : A) → flat_map sites (x ∷ []) ≡ sites x
  flat_one x = append-nil (sites x)

  pub one_more : {t : Tokenized} {a b c : Seen} {xs ys : List A} {x y : A}
      → Renumbers (flat_map sites) (map bare) t a b xs ys
      → Renumbers sites bare t b c x y
      → Renumbers (flat_map sites) (map bare) t a c (xs ++ x ∷ []) (ys ++ y ∷ [])
  one_more {t} {a} {b} {c} {xs} {ys} {x} {y} p q = record {
    becomes = rw (flat_map-append sites xs (x ∷ []), flat_map-append sites ys (y ∷ []), flat_one x, flat_one y)
        (both p.becomes q.becomes);
    same = rw (map-append bare ys (y ∷ []), map-append bare xs (x ∷ []), p.same, q.same) refl;
  }

  pub walked_none : (t : Tokenized) (a : Seen) (all rest : List A) → rest ≡ reverse all
      → Walked sites bare t a a all rest []
  walked_none t a all rest e = record {
    done = [];
    parted = sym (ap reverse e ∙ reverse-reverse all);
    so_far = record { becomes = becomes_none t a; same = refl };
  }

  pub walked_more : {t : Tokenized} {a b c : Seen} {all rest left numbered : List A} {x y : A}
      → Walked sites bare t a b all rest numbered
      → rest ≡ left ++ x ∷ []
      → Renumbers sites bare t b c x y
      → Walked sites bare t a c all left (numbered ++ y ∷ [])
  walked_more {t} {a} {b} {c} {all} {rest} {left} {numbered} {x} {y} walked e here = record {
    done = walked.done ++ x ∷ [];
    parted = walked.parted ∙ ap (λ xs. walked.done ++ xs) (ap reverse e ∙ reverse-append left (x ∷ []))
        ∙ sym (append_assoc walked.done (x ∷ []) (reverse left));
    so_far = one_more walked.so_far here;
  }

  pub walked_all : {t : Tokenized} {a b : Seen} {all rest numbered : List A}
      → Walked sites bare t a b all rest numbered
      → rest ≡ []
      → Renumbers (flat_map sites) (map bare) t a b all numbered
  walked_all {t} {a} {b} {all} {rest} {numbered} walked e =
      let whole : all ≡ walked.done = walked.parted ∙ ap (λ xs. walked.done ++ reverse xs) e ∙ append-nil walked.done in
      subst (λ (xs : List A). Renumbers (flat_map sites) (map bare) t a b xs numbered) (sym whole) walked.so_far
