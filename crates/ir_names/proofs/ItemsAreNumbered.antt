-- Items one after another, and the module of them.
use Rattle.std.proofs.Common.{◌≡◌, ℕ, List, [], ◌∷◌, ◌++◌, map, not, reverse, refl, sym, ap, ◌∙◌, subst, true}
use Rattle.std.specs.List.{flat_map, list_any}
use Rattle.std.specs.Str.{bytes_eq}
use Rattle.std.proofs.lemmas.List.{append-nil, append_assoc, reverse-append, reverse-reverse, map-append}
use Rattle.std.proofs.lemmas.Slice.Eq.{bytes_eq-Decides}
use Rattle.ir_model.specs.declared.function.Function.{Function}
use Rattle.ir_model.specs.declared.item.Item.{Item}
use Rattle.ir_model.specs.declared.item.Item.TheVariants as item
use Rattle.ir_text.specs.Sites.{Draft, without_ids}
use Rattle.ir_grammar.specs.Numbering.{global_names, used_globals, defined_by, defined_globals, IsNumberedItem, IsNumberedModule, EachMatches}
use Rattle.ir_lex.specs.Tokenized.{Tokenized}
use Rattle.ir_parts.specs.Places.{draft_of}
use Rattle.ir_names.specs.Growing.{with_names, IsPrefix}
use Rattle.ir_names.specs.Whole.{FunctionNumbered, ItemNumbered, ItemsNumbered}
use Rattle.ir_names.proofs.Growing.{IsPrefix-refl, IsPrefix-trans, with_names-prefix, with_names-append, with_names_are, first_occurrences-filter}
use Rattle.ir_names.proofs.FirstPlaces.{same_text}
use Rattle.ir_names.proofs.Passing.{each-append}

pub function_item : (t : Tokenized) (a b : List (List ℕ)) (f g : Function) → FunctionNumbered t a b f g
    → ItemNumbered t a b (item.Define f) (item.Define g)
function_item t a b f g h = record {
  globals = h.globals;
  numbered =
      λ later more. (ap item.Define h.same, h.numbered later more);
}

-- no function
abbrev pub IsNoFunction : Item → Type 0
IsNoFunction (item.Define f) = ⊥
IsNoFunction _ = Unit {0}

pub other_item : (t : Tokenized) (a : List (List ℕ)) (x : Item) → IsNoFunction x → ItemNumbered t a a x x
other_item t a (item.PassedOn text) none = record { globals = refl; numbered = λ later more. (refl, tt) }
other_item t a (item.Global g) none = record { globals = refl; numbered = λ later more. (refl, tt) }
other_item t a (item.Declare d) none = record { globals = refl; numbered = λ later more. (refl, tt) }
other_item t a (item.Define f) none = elim none [ ]

used_globals-append : (xs ys : List Draft) → used_globals (xs ++ ys) ≡ used_globals xs ++ used_globals ys
used_globals-append [] ys = refl
used_globals-append (x ∷ xs) ys = ap (λ names. global_names x.mentions ++ names) (used_globals-append xs ys)
    ∙ sym (append_assoc (global_names x.mentions) (used_globals xs) (used_globals ys))

module _ (t : Tokenized) where
  used_more : (xs : List Item) (x : Item) → used_globals (map (draft_of t) (xs ++ x ∷ []))
      ≡ used_globals (map (draft_of t) xs) ++ global_names (draft_of t x).mentions
  used_more xs x =
      ap used_globals (map-append (draft_of t) xs (x ∷ []))
      ∙ used_globals-append (map (draft_of t) xs) (draft_of t x ∷ [])
      ∙ ap (λ names. used_globals (map (draft_of t) xs) ++ names) (append-nil (global_names (draft_of t x).mentions))

  items_more : (a b c : List (List ℕ)) (xs ys : List Item) (x y : Item) → ItemsNumbered t a b xs ys
      → ItemNumbered t b c x y
      → ItemsNumbered t a c (xs ++ x ∷ []) (ys ++ y ∷ [])
  items_more a b c xs ys x y p q = record {
    globals = q.globals ∙ ap (λ names. with_names bytes_eq names (global_names (draft_of t x).mentions)) p.globals
        ∙ sym (with_names-append bytes_eq a (used_globals (map (draft_of t) xs)) (global_names (draft_of t x).mentions))
        ∙ ap (with_names bytes_eq a) (sym (used_more xs x));
    numbered = λ later more.
        let before : IsPrefix b later = IsPrefix-trans
        (subst (λ (names : List (List ℕ)). IsPrefix b names) (sym q.globals)
        (with_names-prefix bytes_eq b (global_names (draft_of t x).mentions))) more in
        subst (λ (drafts : List Draft). EachMatches (IsNumberedItem later) drafts (ys ++ y ∷ []))
        (sym (map-append (draft_of t) xs (x ∷ [])))
        (each-append (IsNumberedItem later) (map (draft_of t) xs) (draft_of t x ∷ []) ys (y ∷ [])
        (p.numbered later before) (q.numbered later more, tt));
  }

  -- Of all items those in front have their ids, and the others lie in reverse order.
  pub record WalkedItems (start now : List (List ℕ)) (all rest numbered : List Item) : Type 0 where
    pub done : List Item
    pub parted : all ≡ done ++ reverse rest
    pub so_far : ItemsNumbered t start now done numbered

  pub items_none : (a : List (List ℕ)) (all rest : List Item) → rest ≡ reverse all → WalkedItems a a all rest []
  items_none a all rest e = record {
    done = [];
    parted = sym (ap reverse e ∙ reverse-reverse all);
    so_far = record { globals = refl; numbered = λ later more. tt };
  }

  pub items_one_more : (a b c : List (List ℕ)) (all rest left numbered : List Item) (x y : Item)
      → WalkedItems a b all rest numbered
      → rest ≡ left ++ x ∷ [] → ItemNumbered t b c x y → WalkedItems a c all left (numbered ++ y ∷ [])
  items_one_more a b c all rest left numbered x y walked e here = record {
    done = walked.done ++ x ∷ [];
    parted = walked.parted ∙ ap (λ xs. walked.done ++ xs) (ap reverse e ∙ reverse-append left (x ∷ []))
        ∙ sym (append_assoc walked.done (x ∷ []) (reverse left));
    so_far = items_more a b c walked.done numbered x y walked.so_far here;
  }

  pub items_all : (a b : List (List ℕ)) (all rest numbered : List Item) → WalkedItems a b all rest numbered → rest
      ≡ [] → ItemsNumbered t a b all numbered
  items_all a b all rest numbered walked e =
      let whole : all ≡ walked.done = walked.parted ∙ ap (λ xs. walked.done ++ reverse xs) e ∙ append-nil walked.done in
      subst (λ (xs : List Item). ItemsNumbered t a b xs numbered) (sym whole) walked.so_far

  same_defined : (x : Item) → defined_by x ≡ defined_by (without_ids x)
  same_defined (item.PassedOn text) = refl
  same_defined (item.Global g) = refl
  same_defined (item.Declare d) = refl
  same_defined (item.Define f) = refl

  defined_are : (xs : List Item) → flat_map defined_by xs ≡ defined_globals (map (draft_of t) xs)
  defined_are [] = refl
  defined_are (x ∷ xs) = rw (same_defined x, defined_are xs) refl

  self_text : (x : List ℕ) → bytes_eq x x ≡ true
  self_text x = (bytes_eq-Decides x x).1 refl

  -- The module of items that got their ids.
  pub module_numbered : (xs ys : List Item) (names : List (List ℕ))
      → ItemsNumbered t (flat_map defined_by xs) names xs ys
      → IsNumberedModule (map (draft_of t) xs) (record { items = ys; globals = names })
  module_numbered xs ys names h =
      let drafts = map (draft_of t) xs in
      let defs = defined_globals drafts in
      record {
        globals = h.globals ∙ ap (λ ns. with_names bytes_eq ns (used_globals drafts)) (defined_are xs)
            ∙ with_names_are bytes_eq same_text self_text defs (used_globals drafts)
            ∙ ap (λ ns. defs ++ ns) (sym (first_occurrences-filter bytes_eq same_text self_text
            (λ name. not (list_any (bytes_eq name) defs)) (used_globals drafts)));
        items_are = h.numbered names (IsPrefix-refl names);
      }
