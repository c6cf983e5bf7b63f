-- A tree's value stays where the registers and the turns that it names do.
use Rattle.std.proofs.Common.{◌≡◌, ℕ, List, [], ◌∷◌, Option, Some, refl, ap, ◌∙◌}
use Rattle.scev_base.specs.Iterated.{iterated}
use Rattle.scev_tree.specs.declared.kind.Kind.{Kind}
use Rattle.scev_tree.specs.declared.kind.Kind.TheVariants as kind
use Rattle.scev_tree.specs.Tree.{Tree, Terms, Factors, Atom, Parts, polynomial, no_terms, term, no_factors, factor}
use Rattle.scev_tree.specs.Tree.{atom, no_parts, part, width_of}
use Rattle.scev_tree.specs.Value.{Valued, values, sum, product, kind_value}
use Rattle.scev_tree.specs.Value.{tree_value, terms_value, factors_value, atom_value, parts_values}
use Rattle.tree_names.specs.Names.{HasOnly, TermsHaveOnly, FactorsHaveOnly, AtomHasOnly, PartsHaveOnly, IsSame}

module _ (held other : ℕ → Option ℕ) (turns others : ℕ → ℕ) where
  -- an atom of the same parts
  kind_same : (k : Kind) (w : ℕ) (parts : List Valued)
      → IsSame held other turns others k
      → kind_value held turns w k parts ≡ kind_value other others w k parts
  kind_same (kind.Rec loop) w [] h = refl
  kind_same (kind.Rec loop) w (p ∷ parts) h = ap (λ t. iterated (sum w) t p.value (values parts)) h
  kind_same (kind.Leaf register loop) w [] h = h
  kind_same (kind.Leaf register loop) w (p ∷ parts) h = refl
  kind_same _ w parts h = refl

  -- a tree; and terms, factors, an atom and parts
  mutual
    pub tree_same : (tree : Tree)
        → HasOnly (IsSame held other turns others) tree
        → tree_value held turns tree ≡ tree_value other others tree
    tree_same (polynomial w ts) h = terms_same w ts h

    terms_same : (w : ℕ) (ts : Terms)
        → TermsHaveOnly (IsSame held other turns others) ts
        → terms_value held turns w ts ≡ terms_value other others w ts
    terms_same w no_terms h = refl
    terms_same w (term f c ts) h =
        ap (λ x. sum w (product w x (Some c)) (terms_value held turns w ts)) (factors_same w f h.0)
        ∙ ap (sum w (product w (factors_value other others w f) (Some c))) (terms_same w ts h.1)

    factors_same : (w : ℕ) (f : Factors)
        → FactorsHaveOnly (IsSame held other turns others) f
        → factors_value held turns w f ≡ factors_value other others w f
    factors_same w no_factors h = refl
    factors_same w (factor a f) h =
        ap (λ x. product w x (factors_value held turns w f)) (atom_same a h.0)
        ∙ ap (product w (atom_value other others a)) (factors_same w f h.1)

    atom_same : (a : Atom)
        → AtomHasOnly (IsSame held other turns others) a
        → atom_value held turns a ≡ atom_value other others a
    atom_same (atom k w parts) h =
        kind_same k w (parts_values held turns parts) h.0 ∙ ap (kind_value other others w k) (parts_same parts h.1)

    parts_same : (parts : Parts)
        → PartsHaveOnly (IsSame held other turns others) parts
        → parts_values held turns parts ≡ parts_values other others parts
    parts_same no_parts h = refl
    parts_same (part tree parts) h =
        let width = width_of tree in
        ap (λ (x : Option ℕ). record { width = width; value = x } ∷ parts_values held turns parts)
        (tree_same tree h.0)
        ∙ ap (λ (xs : List Valued). record { width = width; value = tree_value other others tree } ∷ xs)
        (parts_same parts h.1)
