-- Truncations and extensions have no other kinds of atoms than their operands, but ones that name nothing.
use Rattle.std.proofs.Common.{ℕ, ◌%◌, ◌^◌, ◌==◌, nat_lt, Bool, List, [], ◌∷◌, Option, Some, None}
use Rattle.std.proofs.lemmas.Bool.{cond_both}
use Rattle.scev_tree.specs.declared.kind.Kind.{Kind}
use Rattle.scev_tree.specs.declared.kind.Kind.TheVariants as kind
use Rattle.scev_tree.specs.Tree.{Tree, Terms, Factors, Atom, Parts, polynomial, no_terms, term, no_factors, factor}
use Rattle.scev_tree.specs.Tree.{atom, no_parts, part, constant, of_atom, width_of, trees_of}
use Rattle.scev_forms.specs.Outcome.{Outcome, Done, next}
use Rattle.scev_forms.specs.Sums.{tree_sum, tree_product}
use Rattle.scev_forms.specs.Atoms.{number_of, alone, made}
use Rattle.scev_forms.specs.Casts.{of_extended, truncated, truncated_terms, truncated_factors, truncated_atom}
use Rattle.scev_forms.specs.Casts.{truncated_parts, extended_number, extended_atom, extended_tree, extended}
use Rattle.scev_forms.specs.Casts.{extended_rec, extended_when}
use Rattle.scev_forms.proofs.Outcomes.{Gives, gives_next}
use Rattle.tree_names.specs.Names.{HasOnly, TermsHaveOnly, FactorsHaveOnly, AtomHasOnly, PartsHaveOnly}
use Rattle.tree_names.proofs.Only.{HoldsNameless, AllHaveOnly, AloneHasOnly, constant_only, of_atom_only}
use Rattle.tree_names.proofs.Only.{trees_of_only, made_only, alone_only, recurrence_of_only}
use Rattle.tree_names.proofs.Formed.{tree_sum_only, tree_product_only}

module _ (K : Kind → Type 0) (nameless : (k : Kind) → HoldsNameless K k) where
  -- ---- truncations

  -- an extension, truncated to a width at which it may still be one
  of_extended_only : (k : Kind) (w : ℕ) (tree : Tree) (narrowed : Outcome Tree)
      → K k
      → HasOnly K tree
      → Gives (HasOnly K) narrowed
      → Gives (HasOnly K) (of_extended k w tree narrowed)
  of_extended_only k w tree narrowed is h hs =
      cond_both (nat_lt (width_of tree) w) (made k w (tree ∷ [])) narrowed (Gives (HasOnly K))
      (λ _. made_only K k w (tree ∷ []) is (h, tt))
      (λ _. hs)

  module _ (parents : List (Option ℕ)) (w : ℕ) where
    -- an atom, truncated as a whole
    whole_only : (k : Kind) (v : ℕ) (parts : Parts)
        → AtomHasOnly K (atom k v parts)
        → Gives (HasOnly K) (made kind.Trunc w (of_atom v (atom k v parts) ∷ []))
    whole_only k v parts h =
        made_only K kind.Trunc w (of_atom v (atom k v parts) ∷ []) (nameless kind.Trunc)
        (of_atom_only K v (atom k v parts) h, tt)

    mutual
      unfolding truncated truncated_terms truncated_factors truncated_atom truncated_parts

      pub truncated_only : (tree : Tree) → HasOnly K tree → Gives (HasOnly K) (truncated parents w tree)
      truncated_only (polynomial v ts) h =
          cond_both (v == w) (Done (polynomial v ts)) (truncated_terms parents w ts (constant w 0)) (Gives (HasOnly K))
          (λ _. h)
          (λ _. truncated_terms_only ts (constant w 0) h (constant_only K w 0))

      truncated_terms_only : (ts : Terms) (sum : Tree)
          → TermsHaveOnly K ts
          → HasOnly K sum
          → Gives (HasOnly K) (truncated_terms parents w ts sum)
      truncated_terms_only no_terms sum h is = is
      truncated_terms_only (term f n ts) sum h is =
          cond_both (n % 2 ^ w == 0) (truncated_terms parents w ts sum)
          (next (truncated_factors parents w f (constant w n)) (λ product.
          next (tree_sum parents w sum product) (λ more. truncated_terms parents w ts more)))
          (Gives (HasOnly K))
          (λ _. truncated_terms_only ts sum h.1 is)
          (λ _. gives_next (HasOnly K) (HasOnly K) (truncated_factors parents w f (constant w n)) _
          (truncated_factors_only f (constant w n) h.0 (constant_only K w n))
          (λ product its. gives_next (HasOnly K) (HasOnly K) (tree_sum parents w sum product) _
          (tree_sum_only K parents w sum product is its)
          (λ more those. truncated_terms_only ts more h.1 those)))

      truncated_factors_only : (f : Factors) (product : Tree)
          → FactorsHaveOnly K f
          → HasOnly K product
          → Gives (HasOnly K) (truncated_factors parents w f product)
      truncated_factors_only no_factors product h is = is
      truncated_factors_only (factor a f) product h is =
          gives_next (HasOnly K) (HasOnly K) (truncated_atom parents w a) _ (truncated_atom_only a h.0)
          (λ tree its. gives_next (HasOnly K) (HasOnly K) (tree_product parents w product tree) _
          (tree_product_only K parents w product tree is its)
          (λ more those. truncated_factors_only f more h.1 those))

      truncated_atom_only : (a : Atom) → AtomHasOnly K a → Gives (HasOnly K) (truncated_atom parents w a)
      truncated_atom_only (atom kind.Trunc v parts) h =
          made_only K kind.Trunc w (trees_of parts) h.0 (trees_of_only K parts h.1)
      truncated_atom_only (atom kind.Zext v (part tree no_parts)) h =
          of_extended_only kind.Zext w tree (truncated parents w tree) h.0 h.1.0 (truncated_only tree h.1.0)
      truncated_atom_only (atom kind.Sext v (part tree no_parts)) h =
          of_extended_only kind.Sext w tree (truncated parents w tree) h.0 h.1.0 (truncated_only tree h.1.0)
      truncated_atom_only (atom (kind.Rec loop) v parts) h =
          gives_next (AllHaveOnly K) (HasOnly K) (truncated_parts parents w parts) _ (truncated_parts_only parts h.1)
          (λ trees those. recurrence_of_only K w loop.0 trees h.0 those)
      truncated_atom_only (atom k v parts) h = whole_only k v parts h

      truncated_parts_only : (parts : Parts)
          → PartsHaveOnly K parts
          → Gives (AllHaveOnly K) (truncated_parts parents w parts)
      truncated_parts_only no_parts h = tt
      truncated_parts_only (part tree parts) h =
          gives_next (HasOnly K) (AllHaveOnly K) (truncated parents w tree) _ (truncated_only tree h.0)
          (λ first its. gives_next (AllHaveOnly K) (AllHaveOnly K) (truncated_parts parents w parts) _
          (truncated_parts_only parts h.1)
          (λ others those. (its, those)))

  -- ---- extensions

  extended_atom_only : (k : Kind) (w : ℕ) (tree : Tree) (o : Option Atom)
      → K k
      → HasOnly K tree
      → AloneHasOnly K o
      → Gives (HasOnly K) (extended_atom k w tree o)
  extended_atom_only kind.Zext w tree (Some (atom kind.Zext v parts)) is h hs =
      made_only K kind.Zext w (trees_of parts) hs.0 (trees_of_only K parts hs.1)
  extended_atom_only kind.Sext w tree (Some (atom kind.Sext v parts)) is h hs =
      made_only K kind.Sext w (trees_of parts) hs.0 (trees_of_only K parts hs.1)
  extended_atom_only kind.Sext w tree (Some (atom kind.Zext v parts)) is h hs =
      made_only K kind.Zext w (trees_of parts) hs.0 (trees_of_only K parts hs.1)
  extended_atom_only k w tree _ is h hs = made_only K k w (tree ∷ []) is (h, tt)

  extended_tree_only : (k : Kind) (w : ℕ) (tree : Tree) (o : Option ℕ)
      → K k
      → HasOnly K tree
      → Gives (HasOnly K) (extended_tree k w tree o)
  extended_tree_only k w tree (Some n) is h = constant_only K w (extended_number k (width_of tree) w n)
  extended_tree_only k w tree None is h = extended_atom_only k w tree (alone tree) is h (alone_only K tree h)

  pub extended_only : (k : Kind) (w : ℕ) (tree : Tree) → K k → HasOnly K tree → Gives (HasOnly K) (extended k w tree)
  unfolding extended
  extended_only k w tree is h =
      cond_both (width_of tree == w) (Done tree) (extended_tree k w tree (number_of tree)) (Gives (HasOnly K))
      (λ _. h)
      (λ _. extended_tree_only k w tree (number_of tree) is h)

  extended_rec_only : (k : Kind) (w : ℕ) (tree : Tree) (o : Option Atom)
      → K k
      → HasOnly K tree
      → AloneHasOnly K o
      → Gives (HasOnly K) (extended_rec k w tree o)
  extended_rec_only k w tree (Some (atom (kind.Rec loop) v (part first (part step no_parts)))) is h hs =
      gives_next (HasOnly K) (HasOnly K) (extended k w first) _ (extended_only k w first is hs.1.0)
      (λ start one. gives_next (HasOnly K) (HasOnly K) (extended k w step) _ (extended_only k w step is hs.1.1.0)
      (λ more two. recurrence_of_only K w loop.0 (start ∷ more ∷ []) hs.0 (one, (two, tt))))
  extended_rec_only k w tree _ is h hs = extended_only k w tree is h

  pub extended_when_only : (k : Kind) (w : ℕ) (no_wrap : Bool) (tree : Tree)
      → K k
      → HasOnly K tree
      → Gives (HasOnly K) (extended_when k w no_wrap tree)
  unfolding extended_when
  extended_when_only k w no_wrap tree is h =
      cond_both (width_of tree == w) (Done tree) _ (Gives (HasOnly K))
      (λ _. h)
      (λ _. cond_both no_wrap (extended_rec k w tree (alone tree)) (extended k w tree) (Gives (HasOnly K))
      (λ _. extended_rec_only k w tree (alone tree) is h (alone_only K tree h))
      (λ _. extended_only k w tree is h))
