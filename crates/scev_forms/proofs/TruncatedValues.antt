-- Truncations have the lowest bits of the value.
use Rattle.std.proofs.Common.{◌≡◌, ℕ, ◌+◌, ◌*◌, ◌%◌, ◌^◌, ◌<◌, ◌≤◌, ◌==◌, nat_lt, inl, inr}
use Rattle.std.proofs.Common.{List, [], ◌∷◌, map, Option, Some, None, refl, sym, ap, ◌∙◌, subst, arith}
use Rattle.std.specs.Option.{option_map}
use Rattle.std.proofs.lemmas.Bool.{eqb-true, eqb-false, ltb-true, ltb-false}
use Rattle.std.proofs.lemmas.Nat.{pow_pos}
use Rattle.std.proofs.Math.Nat.{mod-eq_of_lt}
use Rattle.scev_base.specs.Residue.{residue, reading}
use Rattle.scev_base.proofs.Congruence.{mod-mod_pow}
use Rattle.scev_tree.specs.declared.kind.Kind.{Kind}
use Rattle.scev_tree.specs.declared.kind.Kind.TheVariants as kind
use Rattle.scev_tree.specs.Tree.{Tree, Terms, Factors, Atom, Parts, polynomial, no_terms, term, no_factors, factor}
use Rattle.scev_tree.specs.Tree.{atom, no_parts, part, constant, of_atom, width_of}
use Rattle.scev_tree.specs.Canonical.{HaveWidth, HasParts, IsCanonical, AreCanonicalTerms, AreCanonicalFactors}
use Rattle.scev_tree.specs.Canonical.{IsCanonicalAtom, AreCanonicalParts}
use Rattle.scev_tree.specs.Value.{sum, product, values, tree_value, terms_value, factors_value, atom_value}
use Rattle.scev_tree.specs.Value.{parts_values}
use Rattle.scev_tree.proofs.AffineValue.{constant_value}
use Rattle.scev_forms.specs.Outcome.{Done}
use Rattle.scev_forms.specs.Trees.{IsTreeOf}
use Rattle.scev_forms.specs.Sums.{recurrence_of}
use Rattle.scev_forms.specs.Atoms.{made}
use Rattle.scev_forms.specs.Casts.{truncated, truncated_terms, truncated_factors, truncated_atom, truncated_parts}
use Rattle.scev_forms.proofs.Atoms.{number_fits, number_small, constant_is_tree, constant_same}
use Rattle.scev_forms.proofs.Atoms.{atom_is_tree, of_atom_value, made_value}
use Rattle.scev_forms.proofs.SumsFormed.{sum_canonical, product_canonical, sum_value, product_value, recurrence_value}
use Rattle.scev_forms.proofs.Readings.{pow_more, residue_reading}
use Rattle.scev_forms.proofs.CutNumbers.{both_numbers, term_cut, none_cut, factor_cut, residue_cut}
use Rattle.scev_forms.proofs.CutNumbers.{AreCut, iterated_cut}
use Rattle.scev_forms.proofs.Truncations.{next_done, either_way, parts_done, term_done, factor_done}
use Rattle.scev_forms.proofs.Truncations.{tree_cut, factors_cut, atom_cut, parts_cut}

-- where something is made of a number, there is the number
pub mapped_number : (f : ℕ → ℕ) (x : Option ℕ) (n : ℕ)
    → option_map f x ≡ Some n
    → (m : ℕ) × (x ≡ Some m) × (f m ≡ n)
mapped_number f None n h = absurd cc
mapped_number f (Some m) n h = (m, refl, cc)

module _ (held : ℕ → Option ℕ) (turns : ℕ → ℕ) (w : ℕ) (some : 0 < w) where
  -- a tree that comes out itself
  itself_keeps : (tree out : Tree) (n : ℕ)
      → IsTreeOf w tree
      → Done tree ≡ Done out
      → tree_value held turns tree ≡ Some n
      → tree_value held turns out ≡ Some (n % 2 ^ w)
  itself_keeps tree out n is h value =
      let e : out ≡ tree = cc in
      ap (tree_value held turns) e ∙ value ∙ ap Some (sym (mod-eq_of_lt (number_small held turns w tree n is value)))

  -- an atom that truncates a wider tree
  trunc_keeps : (tree out : Tree) (n : ℕ)
      → w < width_of tree
      → IsCanonical tree
      → made kind.Trunc w (tree ∷ []) ≡ Done out
      → tree_value held turns tree ≡ Some n
      → tree_value held turns out ≡ Some (n % 2 ^ w)
  trunc_keeps tree out n narrow canonical h value =
      made_value held turns kind.Trunc w (tree ∷ []) out tt narrow (canonical, tt) h
      ∙ ap (option_map (λ m. m % 2 ^ w)) value

  -- a truncation, truncated
  again_keeps : (u : ℕ) (tree out : Tree) (n : ℕ)
      → w < u
      → u < width_of tree
      → IsCanonical tree
      → made kind.Trunc w (tree ∷ []) ≡ Done out
      → atom_value held turns (atom kind.Trunc u (part tree no_parts)) ≡ Some n
      → tree_value held turns out ≡ Some (n % 2 ^ w)
  again_keeps u tree out n narrow wide canonical h value =
      let number = mapped_number (λ m. m % 2 ^ u) (tree_value held turns tree) n value in
      trunc_keeps tree out number.0 (omega arith) canonical h number.1
      ∙ ap Some (sym (mod-mod_pow number.0 w u (omega arith)) ∙ ap (λ m. m % 2 ^ w) number.2)

  -- any atom, truncated as a whole
  whole_keeps : (v : ℕ) (k : Kind) (u : ℕ) (parts : Parts) (out : Tree) (n : ℕ)
      → w < v
      → IsCanonicalAtom v (atom k u parts)
      → made kind.Trunc w (of_atom u (atom k u parts) ∷ []) ≡ Done out
      → atom_value held turns (atom k u parts) ≡ Some n
      → tree_value held turns out ≡ Some (n % 2 ^ w)
  whole_keeps v k u parts out n narrow canonical h value =
      let a = atom k u parts in
      let more : 0 < u = omega (arith, canonical.0) in
      let has = subst (λ x. HasParts k x parts) (sym canonical.0) canonical.1 in
      let is = atom_is_tree u a more (refl, has, canonical.2) in
      let number = of_atom_value held turns u a n value in
      trunc_keeps (of_atom u a) out (n % 2 ^ u) (omega (arith, canonical.0)) is.1 h number
      ∙ ap Some (mod-mod_pow n w u (omega (arith, canonical.0)))

  -- an extension without sign, of a narrower tree
  zext_keeps : (tree out : Tree) (n : ℕ)
      → width_of tree < w
      → IsCanonical tree
      → made kind.Zext w (tree ∷ []) ≡ Done out
      → tree_value held turns tree ≡ Some n
      → tree_value held turns out ≡ Some (n % 2 ^ w)
  zext_keeps tree out n less canonical h value =
      let fits = number_fits held turns tree n value in
      let small : n < 2 ^ w = omega (arith, fits, pow_more (width_of tree) w (omega arith)) in
      made_value held turns kind.Zext w (tree ∷ []) out tt less (canonical, tt) h ∙ value
      ∙ ap Some (sym (mod-eq_of_lt small))

  -- with sign
  sext_keeps : (u : ℕ) (tree out : Tree) (n m : ℕ)
      → w ≤ u
      → width_of tree < w
      → IsCanonical tree
      → made kind.Sext w (tree ∷ []) ≡ Done out
      → tree_value held turns tree ≡ Some m
      → residue u (reading (width_of tree) m) ≡ n
      → tree_value held turns out ≡ Some (n % 2 ^ w)
  sext_keeps u tree out n m most less canonical h value number =
      made_value held turns kind.Sext w (tree ∷ []) out tt less (canonical, tt) h
      ∙ ap (option_map (λ k. residue w (reading (width_of tree) k))) value
      ∙ ap Some (sym (residue_cut (reading (width_of tree) m) u w most) ∙ ap (λ k. k % 2 ^ w) number)

  -- the lowest bits of an extension are those of its part
  extension_cut : (u : ℕ) (tree : Tree) (n m : ℕ)
      → w ≤ u
      → w ≤ width_of tree
      → tree_value held turns tree ≡ Some m
      → residue u (reading (width_of tree) m) ≡ n
      → m % 2 ^ w ≡ n % 2 ^ w
  extension_cut u tree n m most wide value number =
      let v = width_of tree in
      sym (ap (λ k. k % 2 ^ w) (residue_reading v m (number_fits held turns tree m value)))
      ∙ residue_cut (reading v m) v w wide ∙ sym (residue_cut (reading v m) u w most)
      ∙ ap (λ k. k % 2 ^ w) number

  module _ (parents : List (Option ℕ)) where
    mutual
      unfolding truncated truncated_terms truncated_factors truncated_atom truncated_parts

      pub tree_keeps : (tree out : Tree) (n : ℕ)
          → w ≤ width_of tree
          → IsCanonical tree
          → truncated parents w tree ≡ Done out
          → tree_value held turns tree ≡ Some n
          → tree_value held turns out ≡ Some (n % 2 ^ w)
      tree_keeps (polynomial v ts) out n most canonical h value =
          either_way (v == w) (Done (polynomial v ts)) (truncated_terms parents w ts (constant w 0)) (Done out)
          (tree_value held turns out ≡ Some (n % 2 ^ w)) h
          (λ same all. itself_keeps (polynomial v ts) out n (eqb-true v w same, canonical) all value)
          (λ other all.
          let apart = eqb-false v w other in
          let none = constant_same held turns w 0 (pow_pos w) in
          let whole = terms_keep v ts (constant w 0) out 0 n (omega (arith, most, apart)) canonical
          (constant_is_tree w 0) all none value in
          let least : 0 + n ≡ n = omega arith in
          whole ∙ ap (λ k. Some (k % 2 ^ w)) least)

      terms_keep : (v : ℕ) (ts : Terms) (sum_so_far out : Tree) (s t : ℕ)
          → w < v
          → AreCanonicalTerms v ts
          → IsTreeOf w sum_so_far
          → truncated_terms parents w ts sum_so_far ≡ Done out
          → tree_value held turns sum_so_far ≡ Some s
          → terms_value held turns v ts ≡ Some t
          → tree_value held turns out ≡ Some ((s + t) % 2 ^ w)
      terms_keep v no_terms sum_so_far out s t narrow canonical is h before value =
          let none : s ≡ s + t = let gone : 0 ≡ t = cc in omega arith in
          itself_keeps sum_so_far out s is h before ∙ ap (λ k. Some (k % 2 ^ w)) none
      terms_keep v (term f n ts) sum_so_far out s t narrow canonical is h before value =
          let both = both_numbers (λ a b. (a + b) % 2 ^ v) (product v (factors_value held turns v f) (Some n))
          (terms_value held turns v ts) t value in
          let one = both_numbers (λ a b. a * b % 2 ^ v) (factors_value held turns v f) (Some n) both.0 both.2 in
          let p = one.0 in
          let r = both.1 in
          let number : one.1 ≡ n = cc (one.3) in
          let first : p * n % 2 ^ v ≡ both.0 = ap (λ k. p * k % 2 ^ v) (sym number) ∙ one.4 in
          let total : (p * n % 2 ^ v + r) % 2 ^ v ≡ t = ap (λ k. (k + r) % 2 ^ v) first ∙ both.4 in
          elim (term_done parents w f n ts sum_so_far out h) [
            | inl none ↦
                terms_keep v ts sum_so_far out s r narrow canonical.5 is none.1 before both.3
                ∙ ap Some (none_cut s n p r v w (omega arith) none.0 (number_small held turns w sum_so_far s is before)
                ∙ ap (λ k. (s + k) % 2 ^ w) total)
            | inr step ↦
                let its = step.0 in
                let at = constant_is_tree w n in
                let its_is = factors_cut parents w some v f (constant w n) its narrow canonical.1 at step.2 in
                let more_is = sum_canonical parents w sum_so_far its step.1 some is its_is step.3 in
                let its_value = factors_keep v f (constant w n) its (n % 2 ^ w) p narrow canonical.1 at step.2
                (constant_value held turns w n) one.2 in
                let so_far = ap (λ x. sum w x (tree_value held turns its)) before ∙ ap (sum w (Some s)) its_value in
                let k = (s + n % 2 ^ w * p % 2 ^ w) % 2 ^ w in
                let more_value = sum_value parents w sum_so_far its step.1 held turns k some is its_is step.3 so_far in
                terms_keep v ts step.1 out k r narrow canonical.5 more_is step.4 more_value both.3
                ∙ ap Some (term_cut s n p r v w (omega arith) ∙ ap (λ k. (s + k) % 2 ^ w) total)
          ]

      factors_keep : (v : ℕ) (f : Factors) (so_far out : Tree) (q p : ℕ)
          → w < v
          → AreCanonicalFactors v f
          → IsTreeOf w so_far
          → truncated_factors parents w f so_far ≡ Done out
          → tree_value held turns so_far ≡ Some q
          → factors_value held turns v f ≡ Some p
          → tree_value held turns out ≡ Some (q * p % 2 ^ w)
      factors_keep v no_factors so_far out q p narrow canonical is h before value =
          let same : q ≡ q * p = let one : 1 ≡ p = cc in omega (arith, ap (λ k. q * k) one) in
          itself_keeps so_far out q is h before ∙ ap (λ k. Some (k % 2 ^ w)) same
      factors_keep v (factor a f) so_far out q p narrow canonical is h before value =
          let both = both_numbers (λ x y. x * y % 2 ^ v) (atom_value held turns a) (factors_value held turns v f)
          p value in
          let x = both.0 in
          let y = both.1 in
          let step = factor_done parents w a f so_far out h in
          let its = step.0 in
          let its_is = atom_cut parents w some v a its narrow canonical.0 step.2 in
          let more_is = product_canonical parents w so_far its step.1 some is its_is step.3 in
          let its_value = atom_keeps v a its x narrow canonical.0 step.2 both.2 in
          let values_both = ap (λ z. product w z (tree_value held turns its)) before
          ∙ ap (product w (Some q)) its_value in
          let k = q * (x % 2 ^ w) % 2 ^ w in
          let more_value = product_value parents w so_far its step.1 held turns k some is its_is step.3 values_both in
          factors_keep v f step.1 out k y narrow canonical.1 more_is step.4 more_value both.3
          ∙ ap Some (factor_cut q x y v w (omega arith) ∙ ap (λ k. q * k % 2 ^ w) both.4)

      atom_keeps : (v : ℕ) (a : Atom) (out : Tree) (n : ℕ)
          → w < v
          → IsCanonicalAtom v a
          → truncated_atom parents w a ≡ Done out
          → atom_value held turns a ≡ Some n
          → tree_value held turns out ≡ Some (n % 2 ^ w)
      atom_keeps v (atom kind.Trunc u (part tree no_parts)) out n narrow canonical h value =
          let wide = canonical.1 in
          again_keeps u tree out n (omega (arith, canonical.0)) (omega (arith, canonical.0, wide)) canonical.2.0 h value
      atom_keeps v (atom kind.Trunc u _) out n narrow canonical h value = absurd canonical.1
      atom_keeps v (atom kind.Zext u (part tree no_parts)) out n narrow canonical h value =
          either_way (nat_lt (width_of tree) w) (made kind.Zext w (tree ∷ [])) (truncated parents w tree) (Done out)
          (tree_value held turns out ≡ Some (n % 2 ^ w)) h
          (λ less same. zext_keeps tree out n (ltb-true (width_of tree) w less) canonical.2.0 same value)
          (λ most same. tree_keeps tree out n (ltb-false (width_of tree) w most) canonical.2.0 same value)
      atom_keeps v (atom kind.Sext u (part tree no_parts)) out n narrow canonical h value =
          let number = mapped_number (λ m. residue u (reading (width_of tree) m)) (tree_value held turns tree)
          n value in
          let few : w ≤ u = omega (arith, canonical.0) in
          either_way (nat_lt (width_of tree) w) (made kind.Sext w (tree ∷ [])) (truncated parents w tree) (Done out)
          (tree_value held turns out ≡ Some (n % 2 ^ w)) h
          (λ less same.
          sext_keeps u tree out n number.0 few (ltb-true (width_of tree) w less) canonical.2.0 same number.1 number.2)
          (λ most same.
          let wide = ltb-false (width_of tree) w most in
          tree_keeps tree out number.0 wide canonical.2.0 same number.1
          ∙ ap Some (extension_cut u tree n number.0 few wide number.1 number.2))
      atom_keeps v (atom (kind.Rec loop) u no_parts) out n narrow canonical h value =
          absurd (let two = canonical.1.0 in omega arith)
      atom_keeps v (atom (kind.Rec loop) u (part tree parts)) out n narrow canonical h value =
          let trees = next_done (truncated_parts parents w (part tree parts)) (recurrence_of w loop.0) out h in
          let each = parts_done parents w tree parts trees.0 trees.1 in
          let width = canonical.1.1 in
          let few : w ≤ width_of tree = omega (arith, width.0) in
          let first = tree_cut parents w some tree each.0 few canonical.2.0 each.2 in
          let others = parts_cut parents w some v parts each.1 (omega arith) width.1 canonical.2.1 each.3 in
          let cut = iterated_cut u w (turns loop.0) (tree_value held turns tree) (tree_value held turns each.0)
          (values (parts_values held turns parts)) (map (tree_value held turns) each.1) (omega (arith, canonical.0))
          (λ m. tree_keeps tree each.0 m few canonical.2.0 each.2)
          (parts_keep v parts each.1 (omega arith) width.1 canonical.2.1 each.3) in
          recurrence_value w loop.0 each.0 out each.1 held turns (n % 2 ^ w) some first others
          (subst (λ l. recurrence_of w loop.0 l ≡ Done out) each.4 trees.2) (cut n value)
      atom_keeps v (atom k u parts) out n narrow canonical h value =
          whole_keeps v k u parts out n narrow canonical h value

      parts_keep : (v : ℕ) (parts : Parts) (trees : List Tree)
          → w ≤ v
          → HaveWidth v parts
          → AreCanonicalParts parts
          → truncated_parts parents w parts ≡ Done trees
          → AreCut w (values (parts_values held turns parts)) (map (tree_value held turns) trees)
      parts_keep v no_parts trees most width canonical h =
          let none : [] ≡ trees = cc in
          subst (λ l. AreCut w [] (map (tree_value held turns) l)) none tt
      parts_keep v (part tree parts) trees most width canonical h =
          let each = parts_done parents w tree parts trees h in
          let few : w ≤ width_of tree = omega (arith, width.0) in
          let first = λ (m : ℕ). tree_keeps tree each.0 m few canonical.0 each.2 in
          let others = parts_keep v parts each.1 most width.1 canonical.1 each.3 in
          subst (λ l. AreCut w (values (parts_values held turns (part tree parts))) (map (tree_value held turns) l))
          (sym each.4) (first, others)

-- a truncation has the lowest bits of the value
pub truncation_value : (parents : List (Option ℕ)) (w : ℕ) (tree out : Tree)
    (held : ℕ → Option ℕ) (turns : ℕ → ℕ) (n : ℕ)
    → 0 < w
    → w ≤ width_of tree
    → IsCanonical tree
    → truncated parents w tree ≡ Done out
    → tree_value held turns tree ≡ Some n
    → tree_value held turns out ≡ Some (n % 2 ^ w)
truncation_value parents w tree out held turns n some most canonical h value =
    tree_keeps held turns w some parents tree out n most canonical h value
