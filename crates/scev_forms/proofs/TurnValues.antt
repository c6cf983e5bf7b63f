-- The value of a tree at a turn of a loop, as a tree: it has the value of the tree when the loop is at that turn.
use Rattle.std.proofs.Common.{◌≡◌, ℕ, zero, suc, ◌%◌, ◌^◌, ◌<◌, ◌==◌, Bool, true, false, ◌&&◌, not}
use Rattle.std.proofs.Common.{List, map, Option, Some, refl, sym, ap, ◌∙◌, subst, arith}
use Rattle.std.proofs.lemmas.Bool.{cond_both, or_parts, eqb-true}
use Rattle.std.proofs.lemmas.Nat.{pow_pos}
use Rattle.std.proofs.Math.Nat.{mod-eq_of_lt}
use Rattle.scev_base.specs.declared.ids.LoopId.{LoopId}
use Rattle.scev_base.specs.Iterated.{iterated}
use Rattle.scev_tree.specs.declared.kind.Kind.{Kind}
use Rattle.scev_tree.specs.declared.kind.Kind.TheVariants as kind
use Rattle.scev_tree.specs.Tree.{Tree, Terms, Factors, Atom, Parts, polynomial, no_terms, term, no_factors, factor}
use Rattle.scev_tree.specs.Tree.{atom, no_parts, part, constant, width_of, trees_of}
use Rattle.scev_tree.specs.Canonical.{HaveWidth, HasParts, IsCanonical, AreCanonicalTerms, AreCanonicalFactors}
use Rattle.scev_tree.specs.Canonical.{IsCanonicalAtom, AreCanonicalParts}
use Rattle.scev_tree.specs.Value.{sum, product, tree_value, terms_value, factors_value, atom_value}
use Rattle.scev_tree.proofs.Arithmetic.{IsBelow, sum_assoc, product_assoc, product_comm, factor_mod, one_times}
use Rattle.scev_tree.proofs.Values.{factors_below, terms_below}
use Rattle.scev_arena.specs.Limits.{is_in_terms, is_in_factors, is_in_atom, is_in_parts}
use Rattle.scev_forms.specs.Outcome.{Outcome, Done, next}
use Rattle.scev_forms.specs.Sums.{tree_sum, tree_product}
use Rattle.scev_forms.specs.Atoms.{number_of}
use Rattle.scev_forms.specs.Turns.{is_countable, hinders, is_hindered, counted, reformed, tree_at_turn}
use Rattle.scev_forms.specs.Turns.{terms_at_turn, factors_at_turn, atom_at_turn, parts_at_turn}
use Rattle.scev_forms.proofs.Outcomes.{Gives, gives_next, gives_more, given}
use Rattle.scev_forms.proofs.Kept.{keeps_same, zero_plus}
use Rattle.scev_forms.proofs.Flat.{parts_are_trees, values_of_parts}
use Rattle.scev_forms.proofs.Standing.{value_at}
use Rattle.scev_forms.proofs.Supposed.{StandsIf, formed_kept_if, once_if, with_zero_if, constant_if, sum_if}
use Rattle.scev_forms.proofs.Supposed.{product_if}
use Rattle.scev_forms.proofs.CountedValues.{counted_if}
use Rattle.scev_forms.proofs.Reformed.{StandForParts, reforms}

-- where a number from 1 is below 2^w, w isn't 0
some_bits : (w n : ℕ) → 0 < n → n < 2 ^ w → 0 < w
some_bits zero n more less = absurd (let one : 2 ^ 0 ≡ 1 = refl in omega arith)
some_bits (suc w) n more less = omega arith

-- of two that don't hold at once, where the first holds
other_holds : (b c : Bool) → (b && not c) ≡ false → b ≡ true → c ≡ true
other_holds true true h same = refl
other_holds true false h same = absurd cc
other_holds false c h same = absurd cc

-- a term more, of a coefficient and a product
term_more : (w n : ℕ) (x f rest : Option ℕ)
    → sum w x (sum w (product w f (Some n)) rest) ≡ sum w (sum w x (product w (Some (n % 2 ^ w)) f)) rest
term_more w n x f rest =
    let same : product w f (Some n) ≡ product w (Some (n % 2 ^ w)) f =
    sym (factor_mod w f n) ∙ product_comm w f (Some (n % 2 ^ w)) in
    ap (λ y. sum w x (sum w y rest)) same ∙ sym (sum_assoc w x (product w (Some (n % 2 ^ w)) f) rest)

-- a factor more, that was multiplied by 1
factor_more : (w : ℕ) (x y z : Option ℕ)
    → IsBelow w z
    → product w x (product w y z) ≡ product w (product w x (product w y (Some 1))) z
factor_more w x y z below =
    sym (product_assoc w x (product w y (Some 1)) z
    ∙ ap (product w x) (product_assoc w y (Some 1) z ∙ ap (product w y) (one_times w z below)))

module _ (held : ℕ → Option ℕ) (turns : ℕ → ℕ) (parents : List (Option ℕ)) (l : ℕ) (count : Tree)
    (count_is : IsCanonical count) where
  -- the loop is at the turn that the count is
  abbrev IsTime : Type 0
  IsTime = tree_value held turns count ≡ Some (turns l)

  -- what keeps an atom from having a value at the count
  abbrev hinder : Kind → Parts → Bool
  hinder = hinders parents l count

  -- a tree that is formed stands for a value when it is time
  abbrev Turned : ℕ → Option ℕ → Outcome Tree → Type 0
  Turned w x o = Gives (StandsIf held turns IsTime w x) o

  -- the value of an atom of w bits, once
  abbrev once : ℕ → Atom → Option ℕ
  once w a = product w (atom_value held turns a) (Some 1)

  -- ---- atoms

  -- an atom that is formed anew
  reformed_turned : (w : ℕ) (k : Kind) (u : ℕ) (parts : Parts) (o : Outcome (List Tree))
      → 0 < w
      → IsCanonicalAtom w (atom k u parts)
      → Gives (StandForParts held turns IsTime parts) o
      → Turned w (once w (atom k u parts)) (next o (reformed parents u k))
  reformed_turned w k u parts o some canonical h =
      let a = atom k u parts in
      let has = subst (λ v. HasParts k v parts) (sym canonical.0) canonical.1 in
      subst (λ v. Turned v (once v a) (next o (reformed parents u k))) canonical.0
      (gives_next (StandForParts held turns IsTime parts) (StandsIf held turns IsTime u (once u a)) o
      (reformed parents u k) h
      (λ trees. reforms held turns IsTime parents u (omega (arith, some, canonical.0)) k parts trees has))

  -- the value of a recurrence of the loop
  loop_value : (loop : LoopId) (u : ℕ) (parts : Parts)
      → loop.0 ≡ l
      → value_at u (turns l) (map (tree_value held turns) (trees_of parts))
      ≡ atom_value held turns (atom (kind.Rec loop) u parts)
  loop_value loop u no_parts same = refl
  loop_value loop u (part first others) same =
      let x = tree_value held turns first in
      ap (λ i. iterated (sum u) (turns i) x (map (tree_value held turns) (trees_of others))) (sym same)
      ∙ ap (iterated (sum u) (turns loop.0) x) (sym (values_of_parts held turns others))

  -- a recurrence of the loop
  loop_turned : (w : ℕ) (loop : LoopId) (u : ℕ) (parts : Parts)
      → 0 < w
      → IsCanonicalAtom w (atom (kind.Rec loop) u parts)
      → loop.0 ≡ l
      → is_countable (number_of count) parts ≡ true
      → Turned w (once w (atom (kind.Rec loop) u parts)) (counted parents u count (trees_of parts))
  loop_turned w loop u parts some canonical same told =
      let a = atom (kind.Rec loop) u parts in
      let width = subst (λ v. HaveWidth v parts) (sym canonical.0) canonical.1.1 in
      let o = counted parents u count (trees_of parts) in
      let stands = counted_if held turns u (omega (arith, some, canonical.0)) IsTime parents count (turns l) parts
      count_is (λ p. p) (parts_are_trees u parts width canonical.2) told in
      subst (λ v. Turned v (once v a) o) canonical.0
      (gives_more (StandsIf held turns IsTime u (atom_value held turns a)) (StandsIf held turns IsTime u (once u a)) o
      (subst (λ x. Turned u x o) (loop_value loop u parts same) stands)
      (once_if held turns IsTime u (atom_value held turns a)))

  -- ---- trees

  mutual
    unfolding tree_at_turn terms_at_turn factors_at_turn atom_at_turn parts_at_turn

    tree_turned : (tree : Tree)
        → IsCanonical tree
        → is_hindered parents l count tree ≡ false
        → Gives (StandsIf held turns IsTime (width_of tree) (tree_value held turns tree))
        (tree_at_turn parents l count tree)
    tree_turned (polynomial w ts) canonical clear =
        let value = terms_value held turns w ts in
        let none : 0 % 2 ^ w ≡ 0 = mod-eq_of_lt (pow_pos w) in
        formed_kept_if held turns IsTime w value (sum w (Some 0) value) (terms_at_turn parents l count w ts (constant w 0))
        (λ _. keeps_same value (sum w (Some 0) value) (sym (zero_plus w value (terms_below held turns w ts))))
        (terms_turned w ts (Some 0) (constant w 0) canonical (or_parts false (is_in_terms (λ terms. false) hinder ts) clear).1
        (subst (λ n. StandsIf held turns IsTime w (Some n) (constant w 0)) none (constant_if held turns IsTime w 0)))

    terms_turned : (w : ℕ) (ts : Terms) (x : Option ℕ) (so_far : Tree)
        → AreCanonicalTerms w ts
        → is_in_terms (λ terms. false) hinder ts ≡ false
        → StandsIf held turns IsTime w x so_far
        → Gives (StandsIf held turns IsTime w (sum w x (terms_value held turns w ts)))
        (terms_at_turn parents l count w ts so_far)
    terms_turned w no_terms x so_far canonical clear h = with_zero_if held turns IsTime w x so_far h
    terms_turned w (term f n ts) x so_far canonical clear h =
        let some = some_bits w n canonical.2 canonical.3 in
        let both = or_parts (is_in_factors (λ terms. false) hinder f) (is_in_terms (λ terms. false) hinder ts) clear in
        let fs = factors_value held turns w f in
        let rest = terms_value held turns w ts in
        let made = product w (Some (n % 2 ^ w)) fs in
        let whole = sum w x (sum w (product w fs (Some n)) rest) in
        let its = StandsIf held turns IsTime w in
        gives_next (its made) (its whole) (factors_at_turn parents l count w f (constant w n)) _
        (factors_turned w f (Some (n % 2 ^ w)) (constant w n) some canonical.1 both.0 (constant_if held turns IsTime w n))
        (λ product_there one. gives_next (its (sum w x made)) (its whole) (tree_sum parents w so_far product_there) _
        (sum_if held turns IsTime w some parents x made so_far product_there h one)
        (λ more two. formed_kept_if held turns IsTime w whole (sum w (sum w x made) rest)
        (terms_at_turn parents l count w ts more)
        (λ _. keeps_same whole (sum w (sum w x made) rest) (term_more w n x fs rest))
        (terms_turned w ts (sum w x made) more canonical.5 both.1 two)))

    factors_turned : (w : ℕ) (f : Factors) (x : Option ℕ) (so_far : Tree)
        → 0 < w
        → AreCanonicalFactors w f
        → is_in_factors (λ terms. false) hinder f ≡ false
        → StandsIf held turns IsTime w x so_far
        → Gives (StandsIf held turns IsTime w (product w x (factors_value held turns w f)))
        (factors_at_turn parents l count w f so_far)
    factors_turned w no_factors x so_far some canonical clear h = once_if held turns IsTime w x so_far h
    factors_turned w (factor a f) x so_far some canonical clear h =
        let both = or_parts (is_in_atom (λ terms. false) hinder a) (is_in_factors (λ terms. false) hinder f) clear in
        let fs = factors_value held turns w f in
        let made = product w x (once w a) in
        let whole = product w x (product w (atom_value held turns a) fs) in
        let its = StandsIf held turns IsTime w in
        gives_next (its (once w a)) (its whole) (atom_at_turn parents l count a) _
        (atom_turned w a some canonical.0 both.0)
        (λ tree one. gives_next (its made) (its whole) (tree_product parents w so_far tree) _
        (product_if held turns IsTime w some parents x (once w a) so_far tree h one)
        (λ more two. formed_kept_if held turns IsTime w whole (product w made fs)
        (factors_at_turn parents l count w f more)
        (λ _. keeps_same whole (product w made fs)
        (factor_more w x (atom_value held turns a) fs (factors_below held turns w f some)))
        (factors_turned w f made more some canonical.1 both.1 two)))

    atom_turned : (w : ℕ) (a : Atom)
        → 0 < w
        → IsCanonicalAtom w a
        → is_in_atom (λ terms. false) hinder a ≡ false
        → Gives (StandsIf held turns IsTime w (product w (atom_value held turns a) (Some 1)))
        (atom_at_turn parents l count a)
    atom_turned w (atom (kind.Rec loop) u parts) some canonical clear =
        let a = atom (kind.Rec loop) u parts in
        let both = or_parts (hinder (kind.Rec loop) parts) (is_in_parts (λ terms. false) hinder parts) clear in
        let trees = parts_at_turn parents l count parts in
        cond_both (loop.0 == l) (counted parents u count (trees_of parts)) (next trees (reformed parents u (kind.Rec loop)))
        (Turned w (once w a))
        (λ same. loop_turned w loop u parts some canonical (eqb-true loop.0 l same)
        (other_holds (loop.0 == l) (is_countable (number_of count) parts) both.0 same))
        (λ _. reformed_turned w (kind.Rec loop) u parts trees some canonical (parts_turned parts canonical.2 both.1))
    atom_turned w (atom k u parts) some canonical clear =
        reformed_turned w k u parts (parts_at_turn parents l count parts) some canonical
        (parts_turned parts canonical.2
        (or_parts (hinder k parts) (is_in_parts (λ terms. false) hinder parts) clear).1)

    parts_turned : (parts : Parts)
        → AreCanonicalParts parts
        → is_in_parts (λ terms. false) hinder parts ≡ false
        → Gives (StandForParts held turns IsTime parts) (parts_at_turn parents l count parts)
    parts_turned no_parts canonical clear = tt
    parts_turned (part tree parts) canonical clear =
        let both = or_parts (is_hindered parents l count tree) (is_in_parts (λ terms. false) hinder parts) clear in
        let first = StandsIf held turns IsTime (width_of tree) (tree_value held turns tree) in
        let others = StandForParts held turns IsTime parts in
        let all = StandForParts held turns IsTime (part tree parts) in
        gives_next first all (tree_at_turn parents l count tree) _ (tree_turned tree canonical.0 both.0)
        (λ its one. gives_next others all (parts_at_turn parents l count parts) _
        (parts_turned parts canonical.1 both.1) (λ trees more. (one, more)))

-- the value of a canonical tree at a turn stands for its value when the loop is at the turn that the count is
pub turn_stands : (held : ℕ → Option ℕ) (turns : ℕ → ℕ) (parents : List (Option ℕ)) (l : ℕ) (count tree out : Tree)
    → IsCanonical tree
    → IsCanonical count
    → is_hindered parents l count tree ≡ false
    → tree_at_turn parents l count tree ≡ Done out
    → StandsIf held turns (tree_value held turns count ≡ Some (turns l)) (width_of tree) (tree_value held turns tree) out
turn_stands held turns parents l count tree out canonical count_is clear h =
    given (StandsIf held turns (tree_value held turns count ≡ Some (turns l)) (width_of tree)
    (tree_value held turns tree)) (tree_at_turn parents l count tree) out
    (tree_turned held turns parents l count count_is tree canonical clear) h
