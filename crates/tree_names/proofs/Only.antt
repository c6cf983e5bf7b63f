-- What is made of trees has no other kinds of atoms than these have, but ones that name nothing.
use Rattle.std.proofs.Common.{ℕ, zero, suc, ◌+◌, ◌*◌, ◌%◌, ◌^◌, ◌==◌, Bool, IsTrue, List, [], ◌∷◌, ◌++◌, map}
use Rattle.std.proofs.Common.{All, Option, Some, None, nat_lt, if◌then◌else◌}
use Rattle.std.proofs.lemmas.Bool.{cond_both}
use Rattle.std.proofs.lemmas.List.Elements.{All-head, All-tail}
use Rattle.scev_tree.specs.declared.kind.Kind.{Kind}
use Rattle.scev_tree.specs.declared.kind.Kind.TheVariants as kind
use Rattle.scev_tree.specs.Tree.{Tree, Terms, Factors, Atom, Parts, polynomial, no_terms, term, no_factors, factor}
use Rattle.scev_tree.specs.Tree.{atom, no_parts, part, constant, of_atom, trees_of, parts_of}
use Rattle.scev_tree.specs.Order.{lower, atom_code, monomial_code, same_monomial}
use Rattle.scev_tree.specs.Canonical.{with_factor, joined_factors, before_terms, with_term}
use Rattle.scev_forms.specs.Polynomials.{terms_of, terms_sum, terms_multiple, terms_product}
use Rattle.scev_forms.specs.Gather.{is_rec_of, joins, joining, staying, recs_of, rest_of, is_zero, before_others}
use Rattle.scev_forms.specs.Gather.{without_zeros, trimmed, loops_of_factors, loops_of_terms, deeper, deeper_of}
use Rattle.scev_forms.specs.Gather.{deepest, depth_of}
use Rattle.scev_forms.specs.Sums.{at_place, recurrence, recurrence_of}
use Rattle.scev_forms.specs.Atoms.{alone, made}
use Rattle.scev_forms.proofs.Outcomes.{Gives, gives_tested}
use Rattle.tree_names.specs.Names.{HasOnly, TermsHaveOnly, FactorsHaveOnly, AtomHasOnly, PartsHaveOnly, PassesNameless}

-- the kind is a register or a recurrence, or K holds of it
abbrev pub HoldsNameless : (Kind → Type 0) → Kind → Type 0
HoldsNameless K (kind.Rec loop) = Unit {0}
HoldsNameless K (kind.Leaf register home) = Unit {0}
HoldsNameless K k = K k

-- a test that passes what names nothing
pub nameless_passes : (test : Kind → Bool) (k : Kind)
    → PassesNameless test k
    → HoldsNameless (λ k. IsTrue (test k)) k
nameless_passes test (kind.Rec loop) h = tt
nameless_passes test (kind.Leaf register home) h = tt
nameless_passes test _ h = h

module _ (K : Kind → Type 0) where
  -- each of the trees has K only
  abbrev pub AllHaveOnly : List Tree → Type 0
  AllHaveOnly [] = Unit {0}
  AllHaveOnly (tree ∷ trees) = HasOnly K tree × AllHaveOnly trees

  -- and each of several lists of trees
  abbrev pub EachHaveOnly : List (List Tree) → Type 0
  EachHaveOnly [] = Unit {0}
  EachHaveOnly (trees ∷ lists) = AllHaveOnly trees × EachHaveOnly lists

  -- what holds of each element
  pub all_from_elements : (trees : List Tree) → All (HasOnly K) trees → AllHaveOnly trees
  all_from_elements [] h = tt
  all_from_elements (tree ∷ trees) h =
      (All-head (HasOnly K) tree trees h, all_from_elements trees (All-tail (HasOnly K) tree trees h))

  pub both_have_only : (xs ys : List Tree) → AllHaveOnly xs → AllHaveOnly ys → AllHaveOnly (xs ++ ys)
  both_have_only [] ys h h' = h'
  both_have_only (x ∷ xs) ys h h' = (h.0, both_have_only xs ys h.1 h')

  -- ---- constants, atoms and parts: a constant names nothing, and an atom what its kind and its parts do

  pub constant_only : (w n : ℕ) → HasOnly K (constant w n)
  constant_only w n =
      cond_both (n % 2 ^ w == 0) (polynomial w no_terms) (polynomial w (term no_factors (n % 2 ^ w) no_terms))
      (HasOnly K) (λ _. tt) (λ _. (tt, tt))

  pub of_atom_only : (w : ℕ) (a : Atom) → AtomHasOnly K a → HasOnly K (of_atom w a)
  of_atom_only w a h = ((h, tt), tt)

  pub parts_of_only : (trees : List Tree) → AllHaveOnly trees → PartsHaveOnly K (parts_of trees)
  parts_of_only [] h = tt
  parts_of_only (tree ∷ trees) h = (h.0, parts_of_only trees h.1)

  pub trees_of_only : (parts : Parts) → PartsHaveOnly K parts → AllHaveOnly (trees_of parts)
  trees_of_only no_parts h = tt
  trees_of_only (part tree parts) h = (h.0, trees_of_only parts h.1)

  pub made_only : (k : Kind) (w : ℕ) (trees : List Tree)
      → K k
      → AllHaveOnly trees
      → Gives (HasOnly K) (made k w trees)
  made_only k w trees is h =
      gives_tested (HasOnly K) (of_atom w (atom k w (parts_of trees)))
      (of_atom_only w (atom k w (parts_of trees)) (is, parts_of_only trees h))

  -- the atom that a tree is alone
  abbrev pub AloneHasOnly : Option Atom → Type 0
  AloneHasOnly None = Unit {0}
  AloneHasOnly (Some a) = AtomHasOnly K a

  pub alone_only : (tree : Tree) → HasOnly K tree → AloneHasOnly (alone tree)
  alone_only (polynomial w (term (factor a no_factors) n no_terms)) h =
      cond_both (n == 1) (Some a) None AloneHasOnly (λ _. h.0.0) (λ _. tt)
  alone_only (polynomial w _) h = tt

  -- ---- factors and terms: what is put among others brings its own kinds alone

  with_factor_only : (a : Atom) (f : Factors)
      → AtomHasOnly K a
      → FactorsHaveOnly K f
      → FactorsHaveOnly K (with_factor a f)
  with_factor_only a no_factors h hs = (h, tt)
  with_factor_only a (factor b f) h hs =
      cond_both (lower (atom_code b) (atom_code a)) (factor b (with_factor a f)) (factor a (factor b f))
      (FactorsHaveOnly K)
      (λ _. (hs.0, with_factor_only a f h hs.1))
      (λ _. (h, hs))

  joined_factors_only : (f g : Factors)
      → FactorsHaveOnly K f
      → FactorsHaveOnly K g
      → FactorsHaveOnly K (joined_factors f g)
  joined_factors_only no_factors g h h' = h'
  joined_factors_only (factor a f) g h h' =
      with_factor_only a (joined_factors f g) h.0 (joined_factors_only f g h.1 h')

  before_terms_only : (w : ℕ) (f : Factors) (n : ℕ) (ts : Terms)
      → FactorsHaveOnly K f
      → TermsHaveOnly K ts
      → TermsHaveOnly K (before_terms w f n ts)
  before_terms_only w f n ts h hs =
      cond_both (n % 2 ^ w == 0) ts (term f (n % 2 ^ w) ts) (TermsHaveOnly K) (λ _. hs) (λ _. (h, hs))

  pub with_term_only : (w : ℕ) (f : Factors) (n : ℕ) (ts : Terms)
      → FactorsHaveOnly K f
      → TermsHaveOnly K ts
      → TermsHaveOnly K (with_term w f n ts)
  with_term_only w f n no_terms h hs = before_terms_only w f n no_terms h hs
  with_term_only w f n (term g m ts) h hs =
      cond_both (same_monomial f g) (before_terms w f (n + m) ts) _ (TermsHaveOnly K)
      (λ _. before_terms_only w f (n + m) ts h hs.1)
      (λ _. cond_both (lower (monomial_code g) (monomial_code f)) (term g m (with_term w f n ts))
      (before_terms w f n (term g m ts)) (TermsHaveOnly K)
      (λ _. (hs.0, with_term_only w f n ts h hs.1))
      (λ _. before_terms_only w f n (term g m ts) h hs))

  pub terms_of_only : (tree : Tree) → HasOnly K tree → TermsHaveOnly K (terms_of tree)
  terms_of_only (polynomial w ts) h = h

  pub terms_sum_only : (w : ℕ) (ts others : Terms)
      → TermsHaveOnly K ts
      → TermsHaveOnly K others
      → TermsHaveOnly K (terms_sum w ts others)
  unfolding terms_sum
  terms_sum_only w no_terms others h hs = hs
  terms_sum_only w (term f n ts) others h hs =
      with_term_only w f n (terms_sum w ts others) h.0 (terms_sum_only w ts others h.1 hs)

  terms_multiple_only : (w : ℕ) (f : Factors) (n : ℕ) (ts : Terms)
      → FactorsHaveOnly K f
      → TermsHaveOnly K ts
      → TermsHaveOnly K (terms_multiple w f n ts)
  unfolding terms_multiple
  terms_multiple_only w f n no_terms h hs = tt
  terms_multiple_only w f n (term g m ts) h hs =
      with_term_only w (joined_factors f g) (n * m) (terms_multiple w f n ts) (joined_factors_only f g h hs.0)
      (terms_multiple_only w f n ts h hs.1)

  pub terms_product_only : (w : ℕ) (ts others : Terms)
      → TermsHaveOnly K ts
      → TermsHaveOnly K others
      → TermsHaveOnly K (terms_product w ts others)
  unfolding terms_product
  terms_product_only w no_terms others h hs = tt
  terms_product_only w (term f n ts) others h hs =
      terms_sum_only w (terms_multiple w f n others) (terms_product w ts others)
      (terms_multiple_only w f n others h.0 hs) (terms_product_only w ts others h.1 hs)

  -- ---- what joins, and what stays

  pub rest_only : (l : ℕ) (f : Factors) → FactorsHaveOnly K f → FactorsHaveOnly K (rest_of l f)
  rest_only l no_factors h = tt
  rest_only l (factor a f) h =
      cond_both (is_rec_of l a) (rest_of l f) (factor a (rest_of l f)) (FactorsHaveOnly K)
      (λ _. rest_only l f h.1)
      (λ _. (h.0, rest_only l f h.1))

  pub recs_only : (l : ℕ) (f : Factors) → FactorsHaveOnly K f → EachHaveOnly (recs_of l f)
  recs_only l no_factors h = tt
  recs_only l (factor (atom k v parts) f) h =
      cond_both (is_rec_of l (atom k v parts)) (trees_of parts ∷ recs_of l f) (recs_of l f) EachHaveOnly
      (λ _. (trees_of_only parts h.0.1, recs_only l f h.1))
      (λ _. recs_only l f h.1)

  pub joining_only : (parents : List (Option ℕ)) (l : ℕ) (ts : Terms)
      → TermsHaveOnly K ts
      → TermsHaveOnly K (joining parents l ts)
  joining_only parents l no_terms h = tt
  joining_only parents l (term f n ts) h =
      cond_both (joins parents l f) (term f n (joining parents l ts)) (joining parents l ts) (TermsHaveOnly K)
      (λ _. (h.0, joining_only parents l ts h.1))
      (λ _. joining_only parents l ts h.1)

  pub staying_only : (parents : List (Option ℕ)) (l : ℕ) (ts : Terms)
      → TermsHaveOnly K ts
      → TermsHaveOnly K (staying parents l ts)
  staying_only parents l no_terms h = tt
  staying_only parents l (term f n ts) h =
      cond_both (joins parents l f) (staying parents l ts) (term f n (staying parents l ts)) (TermsHaveOnly K)
      (λ _. staying_only parents l ts h.1)
      (λ _. (h.0, staying_only parents l ts h.1))

  -- ---- parts of recurrences

  before_others_only : (tree : Tree) (others : List Tree)
      → AllHaveOnly (tree ∷ others)
      → AllHaveOnly (before_others tree others)
  before_others_only tree [] h = cond_both (is_zero tree) [] (tree ∷ []) AllHaveOnly (λ _. tt) (λ _. h)
  before_others_only tree (other ∷ others) h = h

  without_zeros_only : (trees : List Tree) → AllHaveOnly trees → AllHaveOnly (without_zeros trees)
  without_zeros_only [] h = tt
  without_zeros_only (tree ∷ trees) h =
      before_others_only tree (without_zeros trees) (h.0, without_zeros_only trees h.1)

  pub trimmed_only : (trees : List Tree) → AllHaveOnly trees → AllHaveOnly (trimmed trees)
  trimmed_only [] h = tt
  trimmed_only (first ∷ trees) h = (h.0, without_zeros_only trees h.1)

  pub recurrence_only : (w l : ℕ) (trees : List Tree)
      → K (kind.Rec (record { 0 = l }))
      → AllHaveOnly trees
      → HasOnly K (recurrence w l trees)
  recurrence_only w l [] is h = constant_only w 0
  recurrence_only w l (first ∷ []) is h = h.0
  recurrence_only w l (first ∷ second ∷ trees) is h =
      let parts = parts_of (first ∷ second ∷ trees) in
      of_atom_only w (atom (kind.Rec (record { 0 = l })) w parts) (is, parts_of_only (first ∷ second ∷ trees) h)

  -- a recurrence of parts that have K only, whose loop has it too
  pub recurrence_of_only : (w l : ℕ) (trees : List Tree)
      → K (kind.Rec (record { 0 = l }))
      → AllHaveOnly trees
      → Gives (HasOnly K) (recurrence_of w l trees)
  recurrence_of_only w l trees is h =
      gives_tested (HasOnly K) (recurrence w l (trimmed trees))
      (recurrence_only w l (trimmed trees) is (trimmed_only trees h))

  -- ---- the deepest loop of a recurrence among the factors is the loop of one of them

  -- of the recurrences of these loops, K holds
  abbrev LoopsHave : List ℕ → Type 0
  LoopsHave [] = Unit {0}
  LoopsHave (l ∷ loops) = K (kind.Rec (record { 0 = l })) × LoopsHave loops

  -- and of those of a loop, if there is one
  abbrev pub LoopHas : Option ℕ → Type 0
  LoopHas None = Unit {0}
  LoopHas (Some l) = K (kind.Rec (record { 0 = l }))

  both_loops_have : (xs ys : List ℕ) → LoopsHave xs → LoopsHave ys → LoopsHave (xs ++ ys)
  both_loops_have [] ys h h' = h'
  both_loops_have (x ∷ xs) ys h h' = (h.0, both_loops_have xs ys h.1 h')

  loops_of_factors_have : (f : Factors) → FactorsHaveOnly K f → LoopsHave (loops_of_factors f)
  loops_of_factors_have no_factors h = tt
  loops_of_factors_have (factor (atom (kind.Rec loop) v parts) f) h = (h.0.0, loops_of_factors_have f h.1)
  loops_of_factors_have (factor (atom _ v parts) f) h = loops_of_factors_have f h.1

  pub loops_of_terms_have : (ts : Terms) → TermsHaveOnly K ts → LoopsHave (loops_of_terms ts)
  loops_of_terms_have no_terms h = tt
  loops_of_terms_have (term f n ts) h =
      both_loops_have (loops_of_factors f) (loops_of_terms ts) (loops_of_factors_have f h.0)
      (loops_of_terms_have ts h.1)

  deeper_has : (parents : List (Option ℕ)) (l k : ℕ)
      → K (kind.Rec (record { 0 = l }))
      → K (kind.Rec (record { 0 = k }))
      → K (kind.Rec (record { 0 = deeper parents l k }))
  deeper_has parents l k h h' =
      let shallower = nat_lt (depth_of parents k) (depth_of parents l) in
      let deeper_one = nat_lt (depth_of parents l) (depth_of parents k) in
      let lower_one = if nat_lt k l then k else l in
      let one = if deeper_one then k else lower_one in
      cond_both shallower l one (λ m. K (kind.Rec (record { 0 = m }))) (λ _. h)
      (λ _. cond_both deeper_one k lower_one (λ m. K (kind.Rec (record { 0 = m }))) (λ _. h')
      (λ _. cond_both (nat_lt k l) k l (λ m. K (kind.Rec (record { 0 = m }))) (λ _. h') (λ _. h)))

  deeper_of_has : (parents : List (Option ℕ)) (l : ℕ) (o : Option ℕ)
      → K (kind.Rec (record { 0 = l }))
      → LoopHas o
      → K (kind.Rec (record { 0 = deeper_of parents l o }))
  deeper_of_has parents l None h h' = h
  deeper_of_has parents l (Some k) h h' = deeper_has parents l k h h'

  deepest_has : (parents : List (Option ℕ)) (loops : List ℕ) → LoopsHave loops → LoopHas (deepest parents loops)
  deepest_has parents [] h = tt
  deepest_has parents (l ∷ loops) h =
      deeper_of_has parents l (deepest parents loops) h.0 (deepest_has parents loops h.1)

  pub deepest_loop_has : (parents : List (Option ℕ)) (ts : Terms)
      → TermsHaveOnly K ts
      → LoopHas (deepest parents (loops_of_terms ts))
  deepest_loop_has parents ts h = deepest_has parents (loops_of_terms ts) (loops_of_terms_have ts h)

  -- ---- places of a plan; one beyond them all is 0

  pub place_only : (w : ℕ) (places : List Tree) → AllHaveOnly places → (k : ℕ) → HasOnly K (at_place w places k)
  place_only w [] h k = constant_only w 0
  place_only w (tree ∷ places) h zero = h.0
  place_only w (tree ∷ places) h (suc k) = place_only w places h.1 k

  pub results_only : (w : ℕ) (places : List Tree)
      → AllHaveOnly places
      → (results : List ℕ)
      → AllHaveOnly (map (at_place w places) results)
  results_only w places h [] = tt
  results_only w places h (k ∷ results) = (place_only w places h k, results_only w places h results)
