-- Truncations of canonical trees are canonical.
use Rattle.std.proofs.Common.{◌≡◌, ℕ, ◌%◌, ◌^◌, ◌<◌, ◌≤◌, ◌==◌, nat_lt, Bool, true, false, cond, ◌⊎◌, inl, inr}
use Rattle.std.proofs.Common.{List, [], ◌∷◌, Option, refl, sym, subst, arith}
use Rattle.std.proofs.lemmas.Bool.{cond_both, eqb-true, eqb-false, ltb-true, ltb-false}
use Rattle.scev_tree.specs.declared.kind.Kind.{Kind}
use Rattle.scev_tree.specs.declared.kind.Kind.TheVariants as kind
use Rattle.scev_tree.specs.Tree.{Tree, Terms, Factors, Atom, Parts, polynomial, no_terms, term, no_factors, factor}
use Rattle.scev_tree.specs.Tree.{atom, no_parts, part, constant, of_atom, width_of}
use Rattle.scev_tree.specs.Canonical.{HaveWidth, HasParts, IsCanonical, AreCanonicalTerms, AreCanonicalFactors}
use Rattle.scev_tree.specs.Canonical.{IsCanonicalAtom, AreCanonicalParts}
use Rattle.scev_forms.specs.Outcome.{Outcome, Done, Refused, next}
use Rattle.scev_forms.specs.Trees.{IsTreeOf, AreTreesOf}
use Rattle.scev_forms.specs.Sums.{tree_sum, tree_product, recurrence_of}
use Rattle.scev_forms.specs.Atoms.{made}
use Rattle.scev_forms.specs.Casts.{truncated, truncated_terms, truncated_factors, truncated_atom}
use Rattle.scev_forms.specs.Casts.{truncated_parts}
use Rattle.scev_forms.proofs.Atoms.{done_is_tree, made_is_tree, constant_is_tree, atom_is_tree}
use Rattle.scev_forms.proofs.SumsFormed.{sum_canonical, product_canonical, recurrence_canonical}

-- what is done behind a step was done of what the step gave
pub next_done : {A B : Type 0} (o : Outcome A) (f : A → Outcome B) (b : B)
    → next o f ≡ Done b
    → (a : A) × (o ≡ Done a) × (f a ≡ Done b)
next_done (Done a) f b h = (a, refl, h)
next_done (Refused why) f b h = absurd cc

-- what is chosen by a test is one of both
pub either_way : {A : Type 0} (b : Bool) (x y z : A) (P : Type 0)
    → cond b x y ≡ z
    → (b ≡ true → x ≡ z → P)
    → (b ≡ false → y ≡ z → P)
    → P
either_way b x y z P h first second = cond_both b x y (λ o. o ≡ z → P) first second h

-- parts that are truncated
pub parts_done : (parents : List (Option ℕ)) (w : ℕ) (tree : Tree) (parts : Parts) (trees : List Tree)
    → truncated_parts parents w (part tree parts) ≡ Done trees
    → (first : Tree) × (others : List Tree) × (truncated parents w tree ≡ Done first)
    × (truncated_parts parents w parts ≡ Done others) × (trees ≡ first ∷ others)
unfolding truncated truncated_terms truncated_factors truncated_atom truncated_parts
parts_done parents w tree parts trees h =
    let first = next_done (truncated parents w tree)
    (λ one. next (truncated_parts parents w parts) (λ others. Done (one ∷ others))) trees h in
    let others = next_done (truncated_parts parents w parts) (λ others. Done (first.0 ∷ others)) trees first.2 in
    (first.0, others.0, first.1, others.1, cc (others.2))

-- a term more: its coefficient becomes 0, or its product is added
abbrev pub TermDone : List (Option ℕ) → ℕ → Factors → ℕ → Terms → Tree → Tree → Type 0
TermDone parents w f n ts sum out =
    ((n % 2 ^ w ≡ 0) × (truncated_terms parents w ts sum ≡ Done out))
    ⊎ ((product : Tree) × (more : Tree) × (truncated_factors parents w f (constant w n) ≡ Done product)
    × (tree_sum parents w sum product ≡ Done more) × (truncated_terms parents w ts more ≡ Done out))

-- one of these was done
pub term_done : (parents : List (Option ℕ)) (w : ℕ) (f : Factors) (n : ℕ) (ts : Terms) (sum out : Tree)
    → truncated_terms parents w (term f n ts) sum ≡ Done out
    → TermDone parents w f n ts sum out
unfolding truncated truncated_terms truncated_factors truncated_atom truncated_parts
term_done parents w f n ts sum out h =
    let behind = λ (product : Tree). next (tree_sum parents w sum product) (truncated_terms parents w ts) in
    either_way (n % 2 ^ w == 0) (truncated_terms parents w ts sum)
    (next (truncated_factors parents w f (constant w n)) behind) (Done out) (TermDone parents w f n ts sum out) h
    (λ none same. inl (eqb-true (n % 2 ^ w) 0 none, same))
    (λ _ same.
    let product = next_done (truncated_factors parents w f (constant w n)) behind out same in
    let more = next_done (tree_sum parents w sum product.0) (truncated_terms parents w ts) out product.2 in
    inr (product.0, more.0, product.1, more.1, more.2))

-- a factor more
pub factor_done : (parents : List (Option ℕ)) (w : ℕ) (a : Atom) (f : Factors) (product out : Tree)
    → truncated_factors parents w (factor a f) product ≡ Done out
    → (tree : Tree) × (more : Tree) × (truncated_atom parents w a ≡ Done tree)
    × (tree_product parents w product tree ≡ Done more) × (truncated_factors parents w f more ≡ Done out)
unfolding truncated truncated_terms truncated_factors truncated_atom truncated_parts
factor_done parents w a f product out h =
    let tree = next_done (truncated_atom parents w a)
    (λ x. next (tree_product parents w product x) (truncated_factors parents w f)) out h in
    let more = next_done (tree_product parents w product tree.0) (truncated_factors parents w f) out tree.2 in
    (tree.0, more.0, tree.1, more.1, more.2)

-- an atom of one part, narrower than it
trunc_is_tree : (w : ℕ) (tree out : Tree)
    → 0 < w
    → w < width_of tree
    → IsCanonical tree
    → made kind.Trunc w (tree ∷ []) ≡ Done out
    → IsTreeOf w out
trunc_is_tree w tree out some narrow canonical h =
    made_is_tree kind.Trunc w (tree ∷ []) out some narrow (canonical, tt) h

-- an atom of w bits, truncated as a whole
whole_is_tree : (v w : ℕ) (k : Kind) (u : ℕ) (parts : Parts) (out : Tree)
    → 0 < w
    → w < v
    → IsCanonicalAtom v (atom k u parts)
    → made kind.Trunc w (of_atom u (atom k u parts) ∷ []) ≡ Done out
    → IsTreeOf w out
whole_is_tree v w k u parts out some narrow canonical h =
    let a = atom k u parts in
    let more : 0 < u = omega (arith, canonical.0) in
    let is = atom_is_tree u a more (refl, subst (λ x. HasParts k x parts) (sym canonical.0) canonical.1, canonical.2) in
    trunc_is_tree w (of_atom u a) out some (omega (arith, canonical.0)) is.1 h

module _ (parents : List (Option ℕ)) (w : ℕ) (some : 0 < w) where
  mutual
    unfolding truncated truncated_terms truncated_factors truncated_atom truncated_parts

    pub tree_cut : (tree out : Tree)
        → w ≤ width_of tree
        → IsCanonical tree
        → truncated parents w tree ≡ Done out
        → IsTreeOf w out
    tree_cut (polynomial v ts) out most canonical h =
        either_way (v == w) (Done (polynomial v ts)) (truncated_terms parents w ts (constant w 0)) (Done out)
        (IsTreeOf w out) h
        (λ same. done_is_tree w (polynomial v ts) out (eqb-true v w same, canonical))
        (λ other.
        let apart = eqb-false v w other in
        terms_cut v ts (constant w 0) out (omega (arith, most, apart)) canonical (constant_is_tree w 0))

    pub terms_cut : (v : ℕ) (ts : Terms) (sum out : Tree)
        → w < v
        → AreCanonicalTerms v ts
        → IsTreeOf w sum
        → truncated_terms parents w ts sum ≡ Done out
        → IsTreeOf w out
    terms_cut v no_terms sum out narrow canonical is h = done_is_tree w sum out is h
    terms_cut v (term f n ts) sum out narrow canonical is h =
        elim (term_done parents w f n ts sum out h) [
          | inl none ↦ terms_cut v ts sum out narrow canonical.5 is none.1
          | inr step ↦
              let its = factors_cut v f (constant w n) step.0 narrow canonical.1 (constant_is_tree w n) step.2 in
              let whole = sum_canonical parents w sum step.0 step.1 some is its step.3 in
              terms_cut v ts step.1 out narrow canonical.5 whole step.4
        ]

    pub factors_cut : (v : ℕ) (f : Factors) (product out : Tree)
        → w < v
        → AreCanonicalFactors v f
        → IsTreeOf w product
        → truncated_factors parents w f product ≡ Done out
        → IsTreeOf w out
    factors_cut v no_factors product out narrow canonical is h = done_is_tree w product out is h
    factors_cut v (factor a f) product out narrow canonical is h =
        let step = factor_done parents w a f product out h in
        let its = atom_cut v a step.0 narrow canonical.0 step.2 in
        let whole = product_canonical parents w product step.0 step.1 some is its step.3 in
        factors_cut v f step.1 out narrow canonical.1 whole step.4

    pub atom_cut : (v : ℕ) (a : Atom) (out : Tree)
        → w < v
        → IsCanonicalAtom v a
        → truncated_atom parents w a ≡ Done out
        → IsTreeOf w out
    atom_cut v (atom kind.Trunc u (part tree no_parts)) out narrow canonical h =
        trunc_is_tree w tree out some (let wide = canonical.1 in omega arith) canonical.2.0 h
    atom_cut v (atom kind.Trunc u _) out narrow canonical h = absurd canonical.1
    atom_cut v (atom kind.Zext u (part tree no_parts)) out narrow canonical h =
        either_way (nat_lt (width_of tree) w) (made kind.Zext w (tree ∷ [])) (truncated parents w tree) (Done out)
        (IsTreeOf w out) h
        (λ less same. made_is_tree kind.Zext w (tree ∷ []) out some (ltb-true (width_of tree) w less)
        (canonical.2.0, tt) same)
        (λ most same. tree_cut tree out (ltb-false (width_of tree) w most) canonical.2.0 same)
    atom_cut v (atom kind.Sext u (part tree no_parts)) out narrow canonical h =
        either_way (nat_lt (width_of tree) w) (made kind.Sext w (tree ∷ [])) (truncated parents w tree) (Done out)
        (IsTreeOf w out) h
        (λ less same. made_is_tree kind.Sext w (tree ∷ []) out some (ltb-true (width_of tree) w less)
        (canonical.2.0, tt) same)
        (λ most same. tree_cut tree out (ltb-false (width_of tree) w most) canonical.2.0 same)
    atom_cut v (atom (kind.Rec loop) u no_parts) out narrow canonical h =
        absurd (let two = canonical.1.0 in omega arith)
    atom_cut v (atom (kind.Rec loop) u (part tree parts)) out narrow canonical h =
        let trees = next_done (truncated_parts parents w (part tree parts)) (recurrence_of w loop.0) out h in
        let each = parts_done parents w tree parts trees.0 trees.1 in
        let width = canonical.1.1 in
        let first = tree_cut tree each.0 (omega (arith, width.0)) canonical.2.0 each.2 in
        let others = parts_cut v parts each.1 (omega arith) width.1 canonical.2.1 each.3 in
        recurrence_canonical w loop.0 each.0 out each.1 some first others
        (subst (λ l. recurrence_of w loop.0 l ≡ Done out) each.4 trees.2)
    atom_cut v (atom k u parts) out narrow canonical h = whole_is_tree v w k u parts out some narrow canonical h

    pub parts_cut : (v : ℕ) (parts : Parts) (trees : List Tree)
        → w ≤ v
        → HaveWidth v parts
        → AreCanonicalParts parts
        → truncated_parts parents w parts ≡ Done trees
        → AreTreesOf w trees
    parts_cut v no_parts trees most width canonical h =
        let none : [] ≡ trees = cc in
        subst (AreTreesOf w) none tt
    parts_cut v (part tree parts) trees most width canonical h =
        let each = parts_done parents w tree parts trees h in
        let first = tree_cut tree each.0 (omega (arith, width.0)) canonical.0 each.2 in
        let others = parts_cut v parts each.1 most width.1 canonical.1 each.3 in
        subst (AreTreesOf w) (sym each.4) (first, others)

-- a truncation of a canonical tree is one
pub truncation_is_tree : (parents : List (Option ℕ)) (w : ℕ) (tree out : Tree)
    → 0 < w
    → w ≤ width_of tree
    → IsCanonical tree
    → truncated parents w tree ≡ Done out
    → IsTreeOf w out
truncation_is_tree parents w tree out some most canonical h = tree_cut parents w some tree out most canonical h
