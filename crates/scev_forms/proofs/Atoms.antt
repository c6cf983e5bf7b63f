-- Trees that are numbers, or one atom: that they are canonical, and their values.
use Rattle.std.proofs.Common.{◌≡◌, ℕ, ◌+◌, ◌*◌, ◌%◌, ◌^◌, ◌<◌, ◌==◌}
use Rattle.std.proofs.Common.{List, Option, Some, None, refl, sym, ap, ◌∙◌, subst, arith}
use Rattle.std.proofs.lemmas.Bool.{cond_both, eqb-true, eqb-false}
use Rattle.std.proofs.lemmas.Nat.{pow_pos, pow_below, mod_below}
use Rattle.std.proofs.Math.Nat.{mod-eq_of_lt, mod-mod}
use Rattle.scev_tree.specs.declared.kind.Kind.{Kind}
use Rattle.scev_tree.specs.Tree.{Tree, Atom, Parts, polynomial, no_terms, term, no_factors, factor}
use Rattle.scev_tree.specs.Tree.{atom, constant, of_atom, width_of, parts_of}
use Rattle.scev_tree.specs.Canonical.{HasParts, IsCanonical, IsCanonicalAtom, AreCanonicalParts}
use Rattle.scev_tree.specs.Value.{tree_value, atom_value}
use Rattle.scev_tree.proofs.Arithmetic.{IsBelow}
use Rattle.scev_tree.proofs.Below.{LeafFits, atom_below}
use Rattle.scev_tree.proofs.Values.{tree_below}
use Rattle.scev_tree.proofs.AffineValue.{constant_value}
use Rattle.scev_forms.proofs.Outcomes.{tested_same}
use Rattle.scev_forms.specs.Outcome.{Done}
use Rattle.scev_forms.specs.Trees.{IsTreeOf}
use Rattle.scev_forms.specs.Atoms.{number_of, alone, made}

-- what is made is the atom
pub made_same : (k : Kind) (w : ℕ) (trees : List Tree) (out : Tree)
    → made k w trees ≡ Done out
    → out ≡ of_atom w (atom k w (parts_of trees))
made_same k w trees out h = tested_same (of_atom w (atom k w (parts_of trees))) out h

-- ---- canonical trees

-- a constant is a canonical tree
pub constant_is_tree : (w n : ℕ) → IsTreeOf w (constant w n)
constant_is_tree w n =
    cond_both (n % 2 ^ w == 0) (polynomial w no_terms) (polynomial w (term no_factors (n % 2 ^ w) no_terms))
    (IsTreeOf w)
    (λ none. (refl, tt))
    (λ some.
    let apart = eqb-false (n % 2 ^ w) 0 some in
    (refl, (tt, tt, omega (arith, apart), mod_below n (2 ^ w) (pow_pos w), tt, tt)))

-- so is one atom
pub atom_is_tree : (w : ℕ) (a : Atom) → 0 < w → IsCanonicalAtom w a → IsTreeOf w (of_atom w a)
atom_is_tree w a some h = (refl, ((tt, tt), (h, tt), omega arith, pow_below 0 w some, tt, tt))

-- and what is made of canonical parts
pub made_is_tree : (k : Kind) (w : ℕ) (trees : List Tree) (out : Tree)
    → 0 < w
    → HasParts k w (parts_of trees)
    → AreCanonicalParts (parts_of trees)
    → made k w trees ≡ Done out
    → IsTreeOf w out
made_is_tree k w trees out some has parts h =
    let a = atom k w (parts_of trees) in
    subst (IsTreeOf w) (sym (made_same k w trees out h)) (atom_is_tree w a some (refl, has, parts))

-- a tree that is done
pub done_is_tree : (w : ℕ) (tree out : Tree) → IsTreeOf w tree → Done tree ≡ Done out → IsTreeOf w out
done_is_tree w tree out is h = subst (IsTreeOf w) (cc) is

-- a tree that is an atom alone
pub alone_is : (tree : Tree) (a : Atom) → alone tree ≡ Some a → tree ≡ of_atom (width_of tree) a
alone_is (polynomial w (term (factor b no_factors) n no_terms)) a h =
    cond_both (n == 1) (Some b) None
    (λ o. o ≡ Some a → polynomial w (term (factor b no_factors) n no_terms) ≡ of_atom w a)
    (λ one same. let e : n ≡ 1 = eqb-true n 1 one in cc)
    (λ other same. absurd cc)
    h
alone_is (polynomial w _) a h = absurd cc

-- the atom that a canonical tree is alone is canonical
pub alone_is_canonical : (tree : Tree) (a : Atom)
    → IsCanonical tree
    → alone tree ≡ Some a
    → IsCanonicalAtom (width_of tree) a
alone_is_canonical tree a canonical h =
    let whole = subst IsCanonical (alone_is tree a h) canonical in
    whole.1.0

-- ---- values

-- a number below the modulus, as a monomial of its own
one_number : (w n : ℕ) → n < 2 ^ w → (1 * n % 2 ^ w + 0) % 2 ^ w ≡ n
one_number w n h =
    let once : 1 * n ≡ n = omega arith in
    let alone_there : 1 * n % 2 ^ w + 0 ≡ n = omega (arith, ap (λ k. k % 2 ^ w) once ∙ mod-eq_of_lt h) in
    ap (λ k. k % 2 ^ w) alone_there ∙ mod-eq_of_lt h

-- a number, as a factor of its own
one_atom : (w n : ℕ) → (n * 1 % 2 ^ w * 1 % 2 ^ w + 0) % 2 ^ w ≡ n % 2 ^ w
one_atom w n =
    let once : n * 1 ≡ n = omega arith in
    let again : n * 1 % 2 ^ w * 1 ≡ n % 2 ^ w = omega (arith, ap (λ k. k % 2 ^ w) once) in
    let whole : n * 1 % 2 ^ w * 1 % 2 ^ w + 0 ≡ n % 2 ^ w =
    omega (arith, ap (λ k. k % 2 ^ w) again ∙ mod-mod n (2 ^ w)) in
    ap (λ k. k % 2 ^ w) whole ∙ mod-mod n (2 ^ w)

module _ (held : ℕ → Option ℕ) (turns : ℕ → ℕ) where
  -- the number of a tree is below the modulus of its width
  pub number_fits : (tree : Tree) (n : ℕ) → tree_value held turns tree ≡ Some n → n < 2 ^ width_of tree
  number_fits tree n value = subst (IsBelow (width_of tree)) value (tree_below held turns tree)

  -- the value of a tree of w bits is below 2^w
  pub value_below : (w : ℕ) (tree : Tree) → IsTreeOf w tree → IsBelow w (tree_value held turns tree)
  value_below w tree is = subst (λ v. IsBelow v (tree_value held turns tree)) is.0 (tree_below held turns tree)

  -- so is its number
  pub number_small : (w : ℕ) (tree : Tree) (n : ℕ) → IsTreeOf w tree → tree_value held turns tree ≡ Some n → n < 2 ^ w
  number_small w tree n is value = subst (IsBelow w) value (value_below w tree is)

  -- a constant of a number below the modulus has that
  pub constant_same : (w n : ℕ) → n < 2 ^ w → tree_value held turns (constant w n) ≡ Some n
  constant_same w n h = constant_value held turns w n ∙ ap Some (mod-eq_of_lt h)

  -- a canonical tree that is a number has it as its value, which is below the modulus
  pub number_value : (tree : Tree) (n : ℕ)
      → IsCanonical tree
      → number_of tree ≡ Some n
      → (tree_value held turns tree ≡ Some n) × (n < 2 ^ width_of tree)
  number_value (polynomial w no_terms) n canonical h =
      let zero_there : 0 ≡ n = cc in
      (h, omega (arith, pow_pos w, zero_there))
  number_value (polynomial w (term no_factors m no_terms)) n canonical h =
      let same : m ≡ n = cc in
      (ap Some (one_number w m canonical.3 ∙ same), omega (arith, canonical.3, same))
  number_value (polynomial w _) n canonical h = absurd cc

  -- an atom has the lowest bits of its number as its value
  pub of_atom_value : (w : ℕ) (a : Atom) (m : ℕ)
      → atom_value held turns a ≡ Some m
      → tree_value held turns (of_atom w a) ≡ Some (m % 2 ^ w)
  of_atom_value w a m h = rw h (ap Some (one_atom w m))

  -- an atom whose value is below the modulus has it, as a tree too
  of_atom_same : (w : ℕ) (a : Atom)
      → IsBelow w (atom_value held turns a)
      → tree_value held turns (of_atom w a) ≡ atom_value held turns a
  of_atom_same w a below =
      elim (atom_value held turns a) as (λ o. atom_value held turns a ≡ o
      → tree_value held turns (of_atom w a) ≡ atom_value held turns a) [
        | None ↦ λ none. rw none refl
        | Some m ↦ λ some.
            let fits : m < 2 ^ w = subst (IsBelow w) some below in
            of_atom_value w a m some ∙ ap Some (mod-eq_of_lt fits) ∙ sym some
      ] refl

  -- what is made of canonical parts has the value of the atom, where what a register holds fits
  pub made_value : (k : Kind) (w : ℕ) (trees : List Tree) (out : Tree)
      → LeafFits held w k
      → HasParts k w (parts_of trees)
      → AreCanonicalParts (parts_of trees)
      → made k w trees ≡ Done out
      → tree_value held turns out ≡ atom_value held turns (atom k w (parts_of trees))
  made_value k w trees out fits has parts h =
      ap (tree_value held turns) (made_same k w trees out h)
      ∙ of_atom_same w (atom k w (parts_of trees))
      (atom_below held turns w k w (parts_of trees) fits (refl, has, parts))

  -- a canonical tree that is an atom alone has its value
  pub alone_value : (tree : Tree) (k : Kind) (v : ℕ) (parts : Parts)
      → LeafFits held (width_of tree) k
      → IsCanonical tree
      → alone tree ≡ Some (atom k v parts)
      → tree_value held turns tree ≡ atom_value held turns (atom k v parts)
  alone_value tree k v parts fits canonical one =
      let a = atom k v parts in
      let w = width_of tree in
      ap (tree_value held turns) (alone_is tree a one)
      ∙ of_atom_same w a (atom_below held turns w k v parts fits (alone_is_canonical tree a canonical one))
