-- Extensions are canonical, and keep the value, read without sign or with it.
use Rattle.std.proofs.Common.{◌≡◌, ℕ, ◌^◌, ◌<◌, ◌≤◌, ◌==◌, ◌⊎◌, inl, inr}
use Rattle.std.proofs.Common.{[], ◌∷◌, Option, Some, None, refl, sym, ap, ◌∙◌, subst, arith}
use Rattle.std.specs.Option.{option_map}
use Rattle.std.proofs.lemmas.Bool.{cond_both, eqb-true, eqb-false}
use Rattle.scev_base.specs.Residue.{residue, reading}
use Rattle.scev_tree.specs.declared.kind.Kind.{Kind}
use Rattle.scev_tree.specs.declared.kind.Kind.TheVariants as kind
use Rattle.scev_tree.specs.Tree.{Tree, Atom, Parts, atom, no_parts, part, constant, width_of, trees_of}
use Rattle.scev_tree.specs.Canonical.{HasParts, IsCanonical, AreCanonicalParts}
use Rattle.scev_tree.specs.Value.{tree_value, atom_value}
use Rattle.scev_tree.proofs.Below.{LeafFits, residue_below}
use Rattle.scev_forms.specs.Outcome.{Done}
use Rattle.scev_forms.specs.Trees.{IsTreeOf}
use Rattle.scev_forms.specs.Atoms.{number_of, alone, made}
use Rattle.scev_forms.specs.Casts.{extended_number, extended_atom, extended_tree, extended}
use Rattle.scev_forms.proofs.Atoms.{done_is_tree, made_is_tree, constant_is_tree, constant_same, number_value}
use Rattle.scev_forms.proofs.Atoms.{number_fits, alone_is_canonical, made_value, alone_value}
use Rattle.scev_forms.proofs.Readings.{pow_more, half_fits, residue_reading, reading_extended}
use Rattle.scev_forms.proofs.Readings.{residue_narrow}

-- an extension, without sign or with it
abbrev pub IsExtension : Kind → Type 0
IsExtension kind.Zext = Unit {0}
IsExtension kind.Sext = Unit {0}
IsExtension _ = ⊥

-- one of the two kinds
pub is_extension : (k : Kind) → (k ≡ kind.Zext) ⊎ (k ≡ kind.Sext) → IsExtension k
is_extension k h =
    elim h [
      | inl e ↦ subst IsExtension (sym e) tt
      | inr e ↦ subst IsExtension (sym e) tt
    ]

-- it isn't a register
no_leaf : (held : ℕ → Option ℕ) (w : ℕ) (k : Kind) → IsExtension k → LeafFits held w k
no_leaf held w kind.Zext is = tt
no_leaf held w kind.Sext is = tt
no_leaf held w _ is = absurd is

-- it has one narrower part
has_part : (k : Kind) (w : ℕ) (tree : Tree) → IsExtension k → width_of tree < w → HasParts k w (part tree no_parts)
has_part kind.Zext w tree is narrow = narrow
has_part kind.Sext w tree is narrow = narrow
has_part _ w tree is narrow = absurd is

-- and no other parts
one_part : (k : Kind) (w : ℕ) (parts : Parts)
    → IsExtension k
    → HasParts k w parts
    → (tree : Tree) × (parts ≡ part tree no_parts) × (width_of tree < w)
one_part kind.Zext w (part tree no_parts) is has = (tree, refl, has)
one_part kind.Zext w _ is has = absurd has
one_part kind.Sext w (part tree no_parts) is has = (tree, refl, has)
one_part kind.Sext w _ is has = absurd has
one_part _ w parts is has = absurd is

-- ---- canonical trees

-- an extension of a narrower tree
extension_is_tree : (k : Kind) (w : ℕ) (tree out : Tree)
    → IsExtension k
    → width_of tree < w
    → IsCanonical tree
    → made k w (tree ∷ []) ≡ Done out
    → IsTreeOf w out
extension_is_tree k w tree out is narrow canonical h =
    made_is_tree k w (tree ∷ []) out (omega arith) (has_part k w tree is narrow) (canonical, tt) h

-- an extension of the same extension's parts
inner_is_tree : (k : Kind) (w : ℕ) (tree : Tree) (v : ℕ) (parts : Parts) (out : Tree)
    → IsExtension k
    → width_of tree < w
    → IsCanonical tree
    → alone tree ≡ Some (atom k v parts)
    → made k w (trees_of parts) ≡ Done out
    → IsTreeOf w out
inner_is_tree k w tree v parts out is narrow canonical one h =
    let a = alone_is_canonical tree (atom k v parts) canonical one in
    let inner = one_part k (width_of tree) parts is a.1 in
    let whole = subst AreCanonicalParts inner.1 a.2 in
    extension_is_tree k w inner.0 out is (omega (arith, inner.2)) whole.0
    (subst (λ p. made k w (trees_of p) ≡ Done out) inner.1 h)

-- an extension of a tree that may be an atom alone
of_atom_is_tree : (k : Kind) (w : ℕ) (tree : Tree) (o : Option Atom) (out : Tree)
    → IsExtension k
    → width_of tree < w
    → IsCanonical tree
    → alone tree ≡ o
    → extended_atom k w tree o ≡ Done out
    → IsTreeOf w out
of_atom_is_tree kind.Zext w tree (Some (atom kind.Zext v parts)) out is narrow canonical one h =
    inner_is_tree kind.Zext w tree v parts out tt narrow canonical one h
of_atom_is_tree kind.Sext w tree (Some (atom kind.Sext v parts)) out is narrow canonical one h =
    inner_is_tree kind.Sext w tree v parts out tt narrow canonical one h
of_atom_is_tree kind.Sext w tree (Some (atom kind.Zext v parts)) out is narrow canonical one h =
    inner_is_tree kind.Zext w tree v parts out tt narrow canonical one h
of_atom_is_tree k w tree _ out is narrow canonical one h = extension_is_tree k w tree out is narrow canonical h

-- an extension of a tree that may be a number
of_number_is_tree : (k : Kind) (w : ℕ) (tree : Tree) (o : Option ℕ) (out : Tree)
    → IsExtension k
    → width_of tree < w
    → IsCanonical tree
    → extended_tree k w tree o ≡ Done out
    → IsTreeOf w out
of_number_is_tree k w tree (Some n) out is narrow canonical h =
    let number = extended_number k (width_of tree) w n in
    done_is_tree w (constant w number) out (constant_is_tree w number) h
of_number_is_tree k w tree None out is narrow canonical h =
    of_atom_is_tree k w tree (alone tree) out is narrow canonical refl h

-- an extension of a canonical tree is one
pub extension_is_canonical : (k : Kind) (w : ℕ) (tree out : Tree)
    → IsExtension k
    → width_of tree ≤ w
    → IsCanonical tree
    → extended k w tree ≡ Done out
    → IsTreeOf w out
unfolding extended
extension_is_canonical k w tree out is most canonical h =
    cond_both (width_of tree == w) (Done tree) (extended_tree k w tree (number_of tree))
    (λ o. o ≡ Done out → IsTreeOf w out)
    (λ same. done_is_tree w tree out (eqb-true (width_of tree) w same, canonical))
    (λ other. of_number_is_tree k w tree (number_of tree) out is
    (let apart = eqb-false (width_of tree) w other in omega (arith, most, apart)) canonical)
    h

-- ---- numbers

-- a number that is extended is below the modulus
extended_below : (k : Kind) (v w n : ℕ) → IsExtension k → v ≤ w → n < 2 ^ v → extended_number k v w n < 2 ^ w
extended_below kind.Zext v w n is most below = omega (arith, pow_more v w most)
extended_below kind.Sext v w n is most below = residue_below w (reading v n)
extended_below _ v w n is most below = absurd is

-- a number that is extended to its own width stays
extended_itself : (k : Kind) (w n : ℕ) → IsExtension k → n < 2 ^ w → extended_number k w w n ≡ n
extended_itself kind.Zext w n is below = refl
extended_itself kind.Sext w n is below = residue_reading w n below
extended_itself _ w n is below = absurd is

-- a number that is extended twice is extended once
extended_again : (k : Kind) (u v w n : ℕ)
    → IsExtension k
    → u < v
    → v ≤ w
    → n < 2 ^ u
    → extended_number k v w (extended_number k u v n) ≡ extended_number k u w n
extended_again kind.Zext u v w n is narrow most below = refl
extended_again kind.Sext u v w n is narrow most below = ap (residue w) (reading_extended u v n narrow below)
extended_again _ u v w n is narrow most below = absurd is

-- what was extended without sign isn't negative
extended_positive : (k : Kind) (u v w n : ℕ)
    → IsExtension k
    → u < v
    → v ≤ w
    → n < 2 ^ u
    → extended_number k v w n ≡ n
extended_positive kind.Zext u v w n is narrow most below = refl
extended_positive kind.Sext u v w n is narrow most below = residue_narrow v w n most (half_fits u v n narrow below)
extended_positive _ u v w n is narrow most below = absurd is

module _ (held : ℕ → Option ℕ) (turns : ℕ → ℕ) where
  -- the value of an extension of one part
  part_value : (k : Kind) (w : ℕ) (tree : Tree) (n : ℕ)
      → IsExtension k
      → tree_value held turns tree ≡ Some n
      → atom_value held turns (atom k w (part tree no_parts)) ≡ Some (extended_number k (width_of tree) w n)
  part_value kind.Zext w tree n is value = value
  part_value kind.Sext w tree n is value = ap (option_map (λ m. residue w (reading (width_of tree) m))) value
  part_value _ w tree n is value = absurd is

  -- an extension of a part without a number has none
  no_number : (k : Kind) (v : ℕ) (tree : Tree) (n : ℕ)
      → IsExtension k
      → tree_value held turns tree ≡ None
      → atom_value held turns (atom k v (part tree no_parts)) ≡ Some n
      → ⊥
  no_number kind.Zext v tree n is none value = cc
  no_number kind.Sext v tree n is none value =
      let gone = ap (option_map (λ m. residue v (reading (width_of tree) m))) none in
      cc
  no_number _ v tree n is none value = absurd is

  -- where an extension has a value, its part has a number
  part_number : (k : Kind) (v : ℕ) (tree : Tree) (n : ℕ)
      → IsExtension k
      → atom_value held turns (atom k v (part tree no_parts)) ≡ Some n
      → (m : ℕ) × (tree_value held turns tree ≡ Some m) × (n ≡ extended_number k (width_of tree) v m)
  part_number k v tree n is value =
      elim (tree_value held turns tree) as (λ o. tree_value held turns tree ≡ o
      → (m : ℕ) × (tree_value held turns tree ≡ Some m) × (n ≡ extended_number k (width_of tree) v m)) [
        | Some m ↦ λ some. let e = part_value k v tree m is some in (m, some, cc)
        | None ↦ λ none. absurd (no_number k v tree n is none value)
      ] refl

  -- an extension of a narrower tree
  extension_keeps : (k : Kind) (w : ℕ) (tree out : Tree) (n : ℕ)
      → IsExtension k
      → width_of tree < w
      → IsCanonical tree
      → made k w (tree ∷ []) ≡ Done out
      → tree_value held turns tree ≡ Some n
      → tree_value held turns out ≡ Some (extended_number k (width_of tree) w n)
  extension_keeps k w tree out n is narrow canonical h value =
      made_value held turns k w (tree ∷ []) out (no_leaf held w k is) (has_part k w tree is narrow) (canonical, tt) h
      ∙ part_value k w tree n is value

  -- an extension of a narrower one, by which its part is extended at once
  inner_keeps : (k inner : Kind) (w : ℕ) (tree : Tree) (v : ℕ) (parts : Parts) (out : Tree) (n : ℕ)
      → IsExtension inner
      → width_of tree < w
      → IsCanonical tree
      → alone tree ≡ Some (atom inner v parts)
      → ((u m : ℕ) → u < width_of tree → m < 2 ^ u
      → extended_number k (width_of tree) w (extended_number inner u (width_of tree) m)
      ≡ extended_number inner u w m)
      → made inner w (trees_of parts) ≡ Done out
      → tree_value held turns tree ≡ Some n
      → tree_value held turns out ≡ Some (extended_number k (width_of tree) w n)
  inner_keeps k inner w tree v parts out n is narrow canonical one twice h value =
      let a = alone_is_canonical tree (atom inner v parts) canonical one in
      let only = one_part inner (width_of tree) parts is a.1 in
      let whole = subst AreCanonicalParts only.1 a.2 in
      let width = width_of only.0 in
      let fits = no_leaf held (width_of tree) inner is in
      let its = sym (alone_value held turns tree inner v parts fits canonical one) ∙ value in
      let its_own = subst (λ p. atom_value held turns (atom inner v p) ≡ Some n) only.1 its in
      let number = part_number inner v only.0 n is its_own in
      let same : n ≡ extended_number inner width (width_of tree) number.0 =
      number.2 ∙ ap (λ u. extended_number inner width u number.0) a.0 in
      let once = twice width number.0 only.2 (number_fits held turns only.0 number.0 number.1) in
      extension_keeps inner w only.0 out number.0 is (omega (arith, only.2)) whole.0
      (subst (λ p. made inner w (trees_of p) ≡ Done out) only.1 h) number.1
      ∙ ap Some (sym (ap (extended_number k (width_of tree) w) same ∙ once))

  -- an extension of a tree that may be an atom alone
  of_atom_keeps : (k : Kind) (w : ℕ) (tree : Tree) (o : Option Atom) (out : Tree) (n : ℕ)
      → IsExtension k
      → width_of tree < w
      → IsCanonical tree
      → alone tree ≡ o
      → extended_atom k w tree o ≡ Done out
      → tree_value held turns tree ≡ Some n
      → tree_value held turns out ≡ Some (extended_number k (width_of tree) w n)
  of_atom_keeps kind.Zext w tree (Some (atom kind.Zext v parts)) out n is narrow canonical one h value =
      inner_keeps kind.Zext kind.Zext w tree v parts out n tt narrow canonical one
      (λ u m less below. extended_again kind.Zext u (width_of tree) w m tt less (omega arith) below) h value
  of_atom_keeps kind.Sext w tree (Some (atom kind.Sext v parts)) out n is narrow canonical one h value =
      inner_keeps kind.Sext kind.Sext w tree v parts out n tt narrow canonical one
      (λ u m less below. extended_again kind.Sext u (width_of tree) w m tt less (omega arith) below) h value
  of_atom_keeps kind.Sext w tree (Some (atom kind.Zext v parts)) out n is narrow canonical one h value =
      inner_keeps kind.Sext kind.Zext w tree v parts out n tt narrow canonical one
      (λ u m less below. extended_positive kind.Sext u (width_of tree) w m tt less (omega arith) below) h value
  of_atom_keeps k w tree _ out n is narrow canonical one h value =
      extension_keeps k w tree out n is narrow canonical h value

  -- an extension of a tree that may be a number
  of_number_keeps : (k : Kind) (w : ℕ) (tree : Tree) (o : Option ℕ) (out : Tree) (n : ℕ)
      → IsExtension k
      → width_of tree < w
      → IsCanonical tree
      → number_of tree ≡ o
      → extended_tree k w tree o ≡ Done out
      → tree_value held turns tree ≡ Some n
      → tree_value held turns out ≡ Some (extended_number k (width_of tree) w n)
  of_number_keeps k w tree (Some m) out n is narrow canonical one h value =
      let number = number_value held turns tree m canonical one in
      let same : m ≡ n = cc (number.0) in
      let more = extended_number k (width_of tree) w m in
      let below = extended_below k (width_of tree) w m is (omega arith) number.1 in
      let e : out ≡ constant w more = cc in
      ap (tree_value held turns) e ∙ constant_same held turns w more below
      ∙ ap (λ x. Some (extended_number k (width_of tree) w x)) same
  of_number_keeps k w tree None out n is narrow canonical one h value =
      of_atom_keeps k w tree (alone tree) out n is narrow canonical refl h value

  -- an extension keeps the value
  pub extension_value : (k : Kind) (w : ℕ) (tree out : Tree) (n : ℕ)
      → IsExtension k
      → width_of tree ≤ w
      → IsCanonical tree
      → extended k w tree ≡ Done out
      → tree_value held turns tree ≡ Some n
      → tree_value held turns out ≡ Some (extended_number k (width_of tree) w n)
  unfolding extended
  extension_value k w tree out n is most canonical h value =
      cond_both (width_of tree == w) (Done tree) (extended_tree k w tree (number_of tree))
      (λ o. o ≡ Done out → tree_value held turns out ≡ Some (extended_number k (width_of tree) w n))
      (λ same all.
      let width : width_of tree ≡ w = eqb-true (width_of tree) w same in
      let e : out ≡ tree = cc in
      ap (tree_value held turns) e ∙ value
      ∙ ap Some (sym (extended_itself k (width_of tree) n is (number_fits held turns tree n value)))
      ∙ ap (λ v. Some (extended_number k (width_of tree) v n)) width)
      (λ other all. of_number_keeps k w tree (number_of tree) out n is
      (let apart = eqb-false (width_of tree) w other in omega (arith, most, apart)) canonical refl all value)
      h
