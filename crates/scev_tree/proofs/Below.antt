-- The value of a canonical atom of w bits is below 2^w, where that of a register is.
use Rattle.std.proofs.Common.{◌≡◌, ℕ, zero, suc, ◌/◌, ◌%◌, ◌^◌, ◌<◌, ◌≤◌, max, min}
use Rattle.std.proofs.Common.{List, [], ◌∷◌, Option, Some, None, sym, subst, arith, ℤ, pos, negsuc}
use Rattle.std.specs.Option.{option_map}
use Rattle.std.specs.Prelude.{int_lt}
use Rattle.std.proofs.lemmas.Bool.{cond_both}
use Rattle.std.proofs.lemmas.Nat.{pow_pos, mod_below}
use Rattle.scev_base.specs.Iterated.{iterated}
use Rattle.scev_base.specs.Residue.{residue, reading}
use Rattle.std.proofs.Math.Nat.{pow-le-pow_right}
use Rattle.scev_tree.specs.declared.kind.Kind.{Kind}
use Rattle.scev_tree.specs.declared.kind.Kind.TheVariants as kind
use Rattle.scev_tree.specs.Tree.{Tree, Parts}
use Rattle.scev_tree.specs.Tree.{atom, no_parts, part, width_of}
use Rattle.scev_tree.specs.Canonical.{HaveWidth, HasParts, IsCanonicalAtom}
use Rattle.scev_tree.specs.Value.{lifted, sum, quotient, signed_max, signed_min, joined, least_in_sequence, values}
use Rattle.scev_tree.specs.Value.{tree_value, atom_value, parts_values}
use Rattle.scev_tree.proofs.Arithmetic.{IsBelow, sum_closed}
use Rattle.scev_tree.proofs.Values.{tree_below}

-- each number of a list is below 2^w
abbrev pub AreBelow : ℕ → List (Option ℕ) → Type 0
AreBelow w [] = Unit {0}
AreBelow w (x ∷ xs) = IsBelow w x × AreBelow w xs

-- where the atom is a register, what it holds is below 2^w
abbrev pub LeafFits : (ℕ → Option ℕ) → ℕ → Kind → Type 0
LeafFits held w (kind.Leaf register loop) = IsBelow w (held register.0)
LeafFits held w _ = Unit {0}

-- a residue is below the modulus
pub residue_below : (w : ℕ) (z : ℤ) → residue w z < 2 ^ w
residue_below w (pos n) = mod_below n (2 ^ w) (pow_pos w)
residue_below w (negsuc n) =
    let some : 0 < 2 ^ w = pow_pos w in
    omega arith

-- a number of fewer bits
wider_below : (v w : ℕ) (x : Option ℕ) → v < w → IsBelow v x → IsBelow w x
wider_below v w None narrow h = tt
wider_below v w (Some n) narrow h =
    let two : 0 < 2 = omega arith in
    let more : 2 ^ v ≤ 2 ^ w = pow-le-pow_right two (omega arith) in
    omega arith

-- what is made of each number is below
mapped_below : (w : ℕ) (f : ℕ → ℕ) (x : Option ℕ) → ((n : ℕ) → f n < 2 ^ w) → IsBelow w (option_map f x)
mapped_below w f None h = tt
mapped_below w f (Some n) h = h n

-- a quotient isn't above what is divided
quotient_below : (w : ℕ) (x y : Option ℕ) → IsBelow w x → IsBelow w (quotient x y)
quotient_below w None None h = tt
quotient_below w None (Some zero) h = tt
quotient_below w None (Some (suc n)) h = tt
quotient_below w (Some a) None h = tt
quotient_below w (Some a) (Some zero) h = tt
quotient_below w (Some a) (Some (suc n)) h =
    let least : a / suc n ≤ a = grind arith in
    omega arith

-- what an operation gives of two numbers that are below
lifted_below : (w : ℕ) (op : ℕ → ℕ → ℕ) (x y : Option ℕ)
    → ((a b : ℕ) → a < 2 ^ w → b < 2 ^ w → op a b < 2 ^ w)
    → IsBelow w x
    → IsBelow w y
    → IsBelow w (lifted op x y)
lifted_below w op (Some a) (Some b) keeps h h' = keeps a b h h'
lifted_below w op _ _ keeps h h' = tt

-- what it gives of a list
joined_below : (w : ℕ) (op : ℕ → ℕ → ℕ) (xs : List (Option ℕ))
    → ((a b : ℕ) → a < 2 ^ w → b < 2 ^ w → op a b < 2 ^ w)
    → AreBelow w xs
    → IsBelow w (joined op xs)
joined_below w op [] keeps h = tt
joined_below w op (x ∷ []) keeps h = h.0
joined_below w op (x ∷ y ∷ xs) keeps h =
    lifted_below w op x (joined op (y ∷ xs)) keeps h.0 (joined_below w op (y ∷ xs) keeps h.1)

-- the greater of two numbers
greater_below : (w a b : ℕ) → a < 2 ^ w → b < 2 ^ w → max a b < 2 ^ w
greater_below w a b h h' = omega arith

-- the lesser of two numbers
less_below : (w a b : ℕ) → a < 2 ^ w → b < 2 ^ w → min a b < 2 ^ w
less_below w a b h h' = omega arith

-- the least number of a list, up to a 0
least_below : (w : ℕ) (xs : List (Option ℕ)) → AreBelow w xs → IsBelow w (least_in_sequence xs)
least_below w [] h = tt
least_below w (x ∷ []) h = h.0
least_below w (Some zero ∷ y ∷ xs) h = pow_pos w
least_below w (Some (suc n) ∷ y ∷ xs) h =
    lifted_below w min (Some (suc n)) (least_in_sequence (y ∷ xs)) (less_below w) h.0 (least_below w (y ∷ xs) h.1)
least_below w (None ∷ y ∷ xs) h = tt

-- the iterated sum of numbers that are below
iterated_below : (w turn : ℕ) (first : Option ℕ) (rest : List (Option ℕ))
    → IsBelow w first
    → IsBelow w (iterated (sum w) turn first rest)
unfolding iterated
iterated_below w zero first rest h = h
iterated_below w (suc turn) first [] h = h
iterated_below w (suc turn) first (second ∷ rest) h = sum_closed w _ _

-- the greater of two numbers, read as signed
signed_max_below : (w a b : ℕ) → a < 2 ^ w → b < 2 ^ w → signed_max w a b < 2 ^ w
signed_max_below w a b h h' =
    cond_both (int_lt (reading w a) (reading w b)) b a (λ n. n < 2 ^ w) (λ _. h') (λ _. h)

-- the lesser of two numbers, read as signed
signed_min_below : (w a b : ℕ) → a < 2 ^ w → b < 2 ^ w → signed_min w a b < 2 ^ w
signed_min_below w a b h h' =
    cond_both (int_lt (reading w b) (reading w a)) b a (λ n. n < 2 ^ w) (λ _. h') (λ _. h)

module _ (held : ℕ → Option ℕ) (turns : ℕ → ℕ) where
  -- the value of a tree of w bits
  part_below : (w : ℕ) (tree : Tree) → width_of tree ≡ w → IsBelow w (tree_value held turns tree)
  part_below w tree e = subst (λ v. IsBelow v (tree_value held turns tree)) e (tree_below held turns tree)

  -- the values of parts of w bits
  parts_below : (w : ℕ) (parts : Parts) → HaveWidth w parts → AreBelow w (values (parts_values held turns parts))
  parts_below w no_parts h = tt
  parts_below w (part tree parts) h = (part_below w tree h.0, parts_below w parts h.1)

  -- an atom of w bits, by its kind
  kind_below : (k : Kind) (w : ℕ) (parts : Parts)
      → LeafFits held w k
      → HasParts k w parts
      → IsBelow w (atom_value held turns (atom k w parts))
  kind_below kind.Trunc w (part tree no_parts) fits has =
      mapped_below w (λ n. n % 2 ^ w) (tree_value held turns tree) (λ n. mod_below n (2 ^ w) (pow_pos w))
  kind_below kind.Trunc w no_parts fits has = absurd has
  kind_below kind.Trunc w (part tree (part other parts)) fits has = absurd has
  kind_below kind.Zext w (part tree no_parts) fits has =
      wider_below (width_of tree) w (tree_value held turns tree) has (tree_below held turns tree)
  kind_below kind.Zext w no_parts fits has = absurd has
  kind_below kind.Zext w (part tree (part other parts)) fits has = absurd has
  kind_below kind.Sext w (part tree no_parts) fits has =
      mapped_below w (λ n. residue w (reading (width_of tree) n)) (tree_value held turns tree)
      (λ n. residue_below w (reading (width_of tree) n))
  kind_below kind.Sext w no_parts fits has = absurd has
  kind_below kind.Sext w (part tree (part other parts)) fits has = absurd has
  kind_below kind.Udiv w (part tree (part other no_parts)) fits has =
      quotient_below w (tree_value held turns tree) (tree_value held turns other) (part_below w tree has.1.0)
  kind_below kind.Udiv w no_parts fits has = tt
  kind_below kind.Udiv w (part tree no_parts) fits has = tt
  kind_below kind.Udiv w (part tree (part other (part third parts))) fits has = tt
  kind_below kind.Smax w parts fits has =
      joined_below w (signed_max w) _ (signed_max_below w) (parts_below w parts has.1)
  kind_below kind.Umax w parts fits has = joined_below w max _ (greater_below w) (parts_below w parts has.1)
  kind_below kind.Smin w parts fits has =
      joined_below w (signed_min w) _ (signed_min_below w) (parts_below w parts has.1)
  kind_below kind.Umin w parts fits has = joined_below w min _ (less_below w) (parts_below w parts has.1)
  kind_below kind.Seq w parts fits has = least_below w _ (parts_below w parts has.1)
  kind_below (kind.Rec loop) w no_parts fits has = tt
  kind_below (kind.Rec loop) w (part tree parts) fits has =
      iterated_below w (turns loop.0) (tree_value held turns tree) (values (parts_values held turns parts))
      (part_below w tree has.1.0)
  kind_below (kind.Leaf register loop) w no_parts fits has = fits
  kind_below (kind.Leaf register loop) w (part tree parts) fits has = tt

  -- a canonical atom of w bits
  pub atom_below : (w : ℕ) (k : Kind) (v : ℕ) (parts : Parts)
      → LeafFits held w k
      → IsCanonicalAtom w (atom k v parts)
      → IsBelow w (atom_value held turns (atom k v parts))
  atom_below w k v parts fits h =
      subst (λ u. IsBelow w (atom_value held turns (atom k u parts))) (sym h.0) (kind_below k w parts fits h.1)
