-- Parts of the same widths are as many parts, for any kind.
use Rattle.std.proofs.Common.{◌≡◌, ℕ, ◌<◌, ◌≤◌, List, [], ◌∷◌, map, refl, sym, ap, ◌∙◌, suc, subst}
use Rattle.scev_tree.specs.declared.kind.Kind.{Kind}
use Rattle.scev_tree.specs.declared.kind.Kind.TheVariants as kind
use Rattle.scev_tree.specs.Tree.{Tree, parts_of, width_of}
use Rattle.scev_tree.specs.Order.{count_parts}
use Rattle.scev_tree.specs.Canonical.{HasParts, HaveWidth}

same_widths : (w : ℕ) (xs ys : List Tree) → map width_of xs ≡ map width_of ys
    → (count_parts (parts_of xs) ≡ count_parts (parts_of ys))
    × (HaveWidth w (parts_of xs) → HaveWidth w (parts_of ys))
same_widths w [] [] e = (refl, λ h. h)
same_widths w [] (y ∷ ys) e = absurd cc
same_widths w (x ∷ xs) [] e = absurd cc
same_widths w (x ∷ xs) (y ∷ ys) e =
    let first : width_of x ≡ width_of y = cc in
    let others : map width_of xs ≡ map width_of ys = cc in
    let rest = same_widths w xs ys others in
    (ap suc rest.0, λ h. (sym first ∙ h.0, rest.1 h.1))

-- two or more of a width
several : (w : ℕ) (xs ys : List Tree) → map width_of xs ≡ map width_of ys
    → (2 ≤ count_parts (parts_of xs)) × HaveWidth w (parts_of xs)
    → (2 ≤ count_parts (parts_of ys)) × HaveWidth w (parts_of ys)
several w xs ys e has =
    let same = same_widths w xs ys e in
    (subst (λ n. 2 ≤ n) same.0 has.0, same.1 has.1)

-- the parts that a kind asks for
pub parts_too : (k : Kind) (w : ℕ) (xs ys : List Tree) → map width_of xs ≡ map width_of ys
    → HasParts k w (parts_of xs)
    → HasParts k w (parts_of ys)
parts_too kind.Trunc w [] ys e has = absurd has
parts_too kind.Trunc w (x ∷ []) [] e has = absurd cc
parts_too kind.Trunc w (x ∷ []) (y ∷ []) e has =
    let same : width_of x ≡ width_of y = cc in
    subst (λ v. w < v) same has
parts_too kind.Trunc w (x ∷ []) (y ∷ z ∷ ys) e has = absurd cc
parts_too kind.Trunc w (x ∷ z ∷ xs) ys e has = absurd has
parts_too kind.Zext w [] ys e has = absurd has
parts_too kind.Zext w (x ∷ []) [] e has = absurd cc
parts_too kind.Zext w (x ∷ []) (y ∷ []) e has =
    let same : width_of x ≡ width_of y = cc in
    subst (λ v. v < w) same has
parts_too kind.Zext w (x ∷ []) (y ∷ z ∷ ys) e has = absurd cc
parts_too kind.Zext w (x ∷ z ∷ xs) ys e has = absurd has
parts_too kind.Sext w [] ys e has = absurd has
parts_too kind.Sext w (x ∷ []) [] e has = absurd cc
parts_too kind.Sext w (x ∷ []) (y ∷ []) e has =
    let same : width_of x ≡ width_of y = cc in
    subst (λ v. v < w) same has
parts_too kind.Sext w (x ∷ []) (y ∷ z ∷ ys) e has = absurd cc
parts_too kind.Sext w (x ∷ z ∷ xs) ys e has = absurd has
parts_too kind.Udiv w xs ys e has =
    let same = same_widths w xs ys e in
    (sym same.0 ∙ has.0, same.1 has.1)
parts_too (kind.Leaf register loop) w [] [] e has = refl
parts_too (kind.Leaf register loop) w [] (y ∷ ys) e has = absurd cc
parts_too (kind.Leaf register loop) w (x ∷ xs) ys e has = absurd cc
parts_too _ w xs ys e has = several w xs ys e has
