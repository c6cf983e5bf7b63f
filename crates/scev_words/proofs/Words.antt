-- The words of options: the name ends at the first `=`, and a value is told by its first byte.
use Rattle.std.proofs.Common.{◌≡◌, ℕ, zero, suc, ◌+◌, ◌<◌, Bool, true, false, cond, eqb, ltb, not, List, [], ◌∷◌, ◌++◌}
use Rattle.std.proofs.Common.{length, get_or, Some, None, take, drop, refl, sym, ap, ◌∙◌, add-one, arith}
use Rattle.std.specs.Prelude.{codes, position}
use Rattle.std.specs.Str.{bytes_eq}
use Rattle.std.proofs.lemmas.Bool.{false≢true, lt-ltb}
use Rattle.std.proofs.lemmas.Bool.Decides.{Decides-eqb}
use Rattle.std.proofs.lemmas.List.Quantifiers.{position-Some}
use Rattle.std.proofs.lemmas.Option.{none-some, same_Some}
use Rattle.std.proofs.lemmas.Slice.Eq.{bytes_eq-Decides}
use Rattle.scev_words.specs.Modes.{Name, Function, Args, Steps, name_text, IsValue}
use Rattle.scev_words.specs.Said.{is_equals, is_value, name_of}

-- A name has no `=`,
pub position-name : (name : Name) → position is_equals (name_text name) ≡ None
position-name Function = refl
position-name Args = refl
position-name Steps = refl

found_before : (at all : ℕ) → at < all → cond (ltb at all) (Some at) None ≡ Some at
found_before at all within = rw (lt-ltb at all within) refl

-- so the first one behind a name ends it.
pub position-name_and_value : (name : Name) (value : List ℕ)
    → position is_equals (name_text name ++ (codes "=" ++ value)) ≡ Some (length (name_text name))
position-name_and_value Function value =
    found_before 8 (length (codes "function" ++ (codes "=" ++ value))) (omega arith)
position-name_and_value Args value = found_before 4 (length (codes "args" ++ (codes "=" ++ value))) (omega arith)
position-name_and_value Steps value = found_before 5 (length (codes "steps" ++ (codes "=" ++ value))) (omega arith)

-- A text with an `=` is what stands before it, the `=`, and what stands behind it.
parted : (text : List ℕ) (at : ℕ) → at < length text → get_or text at 0 ≡ 61
    → text ≡ take at text ++ (61 ∷ drop (suc at) text)
parted [] at within e = absurd (omega arith)
parted (c ∷ text) zero within e = ap (λ x. x ∷ text) e
parted (c ∷ text) (suc at) within e = ap (λ x. c ∷ x) (parted text at (omega arith) e)

pub parted_at : (text : List ℕ) (at : ℕ) → position is_equals text ≡ Some at
    → text ≡ take at text ++ (codes "=" ++ drop (at + 1) text)
parted_at text at e =
    let found = position-Some is_equals text at 0 e in
    rw add-one (parted text at found.0 ((Decides-eqb (get_or text at 0) 61).0 found.1))

-- The option of a name is the one that has it.
pub name_of-name : (name : Name) → name_of (name_text name) ≡ Some name
unfolding name_of
name_of-name Function = refl
name_of-name Args = refl
name_of-name Steps = refl

pub one_name : (a b : Name) → name_text a ≡ name_text b → a ≡ b
one_name a b e = same_Some a b (sym (name_of-name a) ∙ (ap name_of e ∙ name_of-name b))

pub named : (text : List ℕ) (name : Name) → name_of text ≡ Some name → text ≡ name_text name
unfolding name_of
named text name e = go (bytes_eq text (codes "function")) (bytes_eq text (codes "args")) (bytes_eq text (codes "steps"))
    refl refl refl e
  where
    go : (f a s : Bool) → bytes_eq text (codes "function") ≡ f → bytes_eq text (codes "args") ≡ a
        → bytes_eq text (codes "steps") ≡ s
        → cond f (Some Function) (cond a (Some Args) (cond s (Some Steps) None)) ≡ Some name
        → text ≡ name_text name
    go true a s f' a' s' e = (bytes_eq-Decides text (codes "function")).0 f' ∙ ap name_text (same_Some Function name e)
    go false true s f' a' s' e = (bytes_eq-Decides text (codes "args")).0 a' ∙ ap name_text (same_Some Args name e)
    go false false true f' a' s' e =
        (bytes_eq-Decides text (codes "steps")).0 s' ∙ ap name_text (same_Some Steps name e)
    go false false false f' a' s' e = absurd (none-some name e)

-- A value has a byte, and its first byte is no `-`.
pub value_is : (text : List ℕ) → is_value text ≡ true → IsValue text
value_is [] e = absurd (false≢true e)
value_is (c ∷ text) e = (λ (h : c ∷ text ≡ []). cc, λ rest (h : c ∷ text ≡ 45 ∷ rest). no_minus (eqb c 45) refl e h)
  where
    no_minus : {rest : List ℕ} (b : Bool) → eqb c 45 ≡ b → not b ≡ true → c ∷ text ≡ 45 ∷ rest → ⊥
    no_minus true f g h = false≢true g
    no_minus false f g h = let is : c ≡ 45 = cc in false≢true (sym f ∙ (Decides-eqb c 45).1 is)

pub is_value-value : (text : List ℕ) → IsValue text → is_value text ≡ true
is_value-value [] value = absurd (value.0 refl)
is_value-value (c ∷ text) value = go (eqb c 45) refl
  where
    go : (b : Bool) → eqb c 45 ≡ b → not b ≡ true
    go true e = absurd (value.1 text (ap (λ x. x ∷ text) ((Decides-eqb c 45).0 e)))
    go false e = refl
