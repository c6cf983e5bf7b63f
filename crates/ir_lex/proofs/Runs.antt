-- The longest run of elements that pass a test, from the start of a list.
use Rattle.std.proofs.Common.{ℕ, ◌≡◌, ◌+◌, Bool, true, false, List, [], ◌∷◌, ◌++◌, length, take, drop, refl, one-add, arith}
use Rattle.std.specs.List.{list_all, prefix_len}
use Rattle.std.proofs.lemmas.Bool.{and_parts, and_from, cond-true, cond-false, cond_both}

-- the first element, if there is one, passes
abbrev pub head_passes : (ℕ → Bool) → List ℕ → Bool
head_passes p [] = false
head_passes p (b ∷ bs) = p b

pub prefix_len-stop : (p : ℕ → Bool) (s : List ℕ) → head_passes p s ≡ false → prefix_len p s ≡ 0
prefix_len-stop p [] h = refl
prefix_len-stop p (b ∷ bs) h = cond-false (p b) _ _ h

pub prefix_len-pass : (p : ℕ → Bool) (w rest : List ℕ)
    → list_all p w ≡ true
    → prefix_len p (w ++ rest) ≡ length w + prefix_len p rest
prefix_len-pass p [] rest h = omega arith
prefix_len-pass p (b ∷ bs) rest h =
    let parts = and_parts (p b) (list_all p bs) h in
    let more = prefix_len-pass p bs rest parts.1 in
    let here = cond-true (p b) (1 + prefix_len p (bs ++ rest)) 0 parts.0 in
    omega arith

-- with a stop behind it, it is the whole run
pub prefix_len-whole : (p : ℕ → Bool) (w rest : List ℕ)
    → list_all p w ≡ true
    → head_passes p rest ≡ false
    → prefix_len p (w ++ rest) ≡ length w
prefix_len-whole p w rest h stop = omega (arith, prefix_len-pass p w rest h, prefix_len-stop p rest stop)

pub list_all-prefix : (p : ℕ → Bool) (s : List ℕ) → list_all p (take (prefix_len p s) s) ≡ true
list_all-prefix p [] = refl
list_all-prefix p (b ∷ bs) =
    cond_both (p b) (1 + prefix_len p bs) 0 (λ k. list_all p (take k (b ∷ bs)) ≡ true)
    (λ e. rw one-add (and_from (p b) _ e (list_all-prefix p bs)))
    (λ e. refl)

pub head_passes-drop : (p : ℕ → Bool) (s : List ℕ) → head_passes p (drop (prefix_len p s) s) ≡ false
head_passes-drop p [] = refl
head_passes-drop p (b ∷ bs) =
    cond_both (p b) (1 + prefix_len p bs) 0 (λ k. head_passes p (drop k (b ∷ bs)) ≡ false)
    (λ e. rw one-add (head_passes-drop p bs))
    (λ e. e)
