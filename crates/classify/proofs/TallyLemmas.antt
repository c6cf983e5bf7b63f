-- What a tally says of each number: how often the list has it.
use Rattle.std.specs.Prelude.{◌≡◌, ℕ, zero, suc, ◌+◌, ◌<◌, ◌≤◌, ◌==◌, ◌⊎◌, ◌↔◌, List, [], ◌∷◌, ◌++◌, length, true, cond}
use Rattle.std.specs.Prelude.{get_or, replicate, All, Contains, refl}
use Rattle.std.proofs.Common.{ap, sym, ◌∙◌, subst, arith, inl, inr, length-set, get_or-set_same, get_or-set_other}
use Rattle.std.proofs.lemmas.Bool.{eq-eqb, ne_eqb, cond-true, cond-false, cases_eq}
use Rattle.std.proofs.lemmas.List.{get_or-replicate, length-replicate}
use Rattle.std.proofs.lemmas.List.Elements.{All-contains, Contains-append_cases, Contains-append_left}
use Rattle.std.proofs.lemmas.List.Elements.{Contains-append_right}
use Rattle.std.proofs.lemmas.List.Sums.{sum_by-cons}
use Rattle.classify.specs.declared.tally.Often.{Often}
use Rattle.classify.specs.declared.tally.Often.TheVariants.{Never, Once, Twice}
use Rattle.classify.specs.Names.{AreOnce}
use Rattle.classify.specs.Tally.{more, counted, all_counted, once_if_any}
use Rattle.classify.proofs.DefinedOnce.{times, one_or_none, counted as contained}

-- so many times more
abbrev pub again : ℕ → Often → Often
again zero often = often
again (suc k) often = again k (more often)

twice_stays : (k : ℕ) → again k Twice ≡ Twice
twice_stays zero = refl
twice_stays (suc k) = twice_stays k

times_same : (v x : ℕ) (xs : List ℕ) → x ≡ v → times v (x ∷ xs) ≡ suc (times v xs)
times_same v x xs e =
    let here : one_or_none x v ≡ 1 = cond-true (x == v) 1 0 (eq-eqb x v e) in
    omega (arith, here, sum_by-cons (λ (other : ℕ). cond (other == v) 1 0) x xs)

times_other : (v x : ℕ) (xs : List ℕ) → (x ≡ v → ⊥) → times v (x ∷ xs) ≡ times v xs
times_other v x xs apart =
    let here : one_or_none x v ≡ 0 = cond-false (x == v) 1 0 (ne_eqb x v apart) in
    omega (arith, here, sum_by-cons (λ (other : ℕ). cond (other == v) 1 0) x xs)

pub length_counted : (tally : List Often) (xs : List ℕ) → length (all_counted tally xs) ≡ length tally
length_counted tally [] = refl
length_counted tally (x ∷ xs) =
    length_counted (counted tally x) xs ∙ length-set tally x (more (get_or tally x Never))

often_first : (v x : ℕ) (tally : List Often) (xs : List ℕ) → v < length tally → (x ≡ v) ⊎ (x ≡ v → ⊥)
    → get_or (all_counted (counted tally x) xs) v Never ≡ again (times v xs) (get_or (counted tally x) v Never)
    → get_or (all_counted tally (x ∷ xs)) v Never ≡ again (times v (x ∷ xs)) (get_or tally v Never)
often_first v x tally xs within (inl e) rest =
    let small : x < length tally = omega (arith, e, within) in
    let here : get_or (counted tally x) v Never ≡ more (get_or tally v Never) = subst (λ (w : ℕ). get_or (counted tally x) w Never ≡ more (get_or tally w Never)) e (get_or-set_same tally x (more (get_or tally x Never)) Never small) in
    rest ∙ ap (again (times v xs)) here ∙ sym (ap (λ (k : ℕ). again k (get_or tally v Never)) (times_same v x xs e))
often_first v x tally xs within (inr apart) rest =
    let here : get_or (counted tally x) v Never ≡ get_or tally v Never = get_or-set_other tally x v (more (get_or tally x Never)) Never (λ e. apart (sym e)) in
    rest ∙ ap (again (times v xs)) here ∙ sym (ap (λ (k : ℕ). again k (get_or tally v Never)) (times_other v x xs apart))

-- Each number of the tally stands as often further on as the list has it.
often_after : (v : ℕ) (tally : List Often) (xs : List ℕ) → v < length tally
    → get_or (all_counted tally xs) v Never ≡ again (times v xs) (get_or tally v Never)
often_after v tally [] within = refl
often_after v tally (x ∷ xs) within =
    let size : length (counted tally x) ≡ length tally = length-set tally x (more (get_or tally x Never)) in
    often_first v x tally xs within (cases_eq x v) (often_after v (counted tally x) xs (omega (arith, size, within)))

-- how often a number occurs
abbrev pub often : ℕ → List ℕ → Often
often v xs = again (times v xs) Never

pub often_counted : (n v : ℕ) (xs : List ℕ) → v < n → get_or (all_counted (replicate n Never) xs) v Never ≡ often v xs
often_counted n v xs within =
    often_after v (replicate n Never) xs (omega (arith, within, length-replicate n Never)) ∙ ap (again (times v xs)) (get_or-replicate n v Never Never within)

contained_first : (v x k : ℕ) (xs : List ℕ) → k < length (x ∷ xs) → get_or (x ∷ xs) k v ≡ v → (x ≡ v) ⊎ (x ≡ v → ⊥)
    → (Contains xs v → 1 ≤ times v xs) → 1 ≤ times v (x ∷ xs)
contained_first v x k xs within is (inl e) rest = omega (arith, times_same v x xs e)
contained_first v x zero xs within is (inr apart) rest = absurd (apart is)
contained_first v x (suc k) xs within is (inr apart) rest =
    omega (arith, times_other v x xs apart, rest (k, omega (arith, within), is))

contained_times : (v : ℕ) (xs : List ℕ) → Contains xs v → 1 ≤ times v xs
contained_times v [] h = absurd (omega (arith, h.1))
contained_times v (x ∷ xs) h =
    contained_first v x h.0 xs h.1 h.2 (cases_eq x v) (contained_times v xs)

-- what is defined twice is not fine
twice_not_fine : (o used : Often) → o ≡ Twice → once_if_any o used ≡ true → ⊥
twice_not_fine Never used is h = cc
twice_not_fine Once used is h = cc
twice_not_fine Twice used is h = cc

not_used : (o : Often) → once_if_any Never o ≡ true → o ≡ Never
not_used Never h = refl
not_used Once h = absurd (cc)
not_used Twice h = absurd (cc)

never_again : (k : ℕ) → again k Never ≡ Never → k ≡ 0
never_again zero h = refl
never_again (suc zero) h = absurd (cc)
never_again (suc (suc k)) h = absurd (cc (twice_stays k))

-- a name is fine where it is defined once, or neither defined nor used
fine_once : (d u : ℕ) → once_if_any (again d Never) (again u Never) ≡ true → 1 ≤ d + u → d ≡ 1
fine_once zero u h some =
    omega (arith, some, never_again u (not_used (again u Never) h))
fine_once (suc zero) u h some = refl
fine_once (suc (suc d)) u h some =
    absurd (twice_not_fine (again d Twice) (again u Never) (twice_stays d) h)

once_fine : (d u : ℕ) → (1 ≤ d + u → d ≡ 1) → once_if_any (again d Never) (again u Never) ≡ true
once_fine zero zero once = refl
once_fine zero (suc u) once = absurd (omega (arith, once (omega arith)))
once_fine (suc zero) u once = refl
once_fine (suc (suc d)) u once = absurd (omega (arith, once (omega arith)))

abbrev pub IsFineAt : List Often → List Often → ℕ → Type 0
IsFineAt defined used v = once_if_any (get_or defined v Never) (get_or used v Never) ≡ true

abbrev pub tally_of : ℕ → List ℕ → List Often
tally_of n xs = all_counted (replicate n Never) xs

fine_at : (n v : ℕ) (defined used : List ℕ) → v < n
    → once_if_any (get_or (tally_of n defined) v Never) (get_or (tally_of n used) v Never) ≡ once_if_any (often v defined) (often v used)
fine_at n v defined used within =
    ap (λ (o : Often). once_if_any o (get_or (tally_of n used) v Never)) (often_counted n v defined within) ∙ ap (once_if_any (often v defined)) (often_counted n v used within)

occurs : (v : ℕ) (defined used : List ℕ) → Contains (defined ++ used) v → 1 ≤ times v defined + times v used
occurs v defined used h =
    elim (Contains-append_cases defined used v h) [
      | inl there ↦ omega (arith, contained_times v defined there)
      | inr there ↦ omega (arith, contained_times v used there)
    ]

stands : (v : ℕ) (defined used : List ℕ) → 1 ≤ times v defined + times v used → Contains (defined ++ used) v
stands v defined used some =
    elim (cases_eq (times v defined) 0) [
      | inl none ↦ Contains-append_right defined used v (contained v used (omega (arith, some, none)))
      | inr apart ↦ Contains-append_left defined used v (contained v defined (omega (arith, apart)))
    ]

-- The tallies of what is defined and of what is used tell whether each name is defined once.
pub AreOnce_tallied : (n : ℕ) (defined used : List ℕ) → All (λ v. v < n) (defined ++ used)
    → ((v : ℕ) → v < length (tally_of n defined) → IsFineAt (tally_of n defined) (tally_of n used) v) ↔ AreOnce defined used
AreOnce_tallied n defined used small =
    let size : length (tally_of n defined) ≡ n = length_counted (replicate n Never) defined ∙ length-replicate n Never in (
      λ fine v there.
          let within : v < n = All-contains (λ (w : ℕ). w < n) (defined ++ used) v small there in
          fine_once (times v defined) (times v used) (sym (fine_at n v defined used within) ∙ fine v (omega (arith, size, within))) (occurs v defined used there),
      λ once v inside.
          let within : v < n = omega (arith, size, inside) in
          fine_at n v defined used within ∙ once_fine (times v defined) (times v used) (λ some. once v (stands v defined used some)),
    )

-- the same of tallies that are known to be these
pub AreOnce_counted : (n : ℕ) (defined used : List ℕ) (d u : List Often) → d ≡ tally_of n defined → u ≡ tally_of n used
    → All (λ v. v < n) (defined ++ used) → ((v : ℕ) → v < length d → IsFineAt d u v) ↔ AreOnce defined used
AreOnce_counted n defined used d u is_defined is_used small =
    rw (is_defined, is_used) (AreOnce_tallied n defined used small)

pub same_bound : (n : ℕ) (defined used : List ℕ) (d u : List Often) → d ≡ tally_of n defined → u ≡ tally_of n used
    → length d ≡ length u
same_bound n defined used d u is_defined is_used =
    rw (is_defined, is_used) (length_counted (replicate n Never) defined ∙ sym (length_counted (replicate n Never) used))
