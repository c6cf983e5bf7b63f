-- What stands before the first byte of a kind.
use Rattle.std.proofs.Common.{◌≡◌, ℕ, zero, suc, ◌+◌, ◌≤◌, Bool, true, false, cond, not, nat_lt, ◌==◌, List, [], ◌∷◌, ◌++◌, take, Contains, Some, None, inl, inr, refl, sym, ap, subst, ◌∙◌, arith}
use Rattle.std.specs.List.{position_or_len}
use Rattle.std.proofs.lemmas.Bool.{eqb-true, eq-eqb}
use Rattle.std.proofs.lemmas.Bool.Decides.{nat_tests}
use Rattle.std.proofs.lemmas.List.Elements.{Contains-append_right}
use Rattle.ir_items.specs.LayoutScan.{EndsAt, first_part}

-- ---- one way alone to part a list so

-- no byte is one of none
pub nothing_contained : (b : ℕ) → Contains [] b → ⊥
nothing_contained b found = omega (arith, found.1)

-- the first byte is one of them
first_contained : (b : ℕ) (bs : List ℕ) → Contains (b ∷ bs) b
first_contained b bs = (0, omega arith, refl)

-- what begins there is the byte
begins_so : (b v : ℕ) (vs rest : List ℕ) → EndsAt b rest → rest ≡ v ∷ vs → v ≡ b
begins_so b v vs rest (inl none) e = absurd (let both = sym none ∙ e in cc)
begins_so b v vs rest (inr some) e = let both = sym some.1 ∙ e in cc

-- Both parts are the same, where the byte stands in neither first one and begins both second ones.
pub parted_once : (b : ℕ) (us vs rest other : List ℕ) → us ++ rest ≡ vs ++ other
    → (Contains us b → ⊥) → (Contains vs b → ⊥) → EndsAt b rest → EndsAt b other → (us ≡ vs) × (rest ≡ other)
parted_once b [] [] rest other e free other_free ends end = (refl, e)
parted_once b [] (v ∷ vs) rest other e free other_free ends end =
    let same : v ≡ b = begins_so b v (vs ++ other) rest ends e in
    absurd (other_free (subst (λ (c : ℕ). Contains (c ∷ vs) b) (sym same) (first_contained b vs)))
parted_once b (u ∷ us) [] rest other e free other_free ends end =
    let same : u ≡ b = begins_so b u (us ++ rest) other end (sym e) in
    absurd (free (subst (λ (c : ℕ). Contains (c ∷ us) b) (sym same) (first_contained b us)))
parted_once b (u ∷ us) (v ∷ vs) rest other e free other_free ends end =
    let first : u ≡ v = cc in
    let others : us ++ rest ≡ vs ++ other = cc in
    let same = parted_once b us vs rest other others (λ found. free (Contains-append_right (u ∷ []) us b found))
    (λ found. other_free (Contains-append_right (v ∷ []) vs b found)) ends end in
    (cc, same.1)

-- ---- the first part

-- A text begins with its first part, which has no such byte; one, or nothing, stands behind it.
pub record IsParted (b : ℕ) (text first : List ℕ) : Type 0 where
  pub rest : List ℕ
  pub parts : text ≡ first ++ rest
  pub free : Contains first b → ⊥
  pub ends : EndsAt b rest

-- another byte before makes no difference
not_in_longer : (b c : ℕ) (bs : List ℕ) → (c == b) ≡ false → (Contains bs b → ⊥) → Contains (c ∷ bs) b → ⊥
not_in_longer b c bs differs free (zero, within, is) = let same = eq-eqb c b is in cc
not_in_longer b c bs differs free (suc k, within, is) = free (k, omega arith, is)

-- Such is the part before the first one.
pub is_parted : (b : ℕ) (text : List ℕ) → IsParted b text (first_part b text)
is_parted b [] = record { rest = []; parts = refl; free = nothing_contained b; ends = inl refl }
is_parted b (c ∷ cs) = go (is_parted b cs) (c == b) refl
  where
    go : IsParted b cs (first_part b cs) → (found : Bool) → (c == b) ≡ found
        → IsParted b (c ∷ cs) (take (cond (not found) (1 + position_or_len (λ c. c == b) cs) 0) (c ∷ cs))
    go h true e = record {
      rest = c ∷ cs;
      parts = refl;
      free = nothing_contained b;
      ends = inr (cs, ap (λ (c : ℕ). c ∷ cs) (eqb-true c b e));
    }
    go h false e =
        let more : 1 + position_or_len (λ c. c == b) cs ≡ suc (position_or_len (λ c. c == b) cs) = omega arith in
        rw more (record {
          rest = h.rest;
          parts = ap (λ (cs : List ℕ). c ∷ cs) h.parts;
          free = not_in_longer b c (first_part b cs) e h.free;
          ends = h.ends;
        })

-- ---- the first place of a byte

-- where there is one, and where there is none
pub some_place : (most place found : ℕ) → Some found ≡ cond (nat_lt place most) (Some place) None → found ≡ place
some_place most place found e = go (nat_lt place most) e
  where
    go : (b : Bool) → Some found ≡ cond b (Some place) None → found ≡ place
    go true e = cc
    go false e = absurd cc

pub no_place : (most place : ℕ) → None ≡ cond (nat_lt place most) (Some place) None → most ≤ place
no_place most place e = go (nat_lt place most) refl e
  where
    go : (b : Bool) → nat_lt place most ≡ b → None ≡ cond b (Some place) None → most ≤ place
    go true is e = absurd cc
    go false is e = grind (arith, nat_tests)
