-- The first specification that is left out is found.
use Rattle.std.proofs.Common.{◌≡◌, ℕ, ◌+◌, ◌-◌, ◌<◌, ◌≤◌, List, [], ◌∷◌, ◌++◌, length, drop, take, Contains, Some, None, inl, inr, refl, sym, ap, subst, ◌∙◌, append_assoc, arith}
use Rattle.std.proofs.lemmas.List.{append-nil, length-append, length-drop, drop-drop, drop_at, take_rest}
use Rattle.ir_grammar.specs.Layout.{LeavesOut, IsLayoutFault}
use Rattle.ir_grammar.specs.Layout.IsLayoutFault.{here, later}
use Rattle.ir_items.specs.LayoutScan.{EndsAt, first_part, left_out}
use Rattle.ir_items.proofs.FirstParts.{IsParted, is_parted, parted_once}
use Rattle.ir_items.proofs.LeftOut.{left_out_there, left_out_back}

-- The faults of a layout are those of what is left at a place, which has none before.
pub record FaultsFrom (text rest : List ℕ) (from : ℕ) : Type 0 where
  pub there : (word at : ℕ) → IsLayoutFault rest word at → IsLayoutFault text word (from + at)
  pub back : (word at : ℕ) → IsLayoutFault text word at → (behind : ℕ) × IsLayoutFault rest word behind

-- nothing stands before the beginning
pub faults_begin : (text : List ℕ) → FaultsFrom text text 0
faults_begin text = record {
  there = λ word at fault.
      let same : at ≡ 0 + at = omega arith in subst (λ (n : ℕ). IsLayoutFault text word n) same fault;
  back = λ word at fault. (at, fault);
}

-- nothing is left out under any number
pub none_left_out : (spec : List ℕ) → left_out spec ≡ None → (word : ℕ) → LeavesOut spec word → ⊥
none_left_out spec e word out = let both = sym e ∙ left_out_back spec word out in cc

-- the fault is the first specification's, or one behind it
pub past_first : (spec more : List ℕ) (text : List ℕ) (word at : ℕ) → text ≡ spec ++ 45 ∷ more → (Contains spec 45 → ⊥)
    → ((word : ℕ) → LeavesOut spec word → ⊥) → IsLayoutFault text word at
    → (behind : ℕ) × IsLayoutFault more word behind
past_first spec more text word at parts free fine (here first rest cut without ends out) =
    let same = parted_once 45 spec first (45 ∷ more) rest (sym parts ∙ cut) free without (inr (more, refl)) ends in
    absurd (fine word (subst (λ (first : List ℕ). LeavesOut first word) (sym same.0) out))
past_first spec more text word at parts free fine (later {at = behind} first rest cut without others fault) =
    let same = parted_once 45 spec first (45 ∷ more) (45 ∷ rest) (sym parts ∙ cut) free without (inr (more, refl))
    (inr (rest, refl)) in
    let tails : more ≡ rest = let all = same.1 in cc in
    (behind, subst (λ (rest : List ℕ). IsLayoutFault rest word behind) (sym tails) fault)

-- one specification on
pub faults_on : (text rest more : List ℕ) (from : ℕ) → FaultsFrom text rest from → rest ≡ first_part 45 rest ++ 45 ∷
    more
    → left_out (first_part 45 rest) ≡ None → FaultsFrom text more (from + length (first_part 45 rest) + 1)
faults_on text rest more from so_far parts fine =
    let spec : List ℕ = first_part 45 rest in
    let free : Contains spec 45 → ⊥ = (is_parted 45 rest).free in
    record {
      there = λ word at fault.
          let place : from + (length spec + (1 + at)) ≡ from + length spec + 1 + at = omega arith in
          subst (λ (n : ℕ). IsLayoutFault text word n) place
          (so_far.there word (length spec + (1 + at))
          (later spec more parts free (none_left_out spec fine) fault));
      back = λ word at fault.
          let found = so_far.back word at fault in
          past_first spec more rest word found.0 parts free (none_left_out spec fine) found.1;
    }

-- the first one is left out
pub fault_here : (text rest : List ℕ) (from word : ℕ) → FaultsFrom text rest from
    → left_out (first_part 45 rest) ≡ Some word → IsLayoutFault text word from
fault_here text rest from word so_far out =
    let p = is_parted 45 rest in
    let place : from + 0 ≡ from = omega arith in
    subst (λ (n : ℕ). IsLayoutFault text word n) place
    (so_far.there word 0 (here (first_part 45 rest) p.rest p.parts p.free p.ends
    (left_out_there (first_part 45 rest) word out)))

-- one specification alone that isn't left out
pub no_later : (rest : List ℕ) (word at : ℕ) → (Contains rest 45 → ⊥) → ((word : ℕ) → LeavesOut rest word → ⊥)
    → IsLayoutFault rest word at → ⊥
no_later rest word at free fine (here first behind cut without ends out) =
    let same = parted_once 45 rest first [] behind (append-nil rest ∙ cut) free without (inl refl) ends in
    fine word (subst (λ (first : List ℕ). LeavesOut first word) (sym same.0) out)
no_later rest word at free fine (later first behind cut without others fault) =
    let same = parted_once 45 rest first [] (45 ∷ behind) (append-nil rest ∙ cut) free without (inl refl)
    (inr (behind, refl)) in
    let none = same.1 in cc

-- the first one is the last, and isn't left out
pub no_fault : (text rest : List ℕ) (from : ℕ) → FaultsFrom text rest from → first_part 45 rest ≡ rest
    → left_out (first_part 45 rest) ≡ None → (word at : ℕ) → IsLayoutFault text word at → ⊥
no_fault text rest from so_far all fine word at fault =
    let found = so_far.back word at fault in
    no_later rest word found.0 (subst (λ (spec : List ℕ). Contains spec 45 → ⊥) all (is_parted 45 rest).free)
    (subst (λ (spec : List ℕ). (word : ℕ) → LeavesOut spec word → ⊥) all (none_left_out (first_part 45 rest) fine))
    found.1

-- ---- the first specification of what is left at a place

-- it is taken from the slice that the code looks at
pub the_first : (text first : List ℕ) (from : ℕ) → first ≡ first_part 45 (take (length text - from) (drop from text))
    → first ≡ first_part 45 (drop from text)
the_first text first from e = e ∙ ap (first_part 45) (take_rest text from)

-- what has no length
nothing : (bs : List ℕ) → length bs ≤ 0 → bs ≡ []
nothing [] h = refl
nothing (b ∷ bs) h = absurd (omega arith)

-- it reaches to the end
pub all_first : (text : List ℕ) (from : ℕ) → length text ≤ from + length (first_part 45 (drop from text))
    → first_part 45 (drop from text) ≡ drop from text
all_first text from h =
    let rest = drop from text in
    let p = is_parted 45 rest in
    let none = nothing p.rest (omega (
      arith,
      length-drop from text,
      ap length p.parts,
      length-append (first_part 45 rest) p.rest,
    )) in
    sym (p.parts ∙ (ap (λ (behind : List ℕ). first_part 45 rest ++ behind) none ∙ append-nil (first_part 45 rest)))

-- or a `-` stands behind it
pub more_behind : (text : List ℕ) (from : ℕ) → from + length (first_part 45 (drop from text)) < length text
    → drop from text
    ≡ first_part 45 (drop from text) ++ 45 ∷ drop (from + length (first_part 45 (drop from text)) + 1) text
more_behind text from h = go p.ends
  where
    p : IsParted 45 (drop from text) (first_part 45 (drop from text))
    p = is_parted 45 (drop from text)

    go : EndsAt 45 p.rest → drop from text ≡ first_part 45 (drop from text)
        ++ 45 ∷ drop (from + length (first_part 45 (drop from text)) + 1) text
    go (inl none) = absurd (omega (
      arith,
      length-drop from text,
      ap length p.parts,
      length-append (first_part 45 (drop
          from text)) p.rest,
      ap length none,
    ))
    go (inr some) =
        let spec : List ℕ = first_part 45 (drop from text) in
        let parts : drop from text ≡ spec ++ 45 ∷ some.0 = p.parts ∙ ap (λ (behind : List ℕ). spec ++ behind) some.1 in
        let apart : drop from text ≡ (spec ++ 45 ∷ []) ++ some.0 =
        parts ∙ sym (append_assoc spec (45 ∷ []) some.0) in
        let so_long : length (spec ++ 45 ∷ []) ≡ length spec + 1 = omega (arith, length-append spec (45 ∷ [])) in
        let place : from + (length spec + 1) ≡ from + length spec + 1 = omega arith in
        let behind : drop (from + length spec + 1) text ≡ some.0 =
        ap (λ (n : ℕ). drop n text) (sym place)
        ∙ (sym (drop-drop (length spec + 1) from text)
        ∙ (ap (drop (length spec + 1)) apart
        ∙ drop_at (spec ++ 45 ∷ []) some.0 (length spec + 1) so_long)) in
        parts ∙ ap (λ (more : List ℕ). spec ++ 45 ∷ more) (sym behind)
