-- Entries from one block have one operand where each has that of the first.
use Rattle.std.proofs.Common.{arith, ◌≡◌, ℕ, zero, suc, ◌+◌, ◌<◌, ◌==◌, Bool, true, false, cond, not, ◌||◌, ◌&&◌, List}
use Rattle.std.proofs.Common.{[], ◌∷◌, ◌++◌, length, get_or, take, drop, take-append-drop, Option, Some, None}
use Rattle.std.proofs.Common.{unwrap_or, refl, sym, ap, ◌∙◌}
use Rattle.std.specs.List.{list_all, All, Contains}
use Rattle.std.specs.Bool.{Decides}
use Rattle.std.specs.Option.{option_or}
use Rattle.std.proofs.lemmas.Bool.{eqb-true, eq-eqb}
use Rattle.std.proofs.lemmas.Bool.Decides.{Decides-eqb, Decides-and, Decides-at, Decides-like, Decides-by_and}
use Rattle.std.proofs.lemmas.Bool.Decides.{same_from_decides}
use Rattle.std.proofs.lemmas.Option.{none-some, same_Some}
use Rattle.std.proofs.lemmas.List.{drop_more}
use Rattle.std.proofs.lemmas.List.Elements.{All-weaker, All-contains, All-contains_itself, Contains-append_right}
use Rattle.std.proofs.lemmas.Grind.{common_steps}
use Rattle.scev_base.specs.Residue.{residue}
use Rattle.ir_model.specs.declared.types.IrType.{IrType}
use Rattle.ir_model.specs.declared.op.Operand.{Operand}
use Rattle.ir_model.specs.declared.op.Operand.TheVariants as operand
use Rattle.ir_model.specs.declared.op.PhiEntry.{PhiEntry}
use Rattle.ir_rules.specs.Types.{width_of}
use Rattle.ir_rules.specs.Blocks.{same_operand, entries_agree}

-- an operand's variant and its number
abbrev variant : Operand → ℕ
variant (operand.Reg v) = 0
variant (operand.Num n) = 1
variant operand.Null = 2
variant (operand.Global g) = 3
variant operand.Undef = 4
variant operand.Poison = 5

abbrev number : IrType → Operand → ℕ
number kind (operand.Reg v) = v.0
number kind (operand.Num n) = residue (width_of kind) n
number kind (operand.Global g) = g
number kind _ = 0

same_parts : (kind : IrType) (one other : Operand)
    → same_operand kind one other ≡ ((variant one == variant other) && (number kind one == number kind other))
same_parts kind one other = grind (arith, common_steps)

-- two operands are one
abbrev Same : IrType → Operand → Operand → Type 0
Same kind one other = (variant one ≡ variant other) × (number kind one ≡ number kind other)

same_decides : (kind : IrType) (one other : Operand) → Decides (same_operand kind one other) (Same kind one other)
same_decides kind one other = Decides-at (same_operand kind one other)
    ((variant one == variant other) && (number kind one == number kind other)) (same_parts kind one other)
    (Decides-and (variant one == variant other) (number kind one == number kind other)
    (Decides-eqb (variant one) (variant other)) (Decides-eqb (number kind one) (number kind other)))

implies_decides : {P Q : Type 0} (b s : Bool) → Decides b P → Decides s Q → Decides (not b || s) (P → Q)
implies_decides true s p q = (λ e _. q.0 e, λ h. q.1 (h (p.0 refl)))
implies_decides false s p q = (λ _ h. absurd (none_false (p.1 h)), λ _. refl)
  where
    none_false : false ≡ true → ⊥
    none_false e = cc

-- two entries have one operand where they are from one block
abbrev Agree : IrType → PhiEntry → PhiEntry → Type 0
Agree kind one other = one.from.0 ≡ other.from.0 → Same kind one.value other.value

agree_decides : (kind : IrType) (entries : List PhiEntry) → Decides (entries_agree kind entries)
    (All (λ one. All (Agree kind one) entries) entries)
agree_decides kind entries = Decides-by_and
    (λ (one : PhiEntry). list_all (λ (other : PhiEntry).
    not (one.from.0 == other.from.0) || same_operand kind one.value other.value) entries)
    (λ one. All (Agree kind one) entries)
    (list_all (λ (one : PhiEntry). list_all (λ (other : PhiEntry).
    not (one.from.0 == other.from.0) || same_operand kind one.value other.value) entries))
    (λ (one : PhiEntry). Decides-by_and
    (λ (other : PhiEntry). not (one.from.0 == other.from.0) || same_operand kind one.value other.value)
    (Agree kind one)
    (list_all (λ (other : PhiEntry). not (one.from.0 == other.from.0) || same_operand kind one.value other.value))
    (λ (other : PhiEntry). implies_decides (one.from.0 == other.from.0) (same_operand kind one.value other.value)
    (Decides-eqb one.from.0 other.from.0) (same_decides kind one.value other.value)) refl (λ _ _. refl) entries)
    refl (λ _ _. refl) entries

-- the operand of the first entry from a block
abbrev pub first_in : List PhiEntry → ℕ → Option Operand
first_in [] q = None
first_in (entry ∷ entries) q = cond (entry.from.0 == q) (Some entry.value) (first_in entries q)

first_in-append : (xs ys : List PhiEntry) (q : ℕ) → first_in (xs ++ ys) q ≡ option_or (first_in xs q) (first_in ys q)
first_in-append [] ys q = refl
first_in-append (x ∷ xs) ys q = go (x.from.0 == q) (first_in-append xs ys q)
  where
    go : (b : Bool) → first_in (xs ++ ys) q ≡ option_or (first_in xs q) (first_in ys q)
        → cond b (Some x.value) (first_in (xs ++ ys) q)
        ≡ option_or (cond b (Some x.value) (first_in xs q)) (first_in ys q)
    go true rest = refl
    go false rest = rest

pub first_in-push : (xs : List PhiEntry) (x : PhiEntry) (q : ℕ)
    → first_in (xs ++ x ∷ []) q ≡ option_or (first_in xs q) (cond (x.from.0 == q) (Some x.value) None)
first_in-push xs x q = first_in-append xs (x ∷ []) q

-- an entry's block has a first one
first_there : (entries : List PhiEntry) (one : PhiEntry) (k : ℕ) → k < length entries → get_or entries k one ≡ one
    → (v : Operand) × (first_in entries one.from.0 ≡ Some v)
first_there [] one k within is = absurd (omega arith)
first_there (x ∷ xs) one zero within is = (
  x.value,
  ap (λ b. cond b (Some x.value) (first_in xs one.from.0))
      (eq-eqb x.from.0 one.from.0 (ap (λ (entry : PhiEntry). entry.from.0) is)),
)
first_there (x ∷ xs) one (suc k) within is =
    go (x.from.0 == one.from.0) (first_there xs one k (omega arith) is)
  where
    go : (b : Bool) → (v : Operand) × (first_in xs one.from.0 ≡ Some v)
        → (v : Operand) × (cond b (Some x.value) (first_in xs one.from.0) ≡ Some v)
    go true rest = (x.value, refl)
    go false rest = rest

-- the first entry of a block is one of the entries
first_is : (entries : List PhiEntry) (q : ℕ) (v : Operand) → first_in entries q ≡ Some v
    → (entry : PhiEntry) × Contains entries entry × (entry.from.0 ≡ q) × (entry.value ≡ v)
first_is [] q v is = absurd (none-some v is)
first_is (x ∷ xs) q v is = go (x.from.0 == q) refl is (first_is xs q v)
  where
    go : (b : Bool) → (x.from.0 == q) ≡ b → cond b (Some x.value) (first_in xs q) ≡ Some v
        → (first_in xs q ≡ Some v → (entry : PhiEntry) × Contains xs entry × (entry.from.0 ≡ q) × (entry.value ≡ v))
        → (entry : PhiEntry) × Contains (x ∷ xs) entry × (entry.from.0 ≡ q) × (entry.value ≡ v)
    go true e h behind = (x, (0, omega arith, refl), eqb-true x.from.0 q e, same_Some x.value v h)
    go false e h behind =
        let rest = behind h in
        (rest.0, Contains-append_right (x ∷ []) xs rest.0 rest.1, rest.2, rest.3)

-- whether an entry has the operand of the first from its block
abbrev pub fits_first : IrType → List PhiEntry → PhiEntry → Bool
fits_first kind entries entry = same_operand kind (unwrap_or (first_in entries entry.from.0) entry.value) entry.value

abbrev FitsFirst : IrType → List PhiEntry → PhiEntry → Type 0
FitsFirst kind entries entry = Same kind (unwrap_or (first_in entries entry.from.0) entry.value) entry.value

firsts_decide : (kind : IrType) (entries : List PhiEntry)
    → Decides (list_all (fits_first kind entries) entries) (All (FitsFirst kind entries) entries)
firsts_decide kind entries = Decides-by_and (fits_first kind entries) (FitsFirst kind entries)
    (list_all (fits_first kind entries))
    (λ (entry : PhiEntry). same_decides kind (unwrap_or (first_in entries entry.from.0) entry.value) entry.value)
    refl (λ _ _. refl) entries

all_agree : (kind : IrType) (entries : List PhiEntry) → All (FitsFirst kind entries) entries
    → All (λ one. All (Agree kind one) entries) entries
all_agree kind entries all = All-weaker (Contains entries) (λ one. All (Agree kind one) entries)
    (λ one there. All-weaker (Contains entries) (Agree kind one)
    (λ other there' from. two one other (first_there entries one there.0 there.1 there.2)
    (All-contains (FitsFirst kind entries) entries one all there)
    (All-contains (FitsFirst kind entries) entries other all there') from)
    entries (All-contains_itself entries)) entries (All-contains_itself entries)
  where
    two : (one other : PhiEntry) → (v : Operand) × (first_in entries one.from.0 ≡ Some v)
        → FitsFirst kind entries one → FitsFirst kind entries other → Agree kind one other
    two one other first fits fits' from =
        let is = ap (λ o. unwrap_or o one.value) first.1 in
        let is' = ap (λ o. unwrap_or o other.value) (ap (first_in entries) (sym from) ∙ first.1) in
        let s : Same kind first.0 one.value = rw is at fits in
        let s' : Same kind first.0 other.value = rw is' at fits' in
        (sym s.0 ∙ s'.0, sym s.1 ∙ s'.1)

all_fit : (kind : IrType) (entries : List PhiEntry) → All (λ one. All (Agree kind one) entries) entries
    → All (FitsFirst kind entries) entries
all_fit kind entries all = All-weaker (Contains entries) (FitsFirst kind entries)
    (λ one there. go one there (first_in entries one.from.0) refl) entries (All-contains_itself entries)
  where
    go : (one : PhiEntry) → Contains entries one → (o : Option Operand) → first_in entries one.from.0 ≡ o
        → Same kind (unwrap_or o one.value) one.value
    go one there None e = (refl, refl)
    go one there (Some v) e =
        let first = first_is entries one.from.0 v e in
        let agree : All (Agree kind first.0) entries =
        All-contains (λ one. All (Agree kind one) entries) entries first.0 all first.1 in
        let same : Same kind first.0.value one.value =
        All-contains (Agree kind first.0) entries one agree there first.2 in
        (ap variant (sym first.3) ∙ same.0, ap (number kind) (sym first.3) ∙ same.1)

-- Entries from one block have one operand where each has that of the first.
pub firsts_agree : (kind : IrType) (entries : List PhiEntry)
    → list_all (fits_first kind entries) entries ≡ entries_agree kind entries
firsts_agree kind entries = same_from_decides (list_all (fits_first kind entries) entries) (entries_agree kind entries)
    (Decides-like (list_all (fits_first kind entries) entries) (all_agree kind entries) (all_fit kind entries)
    (firsts_decide kind entries)) (agree_decides kind entries)

module _ (entries : List PhiEntry) (i : ℕ) (d : PhiEntry) (within : i < length entries) where
  -- the first operand from an entry's block, among those before it and among all
  first_whole : unwrap_or (first_in (take i entries) (get_or entries i d).from.0) (get_or entries i d).value
      ≡ unwrap_or (first_in entries (get_or entries i d).from.0) (get_or entries i d).value
  first_whole =
      let entry = get_or entries i d in
      let q = entry.from.0 in
      let here : first_in (drop i entries) q ≡ Some entry.value =
      ap (λ rest. first_in rest q) (drop_more entries i d within)
      ∙ ap (λ b. cond b (Some entry.value) (first_in (drop (i + 1) entries) q)) (eq-eqb q q refl) in
      let whole : first_in entries q ≡ option_or (first_in (take i entries) q) (Some entry.value) =
      ap (λ all. first_in all q) (sym (take-append-drop i entries))
      ∙ (first_in-append (take i entries) (drop i entries) q ∙ ap (option_or (first_in (take i entries) q)) here) in
      go entry.value (first_in (take i entries) q) ∙ ap (λ o. unwrap_or o entry.value) (sym whole)
    where
      go : (v : Operand) (o : Option Operand) → unwrap_or o v ≡ unwrap_or (option_or o (Some v)) v
      go v None = refl
      go v (Some w) = refl

  -- an entry has the operand of the first from its block where it has the one that was noted, or none was
  pub fits_noted : (kind : IrType) (noted : Option Operand) (first : Operand)
      → noted ≡ first_in (take i entries) (get_or entries i d).from.0
      → first ≡ unwrap_or noted (get_or entries i d).value
      → fits_first kind entries (get_or entries i d) ≡ same_operand kind first (get_or entries i d).value
  fits_noted kind noted first is first_is =
      let entry = get_or entries i d in
      ap (λ v. same_operand kind v entry.value)
      (sym (first_is ∙ (ap (λ o. unwrap_or o entry.value) is ∙ first_whole)))
