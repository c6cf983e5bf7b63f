-- Callees are read: one whose calls are dropped, where no result stands before the call, and one that may be called.
use Rattle.std.proofs.Common.{◌≡◌, ℕ, Bool, true, false, ◌&&◌, ◌||◌, not, if◌then◌else◌, List, [], ◌∷◌, ◌++◌, length, take, drop, Option, Some, None, inl, inr, refl, sym, ap, subst, ◌∙◌, nat_eq, codes}
use Rattle.std.specs.List.{find, starts_with}
use Rattle.std.specs.Option.{is_some, option_and_then}
use Rattle.std.specs.Str.{bytes_eq}
use Rattle.std.proofs.lemmas.Bool.{cases_Bool, and_parts, or_cases, or_from, or_left, or_right, not-true, not_from_false}
use Rattle.std.proofs.lemmas.List.{take-append-drop}
use Rattle.std.proofs.lemmas.Slice.Eq.{bytes_eq-Decides}
use Rattle.ir_model.specs.declared.min_max.MinMax.{MinMax}
use Rattle.ir_model.specs.declared.min_max.MinMax.TheVariants.{Umin, Umax, Smin, Smax}
use Rattle.ir_model.specs.Callees.{is_plain_numeral, is_numbered, min_max_front, all_min_max, is_min_max}
use Rattle.ir_text.specs.Bytes.{is_letter, begins_word}
use Rattle.ir_text.specs.Names.{is_word}
use Rattle.ir_text.specs.Tokens.{Lexeme}
use Rattle.ir_text.specs.Listed.{global}
use Rattle.ir_text.specs.Language.{one}
use Rattle.ir_text.specs.Written.{IsGlobal}
use Rattle.ir_text.specs.Said.{said_global}
use Rattle.ir_grammar.specs.Operations.{is_intrinsic, IsCallee}
use Rattle.ir_grammar.specs.Functions.{is_dropped_name, IsDroppedCallee}
use Rattle.ir_parts.specs.Reading.{one_at}
use Rattle.ir_parts.proofs.Readers.{IsReader, Anything, one_reads}
use Rattle.ir_parts.proofs.SaidNames.{global_there, global_back}
use Rattle.ir_functions.specs.declared.calls.Callee.{Callee}
use Rattle.ir_functions.specs.declared.calls.Callee.TheVariants.{Dropped, Named}
use Rattle.ir_functions.specs.Calls.{callee_named, callee_of}

-- ---- dropped names

-- What doesn't begin with some bytes doesn't begin with more.
longer : (short more name : List ℕ) → bytes_eq short (take (length short) name) ≡ false
    → bytes_eq (short ++ more) (take (length (short ++ more)) name) ≡ false
longer [] more name e = absurd cc
longer (x ∷ short) more [] e = refl
longer (x ∷ short) more (y ∷ name) e = of_first (nat_eq x y) (longer short more name) e
  where
    of_first : (b : Bool)
        → (bytes_eq short (take (length short) name) ≡ false
        → bytes_eq (short ++ more) (take (length (short ++ more)) name) ≡ false)
        → (b && bytes_eq short (take (length short) name)) ≡ false
        → (b && bytes_eq (short ++ more) (take (length (short ++ more)) name)) ≡ false
    of_first true others e = others e
    of_first false others e = refl

-- What is no intrinsic isn't dropped.
plain_kept : (name : List ℕ) → is_intrinsic name ≡ false → is_dropped_name name ≡ false
plain_kept name e =
    or_from (starts_with nat_eq name (codes "llvm.dbg.")) (starts_with nat_eq name (codes "llvm.lifetime."))
    (longer (codes "llvm.") (codes "dbg.") name e) (longer (codes "llvm.") (codes "lifetime.") name e)

-- Nor is what begins as the name of a minimum or a maximum: the first byte behind `llvm.` tells it apart.
front_kept : (kind : MinMax) (digits : List ℕ) → is_dropped_name (min_max_front kind ++ digits) ≡ false
front_kept Umin digits = refl
front_kept Umax digits = refl
front_kept Smin digits = refl
front_kept Smax digits = refl

numbered_kept : (kind : MinMax) (name : List ℕ) → is_numbered name (min_max_front kind) ≡ true
    → is_dropped_name name ≡ false
numbered_kept kind name e =
    let front : List ℕ = min_max_front kind in
    let digits : List ℕ = drop (length front) name in
    let begun = (and_parts (starts_with nat_eq name front) (is_plain_numeral digits) e).0 in
    let first : front ≡ take (length front) name = (bytes_eq-Decides front (take (length front) name)).0 begun in
    ap is_dropped_name (sym (take-append-drop (length front) name)
    ∙ ap (λ (bytes : List ℕ). bytes ++ digits) (sym first)) ∙ front_kept kind digits

minimum_kept : (name : List ℕ) → is_min_max name ≡ true → is_dropped_name name ≡ false
minimum_kept name e = among all_min_max e
  where
    among : (kinds : List MinMax)
        → is_some (find (λ kind. is_numbered name (min_max_front kind)) kinds) ≡ true → is_dropped_name name ≡ false
    among [] e = absurd cc
    among (kind ∷ kinds) e = elim (cases_Bool (is_numbered name (min_max_front kind))) [
      | inl is ↦ numbered_kept kind name is
      | inr other ↦ among kinds (rw other at e)
    ]

-- ---- what may be called

callee_kept : (name : List ℕ) → IsCallee name → is_dropped_name name ≡ false
callee_kept name (inl plain) = plain_kept name plain
callee_kept name (inr minimum) = minimum_kept name minimum

may_be_called : (name : List ℕ) → (not (is_intrinsic name) || is_min_max name) ≡ true → IsCallee name
may_be_called name e = elim (or_cases (not (is_intrinsic name)) (is_min_max name) e) [
  | inl plain ↦ inl (not-true (is_intrinsic name) plain)
  | inr minimum ↦ inr minimum
]

may_called : (name : List ℕ) → IsCallee name → (not (is_intrinsic name) || is_min_max name) ≡ true
may_called name (inl plain) =
    or_left (not (is_intrinsic name)) (is_min_max name) (not_from_false (is_intrinsic name) plain)
may_called name (inr minimum) = or_right (not (is_intrinsic name)) (is_min_max name) minimum

-- ---- what a name is read as

named_there : (has_result : Bool) (found name : List ℕ) → callee_named has_result found ≡ Some (Named name)
    → (found ≡ name) × IsCallee name
named_there has_result found name e =
    by has_result (is_dropped_name found) (not (is_intrinsic found) || is_min_max found) refl e
  where
    by : (has_result dropped may : Bool) → (not (is_intrinsic found) || is_min_max found) ≡ may
        → ◌≡◌ {A = Option Callee} (if dropped then (if has_result then None else Some Dropped)
        else (if may then Some (Named found) else None)) (Some (Named name))
        → (found ≡ name) × IsCallee name
    by true true may is e = absurd cc
    by false true may is e = absurd cc
    by has_result false false is e = absurd cc
    by has_result false true is e =
        let same : found ≡ name = cc in
        (same, subst (λ (name : List ℕ). IsCallee name) same (may_be_called found is))

named_back : (has_result : Bool) (name : List ℕ) → IsCallee name
    → callee_named has_result name ≡ Some (Named name)
named_back has_result name l = rw (callee_kept name l, may_called name l) refl

dropped_there : (found : List ℕ) → callee_named false found ≡ Some Dropped → is_dropped_name found ≡ true
dropped_there found e = by (is_dropped_name found) (not (is_intrinsic found) || is_min_max found) e
  where
    by : (dropped may : Bool) → ◌≡◌ {A = Option Callee} (if dropped then Some Dropped
        else (if may then Some (Named found) else None)) (Some Dropped) → dropped ≡ true
    by true may e = refl
    by false true e = absurd cc
    by false false e = absurd cc

never_dropped : (found : List ℕ) → callee_named true found ≡ Some Dropped → ⊥
never_dropped found e = by (is_dropped_name found) (not (is_intrinsic found) || is_min_max found) e
  where
    by : (dropped may : Bool) → ◌≡◌ {A = Option Callee} (if dropped then None
        else (if may then Some (Named found) else None)) (Some Dropped) → ⊥
    by true may e = cc
    by false true e = cc
    by false false e = cc

-- ---- tokens

-- The token names a global that is such a callee.
record Said (has_result : Bool) (callee : Callee) (t : Lexeme) : Type 0 where
  name : List ℕ
  is_global : IsGlobal name t
  named : callee_named has_result name ≡ Some callee

said : (has_result : Bool) (callee : Callee) (t : Lexeme) → callee_of has_result t ≡ Some callee
    → Said has_result callee t
said has_result callee t e = of_name (said_global t) refl e
  where
    of_name : (found : Option (List ℕ)) → said_global t ≡ found
        → option_and_then (callee_named has_result) found ≡ Some callee → Said has_result callee t
    of_name None is e = absurd cc
    of_name (Some name) is e = record { name = name; is_global = global_there name t is; named = e }

-- The callee is this one.
abbrev pub IsRead : Bool → Callee → Lexeme → Type 0
IsRead has_result callee t = callee_of has_result t ≡ Some callee

pub named_read : (has_result : Bool) (name : List ℕ) (t : Lexeme) → IsRead has_result (Named name) t
    → IsGlobal name t × IsCallee name
named_read has_result name t e =
    let found = said has_result (Named name) t e in
    let named = named_there has_result found.name name found.named in
    (subst (λ (name : List ℕ). IsGlobal name t) named.0 found.is_global, named.1)

pub named_reads : (has_result : Bool) (name : List ℕ) (t : Lexeme) → IsGlobal name t → IsCallee name
    → IsRead has_result (Named name) t
named_reads has_result name t is callee =
    ap (option_and_then (callee_named has_result)) (global_back name t is) ∙ named_back has_result name callee

pub dropped_read : (t : Lexeme) → IsRead false Dropped t → IsDroppedCallee t
dropped_read t e =
    let found = said false Dropped t e in (found.name, found.is_global, dropped_there found.name found.named)

pub dropped_reads : (t : Lexeme) → IsDroppedCallee t → IsRead false Dropped t
dropped_reads t l =
    ap (option_and_then (callee_named false)) (global_back l.0 t l.1) ∙ rw l.2 refl

pub dropped_never : (t : Lexeme) → IsRead true Dropped t → ⊥
dropped_never t e =
    let found = said true Dropped t e in never_dropped found.name found.named

a_global : IsGlobal (codes "a") (global (codes "a"))
unfolding is_word begins_word is_letter
a_global = (refl, codes "a", refl, inl (refl, refl))

pub callee_reads : (has_result : Bool)
    → IsReader (one_at (callee_of has_result)) (λ callee. one (IsRead has_result callee)) Anything
callee_reads has_result =
    one_reads (callee_of has_result) (IsRead has_result) (λ callee t e. e) (λ callee t e. e)
    (Named (codes "a")) (global (codes "a"))
    (named_reads has_result (codes "a") (global (codes "a")) a_global (inl refl))
