-- The walk over a function finds the numbers that are printed.
use Rattle.std.proofs.Common.{◌≡◌, ℕ, zero, suc, ◌+◌, ◌<◌, eqb, Bool, true, false, ◌||◌, List, [], ◌∷◌, ◌++◌, length, fold, refl, sym, ap, subst, ◌∙◌, Some, None, Option, inl, inr, slice_get, slice_set, append_assoc, length-append, is_none, arith}
use mathlib.Core.Path.{fun_ext}
use Rattle.std.specs.List.{filter, All}
use Rattle.std.proofs.lemmas.List.{append-nil}
use Rattle.std.proofs.lemmas.List.Elements.{filter-append}
use Rattle.std.proofs.lemmas.Option.{slice_get_cases, slice_get-map}
use Rattle.std.proofs.lemmas.Bool.{false≢true}
use Rattle.std.proofs.lemmas.Bool.Decides.{nat_tests}
use Rattle.ir_model.specs.declared.function.ValueInfo.{ValueInfo}
use Rattle.ir_model.specs.declared.function.Function.{Function}
use Rattle.ir_model.specs.Sites.{Site, DefinesValue, UsesValue, DefinesBlock, UsesBlock, UsesGlobal, function_sites}
use Rattle.ir_grammar.specs.Numbering.{first_occurrences}
use Rattle.ir_grammar.specs.Printing.{Thing, Value, Block_, same_thing, is_unnamed, defined_things, used_things, unnamed_things, number_of, named_value, named_block, text_or_number, Shown, shown_in}
use Rattle.ir_printer.specs.declared.numbers.Numbers.{Numbers}
use Rattle.ir_model.specs.WellMade.{IsInTable, HasIds}
use Rattle.ir_printer.specs.Counting.{start_of, start, is_missing, counted_value, counted_block, counted}
use Rattle.ir_printer.specs.Shown.{number_or_next}
use Rattle.ir_printer.proofs.Seen.{tested, TellsApart, has, before, added, first_occurrences-more, before-has, before-missing, before-last, has-more}

-- ---- things

same-itself : (x : Thing) → same_thing x x ≡ true
same-itself (Value a) = grind (arith, nat_tests)
same-itself (Block_ a) = grind (arith, nat_tests)

same-other_way : (x y : Thing) → same_thing x y ≡ same_thing y x
same-other_way (Value a) (Value b) = grind (arith, nat_tests)
same-other_way (Block_ a) (Block_ b) = grind (arith, nat_tests)
same-other_way (Value a) (Block_ b) = refl
same-other_way (Block_ a) (Value b) = refl

same_number : (a b : ℕ) → eqb a b ≡ true → a ≡ b
same_number a b e = grind (arith, nat_tests)

other_number : (a b : ℕ) → eqb a b ≡ false → a ≡ b → ⊥
other_number a b e same = grind (arith, nat_tests)

same-equal : (x y : Thing) → same_thing x y ≡ true → x ≡ y
same-equal (Value a) (Value b) e = ap Value (same_number a b e)
same-equal (Block_ a) (Block_ b) e = ap Block_ (same_number a b e)
same-equal (Value a) (Block_ b) e = absurd (false≢true e)
same-equal (Block_ a) (Value b) e = absurd (false≢true e)

tells : TellsApart same_thing
tells = record { itself = same-itself; other_way = same-other_way; equal = same-equal }

-- ---- one step

entry : Numbers → Thing → Option (Option ℕ)
entry n (Value v) = slice_get n.values v
entry n (Block_ b) = slice_get n.blocks b

counted_thing : Numbers → Thing → Numbers
counted_thing n (Value v) = counted_value n v
counted_thing n (Block_ b) = counted_block n b

get_set_same : (xs : List (Option ℕ)) (i : ℕ) (w : Option ℕ) → is_missing (slice_get xs i) ≡ true
    → slice_get (slice_set xs i w) i ≡ Some w
get_set_same [] i w h = absurd (false≢true h)
get_set_same (x ∷ xs) zero w h = refl
get_set_same (x ∷ xs) (suc i) w h = get_set_same xs i w h

get_set_other : (xs : List (Option ℕ)) (i j : ℕ) (w : Option ℕ) → (i ≡ j → ⊥)
    → slice_get (slice_set xs i w) j ≡ slice_get xs j
get_set_other [] i j w h = refl
get_set_other (x ∷ xs) zero zero w h = absurd (h refl)
get_set_other (x ∷ xs) zero (suc j) w h = refl
get_set_other (x ∷ xs) (suc i) zero w h = refl
get_set_other (x ∷ xs) (suc i) (suc j) w h = get_set_other xs i j w (λ e. h (ap suc e))

step_skips : (n : Numbers) (x : Thing) → is_missing (entry n x) ≡ false → counted_thing n x ≡ n
unfolding counted_value counted_block entry counted_thing
step_skips n (Value v) h = rw h refl
step_skips n (Block_ b) h = rw h refl

step_next : (n : Numbers) (x : Thing) → is_missing (entry n x) ≡ true → (counted_thing n x).next ≡ n.next + 1
unfolding counted_value counted_block entry counted_thing
step_next n (Value v) h = rw h refl
step_next n (Block_ b) h = rw h refl

step_here : (n : Numbers) (x : Thing) → is_missing (entry n x) ≡ true → entry (counted_thing n x) x ≡ Some (Some n.next)
unfolding counted_value counted_block entry counted_thing
step_here n (Value v) h = rw h (get_set_same n.values v (Some n.next) h)
step_here n (Block_ b) h = rw h (get_set_same n.blocks b (Some n.next) h)

step_elsewhere : (n : Numbers) (x t : Thing) → is_missing (entry n x) ≡ true → same_thing x t ≡ false
    → entry (counted_thing n x) t ≡ entry n t
unfolding counted_value counted_block entry counted_thing
step_elsewhere n (Value v) (Value u) h other = rw h (get_set_other n.values v u (Some n.next) (other_number v u other))
step_elsewhere n (Block_ b) (Block_ u) h other = rw h
    (get_set_other n.blocks b u (Some n.next) (other_number b u other))
step_elsewhere n (Value v) (Block_ u) h other = rw h refl
step_elsewhere n (Block_ b) (Value u) h other = rw h refl

-- ---- what is counted

-- An entry when some things are counted: what it is at the start, whether the thing is among them, and how many of
-- them are before it.
after : Option (Option ℕ) → Bool → ℕ → Option (Option ℕ)
after None seen k = None
after (Some (Some m)) seen k = Some (Some m)
after (Some None) true k = Some (Some k)
after (Some None) false k = Some None

after_named : (e : Option (Option ℕ)) (seen : Bool) (k : ℕ) → is_missing e ≡ false → after e seen k ≡ e
unfolding after
after_named None seen k h = refl
after_named (Some (Some m)) seen k h = refl
after_named (Some None) seen k h = absurd (false≢true (sym h))

after_start : (e : Option (Option ℕ)) (k : ℕ) → after e false k ≡ e
unfolding after
after_start None k = refl
after_start (Some (Some m)) k = refl
after_start (Some None) k = refl

after_seen : (e : Option (Option ℕ)) (k : ℕ) → is_missing e ≡ true → after e true k ≡ Some (Some k)
unfolding after
after_seen None k h = absurd (false≢true h)
after_seen (Some (Some m)) k h = absurd (false≢true h)
after_seen (Some None) k h = refl

or_false : (b : Bool) → b || false ≡ b
or_false true = refl
or_false false = refl

-- The numbers are those of these things, which have no names.
record Counts (f : Function) (ys : List Thing) (n : Numbers) : Type 0 where
  next : n.next ≡ length ys
  entries : (t : Thing) → entry n t ≡ after (entry (start f) t) (has same_thing t ys) (before same_thing t ys)
  unnamed : (t : Thing) → has same_thing t ys ≡ true → is_missing (entry (start f) t) ≡ true

counts_none : (f : Function) → Counts f [] (start f)
counts_none f = record {
  next = refl;
  entries = λ t. sym (after_start (entry (start f) t) 0);
  unnamed = λ t h. absurd (false≢true h);
}

counts_new : (f : Function) (ys : List Thing) (n : Numbers) (x : Thing)
    → Counts f ys n
    → is_missing (entry (start f) x) ≡ true
    → has same_thing x ys ≡ false
    → Counts f (ys ++ x ∷ []) (counted_thing n x)
counts_new f ys n x counts missing new =
    let start_x = entry (start f) x in
    let missing_now : is_missing (entry n x) ≡ true =
    rw (counts.entries x, new, after_start start_x (before same_thing x ys)) missing in
    record {
      next = step_next n x missing_now ∙ omega (arith, counts.next, length-append ys (x ∷ []));
      entries = λ t. elim (tested (same_thing x t)) [
        | inl e ↦
            let is_x : x ≡ t = same-equal x t e in
            let at_x : entry (counted_thing n x) x
            ≡ after start_x (has same_thing x (ys ++ x ∷ [])) (before same_thing x (ys ++ x ∷ [])) =
            rw (
              step_here n x missing_now,
              has-more same_thing x x ys,
              new,
              same-itself x,
              before-last same_thing x x ys new (same-itself x),
              after_seen start_x (length ys) missing,
            )
            (ap (λ k. Some (Some k)) counts.next) in
            subst (λ (t : Thing). entry (counted_thing n x) t
            ≡ after (entry (start f) t) (has same_thing t (ys ++ x ∷ []))
            (before same_thing t (ys ++ x ∷ []))) is_x at_x
        | inr e ↦
            rw (step_elsewhere n x t missing_now e, counts.entries t, has-more same_thing t x ys, same-other_way t x, e)
            (elim (tested (has same_thing t ys)) [
              | inl h ↦ rw (h, before-has same_thing t ys (x ∷ []) h) refl
              | inr h ↦ rw h (after_start (entry (start f) t) (before same_thing t ys)
                  ∙ sym (after_start (entry (start f) t) (before same_thing t (ys ++ x ∷ []))))
            ])
      ];
      unnamed = λ t h. elim (tested (same_thing x t)) [
        | inl e ↦ subst (λ (t : Thing). is_missing (entry (start f) t) ≡ true) (same-equal x t e) missing
        | inr e ↦
            let less : has same_thing t ys || false
            ≡ true = rw (has-more same_thing t x ys, same-other_way t x, e) at h in
            counts.unnamed t (sym (or_false (has same_thing t ys)) ∙ less)
      ];
    }

-- ---- the whole walk

-- The thing stands in its table.
InTable : Function → Thing → Type 0
InTable f (Value v) = v < length f.values
InTable f (Block_ b) = b < length f.labels

AllInTable : Function → List Thing → Type 0
AllInTable f [] = Unit {0}
AllInTable f (x ∷ xs) = InTable f x × AllInTable f xs

start_missing : (name : Option (List ℕ)) → is_none name ≡ is_missing (Some (start_of name))
start_missing None = refl
start_missing (Some name) = refl

-- What has no name has no number at the start.
unnamed_missing : (f : Function) (x : Thing) → InTable f x → is_unnamed f x ≡ is_missing (entry (start f) x)
unfolding entry InTable
unnamed_missing f (Value v) inside = elim ((slice_get_cases f.values v).1) [
  | inl found ↦ rw (slice_get-map (λ (info : ValueInfo). start_of info.name) f.values v, found.2)
      (start_missing found.0.name)
  | inr past ↦ absurd (omega (arith, past.0))
]
unnamed_missing f (Block_ b) inside = elim ((slice_get_cases f.labels b).1) [
  | inl found ↦ rw (slice_get-map start_of f.labels b, found.2) (start_missing found.0)
  | inr past ↦ absurd (omega (arith, past.0))
]

start_number : (name : Option (List ℕ)) (k : ℕ) → is_none name ≡ true → number_or_next k (Some (start_of name)) ≡ k
start_number None k h = refl
start_number (Some name) k h = absurd (false≢true h)

unnamed_next : (f : Function) (x : Thing) (k : ℕ) → is_unnamed f x ≡ true → number_or_next k (entry (start f) x) ≡ k
unfolding entry
unnamed_next f (Value v) k h = elim ((slice_get_cases f.values v).1) [
  | inl found ↦
      let none : is_none found.0.name ≡ true = rw found.2 at h in
      rw (slice_get-map (λ (info : ValueInfo). start_of info.name) f.values v, found.2)
      (start_number found.0.name k none)
  | inr past ↦ rw (slice_get-map (λ (info : ValueInfo). start_of info.name) f.values v, past.1) refl
]
unnamed_next f (Block_ b) k h = elim ((slice_get_cases f.labels b).1) [
  | inl found ↦
      let none : is_none found.0 ≡ true = rw found.2 at h in
      rw (slice_get-map start_of f.labels b, found.2) (start_number found.0 k none)
  | inr past ↦ rw (slice_get-map start_of f.labels b, past.1) refl
]

seen_of : Function → List Thing → List Thing
seen_of f xs = first_occurrences same_thing (filter (is_unnamed f) xs)

seen_unnamed : (f : Function) (xs : List Thing) (x : Thing) → is_unnamed f x ≡ true
    → seen_of f (xs ++ x ∷ []) ≡ added same_thing (seen_of f xs) x
unfolding seen_of
seen_unnamed f xs x h =
    rw (filter-append (is_unnamed f) xs (x ∷ []), h)
    (first_occurrences-more same_thing tells (filter (is_unnamed f) xs) x)

seen_named : (f : Function) (xs : List Thing) (x : Thing) → is_unnamed f x ≡ false
    → seen_of f (xs ++ x ∷ []) ≡ seen_of f xs
unfolding seen_of
seen_named f xs x h = rw (filter-append (is_unnamed f) xs (x ∷ []), h, append-nil (filter (is_unnamed f) xs)) refl

-- where one more thing gets no number
counts_old : (f : Function) (ys : List Thing) (n : Numbers) (x : Thing) → Counts f ys n
    → is_missing (entry n x) ≡ false → Counts f ys (counted_thing n x)
counts_old f ys n x counts old = rw (step_skips n x old) counts

counts_next : (f : Function) (xs : List Thing) (n : Numbers) (x : Thing)
    → InTable f x
    → Counts f (seen_of f xs) n
    → Counts f (seen_of f (xs ++ x ∷ [])) (counted_thing n x)
counts_next f xs n x inside counts = elim (tested (is_unnamed f x)) [
  | inl u ↦
      let missing : is_missing (entry (start f) x) ≡ true = sym (unnamed_missing f x inside) ∙ u in
      rw (seen_unnamed f xs x u) (elim (tested (has same_thing x (seen_of f xs))) [
        | inl h ↦
            let old : is_missing (entry n x) ≡ false =
            rw (
              counts.entries x,
              h,
              after_seen (entry (start f) x)
                  (before same_thing x (seen_of f xs)) missing,
            ) refl in
            rw h (counts_old f (seen_of f xs) n x counts old)
        | inr h ↦ rw h (counts_new f (seen_of f xs) n x counts missing h)
      ])
  | inr u ↦
      let present : is_missing (entry (start f) x) ≡ false = sym (unnamed_missing f x inside) ∙ u in
      let old : is_missing (entry n x) ≡ false =
      rw (
        counts.entries x,
        after_named (entry (start f) x) (has same_thing x (seen_of f xs))
            (before same_thing x (seen_of f xs)) present,
      ) present in
      rw (seen_named f xs x u) (counts_old f (seen_of f xs) n x counts old)
]

counts_all : (f : Function) (xs ys : List Thing) (n : Numbers)
    → AllInTable f ys
    → Counts f (seen_of f xs) n
    → Counts f (seen_of f (xs ++ ys)) (fold counted_thing n ys)
unfolding AllInTable
counts_all f xs [] n inside counts = rw (append-nil xs) counts
counts_all f xs (y ∷ ys) n inside counts =
    let all = counts_all f (xs ++ y ∷ []) ys (counted_thing n y) inside.1 (counts_next f xs n y inside.0 counts) in
    rw append_assoc at all

-- ---- the sites of a function

tail_in_table : (f : Function) (s : Site) (sites : List Site) → All (IsInTable f) (s ∷ sites) → All (IsInTable f) sites
tail_in_table f s sites all = λ k d inside. all (suc k) d (omega arith)

head_in_table : (f : Function) (s : Site) (sites : List Site) → All (IsInTable f) (s ∷ sites) → IsInTable f s
head_in_table f s sites all = all 0 s (omega arith)

defined_in_table : (f : Function) (sites : List Site) → All (IsInTable f) sites → AllInTable f (defined_things sites)
unfolding AllInTable InTable
defined_in_table f [] all = tt
defined_in_table f (DefinesValue v ∷ sites) all =
    (head_in_table f (DefinesValue v) sites all, defined_in_table f sites (tail_in_table f (DefinesValue v) sites all))
defined_in_table f (DefinesBlock b ∷ sites) all =
    (head_in_table f (DefinesBlock b) sites all, defined_in_table f sites (tail_in_table f (DefinesBlock b) sites all))
defined_in_table f (UsesValue v ∷ sites) all = defined_in_table f sites (tail_in_table f (UsesValue v) sites all)
defined_in_table f (UsesBlock b ∷ sites) all = defined_in_table f sites (tail_in_table f (UsesBlock b) sites all)
defined_in_table f (UsesGlobal g ∷ sites) all = defined_in_table f sites (tail_in_table f (UsesGlobal g) sites all)

used_in_table : (f : Function) (sites : List Site) → All (IsInTable f) sites → AllInTable f (used_things sites)
unfolding AllInTable InTable
used_in_table f [] all = tt
used_in_table f (UsesValue v ∷ sites) all =
    (head_in_table f (UsesValue v) sites all, used_in_table f sites (tail_in_table f (UsesValue v) sites all))
used_in_table f (UsesBlock b ∷ sites) all =
    (head_in_table f (UsesBlock b) sites all, used_in_table f sites (tail_in_table f (UsesBlock b) sites all))
used_in_table f (DefinesValue v ∷ sites) all = used_in_table f sites (tail_in_table f (DefinesValue v) sites all)
used_in_table f (DefinesBlock b ∷ sites) all = used_in_table f sites (tail_in_table f (DefinesBlock b) sites all)
used_in_table f (UsesGlobal g ∷ sites) all = used_in_table f sites (tail_in_table f (UsesGlobal g) sites all)

definitions_counted : (n : Numbers) (sites : List Site)
    → fold (counted false) n sites ≡ fold counted_thing n (defined_things sites)
unfolding counted counted_thing
definitions_counted n [] = refl
definitions_counted n (DefinesValue v ∷ sites) = definitions_counted (counted_value n v) sites
definitions_counted n (DefinesBlock b ∷ sites) = definitions_counted (counted_block n b) sites
definitions_counted n (UsesValue v ∷ sites) = definitions_counted n sites
definitions_counted n (UsesBlock b ∷ sites) = definitions_counted n sites
definitions_counted n (UsesGlobal g ∷ sites) = definitions_counted n sites

uses_counted : (n : Numbers) (sites : List Site)
    → fold (counted true) n sites ≡ fold counted_thing n (used_things sites)
unfolding counted counted_thing
uses_counted n [] = refl
uses_counted n (UsesValue v ∷ sites) = uses_counted (counted_value n v) sites
uses_counted n (UsesBlock b ∷ sites) = uses_counted (counted_block n b) sites
uses_counted n (DefinesValue v ∷ sites) = uses_counted n sites
uses_counted n (DefinesBlock b ∷ sites) = uses_counted n sites
uses_counted n (UsesGlobal g ∷ sites) = uses_counted n sites

-- definitions, and then uses
abbrev pub walked : Function → Numbers
walked f = fold (counted true) (fold (counted false) (start f) (function_sites f)) (function_sites f)

walked_counts : (f : Function) → HasIds f → Counts f (unnamed_things f) (walked f)
unfolding unnamed_things HasIds seen_of
walked_counts f ids =
    let sites = function_sites f in
    let defined = counts_all f [] (defined_things sites) (start f) (defined_in_table f sites ids) (counts_none f) in
    let all = counts_all f (defined_things sites) (used_things sites)
    (fold counted_thing (start f) (defined_things sites)) (used_in_table f sites ids) defined in
    rw (
      definitions_counted (start f) sites,
      uses_counted
          (fold counted_thing (start f) (defined_things sites)) sites,
    ) all

-- ---- what is shown

number_found : (f : Function) (ys : List Thing) (n : Numbers) (t : Thing)
    → Counts f ys n
    → is_unnamed f t ≡ true
    → number_or_next n.next (entry n t) ≡ before same_thing t ys
number_found f ys n t counts u = rw (counts.entries t) (elim (tested (has same_thing t ys)) [
  | inl h ↦ rw (h, after_seen (entry (start f) t) (before same_thing t ys) (counts.unnamed t h)) refl
  | inr h ↦
      rw (
        h,
        after_start (entry (start f) t)
            (before same_thing t ys),
        unnamed_next f t n.next u,
        before-missing same_thing t ys h,
      ) counts.next
])

text_same : (name : Option (List ℕ)) (m n : ℕ) → (is_none name ≡ true → m ≡ n)
    → text_or_number name m ≡ text_or_number name n
text_same None m n same = ap (text_or_number None) (same refl)
text_same (Some name) m n same = refl

abbrev pub shown_by : List (List ℕ) → Function → Numbers → Shown
shown_by globals f n = record {
  values = λ v. text_or_number (named_value f v) (number_or_next n.next (slice_get n.values v));
  labels = λ b. text_or_number (named_block f b) (number_or_next n.next (slice_get n.blocks b));
  globals = globals;
}

shown_with : List (List ℕ) → (ℕ → List ℕ) → (ℕ → List ℕ) → Shown
shown_with globals values labels = record { values = values; labels = labels; globals = globals }

shown_same : (globals : List (List ℕ)) (v w b d : ℕ → List ℕ) → v ≡ w → b ≡ d
    → shown_with globals v b ≡ shown_with globals w d
shown_same globals v w b d values labels = ap (λ x. shown_with globals x b) values
    ∙ ap (λ x. shown_with globals w x) labels

-- The walk shows each value and each block as it is printed.
pub walked_shown : (globals : List (List ℕ)) (f : Function) (n : Numbers) → HasIds f → n ≡ walked f
    → shown_by globals f n ≡ shown_in globals f
unfolding number_of entry shown_with
walked_shown globals f n ids is_walked =
    let counts : Counts f (unnamed_things f) n = rw is_walked (walked_counts f ids) in
    let values = fun_ext (λ (v : ℕ). text_same (named_value f v) (number_or_next n.next (slice_get n.values v))
    (number_of f (Value v)) (number_found f (unnamed_things f) n (Value v) counts)) in
    let labels = fun_ext (λ (b : ℕ). text_same (named_block f b) (number_or_next n.next (slice_get n.blocks b))
    (number_of f (Block_ b)) (number_found f (unnamed_things f) n (Block_ b) counts)) in
    shown_same globals _ _ _ _ values labels
