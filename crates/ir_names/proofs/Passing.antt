-- A walk past some mentions, and then past more.
use Rattle.std.proofs.Common.{◌≡◌, ℕ, List, [], ◌∷◌, ◌++◌, Some, None, map, refl, sym, ap, ◌∙◌, subst, Bool}
use Rattle.std.specs.List.{flat_map}
use Rattle.std.specs.Str.{bytes_eq}
use Rattle.std.proofs.lemmas.List.{map-append}
use Rattle.std.proofs.lemmas.List.Concat.{flat_map_single}
use Rattle.ir_text.specs.Mentions.{Mention}
use Rattle.ir_text.specs.Mentions as mention
use Rattle.ir_model.specs.Sites.{Site}
use Rattle.ir_grammar.specs.Numbering.{Tables, named, next_after, or_next, value_names, label_names, global_names, same_name, StandsFor, EachMatches}
use Rattle.ir_lex.specs.Tokenized.{Tokenized}
use Rattle.ir_parts.specs.Places.{mention_at, mentions_at}
use Rattle.ir_names.specs.declared.seen.Seen.{Seen}
use Rattle.ir_names.specs.Growing.{with_names, IsPrefix}
use Rattle.ir_names.specs.Renumbered.{next_behind, Passes, Grows, Becomes}
use Rattle.ir_names.proofs.Growing.{IsPrefix-trans, with_names-prefix, with_names-append}

pub named-append : (n : ℕ) (ms ns : List Mention) → named n (ms ++ ns) ≡ named n ms ++ named (next_behind n ms) ns
named-append n [] ns = refl
named-append n (mention.DefinesValue w ∷ ms) ns =
    ap (λ xs. mention.DefinesValue (Some (or_next w n)) ∷ xs) (named-append (next_after n (or_next w n)) ms ns)
named-append n (mention.DefinesBlock w ∷ ms) ns =
    ap (λ xs. mention.DefinesBlock (Some (or_next w n)) ∷ xs) (named-append (next_after n (or_next w n)) ms ns)
named-append n (mention.UsesValue name ∷ ms) ns = ap (λ xs. mention.UsesValue name ∷ xs) (named-append n ms ns)
named-append n (mention.UsesBlock name ∷ ms) ns = ap (λ xs. mention.UsesBlock name ∷ xs) (named-append n ms ns)
named-append n (mention.UsesGlobal name ∷ ms) ns = ap (λ xs. mention.UsesGlobal name ∷ xs) (named-append n ms ns)

next_behind-append : (n : ℕ) (ms ns : List Mention) → next_behind n (ms ++ ns) ≡ next_behind (next_behind n ms) ns
next_behind-append n [] ns = refl
next_behind-append n (mention.DefinesValue w ∷ ms) ns = next_behind-append (next_after n (or_next w n)) ms ns
next_behind-append n (mention.DefinesBlock w ∷ ms) ns = next_behind-append (next_after n (or_next w n)) ms ns
next_behind-append n (mention.UsesValue name ∷ ms) ns = next_behind-append n ms ns
next_behind-append n (mention.UsesBlock name ∷ ms) ns = next_behind-append n ms ns
next_behind-append n (mention.UsesGlobal name ∷ ms) ns = next_behind-append n ms ns

value_names-append : (ms ns : List Mention) → value_names (ms ++ ns) ≡ value_names ms ++ value_names ns
value_names-append [] ns = refl
value_names-append (mention.DefinesValue (Some name) ∷ ms) ns = ap (λ xs. name ∷ xs) (value_names-append ms ns)
value_names-append (mention.DefinesValue None ∷ ms) ns = value_names-append ms ns
value_names-append (mention.UsesValue name ∷ ms) ns = ap (λ xs. name ∷ xs) (value_names-append ms ns)
value_names-append (mention.DefinesBlock w ∷ ms) ns = value_names-append ms ns
value_names-append (mention.UsesBlock name ∷ ms) ns = value_names-append ms ns
value_names-append (mention.UsesGlobal name ∷ ms) ns = value_names-append ms ns

label_names-append : (ms ns : List Mention) → label_names (ms ++ ns) ≡ label_names ms ++ label_names ns
label_names-append [] ns = refl
label_names-append (mention.DefinesBlock (Some name) ∷ ms) ns = ap (λ xs. name ∷ xs) (label_names-append ms ns)
label_names-append (mention.DefinesBlock None ∷ ms) ns = label_names-append ms ns
label_names-append (mention.UsesBlock name ∷ ms) ns = ap (λ xs. name ∷ xs) (label_names-append ms ns)
label_names-append (mention.DefinesValue w ∷ ms) ns = label_names-append ms ns
label_names-append (mention.UsesValue name ∷ ms) ns = label_names-append ms ns
label_names-append (mention.UsesGlobal name ∷ ms) ns = label_names-append ms ns

global_names-append : (ms ns : List Mention) → global_names (ms ++ ns) ≡ global_names ms ++ global_names ns
global_names-append [] ns = refl
global_names-append (mention.UsesGlobal name ∷ ms) ns = ap (λ xs. name ∷ xs) (global_names-append ms ns)
global_names-append (mention.DefinesValue w ∷ ms) ns = global_names-append ms ns
global_names-append (mention.UsesValue name ∷ ms) ns = global_names-append ms ns
global_names-append (mention.DefinesBlock w ∷ ms) ns = global_names-append ms ns
global_names-append (mention.UsesBlock name ∷ ms) ns = global_names-append ms ns

pub each-append : {A B : Type 0} (R : A → B → Type 0) (xs ys : List A) (us vs : List B) → EachMatches R xs us
    → EachMatches R ys vs → EachMatches R (xs ++ ys) (us ++ vs)
each-append R [] ys [] vs p q = q
each-append R [] ys (u ∷ us) vs p q = elim p [ ]
each-append R (x ∷ xs) ys [] vs p q = elim p [ ]
each-append R (x ∷ xs) ys (u ∷ us) vs p q = (p.0, each-append R xs ys us vs p.1 q)

pub passes_none : (a : Seen) → Passes a a []
passes_none a = record { next = refl; values = refl; labels = refl; globals = refl }

-- A table that takes the names of two runs of mentions, one after another.
two_runs : {A : Type 0} (same : A → A → Bool) (names_of : List Mention → List A)
    → ((ms ns : List Mention) → names_of (ms ++ ns) ≡ names_of ms ++ names_of ns)
    → (n : ℕ) (ms ns : List Mention) (a b c : List A)
    → b ≡ with_names same a (names_of (named n ms))
    → c ≡ with_names same b (names_of (named (next_behind n ms) ns))
    → c ≡ with_names same a (names_of (named n (ms ++ ns)))
two_runs same names_of parts n ms ns a b c e f =
    f ∙ ap (λ xs. with_names same xs (names_of (named (next_behind n ms) ns))) e
    ∙ sym (with_names-append same a (names_of (named n ms)) (names_of (named (next_behind n ms) ns)))
    ∙ ap (with_names same a) (sym (ap names_of (named-append n ms ns)
    ∙ parts (named n ms) (named (next_behind n ms) ns)))

pub passes_both : {a b c : Seen} {ms ns : List Mention} → Passes a b ms → Passes b c ns → Passes a c (ms ++ ns)
passes_both {a} {b} {c} {ms} {ns} p q = record {
  next = q.next ∙ ap (λ n. next_behind n ns) p.next ∙ sym (next_behind-append a.next ms ns);
  values = two_runs same_name value_names value_names-append a.next ms ns a.values b.values c.values p.values
      (q.values ∙ ap (λ n. with_names same_name b.values (value_names (named n ns))) p.next);
  labels = two_runs same_name label_names label_names-append a.next ms ns a.labels b.labels c.labels p.labels
      (q.labels ∙ ap (λ n. with_names same_name b.labels (label_names (named n ns))) p.next);
  globals = q.globals ∙ ap (λ xs. with_names bytes_eq xs (global_names ns)) p.globals
      ∙ sym (with_names-append bytes_eq a.globals (global_names ms) (global_names ns))
      ∙ ap (with_names bytes_eq a.globals) (sym (global_names-append ms ns));
}

prefix_of : {A : Type 0} (same : A → A → Bool) (a b more : List A) → b ≡ with_names same a more → IsPrefix a b
prefix_of same a b more e = rw e (with_names-prefix same a more)

-- What later tables keep, they kept from before.
pub earlier : {b c : Seen} {ms : List Mention} {later : Tables} → Passes b c ms → Grows c later → Grows b later
earlier {b} {c} {ms} {later} q more = record {
  values = IsPrefix-trans (prefix_of same_name b.values c.values (value_names (named b.next ms)) q.values) more.values;
  labels = IsPrefix-trans (prefix_of same_name b.labels c.labels (label_names (named b.next ms)) q.labels) more.labels;
  globals = IsPrefix-trans (prefix_of bytes_eq b.globals c.globals (global_names ms) q.globals) more.globals;
}

pub becomes_none : (t : Tokenized) (a : Seen) → Becomes t a a [] []
becomes_none t a = record { passes = passes_none a; ids = λ later more. tt }

mentions-append : (t : Tokenized) (xs ys : List Site) → mentions_at t (xs ++ ys) ≡ mentions_at t xs ++ mentions_at t ys
mentions-append t xs ys = map-append (mention_at t) xs ys

-- One after another.
pub both : {t : Tokenized} {a b c : Seen} {xs us ys vs : List Site} → Becomes t a b xs us → Becomes t b c ys vs
    → Becomes t a c (xs ++ ys) (us ++ vs)
both {t} {a} {b} {c} {xs} {us} {ys} {vs} p q = record {
  passes = (let P : List Mention → Type 0 =
      Passes a c in subst P (sym (mentions-append t xs ys)) (passes_both p.passes q.passes));
  ids = λ later more.
      subst (EachMatches (StandsFor later) (us ++ vs))
      (sym (ap (named a.next) (mentions-append t xs ys) ∙ named-append a.next (mentions_at t xs) (mentions_at t ys)))
      (each-append (StandsFor later) us vs (named a.next (mentions_at t xs))
      (named (next_behind a.next (mentions_at t xs)) (mentions_at t ys))
      (p.ids later (earlier q.passes more))
      (subst (λ (n : ℕ). EachMatches (StandsFor later) vs (named n (mentions_at t ys))) p.passes.next
      (q.ids later more)));
}

-- Things with one id each.
pub as_map : {A : Type 0} (f : A → Site) (xs ys : List A) {t : Tokenized} {a b : Seen}
    → Becomes t a b (flat_map (λ x. f x ∷ []) xs) (flat_map (λ x. f x ∷ []) ys)
    → Becomes t a b (map f xs) (map f ys)
as_map f xs ys {t} {a} {b} h =
    subst (λ (us : List Site). Becomes t a b us (map f ys)) (flat_map_single f xs)
    (subst (λ (vs : List Site). Becomes t a b (flat_map (λ x. f x ∷ []) xs) vs) (flat_map_single f ys) h)
