-- The ids of a function stand for what is mentioned, and for what is printed.
use Rattle.std.proofs.Common.{◌≡◌, ℕ, List, [], ◌∷◌, map, length, Option, Some, None, refl, sym, ap, subst, inl, inr, slice_get, arith}
use Rattle.std.specs.Option.{unwrap_or}
use Rattle.ir_model.specs.declared.function.Function.{Function}
use Rattle.ir_text.specs.Written.{Name, Number}
use Rattle.ir_text.specs.Mentions.{Mention}
use Rattle.ir_text.specs.Mentions as mention
use Rattle.ir_model.specs.Sites.{Site, function_sites}
use Rattle.ir_model.specs.Sites as site
use Rattle.ir_grammar.specs.Numbering.{Tables, named, value_names, label_names, global_names, StandsFor, EachMatches, IsFirstPlace}
use Rattle.ir_grammar.specs.Printing.{Thing, Value, Block_}
use Rattle.ir_read_back.proofs.Printed.{value_name, label_name, global_name, shown_mention}
use Rattle.ir_read_back.proofs.NamesApart.{Occurs}
use Rattle.ir_read_back.proofs.EachThing.{each_weaker}
use Rattle.ir_read_back.proofs.Real.{Each}

-- ---- the ids of one sort

abbrev pub value_ids : List Site → List ℕ
value_ids [] = []
value_ids (site.DefinesValue v ∷ sites) = v ∷ value_ids sites
value_ids (site.UsesValue v ∷ sites) = v ∷ value_ids sites
value_ids (_ ∷ sites) = value_ids sites

abbrev pub label_ids : List Site → List ℕ
label_ids [] = []
label_ids (site.DefinesBlock b ∷ sites) = b ∷ label_ids sites
label_ids (site.UsesBlock b ∷ sites) = b ∷ label_ids sites
label_ids (_ ∷ sites) = label_ids sites

abbrev pub global_ids : List Site → List ℕ
global_ids [] = []
global_ids (site.UsesGlobal g ∷ sites) = g ∷ global_ids sites
global_ids (_ ∷ sites) = global_ids sites

-- ---- what is printed has names

pub named_shown : (globals : List (List ℕ)) (f : Function) (sites : List Site) (next : ℕ)
    → named next (map (shown_mention globals f) sites) ≡ map (shown_mention globals f) sites
named_shown globals f [] next = refl
named_shown globals f (site.DefinesValue v ∷ sites) next =
    ap (λ (ms : List Mention). mention.DefinesValue (Some (value_name f v)) ∷ ms) (named_shown globals f sites _)
named_shown globals f (site.DefinesBlock b ∷ sites) next =
    ap (λ (ms : List Mention). mention.DefinesBlock (Some (label_name f b)) ∷ ms) (named_shown globals f sites _)
named_shown globals f (site.UsesValue v ∷ sites) next =
    ap (λ (ms : List Mention). mention.UsesValue (value_name f v) ∷ ms) (named_shown globals f sites next)
named_shown globals f (site.UsesBlock b ∷ sites) next =
    ap (λ (ms : List Mention). mention.UsesBlock (label_name f b) ∷ ms) (named_shown globals f sites next)
named_shown globals f (site.UsesGlobal g ∷ sites) next =
    ap (λ (ms : List Mention). mention.UsesGlobal (global_name globals g) ∷ ms) (named_shown globals f sites next)

module _ (globals : List (List ℕ)) (f : Function) where
  pub shown_values : (sites : List Site)
      → value_names (map (shown_mention globals f) sites) ≡ map (value_name f) (value_ids sites)
  shown_values [] = refl
  shown_values (site.DefinesValue v ∷ sites) = ap (λ (ns : List Name). value_name f v ∷ ns) (shown_values sites)
  shown_values (site.UsesValue v ∷ sites) = ap (λ (ns : List Name). value_name f v ∷ ns) (shown_values sites)
  shown_values (site.DefinesBlock b ∷ sites) = shown_values sites
  shown_values (site.UsesBlock b ∷ sites) = shown_values sites
  shown_values (site.UsesGlobal g ∷ sites) = shown_values sites

  pub shown_labels : (sites : List Site)
      → label_names (map (shown_mention globals f) sites) ≡ map (label_name f) (label_ids sites)
  shown_labels [] = refl
  shown_labels (site.DefinesBlock b ∷ sites) = ap (λ (ns : List Name). label_name f b ∷ ns) (shown_labels sites)
  shown_labels (site.UsesBlock b ∷ sites) = ap (λ (ns : List Name). label_name f b ∷ ns) (shown_labels sites)
  shown_labels (site.DefinesValue v ∷ sites) = shown_labels sites
  shown_labels (site.UsesValue v ∷ sites) = shown_labels sites
  shown_labels (site.UsesGlobal g ∷ sites) = shown_labels sites

  pub shown_globals : (sites : List Site)
      → global_names (map (shown_mention globals f) sites) ≡ map (global_name globals) (global_ids sites)
  shown_globals [] = refl
  shown_globals (site.UsesGlobal g ∷ sites) =
      ap (λ (ns : List (List ℕ)). global_name globals g ∷ ns) (shown_globals sites)
  shown_globals (site.DefinesValue v ∷ sites) = shown_globals sites
  shown_globals (site.UsesValue v ∷ sites) = shown_globals sites
  shown_globals (site.DefinesBlock b ∷ sites) = shown_globals sites
  shown_globals (site.UsesBlock b ∷ sites) = shown_globals sites

-- ---- where the ids occur

-- One more site leaves what occurs.
one_more : (s : Site) (sites : List Site) (t : Thing) → Occurs sites t → Occurs (s ∷ sites) t
one_more (site.DefinesValue v) sites t (inl among) = inl (inr among)
one_more (site.DefinesValue v) sites t (inr among) = inr among
one_more (site.UsesValue v) sites t (inl among) = inl among
one_more (site.UsesValue v) sites t (inr among) = inr (inr among)
one_more (site.DefinesBlock b) sites t (inl among) = inl (inr among)
one_more (site.DefinesBlock b) sites t (inr among) = inr among
one_more (site.UsesBlock b) sites t (inl among) = inl among
one_more (site.UsesBlock b) sites t (inr among) = inr (inr among)
one_more (site.UsesGlobal g) sites t occurs = occurs

-- So it is with all ids of one sort.
all_one_more : (thing : ℕ → Thing) (s : Site) (sites : List Site) (ids : List ℕ)
    → Each (λ i. Occurs sites (thing i)) ids → Each (λ i. Occurs (s ∷ sites) (thing i)) ids
all_one_more thing s sites ids =
    each_weaker (λ i. Occurs sites (thing i)) (λ i. Occurs (s ∷ sites) (thing i)) (λ i. one_more s sites (thing i)) ids

pub values_occur : (sites : List Site) → Each (λ v. Occurs sites (Value v)) (value_ids sites)
values_occur [] = tt
values_occur (site.DefinesValue v ∷ sites) =
    (inl (inl refl), all_one_more Value (site.DefinesValue v) sites (value_ids sites) (values_occur sites))
values_occur (site.UsesValue v ∷ sites) =
    (inr (inl refl), all_one_more Value (site.UsesValue v) sites (value_ids sites) (values_occur sites))
values_occur (site.DefinesBlock b ∷ sites) =
    all_one_more Value (site.DefinesBlock b) sites (value_ids sites) (values_occur sites)
values_occur (site.UsesBlock b ∷ sites) =
    all_one_more Value (site.UsesBlock b) sites (value_ids sites) (values_occur sites)
values_occur (site.UsesGlobal g ∷ sites) =
    all_one_more Value (site.UsesGlobal g) sites (value_ids sites) (values_occur sites)

pub labels_occur : (sites : List Site) → Each (λ b. Occurs sites (Block_ b)) (label_ids sites)
labels_occur [] = tt
labels_occur (site.DefinesBlock b ∷ sites) =
    (inl (inl refl), all_one_more Block_ (site.DefinesBlock b) sites (label_ids sites) (labels_occur sites))
labels_occur (site.UsesBlock b ∷ sites) =
    (inr (inl refl), all_one_more Block_ (site.UsesBlock b) sites (label_ids sites) (labels_occur sites))
labels_occur (site.DefinesValue v ∷ sites) =
    all_one_more Block_ (site.DefinesValue v) sites (label_ids sites) (labels_occur sites)
labels_occur (site.UsesValue v ∷ sites) =
    all_one_more Block_ (site.UsesValue v) sites (label_ids sites) (labels_occur sites)
labels_occur (site.UsesGlobal g ∷ sites) =
    all_one_more Block_ (site.UsesGlobal g) sites (label_ids sites) (labels_occur sites)

-- ---- ids that stand for mentions

-- a name of a table
abbrev pub name_at : List Name → ℕ → Name
name_at names i = unwrap_or (slice_get names i) (Number 0)

abbrev pub HasPlace : List Name → ℕ → Type 0
HasPlace names i = (name : Name) × (slice_get names i ≡ Some name)

-- The ids have places in the tables, and the names that are mentioned are those that stand there.
pub record Told (tables : Tables) (sites : List Site) (ms : List Mention) : Type 0 where
  pub values : Each (HasPlace tables.values) (value_ids sites)
  pub labels : Each (HasPlace tables.labels) (label_ids sites)
  pub globals : Each (λ g. IsFirstPlace tables.globals (global_name tables.globals g) g) (global_ids sites)
  pub value_names_are : value_names ms ≡ map (name_at tables.values) (value_ids sites)
  pub label_names_are : label_names ms ≡ map (name_at tables.labels) (label_ids sites)
  pub global_names_are : global_names ms ≡ map (global_name tables.globals) (global_ids sites)
  pub as_many : length ms ≡ length sites

cons_same : {A : Type 0} (x y : A) (xs ys : List A) → x ≡ y → xs ≡ ys → x ∷ xs ≡ y ∷ ys
cons_same x y xs ys e d = rw (e, d) refl

name_there : (names : List Name) (i : ℕ) (name : Name) → slice_get names i ≡ Some name → name ≡ name_at names i
name_there names i name e = ap (λ (found : Option Name). unwrap_or found (Number 0)) (sym e)

global_there : (globals : List (List ℕ)) (g : ℕ) (name : List ℕ) → slice_get globals g ≡ Some name
    → name ≡ global_name globals g
global_there globals g name e = ap (λ (found : Option (List ℕ)). unwrap_or found []) (sym e)

module _ (tables : Tables) where
  told_step : (m : Mention) (s : Site) (sites : List Site) (ms : List Mention) → StandsFor tables s m
      → Told tables sites ms → Told tables (s ∷ sites) (m ∷ ms)
  told_step (mention.DefinesValue (Some name)) (site.DefinesValue v) sites ms e told = record {
    values = ((name, e), told.values);
    labels = told.labels;
    globals = told.globals;
    value_names_are = cons_same name (name_at tables.values v) (value_names ms)
        (map (name_at tables.values) (value_ids sites)) (name_there tables.values v name e) told.value_names_are;
    label_names_are = told.label_names_are;
    global_names_are = told.global_names_are;
    as_many = omega (arith, told.as_many);
  }
  told_step (mention.UsesValue name) (site.UsesValue v) sites ms e told = record {
    values = ((name, e), told.values);
    labels = told.labels;
    globals = told.globals;
    value_names_are = cons_same name (name_at tables.values v) (value_names ms)
        (map (name_at tables.values) (value_ids sites)) (name_there tables.values v name e) told.value_names_are;
    label_names_are = told.label_names_are;
    global_names_are = told.global_names_are;
    as_many = omega (arith, told.as_many);
  }
  told_step (mention.DefinesBlock (Some name)) (site.DefinesBlock b) sites ms e told = record {
    values = told.values;
    labels = ((name, e), told.labels);
    globals = told.globals;
    value_names_are = told.value_names_are;
    label_names_are = cons_same name (name_at tables.labels b) (label_names ms)
        (map (name_at tables.labels) (label_ids sites)) (name_there tables.labels b name e) told.label_names_are;
    global_names_are = told.global_names_are;
    as_many = omega (arith, told.as_many);
  }
  told_step (mention.UsesBlock name) (site.UsesBlock b) sites ms e told = record {
    values = told.values;
    labels = ((name, e), told.labels);
    globals = told.globals;
    value_names_are = told.value_names_are;
    label_names_are = cons_same name (name_at tables.labels b) (label_names ms)
        (map (name_at tables.labels) (label_ids sites)) (name_there tables.labels b name e) told.label_names_are;
    global_names_are = told.global_names_are;
    as_many = omega (arith, told.as_many);
  }
  told_step (mention.UsesGlobal name) (site.UsesGlobal g) sites ms e told =
      let is : name ≡ global_name tables.globals g = global_there tables.globals g name e.0 in
      record {
        values = told.values;
        labels = told.labels;
        globals = (subst (λ (n : List ℕ). IsFirstPlace tables.globals n g) is e, told.globals);
        value_names_are = told.value_names_are;
        label_names_are = told.label_names_are;
        global_names_are = cons_same name (global_name tables.globals g) (global_names ms)
            (map (global_name tables.globals) (global_ids sites)) is told.global_names_are;
        as_many = omega (arith, told.as_many);
      }
  told_step (mention.DefinesValue None) (site.DefinesValue v) sites ms e told = absurd e
  told_step (mention.DefinesValue None) _ sites ms e told = absurd e
  told_step (mention.DefinesValue (Some name)) _ sites ms e told = absurd e
  told_step (mention.UsesValue name) _ sites ms e told = absurd e
  told_step (mention.DefinesBlock None) (site.DefinesBlock b) sites ms e told = absurd e
  told_step (mention.DefinesBlock None) _ sites ms e told = absurd e
  told_step (mention.DefinesBlock (Some name)) _ sites ms e told = absurd e
  told_step (mention.UsesBlock name) _ sites ms e told = absurd e
  told_step (mention.UsesGlobal name) _ sites ms e told = absurd e

  pub told_all : (sites : List Site) (ms : List Mention) → EachMatches (StandsFor tables) sites ms
      → Told tables sites ms
  told_all [] [] match = record {
    values = tt;
    labels = tt;
    globals = tt;
    value_names_are = refl;
    label_names_are = refl;
    global_names_are = refl;
    as_many = refl;
  }
  told_all (s ∷ sites) (m ∷ ms) match = told_step m s sites ms match.0 (told_all sites ms match.1)
  told_all [] (m ∷ ms) match = absurd match
  told_all (s ∷ sites) [] match = absurd match
