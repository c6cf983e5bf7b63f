-- The functions of a module, as its items are walked over.
use Rattle.std.proofs.Common.{◌≡◌, ℕ, zero, suc, ◌+◌, ◌<◌, ◌≤◌, ◌⊎◌, List, [], ◌∷◌, ◌++◌, length, take, drop, flat_map}
use Rattle.std.proofs.Common.{Some, None, slice_get, get_or, refl, sym, ap, ◌∙◌, inl, inr, arith, subst}
use Rattle.std.specs.List.{All}
use Rattle.std.proofs.lemmas.List.{take_more, take_all, take-append-drop, append_assoc, append-nil, length-append}
use Rattle.std.proofs.lemmas.Grind.{flat_map-append}
use Rattle.std.proofs.lemmas.List.Elements.{All-head, All-tail}
use Rattle.flow_graph.proofs.ListLemmas.{slice_get_push, slice_get-append}
use Rattle.ir_model.specs.declared.function.Function.{Function}
use Rattle.ir_model.specs.declared.item.Item.{Item}
use Rattle.ir_model.specs.declared.item.Item.TheVariants as item
use Rattle.ir_model.specs.declared.item.Module.{Module}
use Rattle.ir_model.specs.declared.rule.Rule.{Rule}
use Rattle.ir_model.specs.declared.rule.Place.{Place}
use Rattle.ir_model.specs.declared.signature.Signatures.{Signatures}
use Rattle.ir_model.specs.Places.{signatures_of}
use Rattle.ir_model.specs.WellMade.{HasIds, ItemHasIds, HaveIds}
use Rattle.ir_rules.specs.Rules.{first_item_broken}
use Rattle.ir_rules.specs.Accepted.{body_of, functions_of, IsAccepted, IsBrokenAt, IsAcceptedModule, IsFault}

-- ---- lists

-- what stands in a list with one more stands in it, or is the one more
got_push : {A : Type 0} (xs : List A) (x y : A) (k : ℕ) → slice_get (xs ++ x ∷ []) k ≡ Some y
    → (slice_get xs k ≡ Some y) ⊎ (y ≡ x)
got_push [] x y zero is = inr (let e : Some x ≡ Some y = is in cc)
got_push [] x y (suc k) is = absurd (cc)
got_push (z ∷ xs) x y zero is = inl is
got_push (z ∷ xs) x y (suc k) is = got_push xs x y k is

-- what stands within the first part of two stands in that part
got_left : {A : Type 0} (xs ys : List A) (y : A) (k : ℕ) → k < length xs → slice_get (xs ++ ys) k ≡ Some y
    → slice_get xs k ≡ Some y
got_left [] ys y k within is = absurd (omega arith)
got_left (x ∷ xs) ys y zero within is = is
got_left (x ∷ xs) ys y (suc k) within is = got_left xs ys y k (omega arith) is

-- ---- the functions before an item

-- the functions among the items before an index, and among those from it on
abbrev pub before : List Item → ℕ → List Function
before items i = flat_map body_of (take i items)

abbrev pub behind : List Item → ℕ → List Function
behind items i = flat_map body_of (drop i items)

before_more : (items : List Item) (i : ℕ) (here : Item) → i < length items → here ≡ get_or items i here
    → before items (i + 1) ≡ before items i ++ body_of here
before_more items i here within is =
    ap (flat_map body_of) (take_more items i here within)
    ∙ (flat_map-append body_of (take i items) (get_or items i here ∷ [])
    ∙ ap (λ fs. before items i ++ fs) (append-nil (body_of (get_or items i here)) ∙ ap body_of (sym is)))

both_parts : (items : List Item) (i : ℕ) → before items i ++ behind items i ≡ flat_map body_of items
both_parts items i = sym (flat_map-append body_of (take i items) (drop i items))
    ∙ ap (flat_map body_of) (take-append-drop i items)

-- ---- a walk that accepts each function so far

-- So many functions stand before an index, and each is accepted.
pub record AreAccepted (signatures : Signatures) (items : List Item) (i number : ℕ) : Type 0 where
  pub count : number ≡ length (before items i)
  pub few : number ≤ i
  pub each : (k : ℕ) (f : Function) → slice_get (before items i) k ≡ Some f → IsAccepted signatures f

pub none_so_far : (signatures : Signatures) (items : List Item) → AreAccepted signatures items 0 0
none_so_far signatures items = record { count = refl; few = omega arith; each = λ k f is. absurd (cc) }

-- An item without a body follows.
pub no_body : (signatures : Signatures) (items : List Item) (i number : ℕ) (here : Item) → i < length items
    → here ≡ get_or items i here → body_of here ≡ [] → AreAccepted signatures items i number
    → AreAccepted signatures items (i + 1) number
no_body signatures items i number here within is none so =
    let same : before items (i + 1) ≡ before items i = before_more items i here within is
    ∙ (ap (λ fs. before items i ++ fs) none ∙ append-nil (before items i)) in
    record {
      count = so.count ∙ ap length (sym same);
      few = let few = so.few in omega arith;
      each = λ k f at. so.each k f (ap (λ fs. slice_get fs k) (sym same) ∙ at);
    }

-- A function follows that is accepted.
pub one_more : (signatures : Signatures) (items : List Item) (i number : ℕ) (here : Item) (f : Function)
    → i < length items → here ≡ get_or items i here → body_of here ≡ f ∷ [] → IsAccepted signatures f
    → AreAccepted signatures items i number → AreAccepted signatures items (i + 1) (number + 1)
one_more signatures items i number here f within is body accepted so =
    let more : before items (i + 1) ≡ before items i ++ f ∷ [] = before_more items i here within is
    ∙ ap (λ fs. before items i ++ fs) body in
    record {
      count = let long = length-append (before items i) (f ∷ []) in let count = so.count in
          let all = ap length more in omega arith;
      few = let few = so.few in omega arith;
      each = λ k g at. elim (got_push (before items i) f g k (ap (λ fs. slice_get fs k) (sym more) ∙ at)) [
        | inl there ↦ so.each k g there
        | inr last ↦ subst (IsAccepted signatures) (sym last) accepted
      ];
    }

-- All items are walked over.
pub all_accepted : (m : Module) (xs : List Item) (i number : ℕ) → xs ≡ m.items → length xs ≤ i
    → first_item_broken m ≡ None → AreAccepted (signatures_of m) xs i number → IsAcceptedModule m
all_accepted m xs i number same past items so =
    let all : functions_of m ≡ before xs i = ap (flat_map body_of) (sym same ∙ sym (take_all i xs past)) in
    record { items = items; functions = λ k f at. so.each k f (ap (λ fs. slice_get fs k) (sym all) ∙ at) }

-- The function that follows breaks a rule.
pub next_broken : (m : Module) (xs : List Item) (i number : ℕ) (here : Item) (f : Function) (rule : Rule)
    (place : Place) → xs ≡ m.items → i < length xs → here ≡ get_or xs i here → body_of here ≡ f ∷ []
    → first_item_broken m ≡ None → IsBrokenAt (signatures_of m) f rule place
    → AreAccepted (signatures_of m) xs i number → IsFault m rule number place
next_broken m xs i number here f rule place same within is body items broken so =
    let fs = before xs i in
    let rest = behind xs (i + 1) in
    let all : functions_of m ≡ (fs ++ f ∷ []) ++ rest = ap (flat_map body_of) (sym same)
    ∙ (sym (both_parts xs (i + 1))
    ∙ ap (λ gs. gs ++ rest) (before_more xs i here within is ∙ ap (λ gs. fs ++ gs) body)) in
    inr (record {
      items = items;
      function = f;
      at = ap (slice_get (functions_of m)) so.count ∙ (ap (λ gs. slice_get gs (length fs)) all
          ∙ slice_get-append (fs ++ f ∷ []) rest (length fs) f (slice_get_push fs f));
      broken = broken;
      first = λ k g less at. so.each k g (got_left fs (f ∷ rest) g k (let count = so.count in omega arith)
          (ap (λ gs. slice_get gs k) (sym (all ∙ append_assoc fs (f ∷ []) rest)) ∙ at));
    })

-- ---- ids

ids_in : (items : List Item) (k : ℕ) (f : Function) → All ItemHasIds items
    → slice_get (flat_map body_of items) k ≡ Some f → HasIds f
ids_in [] k f ids at = absurd (cc)
ids_in (item.Define g ∷ items) zero f ids at =
    let same : g ≡ f = cc in subst HasIds same (All-head ItemHasIds (item.Define g) items ids)
ids_in (item.Define g ∷ items) (suc k) f ids at =
    ids_in items k f (All-tail ItemHasIds (item.Define g) items ids) at
ids_in (here ∷ items) k f ids at = ids_in items k f (All-tail ItemHasIds here items ids) at

-- Each function of a module has its ids in its tables.
pub ids_of : (m : Module) (k : ℕ) (f : Function) → HaveIds m → slice_get (functions_of m) k ≡ Some f → HasIds f
unfolding HaveIds
ids_of m k f ids at = ids_in m.items k f ids at
