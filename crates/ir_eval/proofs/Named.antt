-- The function that has a name.
use Rattle.std.proofs.Common.{◌≡◌, ℕ, ◌+◌, ◌<◌, Bool, List, [], ◌++◌, length, get_or, take, drop, flat_map, find, Some}
use Rattle.std.proofs.Common.{None, Contains, All, IsTrue, refl, sym, ap, ◌∙◌, subst, inl, inr, not}
use Rattle.std.proofs.lemmas.Grind.{flat_map-append}
use Rattle.std.proofs.lemmas.List.{append-nil, take_more, take-append-drop}
use Rattle.std.proofs.lemmas.List.Elements.{All-contains, Contains-get_or}
use Rattle.std.proofs.lemmas.List.Folds.{find-append}
use Rattle.ir_model.specs.declared.function.Param.{Param}
use Rattle.ir_model.specs.declared.function.Function.{Function}
use Rattle.ir_model.specs.declared.item.Item.{Item}
use Rattle.ir_model.specs.declared.item.Item.TheVariants as item
use Rattle.ir_model.specs.declared.item.Module.{Module}
use Rattle.ir_model.specs.declared.rule.Rule.TheVariants as rule
use Rattle.ir_model.specs.declared.rule.Place.{Place}
use Rattle.ir_model.specs.declared.rule.Place.TheVariants.{Value, BlockAt}
use Rattle.ir_model.specs.Places.{signatures_of}
use Rattle.ir_model.specs.Shapes.{entry}
use Rattle.ir_model.specs.WellMade.{IsWellMade, IsWellMadeItem, AreWellMade}
use Rattle.ir_rules.specs.Accepted.{body_of, functions_of, IsAccepted, IsAcceptedModule}
use Rattle.ir_rules.specs.Names.{unless}
use Rattle.ir_rules.specs.Spots.{Spot, places_where}
use Rattle.ir_rules.specs.Types.{is_wide, widths_fit, bad_params}
use Rattle.ir_meaning.proofs.ListPlaces.{found_there}
use Rattle.never_stuck.proofs.Accepted.{unbroken, holds_of_unless}
use Rattle.never_stuck.proofs.Elements.{contains_at, contains_none, contains_cases, append_none, flat_map_none}
use Rattle.never_stuck.proofs.Elements.{flat_map_only}
use Rattle.ir_machine.specs.Runnable.{IsRunnable}
use Rattle.ir_eval.specs.Outcome.{has_name, function_named}

-- ---- a search, item by item

module _ (p : Function → Bool) (items : List Item) (i : ℕ) where
  -- one more item, where none is found before
  pub find_more : (x : Item) → i < length items → x ≡ get_or items i x → find p (flat_map body_of (take i items)) ≡ None
      → find p (flat_map body_of (take (i + 1) items)) ≡ find p (body_of x)
  find_more x within is none =
      rw (take_more items i x within, flat_map-append, find-append, none, append-nil, ← is) refl

  -- What is found in front is found in all.
  pub find_front : (f : Function) → find p (flat_map body_of (take i items)) ≡ Some f
      → find p (flat_map body_of items) ≡ Some f
  find_front f found =
      let whole : flat_map body_of items ≡ flat_map body_of (take i items) ++ flat_map body_of (drop i items) =
      ap (flat_map body_of) (sym (take-append-drop i items)) ∙ flat_map-append body_of (take i items) (drop i items) in
      rw (whole, find-append, found) refl

-- ---- what is known of it

made_of : (item : Item) (f : Function) → IsWellMadeItem item → Contains (body_of item) f → IsWellMade f
made_of (item.Define g) f made there =
    elim (contains_cases g [] f there) [
      | inl same ↦ subst IsWellMade same made
      | inr later ↦ absurd (contains_none f later)
    ]
made_of _ f made there = absurd (contains_none f there)

module _ (m : Module) (made : AreWellMade m) (accepted : IsAcceptedModule m) (name : List ℕ) (f : Function)
    (found : function_named m name ≡ Some f) where
  pub named_accepted : IsAccepted (signatures_of m) f
  named_accepted =
      let there = found_there (has_name name) (functions_of m) f found in
      accepted.functions there.0 f there.1

  pub named_runs : IsRunnable f
  named_runs =
      let there = found_there (has_name name) (functions_of m) f found in
      let source = flat_map_only body_of m.items f (contains_at (functions_of m) there.0 f there.1) in
      record {
        well_made = made_of source.0 f (All-contains IsWellMadeItem m.items source.0 made source.1) source.2;
        signatures = signatures_of m;
        accepted = named_accepted;
      }

  -- its parameters have 1 to 64 bits
  pub named_wide : All (λ (p : Param). IsTrue (is_wide p.kind)) f.params
  named_wide k d within =
      let p = get_or f.params k d in
      let of_instrs = places_where (λ (spot : Spot). not (widths_fit spot.instr.op)) f in
      let none = unbroken (signatures_of m) f named_accepted 4 rule.BadWidth refl in
      let of_return = unless (is_wide f.ret) (BlockAt (record { 0 = entry f.blocks })) in
      let behind = append_none of_return (bad_params f.params ++ of_instrs) none in
      let params = (append_none (bad_params f.params) of_instrs behind.1).0 in
      let bad : Param → List Place = λ (p : Param). unless (is_wide p.kind) (Value p.value) in
      holds_of_unless (is_wide p.kind) (Value p.value)
      (flat_map_none bad f.params p params (Contains-get_or f.params k d within))
