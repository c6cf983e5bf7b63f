-- What the rules say of the instructions of an accepted function.
use Rattle.std.proofs.Common.{◌≡◌, ℕ, zero, suc, ◌==◌, ◌<◌, ◌≤◌, Bool, true, false, cond, not, ◌||◌, List, [], ◌∷◌}
use Rattle.std.proofs.Common.{◌++◌, length, map, flat_map, filter, Option, Some, None, Contains, slice_get, refl, sym}
use Rattle.std.proofs.Common.{ap, ◌∙◌, subst, inl, inr, arith}
use Rattle.std.specs.List.{list_any}
use Rattle.std.proofs.lemmas.Bool.{eqb-true, not-false, true≢false, cases_Bool, cond-true, cond-false}
use Rattle.std.proofs.lemmas.Option.{none-some, same_Some}
use Rattle.std.proofs.lemmas.List.Elements.{All-contains, Contains-append_right}
use Rattle.std.proofs.lemmas.List.Sums.{take_while-cons}
use Rattle.ir_model.specs.declared.op.Op.{Op}
use Rattle.ir_model.specs.declared.op.Op.TheVariants.{Jump, Branch, Switch}
use Rattle.ir_model.specs.declared.op.Case.{Case}
use Rattle.ir_model.specs.declared.function.Instr.{Instr}
use Rattle.ir_model.specs.declared.function.Block.{Block}
use Rattle.ir_model.specs.declared.function.Function.{Function}
use Rattle.ir_model.specs.declared.signature.Signatures.{Signatures}
use Rattle.ir_model.specs.declared.rule.Rule.{Rule}
use Rattle.ir_model.specs.declared.rule.Rule.TheVariants as rule
use Rattle.ir_model.specs.declared.rule.Place.{Place}
use Rattle.ir_model.specs.declared.rule.Place.TheVariants.{BlockAt}
use Rattle.ir_model.specs.Shapes.{entry, block_of, defined_blocks, targets, is_terminator, is_phi, leading_phis}
use Rattle.ir_model.specs.Sites.{UsesBlock, operand_sites, op_sites}
use Rattle.ir_model.specs.WellMade.{IsFormedInstr, AreFormed, IsWellMade}
use Rattle.ir_meaning.proofs.LeadingPhis.{last_no_phi}
use Rattle.ir_meaning.proofs.ListPlaces.{found_there}
use Rattle.ir_rules.specs.Accepted.{IsAccepted}
use Rattle.ir_rules.specs.Blocks.{late, entries_fit}
use Rattle.ir_rules.specs.Names.{unless, undefined_at}
use Rattle.ir_rules.specs.Rules.{broken, shape_rules, first_with, first_of}
use Rattle.ir_rules.specs.Spots.{Spot, block_spots, spots, place, places_where}
use Rattle.ir_rules.specs.Types.{types_fit, is_wide, widths_fit, bad_params}
use Rattle.ir_rules.specs.Values.{is_void_value, misuses_pointer, call_fits}
use Rattle.never_stuck.proofs.Elements.{contains_at, contains_more, map_none, append_none, map_has, flat_map_has}
use Rattle.never_stuck.proofs.Elements.{flat_map_none, none_passes, any_found}
use Rattle.never_stuck.proofs.Sound.{StandsIn, Facts}

-- ---- no rule has a place

first_none : (rule : Rule) (at : List Place) (later : Option (Rule × Place)) → first_with rule at later ≡ None
    → (at ≡ []) × (later ≡ None)
first_none rule [] later e = (refl, e)
first_none rule (place ∷ more) later e = absurd (cc)

none_first : (places : Rule → List Place) (rules : List Rule) (k : ℕ) (rule : Rule) → first_of places rules ≡ None
    → slice_get rules k ≡ Some rule → places rule ≡ []
none_first places [] k rule none at = absurd (none-some rule at)
none_first places (first ∷ rules) zero rule none at =
    ap places (sym (same_Some first rule at)) ∙ (first_none first (places first) (first_of places rules) none).0
none_first places (first ∷ rules) (suc k) rule none at =
    none_first places rules k rule (first_none first (places first) (first_of places rules) none).1 at

pub unbroken : (signatures : Signatures) (f : Function) → IsAccepted signatures f → (k : ℕ) (rule : Rule)
    → slice_get shape_rules k ≡ Some rule → broken signatures f rule ≡ []
unbroken signatures f accepted k rule at = none_first (broken signatures f) shape_rules k rule accepted.shape at

-- ---- an instruction of a block is a spot

pub block_in : (f : Function) (b : ℕ) (block : Block) → block_of f b ≡ Some block
    → Contains f.blocks block × (block.id.0 ≡ b)
block_in f b block at =
    let found = found_there (λ (one : Block). one.id.0 == b) f.blocks block at in
    (contains_at f.blocks found.0 block found.1, eqb-true block.id.0 b found.2)

module _ (f : Function) (b i : ℕ) (block : Block) (instr : Instr) (stands : StandsIn f b i block instr) where
  pub spot_in : Contains (spots f) (record { block = b; instr = instr })
  spot_in =
      let in_it = block_in f b block stands.block in
      let own : Contains (block_spots block) (record { block = block.id.0; instr = instr }) =
      map_has (λ (one : Instr). record { block = block.id.0; instr = one }) block.instrs instr
      (contains_at block.instrs i instr stands.instr) in
      let at : Contains (block_spots block) (record { block = b; instr = instr }) =
      subst (λ (n : ℕ). Contains (block_spots block) (record { block = n; instr = instr })) in_it.1 own in
      flat_map_has block_spots f.blocks block (record { block = b; instr = instr }) in_it.0 at

  pub unbroken_there : (breaks : Spot → Bool) → places_where breaks f ≡ []
      → breaks (record { block = b; instr = instr }) ≡ false
  unbroken_there breaks none = none_passes breaks (spots f) (record { block = b; instr = instr })
      (map_none place (filter breaks (spots f)) none) spot_in

-- ---- each target is a block

cases_used : (cases : List Case) (to : ℕ) → Contains (map (λ (one : Case). one.to.0) cases) to
    → Contains (map (λ (c : Case). UsesBlock c.to.0) cases) (UsesBlock to)
cases_used [] to there = absurd (omega (arith, there.1))
cases_used (c ∷ cases) to (zero, within, is) = (zero, omega arith, ap UsesBlock is)
cases_used (c ∷ cases) to (suc k, within, is) =
    contains_more (UsesBlock c.to.0) (map (λ (c : Case). UsesBlock c.to.0) cases) (UsesBlock to)
    (cases_used cases to (k, omega arith, is))

target_used : (op : Op) (to : ℕ) → Contains (targets op) to → Contains (op_sites op) (UsesBlock to)
target_used (Jump there) to at = map_has UsesBlock (there.0 ∷ []) to at
target_used (Branch cond there other) to at =
    Contains-append_right (operand_sites cond) (UsesBlock there.0 ∷ UsesBlock other.0 ∷ []) (UsesBlock to)
    (map_has UsesBlock (there.0 ∷ other.0 ∷ []) to at)
target_used (Switch kind value other cases) to at =
    let more = map (λ (c : Case). UsesBlock c.to.0) cases in
    Contains-append_right (operand_sites value) (UsesBlock other.0 ∷ more) (UsesBlock to)
    (switch_used other.0 cases to at)
  where
    switch_used : (other : ℕ) (cases : List Case) (to : ℕ) → Contains (other ∷ map (λ (one : Case). one.to.0) cases) to
        → Contains (UsesBlock other ∷ map (λ (c : Case). UsesBlock c.to.0) cases) (UsesBlock to)
    switch_used other cases to (zero, within, is) = (zero, omega arith, ap UsesBlock is)
    switch_used other cases to (suc k, within, is) =
        contains_more (UsesBlock other) (map (λ (c : Case). UsesBlock c.to.0) cases) (UsesBlock to)
        (cases_used cases to (k, omega arith, is))
target_used _ to at = absurd (omega (arith, at.1))

pub holds_of_unless : (holds : Bool) (at : Place) → unless holds at ≡ [] → holds ≡ true
holds_of_unless true at none = refl
holds_of_unless false at none = absurd (cc)

pub any_of_map : {X Y : Type 0} (p : Y → Bool) (g : X → Y) (xs : List X)
    → list_any p (map g xs) ≡ list_any (λ x. p (g x)) xs
any_of_map p g [] = refl
any_of_map p g (x ∷ xs) = ap (λ rest. p (g x) || rest) (any_of_map p g xs)

-- a number among those of the blocks finds one
block_named : (f : Function) (b : ℕ) → list_any (λ c. c == b) (defined_blocks f) ≡ true
    → (block : Block) × (block_of f b ≡ Some block)
block_named f b some =
    any_found (λ (block : Block). block.id.0 == b) f.blocks
    (sym (any_of_map (λ (c : ℕ). c == b) (λ (block : Block). block.id.0) f.blocks) ∙ some)

-- ---- forms

formed_at : (instrs : List Instr) → AreFormed instrs → (i : ℕ) (instr : Instr) → slice_get instrs i ≡ Some instr
    → IsFormedInstr instr
formed_at [] formed i instr at = absurd formed
formed_at (last ∷ []) formed zero instr at = subst IsFormedInstr (same_Some last instr at) formed.0
formed_at (last ∷ []) formed (suc i) instr at = absurd (none-some instr at)
formed_at (first ∷ next ∷ more) formed zero instr at = subst IsFormedInstr (same_Some first instr at) formed.0
formed_at (first ∷ next ∷ more) formed (suc i) instr at = formed_at (next ∷ more) formed.2 i instr at

goes_on : (instrs : List Instr) → AreFormed instrs → (i : ℕ) (instr : Instr) → slice_get instrs i ≡ Some instr
    → is_terminator instr.op ≡ false → suc i < length instrs
goes_on [] formed i instr at goes = absurd formed
goes_on (last ∷ []) formed zero instr at goes =
    let same : is_terminator last.op ≡ is_terminator instr.op = ap (λ (one : Instr). is_terminator one.op)
    (same_Some last instr at) in
    absurd (true≢false (sym formed.1 ∙ (same ∙ goes)))
goes_on (last ∷ []) formed (suc i) instr at goes = absurd (none-some instr at)
goes_on (first ∷ next ∷ more) formed zero instr at goes = omega arith
goes_on (first ∷ next ∷ more) formed (suc i) instr at goes =
    let rest : suc i < length (next ∷ more) = goes_on (next ∷ more) formed.2 i instr at goes in
    omega arith

stands_last : (instrs : List Instr) → AreFormed instrs → (i : ℕ) (instr : Instr) → slice_get instrs i ≡ Some instr
    → is_terminator instr.op ≡ true → suc i ≡ length instrs
stands_last [] formed i instr at ends = absurd formed
stands_last (last ∷ []) formed zero instr at ends = refl
stands_last (last ∷ []) formed (suc i) instr at ends = absurd (none-some instr at)
stands_last (first ∷ next ∷ more) formed zero instr at ends =
    let same : is_terminator first.op ≡ is_terminator instr.op = ap (λ (one : Instr). is_terminator one.op)
    (same_Some first instr at) in
    absurd (true≢false (sym ends ∙ (sym same ∙ formed.1)))
stands_last (first ∷ next ∷ more) formed (suc i) instr at ends =
    let rest : suc i ≡ length (next ∷ more) = stands_last (next ∷ more) formed.2 i instr at ends in
    omega arith

some_formed : (instrs : List Instr) → AreFormed instrs → 0 < length instrs
some_formed [] formed = absurd formed
some_formed (instr ∷ instrs) formed = omega arith

-- ---- phis come first

leading_cons : (instr : Instr) (instrs : List Instr)
    → leading_phis (instr ∷ instrs) ≡ cond (is_phi instr.op) (instr ∷ leading_phis instrs) []
leading_cons instr instrs = take_while-cons (λ (one : Instr). is_phi one.op) instr instrs

pub none_leads : (instr : Instr) (instrs : List Instr) → is_phi instr.op ≡ false → leading_phis (instr ∷ instrs) ≡ []
none_leads instr instrs other = leading_cons instr instrs
    ∙ cond-false (is_phi instr.op) (instr ∷ leading_phis instrs) [] other

one_leads : (instr : Instr) (instrs : List Instr) → is_phi instr.op ≡ true
    → leading_phis (instr ∷ instrs) ≡ instr ∷ leading_phis instrs
one_leads instr instrs is = leading_cons instr instrs
    ∙ cond-true (is_phi instr.op) (instr ∷ leading_phis instrs) [] is

phis_end : (instrs : List Instr) → AreFormed instrs → length (leading_phis instrs) < length instrs
phis_end [] formed = absurd formed
phis_end (last ∷ []) formed =
    let none = ap length (none_leads last [] (last_no_phi last.op formed.1)) in
    omega (arith, none)
phis_end (first ∷ next ∷ more) formed =
    let rest = phis_end (next ∷ more) formed.2 in
    elim (cases_Bool (is_phi first.op)) [
      | inl is ↦ let some = ap length (one_leads first (next ∷ more) is) in omega (arith, some, rest)
      | inr other ↦ let none = ap length (none_leads first (next ∷ more) other) in omega (arith, none)
    ]

module _ (instr : Instr) (instrs : List Instr) where
  late_other : (other : Bool) → is_phi instr.op ≡ false → late other (instr ∷ instrs) ≡ late true instrs
  late_other true behind = simp behind
  late_other false behind = simp behind

  late_first : is_phi instr.op ≡ true → late false (instr ∷ instrs) ≡ late false instrs
  late_first is = simp is

  late_found : is_phi instr.op ≡ true → late true (instr ∷ instrs) ≡ instr ∷ late true instrs
  late_found is = simp is

-- none behind another instruction
none_behind : (instrs : List Instr) → late true instrs ≡ [] → (i : ℕ) (instr : Instr) → slice_get instrs i ≡ Some instr
    → is_phi instr.op ≡ false
none_behind [] none i instr at = absurd (none-some instr at)
none_behind (first ∷ instrs) none zero instr at =
    elim (cases_Bool (is_phi first.op)) [
      | inl is ↦ let found = late_found first instrs is in absurd (cc)
      | inr other ↦ subst (λ (one : Instr). is_phi one.op ≡ false) (same_Some first instr at) other
    ]
none_behind (first ∷ instrs) none (suc i) instr at =
    elim (cases_Bool (is_phi first.op)) [
      | inl is ↦ let found = late_found first instrs is in absurd (cc)
      | inr other ↦ none_behind instrs (sym (late_other first instrs true other) ∙ none) i instr at
    ]

-- none behind the phis that stand first
none_late : (instrs : List Instr) → late false instrs ≡ [] → (i : ℕ) (instr : Instr) → slice_get instrs i ≡ Some instr
    → length (leading_phis instrs) ≤ i → is_phi instr.op ≡ false
none_late [] none i instr at behind = absurd (none-some instr at)
none_late (first ∷ instrs) none zero instr at behind =
    elim (cases_Bool (is_phi first.op)) [
      | inl is ↦ let some = ap length (one_leads first instrs is) in absurd (omega (arith, some, behind))
      | inr other ↦ subst (λ (one : Instr). is_phi one.op ≡ false) (same_Some first instr at) other
    ]
none_late (first ∷ instrs) none (suc i) instr at behind =
    elim (cases_Bool (is_phi first.op)) [
      | inl is ↦
          let some = ap length (one_leads first instrs is) in
          none_late instrs (sym (late_first first instrs is) ∙ none) i instr at (omega (arith, some, behind))
      | inr other ↦ none_behind instrs (sym (late_other first instrs false other) ∙ none) i instr at
    ]

module _ (signatures : Signatures) (f : Function) (made : IsWellMade f) (accepted : IsAccepted signatures f) where
  pub block_formed : (b : ℕ) (block : Block) → block_of f b ≡ Some block → AreFormed block.instrs
  block_formed b block at =
      All-contains (λ (one : Block). AreFormed one.instrs) f.blocks block made.blocks (block_in f b block at).0

  module _ (b i : ℕ) (block : Block) (instr : Instr) (stands : StandsIn f b i block instr) where
    abbrev here : Spot
    here = record { block = b; instr = instr }

    leads_on : (to : ℕ) → Contains (targets instr.op) to → (there : Block) × (block_of f to ≡ Some there)
    leads_on to at =
        let undefined : Spot → List Place = λ spot.
        flat_map (undefined_at signatures f spot) (op_sites spot.instr.op) in
        let none = flat_map_none undefined (spots f) here (unbroken signatures f accepted 1 rule.UndefinedName refl)
        (spot_in f b i block instr stands) in
        let defined = flat_map_none (undefined_at signatures f here) (op_sites instr.op) (UsesBlock to) none
        (target_used instr.op to at) in
        block_named f to (holds_of_unless (list_any (λ c. c == to) (defined_blocks f)) (BlockAt (record { 0 = to }))
        defined)

    fails_there : (breaks : Spot → Bool) → places_where breaks f ≡ [] → breaks here ≡ false
    fails_there = unbroken_there f b i block instr stands

    -- what rules and forms say of an instruction of a block
    pub facts_at : Facts signatures f b instr
    facts_at = record {
      formed = formed_at block.instrs (block_formed b block stands.block) i instr stands.instr;
      types = not-false (types_fit f instr.op) (fails_there (λ (spot : Spot). not (types_fit f spot.instr.op))
          (unbroken signatures f accepted 2 rule.TypeMismatch refl));
      widths = not-false (widths_fit instr.op) (fails_there (λ (spot : Spot). not (widths_fit spot.instr.op))
          (append_none (bad_params f.params) (places_where (λ (spot : Spot). not (widths_fit spot.instr.op)) f)
          (append_none (unless (is_wide f.ret) (BlockAt (record { 0 = entry f.blocks })))
          (bad_params f.params ++ places_where (λ (spot : Spot). not (widths_fit spot.instr.op)) f)
          (unbroken signatures f accepted 4 rule.BadWidth refl)).1).1);
      voids = fails_there (λ (spot : Spot). is_void_value spot.instr)
          (unbroken signatures f accepted 8 rule.VoidValue refl);
      pointers = fails_there (λ (spot : Spot). misuses_pointer spot.instr.op)
          (unbroken signatures f accepted 10 rule.PointerPredicate refl);
      calls = not-false (call_fits signatures instr.op)
          (fails_there (λ (spot : Spot). not (call_fits signatures spot.instr.op))
          (unbroken signatures f accepted 11 rule.CallMismatch refl));
      entries = not-false (entries_fit f b instr.op)
          (fails_there (λ (spot : Spot). not (entries_fit f spot.block spot.instr.op))
          (unbroken signatures f accepted 7 rule.PhiEntries refl));
      leads = leads_on;
    }

    -- what ends a block stands last, and nothing else does
    pub ends_at : is_terminator instr.op ≡ false → suc i < length block.instrs
    ends_at goes = goes_on block.instrs (block_formed b block stands.block) i instr stands.instr goes

    pub last_at : is_terminator instr.op ≡ true → suc i ≡ length block.instrs
    last_at ends = stands_last block.instrs (block_formed b block stands.block) i instr stands.instr ends

    -- no phi stands behind the leading ones
    pub no_late_phi : length (leading_phis block.instrs) ≤ i → is_phi instr.op ≡ false
    no_late_phi behind =
        let phis : Block → List Place = λ block.
        map (λ (instr : Instr). place (record { block = block.id.0; instr = instr })) (late false block.instrs) in
        let none = flat_map_none phis f.blocks block (unbroken signatures f accepted 6 rule.PhiNotFirst refl)
        (block_in f b block stands.block).0 in
        none_late block.instrs (map_none (λ (one : Instr). place (record { block = block.id.0; instr = one }))
        (late false block.instrs) none) i instr stands.instr behind

  module _ (b : ℕ) (block : Block) (at : block_of f b ≡ Some block) where
    pub some_instr : 0 < length block.instrs
    some_instr = some_formed block.instrs (block_formed b block at)

    -- the last instruction is no phi
    pub leading_ends : length (leading_phis block.instrs) < length block.instrs
    leading_ends = phis_end block.instrs (block_formed b block at)
