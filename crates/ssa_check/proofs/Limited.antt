-- What the rules of shape say: no rule has a place, and the limits hold.
use Rattle.std.proofs.Common.{◌≡◌, ℕ, zero, suc, ◌+◌, ◌≤◌, Bool, true, false, ◌&&◌, List, [], ◌∷◌, ◌++◌, length, Option}
use Rattle.std.proofs.Common.{Some, None, All, slice_get, refl, sym, ap, ◌∙◌, arith}
use Rattle.std.specs.Prelude.{nat_lt}
use Rattle.std.proofs.lemmas.Bool.{and_parts, ltb-true}
use Rattle.std.proofs.lemmas.Option.{none-some, same_Some}
use Rattle.std.proofs.lemmas.List.Elements.{All-nil, All-cons}
use Rattle.ir_model.specs.declared.function.Instr.{Instr}
use Rattle.ir_model.specs.declared.function.Block.{Block}
use Rattle.ir_model.specs.declared.function.Function.{Function}
use Rattle.ir_model.specs.declared.signature.Signatures.{Signatures}
use Rattle.ir_model.specs.declared.rule.Rule.{Rule}
use Rattle.ir_model.specs.declared.rule.Rule.TheVariants as rule
use Rattle.ir_model.specs.declared.rule.Place.{Place}
use Rattle.ir_model.specs.declared.rule.Place.TheVariants.{BlockAt}
use Rattle.ir_rules.specs.Limits.{types_within, instrs_past, past, past_limits}
use Rattle.ir_rules.specs.Names.{unless, duplicate_names}
use Rattle.ir_rules.specs.Rules.{broken, shape_rules, first_with, first_of, first_broken}
use Rattle.ir_rules.specs.Spots.{named_by}
use Rattle.ssa_check.proofs.Elements.{append_none}

-- ---- no rule has a place

pub first_none : (rule : Rule) (at : List Place) (later : Option (Rule × Place)) → first_with rule at later ≡ None
    → (at ≡ []) × (later ≡ None)
first_none rule [] later none = (refl, none)
first_none rule (at ∷ more) later none = absurd (cc)

pub none_first : (places : Rule → List Place) (rules : List Rule) (k : ℕ) (rule : Rule) → first_of places rules ≡ None
    → slice_get rules k ≡ Some rule → places rule ≡ []
none_first places [] k rule none at = absurd (none-some rule at)
none_first places (first ∷ rules) zero rule none at =
    ap places (sym (same_Some first rule at)) ∙ (first_none first (places first) (first_of places rules) none).0
none_first places (first ∷ rules) (suc k) rule none at =
    none_first places rules k rule (first_none first (places first) (first_of places rules) none).1 at

module _ (signatures : Signatures) (f : Function) (shape : first_broken signatures f ≡ None) where
  pub no_duplicate : duplicate_names f ≡ []
  no_duplicate = none_first (broken signatures f) shape_rules 0 rule.DuplicateName shape refl

  pub none_past : past_limits f ≡ []
  none_past = none_first (broken signatures f) shape_rules 13 rule.Limit shape refl

-- ---- limits

pub holds_of_unless : (holds : Bool) (at : Place) → unless holds at ≡ [] → holds ≡ true
holds_of_unless true at none = refl
holds_of_unless false at none = absurd (cc)

few_instrs : (b before : ℕ) (instrs : List Instr) → before ≤ 8192 → instrs_past b before instrs ≡ []
    → before + length instrs ≤ 8192
few_instrs b before [] small none = omega arith
few_instrs b before (instr ∷ instrs) small none =
    let within = nat_lt before 8192 && types_within instr.op in
    let at = named_by b instr.result in
    let parts = append_none (unless within at) (instrs_past b (suc before) instrs) none in
    let both = and_parts (nat_lt before 8192) (types_within instr.op) (holds_of_unless within at parts.0) in
    let below = ltb-true before 8192 both.0 in
    let rest = few_instrs b (suc before) instrs (omega arith) parts.1 in
    omega arith

few_blocks : (count before : ℕ) (blocks : List Block) → count ≤ 1024 → before ≤ 8192 → past count before blocks ≡ []
    → (count + length blocks ≤ 1024) × All (λ (block : Block). length block.instrs ≤ 8192) blocks
few_blocks count before [] small low none = (omega arith, All-nil (λ (block : Block). length block.instrs ≤ 8192))
few_blocks count before (block ∷ blocks) small low none =
    let P : Block → Type 0 = λ block. length block.instrs ≤ 8192 in
    let here = instrs_past block.id.0 before block.instrs in
    let rest = past (suc count) (before + length block.instrs) blocks in
    let parts = append_none (unless (nat_lt count 1024) (BlockAt block.id)) (here ++ rest) none in
    let below = ltb-true count 1024 (holds_of_unless (nat_lt count 1024) (BlockAt block.id) parts.0) in
    let two = append_none here rest parts.1 in
    let own = few_instrs block.id.0 before block.instrs low two.0 in
    let more = few_blocks (suc count) (before + length block.instrs) blocks (omega arith) own two.1 in
    let count_is = more.0 in
    (omega arith, All-cons P block blocks (omega arith) more.1)

-- the blocks of a function, and the instructions of each, are within the limits
pub within_limits : (f : Function) → past_limits f ≡ []
    → (length f.blocks ≤ 1024) × All (λ (block : Block). length block.instrs ≤ 8192) f.blocks
within_limits f none =
    let all = few_blocks 0 0 f.blocks (omega arith) (omega arith) none in
    (omega (arith, all.0), all.1)
