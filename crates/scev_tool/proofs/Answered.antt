-- Which status comes, by what is seen of a call.
use Rattle.std.proofs.Common.{◌≡◌, ℕ, ◌<◌, ◌≤◌, List, [], length, Option, Some, None, ◌⊎◌, inl, inr, refl, sym, ap}
use Rattle.std.proofs.Common.{subst, ◌∙◌, arith}
use Rattle.std.proofs.Common.{IfSome}
use Rattle.std.proofs.lemmas.Option.{none-some, same_Some}
use Rattle.scev_base.specs.declared.ids.FuncId.{FuncId}
use Rattle.ir_model.specs.declared.item.Module.{Module}
use Rattle.ir_model.specs.declared.rule.Rule.{Rule}
use Rattle.ir_model.specs.declared.rule.Place.{Place}
use Rattle.ir_rules.specs.Accepted.{IsAcceptedModule, IsFault}
use Rattle.ir_accept.proofs.OneFault.{one_fault, not_accepted}
use Rattle.ir_reader.proofs.OneModule.{one_module}
use Rattle.ir_grammar.specs.Spelled.{Spells, SpellsNone, IsNotInGrammar, IsUnsupported}
use Rattle.ir_reader.proofs.OneRefusal.{one_place}
use Rattle.ir_reader.proofs.OneName.{one_number_and_place, not_both}
use Rattle.scev_outside.specs.Faults.{Rose}
use Rattle.scev_tool.specs.declared.status.Status.{Status}
use Rattle.scev_tool.specs.declared.status.Status.TheVariants as status
use Rattle.ir_accept.specs.Line.{fault_text}
use Rattle.scev_tool.specs.Message.{IsOwnLine}
use Rattle.scev_tool.specs.Status.{Refuses}
use Rattle.eval_request.specs.Asked.{Asked}
use Rattle.ir_eval.specs.Outcome.{IsEval, HasNoFunction, HasBadArgs}
use Rattle.scev_words.specs.Modes.{Mode, Print, Report, Eval, AskFor}
use Rattle.scev_words.proofs.OneMode.{one_mode}
use Rattle.scev_tool.specs.Mode.{IsTextOf, HasAsked}
use Rattle.scev_tool.specs.Answer.{Seen, OfInput, AskedOfModule, IsAnswer, input_limit}

-- Bytes with a text spell a module that is accepted.
spelled_by : (which : Mode) (bytes text : List ℕ) → IsTextOf which bytes text
    → (m : Module) × Spells bytes m × IsAcceptedModule m
spelled_by Print bytes text h = (h.m, h.spelled, h.accepted)
spelled_by Report bytes text h = (h.m, h.spelled, h.accepted)
spelled_by (Eval asked) bytes text h = (h.m, h.spelled, h.accepted)

-- A text about a run is about one that its module has,
has_asked : (m : Module) (asked : Asked) (text : List ℕ) → IsEval m asked text → HasAsked (Eval asked) m
has_asked m asked text is = (
  λ (none : HasNoFunction m asked). none-some is.0 (sym none ∙ is.3),
  λ (bad : HasBadArgs m asked).
      let same : bad.0 ≡ is.0 = same_Some bad.0 is.0 (sym bad.1 ∙ is.3) in
      none-some (is.1, is.2) (sym (rw same at bad.2) ∙ is.4),
)

-- and that is the module of the bytes.
has_of_text : (which : Mode) (asked : Asked) (bytes text : List ℕ) (m : Module) → which ≡ Eval asked
    → IsTextOf which bytes text → Spells bytes m → HasAsked (Eval asked) m
has_of_text which asked bytes text m is h spelled =
    let about = rw is at h in
    subst (λ (n : Module). HasAsked (Eval asked) n) (one_module bytes about.m m about.spelled spelled)
    (has_asked about.m asked text about.eval)

-- A module has the function, or its arguments aren't looked at.
not_both_ways : (m : Module) (asked : Asked) → HasNoFunction m asked → HasBadArgs m asked → ⊥
not_both_ways m asked none bad = none-some bad.0 (sym none ∙ bad.1)

-- The module of the bytes isn't accepted and refused.
not_both_of : (bytes : List ℕ) (m n : Module) (rule : Rule) (number : ℕ) (place : Place) → Spells bytes m
    → Spells bytes n
    → IsAcceptedModule m
    → IsFault n rule number place
    → ⊥
not_both_of bytes m n rule number place first second accepted fault =
    not_accepted n rule number place (subst IsAcceptedModule (one_module bytes m n first second) accepted) fault

-- What holds of the input holds of what the source had left.
pub of_input : (left_old left_new : Option (List ℕ)) (bytes : List ℕ) (Holds : List ℕ → Type 0)
    → IfSome left_old (λ left. (bytes ≡ left) × (left_new ≡ Some []))
    → length bytes ≤ input_limit
    → Holds bytes
    → IfSome left_old (λ left. (length left ≤ input_limit) × (left_new ≡ Some []) × Holds left)
of_input None left_new bytes Holds all short holds = tt
of_input (Some left) left_new bytes Holds all short holds = rw (← all.0) (short, all.1, holds)

-- What holds of the bytes that are read, without the limit.
told : (left_old left_new : Option (List ℕ)) (bytes : List ℕ) (Holds : List ℕ → Type 0)
    → IfSome left_old (λ left. (bytes ≡ left) × (left_new ≡ Some []))
    → Holds bytes
    → IfSome left_old Holds
told None left_new bytes Holds all holds = tt
told (Some left) left_new bytes Holds all holds = rw (← all.0) holds

-- The status and the line of a module that breaks a rule, unless there is no memory for the line.
pub ill_answer : (seen : Seen) (which : Mode) → AskFor which seen.words → (bytes : List ℕ) (m : Module) (rule : Rule)
    (function : FuncId) (place : Place) (s : Status) (line : List ℕ)
    → IfSome seen.left_old (λ left. (bytes ≡ left) × (seen.left_new ≡ Some []))
    → length bytes ≤ input_limit
    → Spells bytes m
    → IsFault m rule function.0 place
    → ((s ≡ status.Ill rule function place) × (line ≡ fault_text m rule function.0 place))
    ⊎ ((s ≡ status.OutOfMemory) × (line ≡ []))
    → IsAnswer seen s × IsOwnLine seen.words seen.left_old s line
ill_answer seen which asked bytes m rule function place s line all short spelled fault (inl l) = (
  rw l.0 (
    which,
    asked,
    of_input seen.left_old seen.left_new bytes
        (λ bytes. (m : Module) × Spells bytes m × IsFault m rule function.0 place) all short (m, spelled, fault),
  ),
  rw l.0 (told seen.left_old seen.left_new bytes
      (λ bytes. (m : Module) × Spells bytes m × (line ≡ fault_text m rule function.0 place)) all (m, spelled, l.1)),
)
ill_answer seen which asked bytes m rule function place s line all short spelled fault (inr l) =
    (rw l.0 (which, asked, tt), rw l.0 l.1)

-- A call whose words ask for a mode, with what its source had left.
pub record Call (seen : Seen) (bytes : List ℕ) : Type 0 where
  pub which : Mode
  pub asked : AskFor which seen.words
  pub left : seen.left_old ≡ Some bytes
  pub no_read_fault : Rose seen.reads_old seen.reads_new → ⊥

module _ (seen : Seen) (bytes : List ℕ) (call : Call seen bytes) where
  held : (Holds : List ℕ → Type 0) → OfInput seen Holds → (length bytes ≤ input_limit) × Holds bytes
  held Holds input = let now = rw call.left at input in (now.0, now.2)

  -- what is refused, and at which place
  refused : (at : ℕ) → IsAnswer seen (status.NotInGrammar at) → IsNotInGrammar bytes at
  refused at h = (held (λ bytes. IsNotInGrammar bytes at) h.2).1

  left_out : (word at : ℕ) → IsAnswer seen (status.Unsupported word at) → IsUnsupported bytes word at
  left_out word at h = (held (λ bytes. IsUnsupported bytes word at) h.2).1

  -- which rule is broken, of which function and at which place
  ill : (rule : Rule) (function : FuncId) (place : Place) → IsAnswer seen (status.Ill rule function place)
      → (m : Module) × Spells bytes m × IsFault m rule function.0 place
  ill rule function place h =
      (held (λ bytes. (m : Module) × Spells bytes m × IsFault m rule function.0 place) h.2).1

  -- which run isn't made, of which module
  unmade : (Holds : Module → Asked → Type 0) (m : Module) → AskedOfModule seen Holds → Spells bytes m
      → (asked : Asked) × (call.which ≡ Eval asked) × Holds m asked
  unmade Holds m h spelled =
      let by = (held _ h.2).1 in (
        h.0,
        one_mode call.which (Eval h.0) seen.words call.asked h.1,
        subst (λ (n : Module). Holds n h.0) (one_module bytes by.0 m by.1 spelled) by.3,
      )

  -- A module within the limit that breaks no rule and has what is asked for is answered, unless memory runs out or the
  -- output's count of faults rises.
  pub complete : (s : Status) (m : Module) → IsAnswer seen s → Spells bytes m → IsAcceptedModule m
      → HasAsked call.which m
      → length bytes ≤ input_limit
      → (Rose seen.writes_old seen.writes_new → ⊥)
      → (s ≡ status.Done) ⊎ (s ≡ status.OutOfMemory)
  complete status.Done m h spelled accepted has short writes = inl refl
  complete status.Usage m h spelled accepted has short writes = absurd (h call.which call.asked)
  complete status.ReadFault m h spelled accepted has short writes = absurd (call.no_read_fault h.2)
  complete status.TooLong m h spelled accepted has short writes =
      let long : input_limit < length bytes = rw call.left at h.2 in absurd (omega arith)
  complete (status.NotInGrammar at) m h spelled accepted has short writes =
      absurd ((refused at h).refusal.none m spelled)
  complete (status.Unsupported word at) m h spelled accepted has short writes =
      absurd ((left_out word at h).refusal.none m spelled)
  complete (status.Ill rule function place) m h spelled accepted has short writes =
      let found = ill rule function place h in
      absurd (not_both_of bytes m found.0 rule function.0 place spelled found.1 accepted found.2)
  complete status.NoFunction m h spelled accepted has short writes =
      let run = unmade HasNoFunction m h spelled in
      let with_it : HasAsked (Eval run.0) m = rw run.1 at has in absurd (with_it.0 run.2)
  complete status.BadArgs m h spelled accepted has short writes =
      let run = unmade HasBadArgs m h spelled in
      let with_it : HasAsked (Eval run.0) m = rw run.1 at has in absurd (with_it.1 run.2)
  complete status.WriteFault m h spelled accepted has short writes = absurd (writes h.2.0)
  complete status.OutOfMemory m h spelled accepted has short writes = inr refl

  -- One that breaks a rule is refused at the first one, with its first place.
  pub rules : (s : Status) (m : Module) (rule : Rule) (number : ℕ) (place : Place) → IsAnswer seen s → Spells bytes m
      → IsFault m rule number place
      → length bytes ≤ input_limit
      → (s ≡ status.Ill rule (record { 0 = number }) place) ⊎ (s ≡ status.OutOfMemory)
  rules status.Done m rule number place h spelled fault short =
      let text = (held _ h.2).1 in
      let by = spelled_by h.0 bytes text.0 text.1 in
      absurd (not_both_of bytes by.0 m rule number place by.1 spelled by.2 fault)
  rules status.Usage m rule number place h spelled fault short = absurd (h call.which call.asked)
  rules status.ReadFault m rule number place h spelled fault short = absurd (call.no_read_fault h.2)
  rules status.TooLong m rule number place h spelled fault short =
      let long : input_limit < length bytes = rw call.left at h.2 in absurd (omega arith)
  rules (status.NotInGrammar at) m rule number place h spelled fault short =
      absurd ((refused at h).refusal.none m spelled)
  rules (status.Unsupported word at) m rule number place h spelled fault short =
      absurd ((left_out word at h).refusal.none m spelled)
  rules (status.Ill other function at) m rule number place h spelled fault short =
      let found = ill other function at h in
      let same = subst (λ (n : Module). IsFault n other function.0 at)
      (one_module bytes found.0 m found.1 spelled) found.2 in
      let one = one_fault m other rule function.0 number at place same fault in
      inl (ap (λ (r : Rule). status.Ill r function at) one.0
      ∙ ap (λ (k : ℕ). status.Ill rule (record { 0 = k }) at) one.1
      ∙ ap (status.Ill rule (record { 0 = number })) one.2)
  rules status.NoFunction m rule number place h spelled fault short =
      let by = (held _ h.2).1 in absurd (not_both_of bytes by.0 m rule number place by.1 spelled by.2 fault)
  rules status.BadArgs m rule number place h spelled fault short =
      let by = (held _ h.2).1 in absurd (not_both_of bytes by.0 m rule number place by.1 spelled by.2 fault)
  rules status.WriteFault m rule number place h spelled fault short =
      let text = (held _ h.2.1).1 in
      let by = spelled_by h.0 bytes text.0 text.1 in
      absurd (not_both_of bytes by.0 m rule number place by.1 spelled by.2 fault)
  rules status.OutOfMemory m rule number place h spelled fault short = inr refl

  -- A run that the module doesn't have isn't made:
  without_it : (s : Status) (m : Module) (asked : Asked) → AskFor (Eval asked) seen.words → IsAnswer seen s
      → Spells bytes m
      → IsAcceptedModule m
      → (HasAsked (Eval asked) m → ⊥)
      → length bytes ≤ input_limit
      → (s ≡ status.NoFunction) ⊎ (s ≡ status.BadArgs) ⊎ (s ≡ status.OutOfMemory)
  without_it status.Done m asked asks h spelled accepted lacks short =
      let text = (held _ h.2).1 in
      absurd (lacks (has_of_text h.0 asked bytes text.0 m (one_mode h.0 (Eval asked) seen.words h.1 asks) text.1
      spelled))
  without_it status.Usage m asked asks h spelled accepted lacks short = absurd (h call.which call.asked)
  without_it status.ReadFault m asked asks h spelled accepted lacks short = absurd (call.no_read_fault h.2)
  without_it status.TooLong m asked asks h spelled accepted lacks short =
      let long : input_limit < length bytes = rw call.left at h.2 in absurd (omega arith)
  without_it (status.NotInGrammar at) m asked asks h spelled accepted lacks short =
      absurd ((refused at h).refusal.none m spelled)
  without_it (status.Unsupported word at) m asked asks h spelled accepted lacks short =
      absurd ((left_out word at h).refusal.none m spelled)
  without_it (status.Ill rule function place) m asked asks h spelled accepted lacks short =
      let found = ill rule function place h in
      absurd (not_both_of bytes m found.0 rule function.0 place spelled found.1 accepted found.2)
  without_it status.NoFunction m asked asks h spelled accepted lacks short = inl refl
  without_it status.BadArgs m asked asks h spelled accepted lacks short = inr (inl refl)
  without_it status.WriteFault m asked asks h spelled accepted lacks short =
      let text = (held _ h.2.1).1 in
      absurd (lacks (has_of_text h.0 asked bytes text.0 m (one_mode h.0 (Eval asked) seen.words h.1 asks) text.1
      spelled))
  without_it status.OutOfMemory m asked asks h spelled accepted lacks short = inr (inr refl)

  -- which run is asked for
  the_run : (Holds : Module → Asked → Type 0) (m : Module) (asked : Asked) → AskFor (Eval asked) seen.words
      → AskedOfModule seen Holds
      → Spells bytes m
      → Holds m asked
  the_run Holds m asked asks h spelled =
      let run = unmade Holds m h spelled in
      let same : Eval run.0 ≡ Eval asked = sym run.1 ∙ one_mode call.which (Eval asked) seen.words call.asked asks in
      subst (λ (a : Asked). Holds m a) (cc) run.2

  -- where the function is missing, for that reason,
  pub no_function : (s : Status) (m : Module) (asked : Asked) → AskFor (Eval asked) seen.words → IsAnswer seen s
      → Spells bytes m
      → IsAcceptedModule m
      → HasNoFunction m asked
      → length bytes ≤ input_limit
      → (s ≡ status.NoFunction) ⊎ (s ≡ status.OutOfMemory)
  no_function s m asked asks h spelled accepted none short =
      elim (without_it s m asked asks h spelled accepted (λ (has : HasAsked (Eval asked) m). has.0 none) short) [
        | inl missing ↦ inl missing
        | inr (inl bad) ↦
            absurd (not_both_ways m asked none (the_run HasBadArgs m asked asks (subst (IsAnswer seen) bad h) spelled))
        | inr (inr out) ↦ inr out
      ]

  -- and where its arguments don't fit, for that one.
  pub bad_args : (s : Status) (m : Module) (asked : Asked) → AskFor (Eval asked) seen.words → IsAnswer seen s
      → Spells bytes m
      → IsAcceptedModule m
      → HasBadArgs m asked
      → length bytes ≤ input_limit
      → (s ≡ status.BadArgs) ⊎ (s ≡ status.OutOfMemory)
  bad_args s m asked asks h spelled accepted misfit short =
      elim (without_it s m asked asks h spelled accepted (λ (has : HasAsked (Eval asked) m). has.1 misfit) short) [
        | inl missing ↦
            let none = the_run HasNoFunction m asked asks (subst (IsAnswer seen) missing h) spelled in
            absurd (not_both_ways m asked none misfit)
        | inr (inl bad) ↦ inl bad
        | inr (inr out) ↦ inr out
      ]

  -- What spells no module is refused:
  pub refuses : (s : Status) → IsAnswer seen s → SpellsNone bytes → length bytes ≤ input_limit
      → Refuses s ⊎ (s ≡ status.OutOfMemory)
  refuses status.Done h none short =
      let text = (held _ h.2).1 in
      let by = spelled_by h.0 bytes text.0 text.1 in absurd (none by.0 by.1)
  refuses status.Usage h none short = absurd (h call.which call.asked)
  refuses status.ReadFault h none short = absurd (call.no_read_fault h.2)
  refuses status.TooLong h none short =
      let long : input_limit < length bytes = rw call.left at h.2 in absurd (omega arith)
  refuses (status.NotInGrammar at) h none short = inl tt
  refuses (status.Unsupported word at) h none short = inl tt
  refuses (status.Ill rule function place) h none short =
      let found = ill rule function place h in absurd (none found.0 found.1)
  refuses status.NoFunction h none short = let by = (held _ h.2).1 in absurd (none by.0 by.1)
  refuses status.BadArgs h none short = let by = (held _ h.2).1 in absurd (none by.0 by.1)
  refuses status.WriteFault h none short =
      let text = (held _ h.2.1).1 in
      let by = spelled_by h.0 bytes text.0 text.1 in absurd (none by.0 by.1)
  refuses status.OutOfMemory h none short = inr refl

  -- where it is refused without a name, at its place,
  pub places : (s : Status) (place : ℕ) → IsAnswer seen s → IsNotInGrammar bytes place → length bytes ≤ input_limit
      → (s ≡ status.NotInGrammar place) ⊎ (s ≡ status.OutOfMemory)
  places s place h none short = elim (refuses s h none.refusal.none short) [
    | inl refused ↦ at_its_place s h refused
    | inr out ↦ inr out
  ]
    where
      at_its_place : (s : Status) → IsAnswer seen s → Refuses s
          → (s ≡ status.NotInGrammar place) ⊎ (s ≡ status.OutOfMemory)
      at_its_place (status.NotInGrammar at) h refuses =
          inl (ap status.NotInGrammar (one_place bytes at place (refused at h) none))
      at_its_place (status.Unsupported word at) h refuses =
          absurd (not_both bytes place word at none (left_out word at h))
      at_its_place _ h refuses = absurd refuses

  -- and else under its name.
  pub names : (s : Status) (number place : ℕ) → IsAnswer seen s → IsUnsupported bytes number place
      → length bytes ≤ input_limit
      → (s ≡ status.Unsupported number place) ⊎ (s ≡ status.OutOfMemory)
  names s number place h none short = elim (refuses s h none.refusal.none short) [
    | inl refused ↦ under_its_name s h refused
    | inr out ↦ inr out
  ]
    where
      under_its_name : (s : Status) → IsAnswer seen s → Refuses s
          → (s ≡ status.Unsupported number place) ⊎ (s ≡ status.OutOfMemory)
      under_its_name (status.NotInGrammar at) h refuses =
          absurd (not_both bytes at number place (refused at h) none)
      under_its_name (status.Unsupported word at) h refuses =
          let same = one_number_and_place bytes word at number place (left_out word at h) none in
          inl (ap (λ (n : ℕ). status.Unsupported n at) same.0 ∙ ap (status.Unsupported number) same.1)
      under_its_name _ h refuses = absurd refuses

  -- What is longer than the limit is refused as such.
  pub limits : (s : Status) → IsAnswer seen s → input_limit < length bytes
      → (s ≡ status.TooLong) ⊎ (s ≡ status.OutOfMemory)
  limits status.Done h long = let input = held _ h.2 in absurd (omega arith)
  limits status.Usage h long = absurd (h call.which call.asked)
  limits status.ReadFault h long = absurd (call.no_read_fault h.2)
  limits status.TooLong h long = inl refl
  limits (status.NotInGrammar at) h long =
      let input = held (λ bytes. IsNotInGrammar bytes at) h.2 in absurd (omega arith)
  limits (status.Unsupported word at) h long =
      let input = held (λ bytes. IsUnsupported bytes word at) h.2 in absurd (omega arith)
  limits (status.Ill rule function place) h long =
      let input = held (λ bytes. (m : Module) × Spells bytes m × IsFault m rule function.0 place) h.2 in
      absurd (omega arith)
  limits status.NoFunction h long = let input = held _ h.2 in absurd (omega arith)
  limits status.BadArgs h long = let input = held _ h.2 in absurd (omega arith)
  limits status.WriteFault h long = let input = held _ h.2.1 in absurd (omega arith)
  limits status.OutOfMemory h long = inr refl
