-- Parts of a call ask for a run together with what was said before them.
use Rattle.std.proofs.Common.{◌≡◌, inl, inr, ℕ, Bool, true, false, cond, ◌&&◌, List, [], ◌∷◌, ◌++◌, Option, Some, None}
use Rattle.std.proofs.Common.{refl}
use Rattle.std.specs.Prelude.{codes, is_none}
use Rattle.std.proofs.lemmas.Option.{none-some, same_Some}
use Rattle.eval_request.specs.Asked.{Asked}
use Rattle.scev_words.specs.Modes.{Name, Function, Args, Steps, name_text, IsValue, Part, TheMode, With}
use Rattle.scev_words.specs.Modes.{modes_in, values_of, IsOptional, IsMost}
use Rattle.scev_words.specs.Said.{Said, is_value, with_value}
use Rattle.scev_words.proofs.Words.{value_is, is_value-value}

-- the word of the option whose value is the next word
abbrev pub awaited_words : Option Name → List (List ℕ)
awaited_words None = []
awaited_words (Some name) = (codes "--" ++ name_text name) ∷ []

abbrev pub modes_said : Bool → List Part
modes_said true = TheMode ∷ []
modes_said false = []

abbrev pub values_said : Option (List ℕ) → List (List ℕ)
values_said None = []
values_said (Some value) = value ∷ []

pub record Asks (asked : Asked) (said : Said) (parts : List Part) : Type 0 where
  pub mode : modes_said said.mode ++ modes_in parts ≡ TheMode ∷ []
  pub name : values_said said.function ++ values_of Function parts ≡ asked.name ∷ []
  pub args : IsOptional (values_said said.args ++ values_of Args parts) asked.args
  pub most : IsMost (values_said said.steps ++ values_of Steps parts) asked.most

-- Which option awaits its value is no matter here.
pub asks_awaiting : (asked : Asked) (said : Said) (awaited : Option Name) (parts : List Part) → Asks asked said parts
    → Asks asked (record said { awaited = awaited }) parts
asks_awaiting asked said awaited parts a = record { mode = a.mode; name = a.name; args = a.args; most = a.most }

pub asks_awaited : (asked : Asked) (said : Said) (awaited : Option Name) (parts : List Part)
    → Asks asked (record said { awaited = awaited }) parts → Asks asked said parts
asks_awaited asked said awaited parts a = record { mode = a.mode; name = a.name; args = a.args; most = a.most }

-- ---- the mode is said once

no_mode_yet : (said : Bool) (parts : List Part) → modes_said said ++ (TheMode ∷ modes_in parts) ≡ TheMode ∷ []
    → said ≡ false
no_mode_yet false parts e = refl
no_mode_yet true parts e = cc

pub record WithMode (asked : Asked) (said : Said) (parts : List Part) : Type 0 where
  pub free : said.mode ≡ false
  pub asks : Asks asked (record said { mode = true }) parts

pub mode_asks : (asked : Asked) (said : Said) (parts : List Part) → Asks asked said (TheMode ∷ parts)
    → WithMode asked said parts
mode_asks asked said parts a =
    let free = no_mode_yet said.mode parts a.mode in
    record { free = free; asks = record { mode = rw free at a.mode; name = a.name; args = a.args; most = a.most } }

pub asks_mode : (asked : Asked) (said : Said) (parts : List Part) → WithMode asked said parts
    → Asks asked said (TheMode ∷ parts)
asks_mode asked said parts w =
    record { mode = rw w.free w.asks.mode; name = w.asks.name; args = w.asks.args; most = w.asks.most }

-- ---- an option is given a value once

abbrev pub filled : Said → Name → List ℕ → Said
filled said Function value = record said { function = Some value }
filled said Args value = record said { args = Some value }
filled said Steps value = record said { steps = Some value }

abbrev pub value_said : Said → Name → Option (List ℕ)
value_said said Function = said.function
value_said said Args = said.args
value_said said Steps = said.steps

pub awaited-filled : (said : Said) (name : Name) (value : List ℕ) → (filled said name value).awaited ≡ said.awaited
awaited-filled said Function value = refl
awaited-filled said Args value = refl
awaited-filled said Steps value = refl

no_value_yet : (said : Option (List ℕ)) (value name : List ℕ) (others : List (List ℕ))
    → values_said said ++ (value ∷ others) ≡ name ∷ [] → said ≡ None
no_value_yet None value name others e = refl
no_value_yet (Some x) value name others e = cc

none_optional : (said : Option (List ℕ)) (value : List ℕ) (others : List (List ℕ)) (wanted : Option (List ℕ))
    → IsOptional (values_said said ++ (value ∷ others)) wanted → said ≡ None
none_optional None value others wanted e = refl
none_optional (Some x) value others None e = cc
none_optional (Some x) value others (Some y) e = cc

no_steps_yet : (said : Option (List ℕ)) (value : List ℕ) (others : List (List ℕ)) (most : ℕ)
    → IsMost (values_said said ++ (value ∷ others)) most → said ≡ None
no_steps_yet None value others most e = refl
no_steps_yet (Some x) value others most (inl h) = let e : x ∷ value ∷ others ≡ [] = h.0 in cc
no_steps_yet (Some x) value others most (inr h) = let e : x ∷ value ∷ others ≡ h.0 ∷ [] = h.1 in cc

pub record WithValue (asked : Asked) (said : Said) (name : Name) (value : List ℕ) (parts : List Part) : Type 0 where
  pub free : value_said said name ≡ None
  pub asks : Asks asked (filled said name value) parts

pub value_asks : (asked : Asked) (said : Said) (name : Name) (value : List ℕ) (parts : List Part)
    → Asks asked said (With name value ∷ parts) → WithValue asked said name value parts
value_asks asked said Function value parts a =
    let free = no_value_yet said.function value asked.name (values_of Function parts) a.name in
    record { free = free; asks = record { mode = a.mode; name = rw free at a.name; args = a.args; most = a.most } }
value_asks asked said Args value parts a =
    let free = none_optional said.args value (values_of Args parts) asked.args a.args in
    record { free = free; asks = record { mode = a.mode; name = a.name; args = rw free at a.args; most = a.most } }
value_asks asked said Steps value parts a =
    let free = no_steps_yet said.steps value (values_of Steps parts) asked.most a.most in
    record { free = free; asks = record { mode = a.mode; name = a.name; args = a.args; most = rw free at a.most } }

pub asks_value : (asked : Asked) (said : Said) (name : Name) (value : List ℕ) (parts : List Part)
    → WithValue asked said name value parts → Asks asked said (With name value ∷ parts)
asks_value asked said Function value parts w =
    record { mode = w.asks.mode; name = rw w.free w.asks.name; args = w.asks.args; most = w.asks.most }
asks_value asked said Args value parts w =
    record { mode = w.asks.mode; name = w.asks.name; args = rw w.free w.asks.args; most = w.asks.most }
asks_value asked said Steps value parts w =
    record { mode = w.asks.mode; name = w.asks.name; args = w.asks.args; most = rw w.free w.asks.most }

-- That is when `with_value` takes it.
pub takes : (said : Said) (name : Name) (value : List ℕ) → IsValue value → value_said said name ≡ None
    → with_value said name value ≡ Some (filled said name value)
unfolding with_value
takes said Function value is free = rw (is_value-value value is, free) refl
takes said Args value is free = rw (is_value-value value is, free) refl
takes said Steps value is free = rw (is_value-value value is, free) refl

pub record Taken (said : Said) (name : Name) (value : List ℕ) (more : Said) : Type 0 where
  pub is : IsValue value
  pub free : value_said said name ≡ None
  pub new : filled said name value ≡ more

taken_at : (b : Bool) (o : Option (List ℕ)) (new more : Said) → cond (b && is_none o) (Some new) None ≡ Some more
    → (b ≡ true) × (o ≡ None) × (new ≡ more)
taken_at true None new more e = (refl, refl, same_Some new more e)
taken_at true (Some x) new more e = absurd (none-some more e)
taken_at false o new more e = absurd (none-some more e)

pub taken : (said : Said) (name : Name) (value : List ℕ) (more : Said) → with_value said name value ≡ Some more
    → Taken said name value more
unfolding with_value
taken said Function value more e =
    let h = taken_at (is_value value) said.function (record said { function = Some value }) more e in
    record { is = value_is value h.0; free = h.1; new = h.2 }
taken said Args value more e =
    let h = taken_at (is_value value) said.args (record said { args = Some value }) more e in
    record { is = value_is value h.0; free = h.1; new = h.2 }
taken said Steps value more e =
    let h = taken_at (is_value value) said.steps (record said { steps = Some value }) more e in
    record { is = value_is value h.0; free = h.1; new = h.2 }
