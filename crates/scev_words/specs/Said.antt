-- What the words of the mode `eval` say, one after another.
use Rattle.std.specs.Prelude.{◌==◌, ◌&&◌, ◌+◌, ℕ, Bool, true, false, not, nat_le, List, [], ◌∷◌, Option, Some, None}
use Rattle.std.specs.Prelude.{if◌then◌else◌, codes, option_map, option_and_then, is_none, take, drop, position}
use Rattle.std.specs.Str.{bytes_eq}
use Rattle.eval_request.specs.Asked.{Asked}
use Rattle.eval_request.specs.Numeral.{is_numeral, numeral_value}
use Rattle.scev_words.specs.Modes.{Name, Function, Args, Steps, name_text, steps_most}

-- Whether `eval` was said, the values of the options, and the option whose value is the next word.
pub record Said : Type 0 where
  pub mode : Bool
  pub function : Option (List ℕ)
  pub args : Option (List ℕ)
  pub steps : Option (List ℕ)
  pub awaited : Option Name

abbrev pub nothing_said : Said
nothing_said = record { mode = false; function = None; args = None; steps = None; awaited = None }

abbrev pub is_value : List ℕ → Bool
is_value [] = false
is_value (first ∷ text) = not (first == 45)

-- With the value of an option that has none so far.
unfoldable pub with_value : Said → Name → List ℕ → Option Said
with_value said Function value = if is_value value && is_none said.function
    then Some (record said { function = Some value }) else None
with_value said Args value = if is_value value && is_none said.args
    then Some (record said { args = Some value }) else None
with_value said Steps value = if is_value value && is_none said.steps
    then Some (record said { steps = Some value }) else None

unfoldable pub name_of : List ℕ → Option Name
name_of text = if bytes_eq text (name_text Function) then Some Function
    else (if bytes_eq text (name_text Args) then Some Args
    else (if bytes_eq text (name_text Steps) then Some Steps else None))

abbrev pub is_equals : ℕ → Bool
is_equals byte = byte == 61

abbrev pub awaiting : Said → Name → Said
awaiting said name = record said { awaited = Some name }

-- With an option, whose text behind `--` is given.
unfoldable pub with_option : Said → List ℕ → Option Said
with_option said text = elim (position is_equals text) [
  | None ↦ option_map (awaiting said) (name_of text)
  | Some at ↦ option_and_then (λ name. with_value said name (drop (at + 1) text)) (name_of (take at text))
]

abbrev pub with_dashes : Said → List ℕ → Option Said
with_dashes said [] = None
with_dashes said (a ∷ []) = None
with_dashes said (a ∷ b ∷ text) = if (a == 45) && (b == 45) then with_option said text else None

-- With a word that is no value of the option before it.
unfoldable pub with_word : Said → List ℕ → Option Said
with_word said word = if bytes_eq word (codes "eval")
    then (if said.mode then None else Some (record said { mode = true }))
    else with_dashes said word

-- With one word more.
unfoldable pub said_also : Said → List ℕ → Option Said
said_also said word = elim said.awaited [
  | None ↦ with_word said word
  | Some name ↦ with_value (record said { awaited = None }) name word
]

abbrev pub most_of : Option (List ℕ) → Option ℕ
most_of None = Some steps_most
most_of (Some text) = if is_numeral text && nat_le (numeral_value text) steps_most
    then Some (numeral_value text) else None

abbrev pub asked_at : Said → ℕ → Option Asked
asked_at said most = option_map (λ name. record { name = name; args = said.args; most = most }) said.function

-- What is asked for, where all words are said.
unfoldable pub asked_of : Said → Option Asked
asked_of said = if said.mode && is_none said.awaited
    then option_and_then (asked_at said) (most_of said.steps) else None

-- What is asked for, where these words follow.
unfoldable pub asked_with : Said → List (List ℕ) → Option Asked
asked_with said [] = asked_of said
asked_with said (word ∷ words) = option_and_then (λ more. asked_with more words) (said_also said word)
