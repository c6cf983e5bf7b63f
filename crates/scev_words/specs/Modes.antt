-- What the words of a call ask for.
use Rattle.std.specs.Prelude.{◌≡◌, ◌≢◌, ◌⊎◌, ◌≤◌, ℕ, List, [], ◌∷◌, ◌++◌, Option, Some, None, IsTrue, codes}
use Rattle.eval_request.specs.Asked.{Asked}
use Rattle.eval_request.specs.Numeral.{is_numeral, numeral_value}

-- what a call does: the module is printed, its loops are reported, or a function is run
pub data Mode : Type 0 where
  Print : Mode
  Report : Mode
  Eval : Asked → Mode

-- ---- options

-- the options of a run
pub data Name : Type 0 where
  Function : Name
  Args : Name
  Steps : Name

abbrev pub name_text : Name → List ℕ
name_text Function = codes "function"
name_text Args = codes "args"
name_text Steps = codes "steps"

-- A value has a byte, and doesn't begin with `-`.
abbrev pub IsValue : List ℕ → Type 0
IsValue value = (value ≢ []) × ((text : List ℕ) → value ≢ codes "-" ++ text)

-- A part of a call: the word `eval`, or an option with its value.
pub data Part : Type 0 where
  TheMode : Part
  With : Name → List ℕ → Part

-- A part in words: an option stands as `--name value`, two words, or `--name=value`, one.
abbrev pub IsPart : Part → List (List ℕ) → Type 0
IsPart TheMode words = words ≡ codes "eval" ∷ []
IsPart (With name value) words = IsValue value
    × ((words ≡ (codes "--" ++ name_text name) ∷ value ∷ [])
    ⊎ (words ≡ (codes "--" ++ (name_text name ++ (codes "=" ++ value))) ∷ []))

-- The words are those of some parts, one after another.
abbrev pub AreParts : List Part → List (List ℕ) → Type 0
AreParts [] words = words ≡ []
AreParts (part ∷ parts) words = (first : List (List ℕ)) × (rest : List (List ℕ))
    × (words ≡ first ++ rest) × IsPart part first × AreParts parts rest

-- ---- a run

abbrev pub modes_in : List Part → List Part
modes_in [] = []
modes_in (TheMode ∷ parts) = TheMode ∷ modes_in parts
modes_in (With name value ∷ parts) = modes_in parts

-- the values of an option, one for each time that it stands
abbrev pub value_for : Name → Name → List ℕ → List (List ℕ)
value_for Function Function value = value ∷ []
value_for Args Args value = value ∷ []
value_for Steps Steps value = value ∷ []
value_for wanted name value = []

abbrev pub values_of : Name → List Part → List (List ℕ)
values_of wanted [] = []
values_of wanted (TheMode ∷ parts) = values_of wanted parts
values_of wanted (With name value ∷ parts) = value_for wanted name value ++ values_of wanted parts

-- the one value of an option that may be left out
abbrev pub IsOptional : List (List ℕ) → Option (List ℕ) → Type 0
IsOptional values None = values ≡ []
IsOptional values (Some value) = values ≡ value ∷ []

-- the most steps: a numeral up to this many, which they are where the option is left out
abbrev pub steps_most : ℕ
steps_most = 1000000

abbrev pub IsMost : List (List ℕ) → ℕ → Type 0
IsMost values most = ((values ≡ []) × (most ≡ steps_most))
    ⊎ ((text : List ℕ) × (values ≡ text ∷ []) × IsTrue (is_numeral text)
    × (numeral_value text ≡ most) × (most ≤ steps_most))

-- The words ask for a run: `eval` stands once, `--function` once, the other two options at most once, in any order.
pub record AskForEval (asked : Asked) (words : List (List ℕ)) : Type 0 where
  pub parts : List Part
  pub are : AreParts parts words
  pub mode : modes_in parts ≡ TheMode ∷ []
  pub name : values_of Function parts ≡ asked.name ∷ []
  pub args : IsOptional (values_of Args parts) asked.args
  pub most : IsMost (values_of Steps parts) asked.most

-- ---- a mode

-- The words ask for the mode.
abbrev pub AskFor : Mode → List (List ℕ) → Type 0
AskFor Print words = words ≡ codes "print" ∷ []
AskFor Report words = words ≡ codes "report" ∷ []
AskFor (Eval asked) words = AskForEval asked words
