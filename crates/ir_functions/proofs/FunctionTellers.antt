-- Functions with a body are read: function_tells.
use Rattle.std.proofs.Common.{◌≡◌, ℕ, Bool, List, [], ◌∷◌, Option, refl, sym, ap, subst, ◌∙◌, codes}
use Rattle.ir_model.specs.declared.types.IrType.{IrType}
use Rattle.ir_model.specs.declared.function.Param.{Param}
use Rattle.ir_model.specs.declared.function.Block.{Block}
use Rattle.ir_model.specs.declared.function.Function.{Function}
use Rattle.ir_text.specs.Tokens.{Lexeme}
use Rattle.ir_text.specs.Language.{one}
use Rattle.ir_text.specs.Written.{IsGlobal}
use Rattle.ir_text.specs.Mentions.{Mention, Mentioning, ◌⊙◌, silent, InOrder}
use Rattle.ir_model.specs.Kinds.{IsReturned}
use Rattle.ir_text.specs.PassedOn.{SpellsWords, metadata_pairs}
use Rattle.ir_grammar.specs.Operations.{the_word, the_sign, the_type, Listing}
use Rattle.ir_grammar.specs.Functions.{SpellsParam, SpellsBlock, SpellsFunction}
use Rattle.ir_parts.specs.declared.ending.Ending.{Ending}
use Rattle.ir_parts.specs.declared.ending.Run.{Run}
use Rattle.ir_parts.specs.Runs.{SpellsRunText}
use Rattle.ir_parts.proofs.Readers.{Anything}
use Rattle.ir_parts.proofs.WordsReader.{text_of_words, words_of_text}
use Rattle.ir_body.specs.declared.operation.Operation.{Operation}
use Rattle.ir_body.specs.Telling.{Telling, ◌⊗◌, ◌▷◌, made, sign_at}
use Rattle.ir_body.proofs.Tellers.{IsTeller, IsMade, told_as, told_reading, made_told, skip, both, then_as, sign_tells}
use Rattle.ir_functions.specs.Functions.{param_at, params_of, params_at, some_params_at, taken_params_at, signature_at, opening_at, block_at, blocks_at, body_at, function_of, function_at}
use Rattle.ir_functions.proofs.Regrouped.{left_told, right_told, left_three, right_three, left_four, right_four, found_first, found_then}
use Rattle.ir_functions.proofs.LineFacts.{ReadsCalls}
use Rattle.ir_functions.proofs.SameReadings.{skip_same, first_same, both_same, made_same, made_made, skip_made, first_made, then_made, listed_same}
use Rattle.ir_functions.proofs.ListingTellers.{SpellsListed, listing_seen, listing_found}
use Rattle.ir_functions.proofs.ParamTellers.{SpellsReadParam, param_seen, param_found, params_tell}
use Rattle.ir_functions.proofs.FunctionParts.{SpellsSignature, SpellsOpening, SpellsBody, signature_tells, opening_tells, body_tells}

-- ---- what is read of a function

abbrev ReadParams : Type 0
ReadParams = List (Param × Option Ending)

abbrev Words : Type 0
Words = Run × List ℕ

abbrev FunctionParts : Type 0
FunctionParts = (Words × (IrType × List ℕ)) × (ReadParams × (Words × (Block × List Block)))

-- a function's parts in a row, by the languages of those that are read with more than the function says
abbrev InARow : Mentioning → Mentioning → Mentioning → IrType → List ℕ → List Block → Mentioning
InARow before params after ret name blocks = the_word (codes "define") ⊙ (before ⊙ (the_type IsReturned ret
    ⊙ (silent (one (IsGlobal name)) ⊙ (the_sign 40 ⊙ (params ⊙ (the_sign 41 ⊙ (after
    ⊙ (silent metadata_pairs ⊙ (the_sign 123 ⊙ (InOrder SpellsBlock blocks ⊙ the_sign 125))))))))))

-- as the grammar has them, and as they are read
abbrev Spelled : List ℕ → List Param → List ℕ → IrType → List ℕ → List Block → Mentioning
Spelled before params after = InARow (silent (SpellsWords before)) (Listing SpellsParam params)
    (silent (SpellsWords after))

abbrev ReadInARow : FunctionParts → Mentioning
ReadInARow p = InARow (silent (SpellsRunText p.0.0)) (Listing SpellsReadParam p.1.0) (silent (SpellsRunText p.1.1.0))
    p.0.1.0 p.0.1.1 (p.1.1.1.0 ∷ p.1.1.1.1)

abbrev BehindParams : Words → Block × List Block → Mentioning
BehindParams after body = SpellsOpening after ⊙ SpellsBody body

abbrev BehindSignature : ReadParams → Words → Block × List Block → Mentioning
BehindSignature params after body = the_sign 40 ⊙ (SpellsListed SpellsReadParam 41 params ⊙ BehindParams after body)

-- the parts as they are put together
abbrev SpellsParts : FunctionParts → Mentioning
SpellsParts p = SpellsSignature p.0 ⊙ BehindSignature p.1.0 p.1.1.0 p.1.1.1

-- ---- in a row

abbrev OpeningInARow : Words → Block × List Block → Mentioning
OpeningInARow after body = silent (SpellsRunText after) ⊙ (silent metadata_pairs ⊙ (the_sign 123
    ⊙ (InOrder SpellsBlock (body.0 ∷ body.1) ⊙ the_sign 125)))

opening_in_a_row : (after : Words) (body : Block × List Block) (ms : List Mention) (ts : List Lexeme)
    → BehindParams after body ms ts → OpeningInARow after body ms ts
opening_in_a_row after body ms ts l =
    right_three {A = silent (SpellsRunText after)} {B = silent metadata_pairs} {C = the_sign 123}
    {R = InOrder SpellsBlock (body.0 ∷ body.1) ⊙ the_sign 125} ms ts
    (then_as {A = SpellsOpening after} {B = SpellsBody body} {C = InOrder SpellsBlock (body.0 ∷ body.1) ⊙ the_sign 125}
    (left_told {A = SpellsBlock body.0} {B = InOrder SpellsBlock body.1} {C = the_sign 125}) ms ts l)

opening_of_row : (after : Words) (body : Block × List Block) (ms : List Mention) (ts : List Lexeme)
    → OpeningInARow after body ms ts → BehindParams after body ms ts
opening_of_row after body ms ts l =
    then_as {A = SpellsOpening after} {B = InOrder SpellsBlock (body.0 ∷ body.1) ⊙ the_sign 125} {C = SpellsBody body}
    (right_told {A = SpellsBlock body.0} {B = InOrder SpellsBlock body.1} {C = the_sign 125}) ms ts
    (left_three {A = silent (SpellsRunText after)} {B = silent metadata_pairs} {C = the_sign 123}
    {R = InOrder SpellsBlock (body.0 ∷ body.1) ⊙ the_sign 125} ms ts l)

abbrev ParamsInARow : ReadParams → Words → Block × List Block → Mentioning
ParamsInARow params after body = the_sign 40 ⊙ (Listing SpellsReadParam params ⊙ (the_sign 41
    ⊙ OpeningInARow after body))

params_in_a_row : (params : ReadParams) (after : Words) (body : Block × List Block) (ms : List Mention)
    (ts : List Lexeme)
    → BehindSignature params after body ms ts → ParamsInARow params after body ms ts
params_in_a_row params after body ms ts l =
    then_as {A = the_sign 40} {B = SpellsListed SpellsReadParam 41 params ⊙ BehindParams after body}
    {C = Listing SpellsReadParam params ⊙ (the_sign 41 ⊙ OpeningInARow after body)}
    (λ ms ts l.
    right_told {A = Listing SpellsReadParam params} {B = the_sign 41} {C = OpeningInARow after body} ms ts
    (then_as {A = SpellsListed SpellsReadParam 41 params} {B = BehindParams after body} {C = OpeningInARow after body}
    (opening_in_a_row after body) ms ts l)) ms ts l

params_of_row : (params : ReadParams) (after : Words) (body : Block × List Block) (ms : List Mention)
    (ts : List Lexeme)
    → ParamsInARow params after body ms ts → BehindSignature params after body ms ts
params_of_row params after body ms ts l =
    then_as {A = the_sign 40} {B = Listing SpellsReadParam params ⊙ (the_sign 41 ⊙ OpeningInARow after body)}
    {C = SpellsListed SpellsReadParam 41 params ⊙ BehindParams after body}
    (λ ms ts l.
    then_as {A = SpellsListed SpellsReadParam 41 params} {B = OpeningInARow after body} {C = BehindParams after body}
    (opening_of_row after body) ms ts
    (left_told {A = Listing SpellsReadParam params} {B = the_sign 41} {C = OpeningInARow after body} ms ts l)) ms ts l

in_a_row : (p : FunctionParts) (ms : List Mention) (ts : List Lexeme) → SpellsParts p ms ts → ReadInARow p ms ts
in_a_row p ms ts l =
    right_four {A = the_word (codes "define")} {B = silent (SpellsRunText p.0.0)} {C = the_type IsReturned p.0.1.0}
    {D = silent (one (IsGlobal p.0.1.1))} {R = ParamsInARow p.1.0 p.1.1.0 p.1.1.1} ms ts
    (then_as {A = SpellsSignature p.0} {B = BehindSignature p.1.0 p.1.1.0 p.1.1.1}
    {C = ParamsInARow p.1.0 p.1.1.0 p.1.1.1} (params_in_a_row p.1.0 p.1.1.0 p.1.1.1) ms ts l)

of_row : (p : FunctionParts) (ms : List Mention) (ts : List Lexeme) → ReadInARow p ms ts → SpellsParts p ms ts
of_row p ms ts l =
    then_as {A = SpellsSignature p.0} {B = ParamsInARow p.1.0 p.1.1.0 p.1.1.1}
    {C = BehindSignature p.1.0 p.1.1.0 p.1.1.1} (params_of_row p.1.0 p.1.1.0 p.1.1.1) ms ts
    (left_four {A = the_word (codes "define")} {B = silent (SpellsRunText p.0.0)} {C = the_type IsReturned p.0.1.0}
    {D = silent (one (IsGlobal p.0.1.1))} {R = ParamsInARow p.1.0 p.1.1.0 p.1.1.1} ms ts l)

-- ---- what a function says of its parts

words_said : (words : Words) (ms : List Mention) (ts : List Lexeme) → silent (SpellsRunText words) ms ts
    → silent (SpellsWords words.1) ms ts
words_said words ms ts l = (l.0, text_of_words words.1 ts (words, refl, l.1))

abbrev FoundWords : List ℕ → Type 0
FoundWords text = (words : Words) × (words.1 ≡ text)

words_found : (text : List ℕ) (ms : List Mention) (ts : List Lexeme) → silent (SpellsWords text) ms ts
    → (found : FoundWords text) × silent (SpellsRunText found.0) ms ts
words_found text ms ts l =
    let w = words_of_text text ts l.1 in ((w.0, w.1), (l.0, w.2))

params_said : (params : ReadParams) (ms : List Mention) (ts : List Lexeme) → Listing SpellsReadParam params ms ts
    → Listing SpellsParam (params_of params) ms ts
params_said params ms ts l =
    listing_seen (λ (p : Param × Option Ending). p.0) SpellsReadParam SpellsParam param_seen param_found params ms ts l

abbrev FoundParams : List Param → Type 0
FoundParams params = (found : ReadParams) × (params_of found ≡ params)

params_found : (params : List Param) (ms : List Mention) (ts : List Lexeme) → Listing SpellsParam params ms ts
    → (found : FoundParams params) × Listing SpellsReadParam found.0 ms ts
params_found params ms ts l =
    let f = listing_found (λ (p : Param × Option Ending). p.0) SpellsReadParam SpellsParam param_seen param_found params
    ms ts l in
    ((f.0, f.1), f.2)

-- what is found in three of the parts
module _ {X Y Z : Type 0} (A B C : Mentioning) (D : X → Mentioning) (E : Y → Mentioning) (F : Z → Mentioning)
    (ret : IrType) (name : List ℕ) (blocks : List Block)
    (before : (ms : List Mention) (ts : List Lexeme) → A ms ts → (x : X) × D x ms ts)
    (params : (ms : List Mention) (ts : List Lexeme) → B ms ts → (y : Y) × E y ms ts)
    (after : (ms : List Mention) (ts : List Lexeme) → C ms ts → (z : Z) × F z ms ts) where
  abbrev Last : Mentioning → Mentioning
  Last end = end ⊙ (silent metadata_pairs ⊙ (the_sign 123 ⊙ (InOrder SpellsBlock blocks ⊙ the_sign 125)))

  abbrev FromParams : Mentioning → Mentioning → Mentioning
  FromParams list end = list ⊙ (the_sign 41 ⊙ Last end)

  abbrev FromName : Mentioning → Mentioning → Mentioning
  FromName list end = silent (one (IsGlobal name)) ⊙ (the_sign 40 ⊙ FromParams list end)

  last_found : (ms : List Mention) (ts : List Lexeme) → Last C ms ts → (z : Z) × Last (F z) ms ts
  last_found ms ts l = found_first {P = C} {A = F} after ms ts l

  end_found : (ms : List Mention) (ts : List Lexeme) → (the_sign 41 ⊙ Last C) ms ts
      → (z : Z) × (the_sign 41 ⊙ Last (F z)) ms ts
  end_found ms ts l = found_then {P = Last C} {A = λ z. Last (F z)} last_found ms ts l

  list_found : (ms : List Mention) (ts : List Lexeme) → FromParams B C ms ts
      → (p : Y × Z) × FromParams (E p.0) (F p.1) ms ts
  list_found ms ts l =
      let z = found_then {P = the_sign 41 ⊙ Last C} {C = B} {A = λ z. the_sign 41 ⊙ Last (F z)} end_found ms ts l in
      let y = found_first {P = B} {C = the_sign 41 ⊙ Last (F z.0)} {A = E} params ms ts z.1 in
      ((y.0, z.0), y.1)

  name_found : (ms : List Mention) (ts : List Lexeme) → FromName B C ms ts
      → (p : Y × Z) × FromName (E p.0) (F p.1) ms ts
  name_found ms ts l = found_then {P = the_sign 40 ⊙ FromParams B C}
      {A = λ p. the_sign 40 ⊙ FromParams (E p.0) (F p.1)}
      (found_then {P = FromParams B C} {C = the_sign 40} {A = λ p. FromParams (E p.0) (F p.1)} list_found) ms ts l

  type_found : (ms : List Mention) (ts : List Lexeme) → (the_type IsReturned ret ⊙ FromName B C) ms ts
      → (p : Y × Z) × (the_type IsReturned ret ⊙ FromName (E p.0) (F p.1)) ms ts
  type_found ms ts l = found_then {P = FromName B C} {A = λ p. FromName (E p.0) (F p.1)} name_found ms ts l

  words_too : (ms : List Mention) (ts : List Lexeme) → (A ⊙ (the_type IsReturned ret ⊙ FromName B C)) ms ts
      → (p : X × (Y × Z)) × (D p.0 ⊙ (the_type IsReturned ret ⊙ FromName (E p.1.0) (F p.1.1))) ms ts
  words_too ms ts l =
      let q = found_then {P = the_type IsReturned ret ⊙ FromName B C} {C = A}
      {A = λ p. the_type IsReturned ret ⊙ FromName (E p.0) (F p.1)} type_found ms ts l in
      let x = found_first {P = A} {C = the_type IsReturned ret ⊙ FromName (E q.0.0) (F q.0.1)} {A = D} before ms ts
      q.1 in
      ((x.0, q.0), x.1)

  found_in_row : (ms : List Mention) (ts : List Lexeme) → InARow A B C ret name blocks ms ts
      → (p : X × (Y × Z)) × InARow (D p.0) (E p.1.0) (F p.1.1) ret name blocks ms ts
  found_in_row ms ts l = found_then {P = A ⊙ (the_type IsReturned ret ⊙ FromName B C)}
      {C = the_word (codes "define")}
      {A = λ p. D p.0 ⊙ (the_type IsReturned ret ⊙ FromName (E p.1.0) (F p.1.1))} words_too ms ts l

-- what a function says, of what was read of it
row_said : (p : FunctionParts) (ms : List Mention) (ts : List Lexeme) → ReadInARow p ms ts
    → Spelled p.0.0.1 (params_of p.1.0) p.1.1.0.1 p.0.1.0 p.0.1.1 (p.1.1.1.0 ∷ p.1.1.1.1) ms ts
row_said p ms ts l =
    (found_in_row {X = Unit {0}} {Y = Unit {0}} {Z = Unit {0}} (silent (SpellsRunText p.0.0))
    (Listing SpellsReadParam p.1.0) (silent (SpellsRunText p.1.1.0))
    (λ x. silent (SpellsWords p.0.0.1)) (λ y. Listing SpellsParam (params_of p.1.0))
    (λ z. silent (SpellsWords p.1.1.0.1)) p.0.1.0 p.0.1.1 (p.1.1.1.0 ∷ p.1.1.1.1)
    (λ ms ts l. (tt, words_said p.0.0 ms ts l)) (λ ms ts l. (tt, params_said p.1.0 ms ts l))
    (λ ms ts l. (tt, words_said p.1.1.0 ms ts l)) ms ts l).1

-- and what was read, of what a function says
row_found : (before : List ℕ) (params : List Param) (after : List ℕ) (ret : IrType) (name : List ℕ)
    (blocks : List Block) (ms : List Mention) (ts : List Lexeme) → Spelled before params after ret name blocks ms ts
    → (p : FoundWords before × (FoundParams params × FoundWords after))
    × InARow (silent (SpellsRunText p.0.0)) (Listing SpellsReadParam p.1.0.0) (silent (SpellsRunText p.1.1.0)) ret name
    blocks ms ts
row_found before params after ret name blocks ms ts l =
    found_in_row (silent (SpellsWords before)) (Listing SpellsParam params) (silent (SpellsWords after))
    (λ (found : FoundWords before). silent (SpellsRunText found.0))
    (λ (found : FoundParams params). Listing SpellsReadParam found.0)
    (λ (found : FoundWords after). silent (SpellsRunText found.0)) ret name blocks (words_found before)
    (params_found params) (words_found after) ms ts l

-- ---- functions

-- a function by what was read of it
of_parts : (f : Function) (words : List (List ℕ)) (params : List Param) (blocks : List Block)
    → f.words ≡ words → f.params ≡ params → f.blocks ≡ blocks → f.values ≡ [] → f.labels ≡ []
    → f ≡ record f { words = words; params = params; blocks = blocks; values = []; labels = [] }
of_parts f words params blocks w p b v l =
    ap (λ words. record f { words = words }) w
    ∙ (ap (λ params. record f { words = words; params = params }) p
    ∙ (ap (λ blocks. record f { words = words; params = params; blocks = blocks }) b
    ∙ (ap (λ values. record f { words = words; params = params; blocks = blocks; values = values }) v
    ∙ ap (λ labels. record f { words = words; params = params; blocks = blocks; values = []; labels = labels }) l)))

abbrev make_function : FunctionParts → Function
make_function p = function_of (p.0, (params_of p.1.0, (p.1.1.0, p.1.1.1.0 ∷ p.1.1.1.1)))

function_there : (p : FunctionParts) (ms : List Mention) (ts : List Lexeme) → SpellsParts p ms ts
    → SpellsFunction (make_function p) ms ts
function_there p ms ts l =
    (p.0.0.1, p.1.1.0.1, refl, λ e. absurd cc, refl, refl, row_said p ms ts (in_a_row p ms ts l))

function_back : (f : Function) (ms : List Mention) (ts : List Lexeme) → SpellsFunction f ms ts
    → IsMade make_function SpellsParts f ms ts
function_back f ms ts (before, after, words, some, no_values, no_labels, l) = of_blocks f.blocks refl l
  where
    of_blocks : (blocks : List Block) → f.blocks ≡ blocks → Spelled before f.params after f.ret f.name blocks ms ts
        → IsMade make_function SpellsParts f ms ts
    of_blocks [] is l = absurd (some is)
    of_blocks (block ∷ blocks) is l =
        let found = row_found before f.params after f.ret f.name (block ∷ blocks) ms ts l in
        let p : FunctionParts = (
          (found.0.0.0, (f.ret, f.name)),
          (found.0.1.0.0, (found.0.1.1.0, (block, blocks))),
        ) in
        let texts : f.words ≡ found.0.0.0.1 ∷ (found.0.1.1.0.1 ∷ []) = words
        ∙ (ap (λ (text : List ℕ). text ∷ (after ∷ [])) (sym found.0.0.1)
        ∙ ap (λ (text : List ℕ). found.0.0.0.1 ∷ (text ∷ [])) (sym found.0.1.1.1)) in (
          p,
          of_parts f (found.0.0.0.1 ∷ (found.0.1.1.0.1 ∷ [])) (params_of found.0.1.0.0) (block ∷ blocks) texts
              (sym found.0.1.0.1) is no_values no_labels,
          of_row p ms ts found.1,
        )

-- ---- the reading, of all that is read

abbrev BodyParts : Type 0
BodyParts = Words × (Block × List Block)

behind_params_at : Telling BodyParts
behind_params_at = opening_at ⊗ (block_at ⊗ blocks_at)

parts_at : Telling FunctionParts
parts_at = signature_at ⊗ (sign_at 40 ▷ (params_at ⊗ behind_params_at))

abbrev made_behind : BodyParts → Words × List Block
made_behind p = (p.0, p.1.0 ∷ p.1.1)

abbrev made_params : ReadParams × BodyParts → List Param × (Words × List Block)
made_params p = (params_of p.0, made_behind p.1)

same_behind : (ts : List Lexeme) → (opening_at ⊗ body_at) ts ≡ made made_behind behind_params_at ts
unfolding body_at behind_params_at
same_behind ts = then_made joined opening_at (block_at ⊗ blocks_at) ts
  where
    joined : Block × List Block → List Block
    joined p = p.0 ∷ p.1

same_listed : (ts : List Lexeme) → taken_params_at ts ≡ made params_of params_at ts
unfolding taken_params_at some_params_at params_at
same_listed ts = listed_same params_of param_at 41 ts

same_params : (ts : List Lexeme) → (taken_params_at ⊗ (opening_at ⊗ body_at)) ts
    ≡ made made_params (params_at ⊗ behind_params_at) ts
same_params ts =
    first_same taken_params_at (made params_of params_at) (opening_at ⊗ body_at) same_listed ts
    ∙ (first_made params_of params_at (opening_at ⊗ body_at) ts
    ∙ (made_same with_params (params_at ⊗ (opening_at ⊗ body_at)) (made with_blocks (params_at ⊗ behind_params_at))
    (λ ts. both_same params_at (opening_at ⊗ body_at) (made made_behind behind_params_at) same_behind ts
    ∙ then_made made_behind params_at behind_params_at ts) ts
    ∙ made_made with_params with_blocks (params_at ⊗ behind_params_at) ts))
  where
    with_params : ReadParams × (Words × List Block) → List Param × (Words × List Block)
    with_params p = (params_of p.0, p.1)

    with_blocks : ReadParams × BodyParts → ReadParams × (Words × List Block)
    with_blocks p = (p.0, made_behind p.1)

abbrev with_parts : FunctionParts → (Words × (IrType × List ℕ)) × (List Param × (Words × List Block))
with_parts p = (p.0, made_params p.1)

same_signed : (ts : List Lexeme) → (sign_at 40 ▷ (taken_params_at ⊗ (opening_at ⊗ body_at))) ts
    ≡ made made_params (sign_at 40 ▷ (params_at ⊗ behind_params_at)) ts
same_signed ts =
    skip_same (sign_at 40) (taken_params_at ⊗ (opening_at ⊗ body_at))
    (made made_params (params_at ⊗ behind_params_at)) same_params ts
    ∙ skip_made (sign_at 40) made_params (params_at ⊗ behind_params_at) ts

same_function : (ts : List Lexeme) → function_at ts ≡ made make_function parts_at ts
unfolding function_at parts_at
same_function ts =
    made_same function_of (signature_at ⊗ (sign_at 40 ▷ (taken_params_at ⊗ (opening_at ⊗ body_at))))
    (made with_parts (signature_at ⊗ (sign_at 40 ▷ (params_at ⊗ behind_params_at))))
    (λ ts. both_same signature_at (sign_at 40 ▷ (taken_params_at ⊗ (opening_at ⊗ body_at)))
    (made made_params (sign_at 40 ▷ (params_at ⊗ behind_params_at))) same_signed ts
    ∙ then_made made_params signature_at (sign_at 40 ▷ (params_at ⊗ behind_params_at)) ts) ts
    ∙ made_made function_of with_parts (signature_at ⊗ (sign_at 40 ▷ (params_at ⊗ behind_params_at))) ts

module _ {Chain : Bool → Option Operation × Option Ending → List Mention → List Lexeme → Type 0}
    (calls : ReadsCalls Chain) where
  parts_tell : IsTeller parts_at SpellsParts Anything
  unfolding parts_at behind_params_at
  parts_tell = both signature_tells (skip (sign_tells 40) (both params_tell (both opening_tells
      (body_tells calls))))

  -- Functions are read as the grammar has them; nothing goes on with one.
  pub function_tells : IsTeller function_at SpellsFunction Anything
  function_tells = told_reading function_at same_function
      (told_as SpellsFunction
      (λ f ms ts l. subst (λ (f : Function). SpellsFunction f ms ts) (sym l.1) (function_there l.0 ms ts l.2))
      function_back
      (made_told make_function (λ t. Unit {0}) parts_tell))
