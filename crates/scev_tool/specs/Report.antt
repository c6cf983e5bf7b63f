-- The text of a report, and what it claims.
use Rattle.std.specs.Prelude.{◌≡◌, ℕ, List, [], ◌∷◌, ◌++◌, Option, Some, None, Contains, slice_get, map, codes, ◌⊎◌}
use Rattle.std.specs.Fmt.{signed_decimal}
use Rattle.scev_base.specs.declared.ids.BlockId.{BlockId}
use Rattle.scev_base.specs.Residue.{reading}
use Rattle.ir_model.specs.declared.function.Instr.{Instr}
use Rattle.ir_model.specs.declared.function.Block.{Block}
use Rattle.ir_model.specs.declared.function.Function.{Function}
use Rattle.ir_model.specs.declared.item.Item.{Item}
use Rattle.ir_model.specs.declared.item.Item.TheVariants.{Define}
use Rattle.ir_model.specs.declared.item.Module.{Module}
use Rattle.ir_rules.specs.Accepted.{IsAcceptedModule}
use Rattle.ir_grammar.specs.Spelled.{Spells}
use Rattle.ir_grammar.specs.Printing.{Shown, shown_in, name_text, block_text}
use Rattle.ir_model.specs.Shapes.{block_of}
use Rattle.ir_meaning.specs.Thin.{IsThinFunction}
use Rattle.loop_regions.specs.OneBlock.{AreLoops, one_block}
use Rattle.scev_tree.specs.Tree.{affine}
use Rattle.classify.specs.Recurrence.{IsRecurrence, IsAnswer, phis}
use Rattle.classify.specs.Truth.{IsTrueOf}

-- A text has one piece for each thing of a list, one after another.
abbrev pub InPieces : {A : Type 0} → (A → List ℕ → Type 0) → List A → List ℕ → Type 0
InPieces Is [] text = text ≡ []
InPieces Is (x ∷ xs) text = (piece rest : List ℕ) × (text ≡ piece ++ rest) × Is x piece × InPieces Is xs rest

-- `{a,+,b}<%header>`, with the signed readings of both parts
abbrev pub recurrence_text : Shown → ℕ → ℕ × ℕ → List ℕ
recurrence_text shown b parts = codes "{" ++ (signed_decimal (reading 32 parts.0)
    ++ (codes ",+," ++ (signed_decimal (reading 32 parts.1) ++ (codes "}<" ++ (block_text shown b ++ codes ">")))))

-- a phi's expression: its recurrence, or its own name
abbrev pub expression_text : Shown → ℕ → ℕ → Option (ℕ × ℕ) → List ℕ
expression_text shown b p None = 37 ∷ shown.values p
expression_text shown b p (Some parts) = recurrence_text shown b parts

-- the line of a phi
abbrev pub phi_line : Shown → ℕ → ℕ → Option (ℕ × ℕ) → List ℕ
phi_line shown b p answer =
    codes "; phi %" ++ (shown.values p ++ (codes " = " ++ (expression_text shown b p answer ++ codes "\n")))

abbrev pub IsPhiLine : Shown → Function → ℕ → Instr → List ℕ → Type 0
IsPhiLine shown f b instr text = (p : ℕ) × (instr.result ≡ Some (record { 0 = p })) × (answer : Option (ℕ × ℕ))
    × IsAnswer f b p answer × (text ≡ phi_line shown b p answer)

-- the lines of a loop: its header, and then each phi of the header in order
abbrev pub loop_line : Shown → ℕ → List ℕ
loop_line shown b = codes "; loop " ++ (block_text shown b ++ codes " depth 1\n")

abbrev pub AreLoopLines : Shown → Function → BlockId → List ℕ → Type 0
AreLoopLines shown f b text = (block : Block) × (block_of f b.0 ≡ Some block) × (lines : List ℕ)
    × (text ≡ loop_line shown b.0 ++ lines) × InPieces (IsPhiLine shown f b.0) (phis block.instrs) lines

-- The lines of the loops of one block of a function of the thin forms, in text order; a function of other forms has
-- none.
abbrev pub AreLoopsLines : Shown → Function → List ℕ → Type 0
AreLoopsLines shown f text =
    (IsThinFunction f × (headers : List BlockId) × AreLoops f headers × InPieces (AreLoopLines shown f) headers text)
    ⊎ ((IsThinFunction f → ⊥) × (text ≡ []))

-- the line of a function, which says its name
abbrev pub function_line : Function → List ℕ
function_line f = codes "; function @" ++ (name_text f.name ++ codes "\n")

-- the lines of an item, in a module with these names of globals: of a function with a body its line, and those of its
-- loops
abbrev pub AreItemLines : List (List ℕ) → Item → List ℕ → Type 0
AreItemLines globals (Define f) text = (lines : List ℕ) × (text ≡ function_line f ++ lines)
    × AreLoopsLines (shown_in globals f) f lines
AreItemLines globals _ text = text ≡ []

-- The text is the report of the module: a first line, and then the lines of each function with a body, in order.
abbrev pub IsReport : Module → List ℕ → Type 0
IsReport m text = (lines : List ℕ) × (text ≡ codes "; scev report 1\n" ++ lines)
    × InPieces (AreItemLines m.globals) m.items lines

-- Each recurrence that a report of the function shows is true of its phi in every run of the function.
abbrev pub RecurrencesAreTrue : Function → Type 0
RecurrencesAreTrue f = (headers : List BlockId) (b p first step k : ℕ) → IsThinFunction f → AreLoops f headers
    → slice_get headers k ≡ Some (record { 0 = b })
    → IsRecurrence f b p first step
    → IsTrueOf f (map (λ header. one_block header.0) headers) p (affine 32 k first step)

-- The bytes spell a module that is accepted, the text is its report, and what the report shows is true of each of its
-- functions.
pub record IsReportOf (bytes text : List ℕ) : Type 0 where
  pub m : Module
  pub spelled : Spells bytes m
  pub accepted : IsAcceptedModule m
  pub text_is : IsReport m text
  pub holds : (f : Function) → Contains m.items (Define f) → RecurrencesAreTrue f
