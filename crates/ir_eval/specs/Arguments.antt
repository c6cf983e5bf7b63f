-- What the words for arguments say.
use Rattle.std.specs.Prelude.{ℕ, ◌^◌, Bool, nat_lt, nat_le, if◌then◌else◌, List, [], ◌∷◌, ◌++◌, length, replicate}
use Rattle.std.specs.Prelude.{Option, Some, None, option_map, option_and_then, codes}
use Rattle.std.specs.Str.{bytes_eq}
use Rattle.eval_request.specs.Numeral.{is_numeral, numeral_value}
use Rattle.ir_model.specs.declared.types.IrType.{IrType}
use Rattle.ir_model.specs.declared.types.IrType.TheVariants.{Int, Ptr}
use Rattle.ir_model.specs.declared.function.Param.{Param}
use Rattle.ir_memory.specs.declared.byte.Byte.TheVariants as byte
use Rattle.ir_memory.specs.Memory.{Memory}
use Rattle.ir_meaning.specs.declared.value.Value.{Value}
use Rattle.ir_meaning.specs.declared.value.Value.TheVariants as value

-- An argument: a value, or a pointer to a new block of so many zero bytes.
pub data Argument : Type 0 where
  Plain : Value → Argument
  NewBlock : ℕ → Argument

-- the number of a decimal numeral
abbrev pub numeral : List ℕ → Option ℕ
numeral text = if is_numeral text then Some (numeral_value text) else None

abbrev pub where_holds : Bool → Argument → Option Argument
where_holds holds a = if holds then Some a else None

-- the most bytes of the block of an argument
abbrev pub block_most : ℕ
block_most = 65536

-- of `b` and a numeral up to that
abbrev pub new_block : List ℕ → Option Argument
new_block [] = None
new_block (c ∷ text) =
    if bytes_eq (c ∷ []) (codes "b")
    then option_and_then (λ size. where_holds (nat_le size block_most) (NewBlock size)) (numeral text) else None

-- of a numeral below 2^w
abbrev pub number_of_width : ℕ → List ℕ → Option Argument
number_of_width w text =
    option_and_then (λ n. where_holds (nat_lt n (2 ^ w)) (Plain (value.Number n))) (numeral text)

abbrev pub pointer_argument : List ℕ → Option Argument
pointer_argument text = if bytes_eq text (codes "null") then Some (Plain value.Null) else new_block text

-- The argument that a word says for a parameter of the type; none where it says none.
abbrev pub argument_of : IrType → List ℕ → Option Argument
argument_of (Int w) text =
    if bytes_eq text (codes "poison") then Some (Plain value.Poison) else number_of_width w text
argument_of Ptr text =
    if bytes_eq text (codes "poison") then Some (Plain value.Poison) else pointer_argument text
argument_of kind text = None

-- its value, and the memory with its block, behind the blocks so far
abbrev pub argument_value : Memory → Argument → Value
argument_value memory (Plain x) = x
argument_value memory (NewBlock size) = value.Pointer (length memory) 0

abbrev pub with_argument : Memory → Argument → Memory
with_argument memory (Plain x) = memory
with_argument memory (NewBlock size) = memory ++ replicate size (byte.Number 0) ∷ []

-- The values of the arguments, and the memory with their blocks; none where there isn't one fitting word for each
-- parameter.
abbrev pub begun : Memory → List Param → List (List ℕ) → Option (List Value × Memory)
begun memory [] [] = Some ([], memory)
begun memory (p ∷ ps) (word ∷ words) = option_and_then (λ a.
    option_map (λ rest. (argument_value memory a ∷ rest.0, rest.1)) (begun (with_argument memory a) ps words))
    (argument_of p.kind word)
begun memory _ _ = None

-- the parts of a text between its commas; a text has one part more than commas
abbrev pub begin_part : ℕ → List (List ℕ) → List (List ℕ)
begin_part c [] = (c ∷ []) ∷ []
begin_part c (part ∷ parts) = (c ∷ part) ∷ parts

abbrev pub parts_between : List ℕ → List (List ℕ)
parts_between [] = [] ∷ []
parts_between (c ∷ text) =
    if bytes_eq (c ∷ []) (codes ",") then [] ∷ parts_between text else begin_part c (parts_between text)

-- the words for the arguments: none without a text
abbrev pub argument_words : Option (List ℕ) → List (List ℕ)
argument_words None = []
argument_words (Some text) = parts_between text
