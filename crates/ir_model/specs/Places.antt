-- Where a value is first defined, and what the rules of a function see of its module.
use Rattle.std.specs.Prelude.{ℕ, ◌==◌, Bool, true, false, List, [], ◌∷◌, if◌then◌else◌, Option, Some, None, map, flat_map, count_by, position}
use Rattle.std.specs.List.{list_any}
use Rattle.scev_base.specs.declared.ids.BlockId.{BlockId}
use Rattle.ir_model.specs.declared.function.Param.{Param}
use Rattle.ir_model.specs.declared.function.Instr.{Instr}
use Rattle.ir_model.specs.declared.function.Block.{Block}
use Rattle.ir_model.specs.declared.function.Function.{Function}
use Rattle.ir_model.specs.declared.item.DeclaredParam.{DeclaredParam}
use Rattle.ir_model.specs.declared.item.Item.{Item}
use Rattle.ir_model.specs.declared.item.Item.TheVariants as item
use Rattle.ir_model.specs.declared.item.Module.{Module}
use Rattle.ir_model.specs.declared.signature.Signature.{Signature}
use Rattle.ir_model.specs.declared.signature.Signatures.{Signatures}
use Rattle.ir_model.specs.Defined.{is_value}

-- ---- places

-- the index in a block, where there is one
abbrev pub in_block : BlockId → Option ℕ → Option (BlockId × ℕ) → Option (BlockId × ℕ)
in_block b None later = later
in_block b (Some index) later = Some (b, index)

-- the first instruction of some blocks that gives the value: its block, and its index there, from 0
abbrev pub given_at : List Block → ℕ → Option (BlockId × ℕ)
given_at [] v = None
given_at (block ∷ blocks) v =
    in_block block.id (position (λ (instr : Instr). is_value instr.result v) block.instrs) (given_at blocks v)

abbrev pub is_param : List Param → ℕ → Bool
is_param params v = list_any (λ (p : Param). p.value.0 == v) params

-- where a value is first defined; none of a parameter, and of what isn't defined
abbrev pub place_of : Function → ℕ → Option (BlockId × ℕ)
place_of f v = if is_param f.params v then None else given_at f.blocks v

-- ---- signatures

abbrev pub signature_of : Item → List Signature
signature_of (item.Declare d) =
    record { name = d.name; ret = d.ret; params = map (λ (p : DeclaredParam). p.kind) d.params } ∷ []
signature_of (item.Define f) =
    record { name = f.name; ret = f.ret; params = map (λ (p : Param). p.kind) f.params } ∷ []
signature_of _ = []

abbrev pub is_global : Item → Bool
is_global (item.Global g) = true
is_global _ = false

abbrev pub signatures_of : Module → Signatures
signatures_of m = record { globals = count_by is_global m.items; functions = flat_map signature_of m.items }
