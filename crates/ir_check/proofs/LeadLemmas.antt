-- Whether something leads to a block: tests of lists that are made of lists.
use Rattle.std.proofs.Common.{◌≡◌, ℕ, Bool, ◌||◌, List, [], ◌∷◌, map, refl, ap, ◌∙◌}
use Rattle.std.specs.List.{flat_map, list_any}
use Rattle.std.proofs.lemmas.List.Folds.{list_any-append}
use Rattle.ir_model.specs.declared.function.Instr.{Instr}
use Rattle.ir_model.specs.declared.function.Block.{Block}
use Rattle.ir_rules.specs.Spots.{Spot, block_spots}
use Rattle.ir_check.specs.Instrs.{op_leads_to, leads_to}

pub any_of_map : {X Y : Type 0} (p : Y → Bool) (f : X → Y) (xs : List X)
    → list_any p (map f xs) ≡ list_any (λ x. p (f x)) xs
any_of_map p f [] = refl
any_of_map p f (x ∷ xs) = ap (λ rest. p (f x) || rest) (any_of_map p f xs)

-- Some instruction of a function leads to a block, as its blocks have it.
pub is_target_leads_to : (blocks : List Block) (b : ℕ)
    → list_any (λ (spot : Spot). op_leads_to spot.instr.op b) (flat_map block_spots blocks) ≡ leads_to blocks b
is_target_leads_to [] b = refl
is_target_leads_to (block ∷ blocks) b =
    let leads : Spot → Bool = λ spot. op_leads_to spot.instr.op b in
    let here = list_any (λ (instr : Instr). op_leads_to instr.op b) block.instrs in
    list_any-append leads (block_spots block) (flat_map block_spots blocks)
    ∙ ap (λ here. here || list_any leads (flat_map block_spots blocks))
    (any_of_map leads (λ (instr : Instr). record { block = block.id.0; instr = instr }) block.instrs)
    ∙ ap (λ rest. here || rest) (is_target_leads_to blocks b)
