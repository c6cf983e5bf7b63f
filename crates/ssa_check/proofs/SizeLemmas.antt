-- Tables of the sizes of blocks, filled from the last block back.
use Rattle.std.proofs.Common.{◌≡◌, ◌==◌, ◌<◌, ℕ, Bool, true, false, List, ◌∷◌, length, get_or, set, find, option_map}
use Rattle.std.proofs.Common.{unwrap_or, if◌then◌else◌, All, refl, sym, ap, ◌∙◌, subst, inl, inr, arith, length-set}
use Rattle.std.proofs.Common.{get_or-set_same, get_or-set_other}
use Rattle.std.proofs.lemmas.Bool.{cases_eq, eq-eqb, ne_eqb}
use Rattle.std.proofs.lemmas.List.Elements.{All-get_or}
use Rattle.flow_graph.proofs.IdLemmas.{labelled}
use Rattle.ir_model.specs.declared.function.Block.{Block}
use Rattle.ir_model.specs.declared.function.Function.{Function}
use Rattle.ir_model.specs.WellMade.{HasIds}

-- the size of the first one of some blocks with this number
abbrev pub size_in : List Block → ℕ → ℕ
size_in blocks b = unwrap_or (option_map (λ (block : Block). length block.instrs)
    (find (λ block. block.id.0 == b) blocks)) 0

pub record HasSizes (f : Function) (blocks : List Block) (sizes : List ℕ) : Type 0 where
  pub size : length sizes ≡ length f.labels
  pub each : (b : ℕ) → get_or sizes b 0 ≡ size_in blocks b

find_cons : (a b : ℕ) (block : Block) (blocks : List Block) (same : Bool) → (block.id.0 == b) ≡ same
    → a ≡ length block.instrs
    → size_in (block ∷ blocks) b ≡ (if same then a else size_in blocks b)
find_cons a b block blocks true e is = rw e (sym is)
find_cons a b block blocks false e is = rw e refl

pub sizes_more : (f : Function) (block : Block) (blocks : List Block) (sizes : List ℕ) (count : ℕ)
    → block.id.0 < length f.labels
    → count ≡ length block.instrs → HasSizes f blocks sizes → HasSizes f (block ∷ blocks) (set sizes block.id.0 count)
sizes_more f block blocks sizes count within is before = record {
  size = length-set sizes block.id.0 count ∙ before.size;
  each = λ b.
      elim (cases_eq b block.id.0) [
        | inl e ↦
            ap (λ (k : ℕ). get_or (set sizes block.id.0 count) k 0) e
            ∙ get_or-set_same sizes block.id.0 count 0 (omega (arith, within, before.size))
            ∙ sym (find_cons count b block blocks true (eq-eqb block.id.0 b (sym e)) is)
        | inr apart ↦
            get_or-set_other sizes block.id.0 b count 0 apart ∙ before.each b
            ∙ sym (find_cons count b block blocks false (ne_eqb block.id.0 b (λ e. apart (sym e))) is)
      ];
}

-- the blocks stand in the table of labels
pub labelled_ids : (f : Function) → HasIds f → All (λ (block : Block). block.id.0 < length f.labels) f.blocks
labelled_ids f ids k d within = (labelled f ids k d within).0

pub label_at : (f : Function) → HasIds f → (blocks : List Block) → blocks ≡ f.blocks → (i : ℕ) (block : Block)
    → i < length blocks → block ≡ get_or blocks i block → block.id.0 < length f.labels
label_at f ids blocks same i block within is =
    let P : Block → Type 0 = λ one. one.id.0 < length f.labels in
    let all : All P blocks = rw same (labelled_ids f ids) in
    subst P (sym is) (All-get_or P blocks i block within all)
