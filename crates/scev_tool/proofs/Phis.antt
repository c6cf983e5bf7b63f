-- The phis of a front of a block.
use Rattle.std.proofs.Common.{◌≡◌, ℕ, zero, suc, ◌+◌, ◌<◌, Bool, true, false, List, [], ◌∷◌, ◌++◌, length, take, get_or}
use Rattle.std.proofs.Common.{Option, Some, None, cond, refl, sym, ◌∙◌, ap, arith}
use Rattle.std.specs.Prelude.{Contains}
use Rattle.std.proofs.lemmas.List.{take_more, append-nil}
use Rattle.std.proofs.lemmas.List.Elements.{filter-append}
use Rattle.std.proofs.lemmas.Option.{none-some}
use Rattle.scev_base.specs.declared.ids.ValueId.{ValueId}
use Rattle.ir_model.specs.declared.op.Op.{Op}
use Rattle.ir_model.specs.declared.op.Op.TheVariants.{Phi}
use Rattle.ir_model.specs.declared.function.Instr.{Instr}
use Rattle.ir_model.specs.Shapes.{is_phi, block_of}
use Rattle.ir_meaning.specs.Thin.{AreThinInstrs, HasResult, IsThinEnding}
use Rattle.ir_model.specs.declared.function.Block.{Block}
use Rattle.ir_model.specs.declared.function.Function.{Function}
use Rattle.classify.specs.Recurrence.{phis, IsPhiOf}
use Rattle.scev_tool.proofs.Pieces.{AppendsPieces, appends-push}

phis-next : (instrs : List Instr) (i : ℕ) (d : Instr) → i < length instrs
    → phis (take (i + 1) instrs) ≡ phis (take i instrs) ++ phis (get_or instrs i d ∷ [])
phis-next instrs i d within =
    ap phis (take_more instrs i d within) ∙ filter-append (λ instr. is_phi instr.op) (take i instrs) (get_or instrs i d ∷ [])

-- one phi more, and an instruction that is none
pub phis-more : (instrs : List Instr) (i : ℕ) (d : Instr) → i < length instrs → is_phi (get_or instrs i d).op ≡ true
    → phis (take (i + 1) instrs) ≡ phis (take i instrs) ++ get_or instrs i d ∷ []
phis-more instrs i d within one = phis-next instrs i d within ∙ rw one refl

pub phis-same : (instrs : List Instr) (i : ℕ) (d : Instr) → i < length instrs → is_phi (get_or instrs i d).op ≡ false
    → phis (take (i + 1) instrs) ≡ phis (take i instrs)
phis-same instrs i d within none =
    phis-next instrs i d within ∙ rw none (append-nil _)

Contains-later : (x : Instr) (xs : List Instr) (y : Instr) → Contains xs y → Contains (x ∷ xs) y
Contains-later x xs y h = (suc h.0, omega (arith, h.1), h.2)

-- a phi at a place is one of the phis
pub Contains-phis : (instrs : List Instr) (i : ℕ) (d : Instr) → i < length instrs → is_phi (get_or instrs i d).op ≡ true
    → Contains (phis instrs) (get_or instrs i d)
Contains-phis [] i d within one = absurd (omega (arith, within))
Contains-phis (x ∷ xs) zero d within one = rw one (0, omega arith, refl)
Contains-phis (x ∷ xs) (suc i) d within one =
    further (is_phi x.op) (Contains-phis xs i d (omega (arith, within)) one)
  where
    further : (b : Bool) → Contains (phis xs) (get_or xs i d)
        → Contains (cond b (x ∷ phis xs) (phis xs)) (get_or xs i d)
    further true h = Contains-later x _ _ h
    further false h = h

-- what a phi gives its result to
abbrev pub phi_result_of : Instr → Option ValueId
phi_result_of instr = cond (is_phi instr.op) instr.result None

pub result_of_phi : (instr : Instr) (v : ValueId) → phi_result_of instr ≡ Some v
    → (is_phi instr.op ≡ true) × (instr.result ≡ Some v)
result_of_phi instr v h = by_cases (is_phi instr.op) h
  where
    by_cases : (b : Bool) → cond b instr.result None ≡ Some v → (b ≡ true) × (instr.result ≡ Some v)
    by_cases true h = (refl, h)
    by_cases false h = absurd (none-some v h)

ending_is_no_phi : (values labels : ℕ) (op : Op) → IsThinEnding values labels op → is_phi op ≡ false
ending_is_no_phi values labels (Phi kind entries) thin = absurd thin
ending_is_no_phi values labels _ thin = refl

no_phi : (values : ℕ) (is : Bool) (result : Option ValueId) → HasResult values result → cond is result None ≡ None
    → is ≡ false
no_phi values false result has none = refl
no_phi values true None has none = absurd has
no_phi values true (Some v) has none = absurd (none-some v (sym none))

-- in a thin block an instruction without a phi's result is no phi
pub phi_has_result : (values labels : ℕ) (instrs : List Instr) → AreThinInstrs values labels instrs
    → (i : ℕ) (d : Instr) → i < length instrs → phi_result_of (get_or instrs i d) ≡ None
    → is_phi (get_or instrs i d).op ≡ false
phi_has_result values labels [] thin i d within none = absurd thin
phi_has_result values labels (last ∷ []) thin zero d within none = ending_is_no_phi values labels last.op thin.1
phi_has_result values labels (last ∷ []) thin (suc i) d within none = absurd (omega (arith, within))
phi_has_result values labels (instr ∷ next ∷ more) thin zero d within none =
    no_phi values (is_phi instr.op) instr.result thin.0 none
phi_has_result values labels (instr ∷ next ∷ more) thin (suc i) d within none =
    phi_has_result values labels (next ∷ more) thin.2 i d (omega (arith, within)) none

-- One line more is that of a phi; none is that of another instruction.
module _ (Is : Instr → List ℕ → Type 0) (instrs : List Instr) (i : ℕ) (x : Instr) (within : i < length instrs) (is : x ≡ get_or instrs i x) (old mid : List ℕ) (so_far : AppendsPieces Is (phis (take i instrs)) old mid) where
  pub appends_phi : (v : ValueId) (new piece : List ℕ) → phi_result_of x ≡ Some v → Is x piece → new ≡ mid ++ piece
      → AppendsPieces Is (phis (take (i + 1) instrs)) old new
  appends_phi v new piece phi line added =
      let one : is_phi (get_or instrs i x).op ≡ true = rw (← is) ((result_of_phi x v phi).0) in
      rw (phis-more instrs i x within one, ← is)
      (appends-push Is (phis (take i instrs)) x old mid new piece so_far line added)

  pub appends_no_phi : (values labels : ℕ) → AreThinInstrs values labels instrs → phi_result_of x ≡ None
      → AppendsPieces Is (phis (take (i + 1) instrs)) old mid
  appends_no_phi values labels thin none =
      let other = phi_has_result values labels instrs thin i x within (ap phi_result_of (sym is) ∙ none) in
      rw (phis-same instrs i x within other) so_far

-- a phi at a place of a block
pub is_phi_of : (f : Function) (b : ℕ) (block : Block) (i : ℕ) (x : Instr) (v : ValueId) → block_of f b ≡ Some block
    → i < length block.instrs → x ≡ get_or block.instrs i x → phi_result_of x ≡ Some v → IsPhiOf f b v.0
is_phi_of f b block i x v found within is phi =
    let facts = result_of_phi x v phi in
    (block, found, x, rw is (Contains-phis block.instrs i x within (ap (λ (instr : Instr). is_phi instr.op) (sym is) ∙ facts.0)), facts.1)
