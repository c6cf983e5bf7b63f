-- A module has one report.
use Rattle.std.proofs.Common.{◌≡◌, ℕ, List, [], ◌∷◌, Some, inl, inr, sym, ◌∙◌, ap}
use Rattle.std.proofs.lemmas.Option.{same_Some}
use Rattle.scev_base.specs.declared.ids.BlockId.{BlockId}
use Rattle.scev_base.specs.declared.ids.ValueId.{ValueId}
use Rattle.ir_model.specs.declared.function.Instr.{Instr}
use Rattle.ir_model.specs.declared.function.Function.{Function}
use Rattle.ir_model.specs.declared.item.Item.{Item}
use Rattle.ir_model.specs.declared.item.Item.TheVariants.{Define}
use Rattle.ir_model.specs.declared.item.Module.{Module}
use Rattle.loop_regions.proofs.OneTable.{one_table}
use Rattle.classify.specs.Recurrence.{IsAnswer, phis}
use Rattle.classify.proofs.OneAnswer.{one_answer}
use Rattle.ir_grammar.specs.Printing.{Shown, shown_in}
use Rattle.scev_tool.specs.Report.{InPieces, IsPhiLine, AreLoopLines, AreLoopsLines, AreItemLines, IsReport}

-- Pieces that are determined by their things make one text.
one_text : {A : Type 0} (Is : A → List ℕ → Type 0) → ((x : A) (s t : List ℕ) → Is x s → Is x t → s ≡ t)
    → (xs : List A) (s t : List ℕ) → InPieces Is xs s → InPieces Is xs t → s ≡ t
one_text Is one [] s t is_s is_t = is_s ∙ sym is_t
one_text Is one (x ∷ xs) s t is_s is_t =
    let piece : is_s.0 ≡ is_t.0 = one x is_s.0 is_t.0 is_s.3 is_t.3 in
    let rest : is_s.1 ≡ is_t.1 = one_text Is one xs is_s.1 is_t.1 is_s.4 is_t.4 in
    is_s.2 ∙ rw (piece, rest) (sym is_t.2)

module _ (shown : Shown) (f : Function) where
  one_phi_line : (b : ℕ) (instr : Instr) (s t : List ℕ) → IsPhiLine shown f b instr s → IsPhiLine shown f b instr t
      → s ≡ t
  one_phi_line b instr s t is_s is_t =
      let given : Some (record { 0 = is_s.0 }) ≡ Some (record { 0 = is_t.0 }) = sym is_s.1 ∙ is_t.1 in
      let same : is_s.0 ≡ is_t.0 =
      ap (λ (v : ValueId). v.0) (same_Some (record { 0 = is_s.0 }) (record { 0 = is_t.0 }) given) in
      let other : IsAnswer f b is_s.0 is_t.2 = rw same is_t.3 in
      let answer : is_s.2 ≡ is_t.2 = one_answer f b is_s.0 is_s.2 is_t.2 is_s.3 other in
      is_s.4 ∙ rw (same, answer) (sym is_t.4)

  one_loop : (b : BlockId) (s t : List ℕ) → AreLoopLines shown f b s → AreLoopLines shown f b t → s ≡ t
  one_loop b s t is_s is_t =
      let same : is_s.0 ≡ is_t.0 = same_Some is_s.0 is_t.0 (sym is_s.1 ∙ is_t.1) in
      let other : InPieces (IsPhiLine shown f b.0) (phis is_s.0.instrs) is_t.2 = rw same is_t.4 in
      let lines : is_s.2 ≡ is_t.2 =
      one_text (IsPhiLine shown f b.0) (one_phi_line b.0) (phis is_s.0.instrs) is_s.2 is_t.2 is_s.4 other in
      is_s.3 ∙ rw lines (sym is_t.3)

  one_list_of_loops : (s t : List ℕ) → AreLoopsLines shown f s → AreLoopsLines shown f t → s ≡ t
  one_list_of_loops s t (inl a) (inl b) =
      let same : a.1 ≡ b.1 = one_table f a.1 b.1 a.2 b.2 in
      let other : InPieces (AreLoopLines shown f) a.1 t = rw same b.3 in
      one_text (AreLoopLines shown f) one_loop a.1 s t a.3 other
  one_list_of_loops s t (inl a) (inr b) = absurd (b.0 a.0)
  one_list_of_loops s t (inr a) (inl b) = absurd (a.0 b.0)
  one_list_of_loops s t (inr a) (inr b) = a.1 ∙ sym b.1

one_item : (globals : List (List ℕ)) (item : Item) (s t : List ℕ) → AreItemLines globals item s
    → AreItemLines globals item t
    → s ≡ t
one_item globals (Define f) s t is_s is_t =
    let lines : is_s.0 ≡ is_t.0 = one_list_of_loops (shown_in globals f) f is_s.0 is_t.0 is_s.2 is_t.2 in
    is_s.1 ∙ rw lines (sym is_t.1)
one_item globals _ s t is_s is_t = is_s ∙ sym is_t

pub one_report : (m : Module) (s t : List ℕ) → IsReport m s → IsReport m t → s ≡ t
one_report m s t is_s is_t =
    let lines : is_s.0 ≡ is_t.0 =
    one_text (AreItemLines m.globals) (one_item m.globals) m.items is_s.0 is_t.0 is_s.2 is_t.2 in
    is_s.1 ∙ rw lines (sym is_t.1)
