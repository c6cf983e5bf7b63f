-- The instructions of a block of the thin forms: those that give values, and then the last.
use Rattle.std.proofs.Common.{◌≡◌, ℕ, List, [], ◌∷◌, ◌++◌, None, All}
use Rattle.std.proofs.lemmas.List.Elements.{All-nil, All-cons, All-head, All-tail}
use Rattle.ir_model.specs.declared.function.Instr.{Instr}
use Rattle.ir_meaning.specs.Thin.{HasResult, IsThinGiving, IsThinEnding, AreThinInstrs}

module _ (values labels : ℕ) where
  abbrev pub Gives : Instr → Type 0
  Gives i = HasResult values i.result × IsThinGiving values labels i.op

  abbrev pub Ends : Instr → Type 0
  Ends last = (last.result ≡ None) × IsThinEnding values labels last.op

  pub joined : (front : List Instr) (last : Instr) → All Gives front → Ends last
      → AreThinInstrs values labels (front ++ last ∷ [])
  joined [] last all ends = ends
  joined (x ∷ []) last all ends = let gives = All-head Gives x [] all in (gives.0, gives.1, ends)
  joined (x ∷ y ∷ more) last all ends =
      let gives = All-head Gives x (y ∷ more) all in
      (gives.0, gives.1, joined (y ∷ more) last (All-tail Gives x (y ∷ more) all) ends)

  pub parted : (front : List Instr) (last : Instr) → AreThinInstrs values labels (front ++ last ∷ [])
      → All Gives front × Ends last
  parted [] last thin = (All-nil Gives, thin)
  parted (x ∷ []) last thin = (All-cons Gives x [] (thin.0, thin.1) (All-nil Gives), thin.2)
  parted (x ∷ y ∷ more) last thin =
      let others = parted (y ∷ more) last thin.2 in
      (All-cons Gives x (y ∷ more) (thin.0, thin.1) others.0, others.1)
