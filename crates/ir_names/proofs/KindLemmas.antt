-- First definitions, one after another.
use Rattle.std.proofs.Common.{◌≡◌, ℕ, ◌+◌, ◌<◌, Bool, true, false, cond, List, [], ◌∷◌, ◌++◌, Option, Some, None, length, take, get_or, replicate, refl, sym, ap, ◌∙◌, eqb, arith}
use Rattle.std.proofs.lemmas.List.{take_more, length-replicate, get_or-replicate}
use Rattle.std.proofs.lemmas.Option.{slice_get-get_or}
use Rattle.ir_model.specs.declared.types.IrType.{IrType}
use Rattle.ir_model.specs.declared.function.Param.{Param}
use Rattle.ir_model.specs.declared.function.Instr.{Instr}
use Rattle.ir_model.specs.declared.function.Block.{Block}
use Rattle.ir_model.specs.Defined.{given_type, is_value, or_else, param_type, instr_type, block_type}
use Rattle.ir_names.specs.Kinds.{AreTypesBy, Notes, only}

or_else-None : (a : Option IrType) → or_else a None ≡ a
or_else-None None = refl
or_else-None (Some k) = refl

or_else_assoc : (a b c : Option IrType) → or_else (or_else a b) c ≡ or_else a (or_else b c)
or_else_assoc None b c = refl
or_else_assoc (Some k) b c = refl

or_else-cond : (t : Bool) (k : IrType) (a b : Option IrType) → or_else (cond t (Some k) a) b
    ≡ cond t (Some k) (or_else a b)
or_else-cond true k a b = refl
or_else-cond false k a b = refl

AreTypesBy-same : (kinds : List (Option IrType)) (f g : ℕ → Option IrType) → ((v : ℕ) → f v ≡ g v)
    → AreTypesBy kinds f → AreTypesBy kinds g
AreTypesBy-same kinds f g same are v within = are v within ∙ ap Some (same v)

-- Nothing is added.
pub notes_none : (kinds : List (Option IrType)) → Notes kinds kinds (λ v. None)
notes_none kinds = record {
  length_same = refl;
  noted =
      λ f are. AreTypesBy-same kinds f _ (λ v. sym (or_else-None (f v))) are;
}

-- More is added.
pub notes_more : (a b c : List (Option IrType)) (g h adds : ℕ → Option IrType) → Notes a b g → Notes b c h
    → ((v : ℕ) → adds v ≡ or_else (g v) (h v)) → Notes a c adds
notes_more a b c g h adds p q same = record {
  length_same = q.length_same ∙ p.length_same;
  noted = λ f are. AreTypesBy-same c _ _ (λ v. or_else_assoc (f v) (g v) (h v) ∙ ap (or_else (f v)) (sym (same v)))
      (q.noted _ (p.noted f are));
}

param_type-push : (ps : List Param) (p : Param) (v : ℕ) → param_type (ps ++ p ∷ []) v
    ≡ or_else (param_type ps v) (only p.value.0 p.kind v)
param_type-push [] p v = refl
param_type-push (q ∷ ps) p v = ap (λ later. cond (eqb q.value.0 v) (Some q.kind) later) (param_type-push ps p v)
    ∙ sym (or_else-cond (eqb q.value.0 v) q.kind (param_type ps v) (only p.value.0 p.kind v))

instr_type-push : (xs : List Instr) (x : Instr) (v : ℕ) → instr_type (xs ++ x ∷ []) v
    ≡ or_else (instr_type xs v) (instr_type (x ∷ []) v)
instr_type-push [] x v = refl
instr_type-push (y ∷ xs) x v = ap (λ later. cond (is_value y.result v) (Some (given_type y.op)) later)
    (instr_type-push xs x v) ∙ sym (or_else-cond (is_value y.result v) (given_type y.op) (instr_type xs v)
    (instr_type (x ∷ []) v))

block_type-push : (bs : List Block) (b : Block) (v : ℕ) → block_type (bs ++ b ∷ []) v
    ≡ or_else (block_type bs v) (instr_type b.instrs v)
block_type-push [] b v = or_else-None (instr_type b.instrs v)
block_type-push (c ∷ bs) b v = ap (or_else (instr_type c.instrs v)) (block_type-push bs b v)
    ∙ sym (or_else_assoc (instr_type c.instrs v) (block_type bs v) (instr_type b.instrs v))

-- one step of a loop over each of them
pub params_more : (a b c : List (Option IrType)) (ps : List Param) (i : ℕ) (p : Param) → i < length ps → p
    ≡ get_or ps i p → Notes a b (param_type (take i ps)) → Notes b c (only p.value.0 p.kind)
    → Notes a c (param_type (take (i + 1) ps))
params_more a b c ps i p within e before here =
    notes_more a b c _ _ _ before here (λ v. ap (λ xs. param_type xs v)
    (take_more ps i p within ∙ ap (λ q. take i ps ++ q ∷ []) (sym e)) ∙ param_type-push (take i ps) p v)

pub instrs_more : (a b c : List (Option IrType)) (xs : List Instr) (i : ℕ) (x : Instr) → i < length xs → x
    ≡ get_or xs i x → Notes a b (instr_type (take i xs)) → Notes b c (instr_type (x ∷ []))
    → Notes a c (instr_type (take (i + 1) xs))
instrs_more a b c xs i x within e before here =
    notes_more a b c _ _ _ before here (λ v. ap (λ ys. instr_type ys v)
    (take_more xs i x within ∙ ap (λ y. take i xs ++ y ∷ []) (sym e)) ∙ instr_type-push (take i xs) x v)

pub blocks_more : (a b c : List (Option IrType)) (xs : List Block) (i : ℕ) (x : Block) → i < length xs → x
    ≡ get_or xs i x → Notes a b (block_type (take i xs)) → Notes b c (instr_type x.instrs)
    → Notes a c (block_type (take (i + 1) xs))
blocks_more a b c xs i x within e before here =
    notes_more a b c _ _ _ before here (λ v. ap (λ ys. block_type ys v)
    (take_more xs i x within ∙ ap (λ y. take i xs ++ y ∷ []) (sym e)) ∙ block_type-push (take i xs) x v)

-- Nothing is known at first.
pub unknown_are : (n : ℕ) → AreTypesBy (replicate n None) (λ v. None)
unknown_are n v within =
    let fits : v < n = omega (arith, within, length-replicate {A = Option IrType} n None) in
    slice_get-get_or (replicate n None) v None within ∙ ap Some (get_or-replicate n v None None fits)

-- Where nothing was known, what is noted is all.
pub are_noted : (n : ℕ) (a b c : List (Option IrType)) (g h : ℕ → Option IrType) → a ≡ replicate n None
    → Notes a b g → Notes b c h → AreTypesBy c (λ v. or_else (g v) (h v))
are_noted n a b c g h start p q =
    let first : AreTypesBy a (λ v. None) =
    (let P : List (Option IrType) → Type 0 = λ kinds. AreTypesBy kinds (λ v. None) in rw start (unknown_are n)) in
    q.noted g (p.noted (λ v. None) first)
