-- What an operation is, of what it is told to be.
use Rattle.std.proofs.Common.{◌≡◌, ℕ, ◌&&◌, nat_le, List, [], ◌∷◌, Option, Some, None, sym, ap, ◌∙◌}
use Rattle.std.proofs.lemmas.Bool.{cond_both}
use Rattle.ir_model.specs.declared.types.IrType.{IrType}
use Rattle.ir_model.specs.declared.types.IrType.TheVariants.{Int}
use Rattle.ir_model.specs.declared.op.Operand.{Operand}
use Rattle.ir_model.specs.declared.op.TypedOperand.{TypedOperand}
use Rattle.ir_model.specs.declared.op.CastOp.{CastOp}
use Rattle.ir_model.specs.declared.min_max.MinMax.{MinMax}
use Rattle.value_view.specs.declared.source.Source.{Source}
use Rattle.value_view.specs.declared.given.Pair.{Pair}
use Rattle.value_view.specs.declared.given.Given.TheVariants as given
use Rattle.value_view.specs.Givens.{source_of, minimum_of, given_pair, given_source, given_cast, given_call}

-- the operation and the operands of a pair
pub pair_parts : (o : Option Pair) (s t : Option Source) (p : Pair) (left right : Source)
    → given_pair o s t ≡ given.Pair p left right
    → (o ≡ Some p) × (s ≡ Some left) × (t ≡ Some right)
pair_parts (Some q) (Some s) (Some t) p left right h = (cc, cc, cc)
pair_parts (Some q) (Some s) None p left right h = absurd cc
pair_parts (Some q) None t p left right h = absurd cc
pair_parts None s t p left right h = absurd cc

-- a pair is no conversion
pub pair_no_cast : (o : Option Pair) (s t : Option Source) (how : CastOp) (v : ℕ) (of : Source)
    → given_pair o s t ≡ given.Cast how v of
    → ⊥
pair_no_cast (Some q) (Some s) (Some t) how v of h = absurd cc
pair_no_cast (Some q) (Some s) None how v of h = absurd cc
pair_no_cast (Some q) None t how v of h = absurd cc
pair_no_cast None s t how v of h = absurd cc

-- nor is a call
pub call_no_cast : (o : Option MinMax) (w : ℕ) (args : List TypedOperand) (how : CastOp) (v : ℕ) (of : Source)
    → given_call o w args ≡ given.Cast how v of
    → ⊥
call_no_cast (Some m) w (first ∷ second ∷ []) how v of h =
    pair_no_cast (Some (minimum_of m)) (source_of w first.value) (source_of w second.value) how v of h
call_no_cast _ w args how v of h = absurd cc

-- a conversion of an operand is no pair
source_no_pair : (op : CastOp) (u : ℕ) (s : Option Source) (p : Pair) (left right : Source)
    → given_source op u s ≡ given.Pair p left right
    → ⊥
source_no_pair op u (Some s) p left right h = absurd cc
source_no_pair op u None p left right h = absurd cc

-- nor is one of any type
pub cast_no_pair : (op : CastOp) (from : IrType) (o : Operand) (p : Pair) (left right : Source)
    → given_cast op from o ≡ given.Pair p left right
    → ⊥
cast_no_pair op (Int u) o p left right h =
    cond_both (nat_le 1 u && nat_le u 64) (given_source op u (source_of u o)) given.Opaque
    (λ g. g ≡ given.Pair p left right → ⊥)
    (λ _ same. source_no_pair op u (source_of u o) p left right same)
    (λ _ same. absurd cc)
    h
cast_no_pair op _ o p left right h = absurd cc

-- the operand of a conversion
source_parts : (op : CastOp) (u : ℕ) (s : Option Source) (how : CastOp) (v : ℕ) (of : Source)
    → given_source op u s ≡ given.Cast how v of
    → (op ≡ how) × (u ≡ v) × (s ≡ Some of)
source_parts op u (Some s) how v of h = (cc, cc, cc)
source_parts op u None how v of h = absurd cc

-- the type, the operation and the operand of a conversion
pub cast_parts : (op : CastOp) (from : IrType) (o : Operand) (how : CastOp) (v : ℕ) (of : Source)
    → given_cast op from o ≡ given.Cast how v of
    → (from ≡ Int v) × (op ≡ how) × (source_of v o ≡ Some of)
cast_parts op (Int u) o how v of h =
    cond_both (nat_le 1 u && nat_le u 64) (given_source op u (source_of u o)) given.Opaque
    (λ g. g ≡ given.Cast how v of → (Int u ≡ Int v) × (op ≡ how) × (source_of v o ≡ Some of))
    (λ _ same.
    let parts = source_parts op u (source_of u o) how v of same in
    (ap Int parts.1, parts.0, ap (λ k. source_of k o) (sym parts.1) ∙ parts.2))
    (λ _ same. absurd cc)
    h
cast_parts op _ o how v of h = absurd cc
