-- A value has one expression while some phis are in progress, in whatever order they are listed, and so has an operand
-- at a place.
use Rattle.std.proofs.Common.{◌≡◌, ℕ, false, List, ◌∷◌, Option, Some, refl}
use Rattle.scev_base.specs.declared.ids.LoopId.{LoopId}
use Rattle.scev_base.specs.declared.ids.ValueId.{ValueId}
use Rattle.ir_model.specs.declared.op.CastOp.{CastOp}
use Rattle.scev_tree.specs.Tree.{Tree, constant}
use Rattle.scev_forms.specs.Sums.{recurrence_of}
use Rattle.value_view.specs.declared.source.Source.{Source}
use Rattle.value_view.specs.declared.source.Source.TheVariants.{Number, Register}
use Rattle.value_view.specs.declared.given.Pair.{Pair}
use Rattle.value_view.specs.declared.given.Given.TheVariants as given
use Rattle.value_exprs.specs.View.{View, row_of, number_of_loop, home, leaf, outside, Leaves}
use Rattle.value_exprs.specs.Dependence.{IsCut}
use Rattle.value_exprs.specs.Advance.{IsAdvance}
use Rattle.value_exprs.specs.Steps.{formed_pair, formed_cast, or_leaf, formed_or_leaf}
use Rattle.value_exprs.specs.Exprs.{KeepsName, IsExpr, opaque, pair, cast, named, advances, stays}
use Rattle.value_exprs.specs.Exprs.{IsOperand, number, left_loop, inside}
use Rattle.value_exprs.proofs.OneCut.{HaveSame, same_back, same_with_first, same_cuts, keeps_too}
use Rattle.value_exprs.proofs.OneAdvance.{one_advance}

-- an operand has no other expression than this one, with lists of the same phis
abbrev IsOnly : View → List ℕ → ℕ → Option ℕ → Source → Tree → Type 0
IsOnly view progress w place of x =
    (other : List ℕ) → HaveSame progress other → (y : Tree) → IsOperand view other w place of y → x ≡ y

-- ---- the expressions of a value, by what gives one of them

-- one list of phis in progress, and another one of the same
module _ (view : View) (progress other : List ℕ) (same : HaveSame progress other) (v : ℕ) where
  -- a value of which nothing is formed has its own name
  opaque_again : (z : Tree) → (row_of view v).given ≡ given.Opaque → IsExpr view other v z → leaf view v ≡ z
  opaque_again z is (opaque is') = refl
  opaque_again z is (pair cut' p' left' right' x' y' is' _ _ _) = absurd cc
  opaque_again z is (cast cut' op' w' of' x' is' _ _) = absurd cc
  opaque_again z is (named cut' start' back' is' _ _) = refl
  opaque_again z is (advances cut' start' back' l' x' y' steps' is' _ _ _ _ _ _) = absurd cc
  opaque_again z is (stays cut' start' back' l' y' is' _ _ _ _ _) = refl

  -- what is formed of two operands, each of which has one expression
  pair_again : (cut : List ℕ) (p : Pair) (left right : Source) (x y z : Tree)
      → (row_of view v).given ≡ given.Pair p left right
      → IsCut view v progress cut
      → IsOnly view cut (row_of view v).bits (number_of_loop (home view v)) left x
      → IsOnly view cut (row_of view v).bits (number_of_loop (home view v)) right y
      → IsExpr view other v z
      → formed_or_leaf (leaf view v) (formed_pair view.parents (row_of view v).bits p x y) ≡ z
  pair_again cut p left right x y z is is_cut _ _ (opaque is') = absurd cc
  pair_again cut p left right x y z is is_cut one two
      (pair cut' p' left' right' x' y' is' is_cut' one' two') =
      let members = same_cuts view v progress other cut cut' same is_cut is_cut' in
      let same_pair : p ≡ p' = cc in
      let same_left : left' ≡ left = cc in
      let same_right : right' ≡ right = cc in
      let same_x : x ≡ x' = one cut' members x' (rw same_left at one') in
      let same_y : y ≡ y' = two cut' members y' (rw same_right at two') in
      rw (same_pair, same_x, same_y) refl
  pair_again cut p left right x y z is is_cut _ _ (cast cut' op' w' of' x' is' _ _) = absurd cc
  pair_again cut p left right x y z is is_cut _ _ (named cut' start' back' is' _ _) = absurd cc
  pair_again cut p left right x y z is is_cut _ _ (advances cut' start' back' l' x' y' steps' is' _ _ _ _ _ _) =
      absurd cc
  pair_again cut p left right x y z is is_cut _ _ (stays cut' start' back' l' y' is' _ _ _ _ _) = absurd cc

  -- what a conversion forms of an operand that has one expression
  cast_again : (cut : List ℕ) (op : CastOp) (w : ℕ) (of : Source) (x z : Tree)
      → (row_of view v).given ≡ given.Cast op w of
      → IsCut view v progress cut
      → IsOnly view cut w (number_of_loop (home view v)) of x
      → IsExpr view other v z
      → or_leaf (leaf view v) (formed_cast view.parents (row_of view v).bits op false x) ≡ z
  cast_again cut op w of x z is is_cut _ (opaque is') = absurd cc
  cast_again cut op w of x z is is_cut _ (pair cut' p' left' right' x' y' is' _ _ _) = absurd cc
  cast_again cut op w of x z is is_cut one (cast cut' op' w' of' x' is' is_cut' one') =
      let members = same_cuts view v progress other cut cut' same is_cut is_cut' in
      let same_op : op ≡ op' = cc in
      let same_width : w' ≡ w = cc in
      let same_source : of' ≡ of = cc in
      let same_x : x ≡ x' = one cut' members x' (rw (same_width, same_source) at one') in
      rw (same_op, same_x) refl
  cast_again cut op w of x z is is_cut _ (named cut' start' back' is' _ _) = absurd cc
  cast_again cut op w of x z is is_cut _ (advances cut' start' back' l' x' y' steps' is' _ _ _ _ _ _) = absurd cc
  cast_again cut op w of x z is is_cut _ (stays cut' start' back' l' y' is' _ _ _ _ _) = absurd cc

  -- a phi that keeps its name
  named_again : (cut : List ℕ) (start back : Source) (z : Tree)
      → (row_of view v).given ≡ given.Header start back
      → IsCut view v progress cut
      → KeepsName view v cut
      → IsExpr view other v z
      → leaf view v ≡ z
  named_again cut start back z is is_cut keeps (opaque is') = refl
  named_again cut start back z is is_cut _ (pair cut' p' left' right' x' y' is' _ _ _) = absurd cc
  named_again cut start back z is is_cut _ (cast cut' op' w' of' x' is' _ _) = absurd cc
  named_again cut start back z is is_cut keeps (named cut' start' back' is' _ _) = refl
  named_again cut start back z is is_cut keeps
      (advances cut' start' back' l' x' y' steps' is' _ is_cut' keeps_not _ _ _) =
      absurd (keeps_not (keeps_too view v progress other cut cut' same is_cut is_cut' keeps))
  named_again cut start back z is is_cut keeps (stays cut' start' back' l' y' is' _ _ _ _ _) = refl

  -- what two derivations of a phi's expression have in common, so far as they don't give its name at once
  record AreOneTurn (cut cut' : List ℕ) (start start' back back' : Source) (l l' : LoopId) : Type 0 where
    members : HaveSame cut cut'
    same_start : start' ≡ start
    same_back : back' ≡ back
    same_loop : l' ≡ l

  -- one row, one home and the same phis in progress
  one_turn : (cut cut' : List ℕ) {start start' back back' : Source} {l l' : LoopId}
      → (row_of view v).given ≡ given.Header start back
      → (row_of view v).given ≡ given.Header start' back'
      → home view v ≡ Some l
      → home view v ≡ Some l'
      → IsCut view v progress cut
      → IsCut view v other cut'
      → AreOneTurn cut cut' start start' back back' l l'
  one_turn cut cut' is is' within within' is_cut is_cut' = record {
    members = same_cuts view v progress other cut cut' same is_cut is_cut';
    same_start = cc;
    same_back = cc;
    same_loop = cc;
  }

  -- the operand on the back edges has one expression
  same_next : (w : ℕ) {cut cut' : List ℕ} {start start' back back' : Source} {l l' : LoopId} {y y' : Tree}
      → AreOneTurn cut cut' start start' back back' l l'
      → IsOnly view (v ∷ cut) w (Some l.0) back y
      → IsOperand view (v ∷ cut') w (Some l'.0) back' y'
      → y ≡ y'
  same_next w {cut} {cut'} turn only there =
      only (v ∷ cut') (same_with_first v cut cut' turn.members) _ (rw (turn.same_back, turn.same_loop) at there)

  -- a phi that advances, with operands that have one expression each, is one recurrence
  advances_again : (cut : List ℕ) (start back : Source) (l : LoopId) (x y : Tree) (steps : List Tree) (z : Tree)
      → (row_of view v).given ≡ given.Header start back
      → home view v ≡ Some l
      → IsCut view v progress cut
      → (KeepsName view v cut → ⊥)
      → IsOnly view (v ∷ cut) (row_of view v).bits (Some l.0) back y
      → IsAdvance view.parents l v (row_of view v).bits y steps
      → IsOnly view cut (row_of view v).bits (outside view l) start x
      → IsExpr view other v z
      → or_leaf (leaf view v) (recurrence_of (row_of view v).bits l.0 (x ∷ steps)) ≡ z
  advances_again cut start back l x y steps z is _ _ _ _ _ _ (opaque is') = absurd cc
  advances_again cut start back l x y steps z is _ _ _ _ _ _
      (pair cut' p' left' right' x' y' is' _ _ _) = absurd cc
  advances_again cut start back l x y steps z is _ _ _ _ _ _ (cast cut' op' w' of' x' is' _ _) = absurd cc
  advances_again cut start back l x y steps z is within is_cut keeps_not _ _ _
      (named cut' start' back' is' is_cut' keeps) =
      absurd (keeps_not (keeps_too view v other progress cut' cut (same_back progress other same) is_cut' is_cut keeps))
  advances_again cut start back l x y steps z is within is_cut keeps_not next_only advance start_only
      (advances cut' start' back' l' x' y' steps' is' within' is_cut' _ next' advance' start_is') =
      let turn = one_turn cut cut' is is' within within' is_cut is_cut' in
      let same_y : y ≡ y' = same_next (row_of view v).bits turn next_only next' in
      let advance_there = rw (turn.same_loop, ← same_y) at advance' in
      let same_steps = one_advance view.parents l v (row_of view v).bits y steps steps' advance advance_there in
      let start_there = rw (turn.same_start, turn.same_loop) at start_is' in
      let same_x : x ≡ x' = start_only cut' turn.members x' start_there in
      rw (same_x, same_steps, turn.same_loop) refl
  advances_again cut start back l x y steps z is within is_cut keeps_not next_only advance start_only
      (stays cut' start' back' l' y' is' within' is_cut' _ next' none) =
      let turn = one_turn cut cut' is is' within within' is_cut is_cut' in
      let same_y : y ≡ y' = same_next (row_of view v).bits turn next_only next' in
      absurd (none steps (rw (← turn.same_loop, same_y) at advance))

  -- a phi that doesn't advance has its own name
  stays_again : (cut : List ℕ) (start back : Source) (l : LoopId) (y z : Tree)
      → (row_of view v).given ≡ given.Header start back
      → home view v ≡ Some l
      → IsCut view v progress cut
      → IsOnly view (v ∷ cut) (row_of view v).bits (Some l.0) back y
      → ((steps : List Tree) → IsAdvance view.parents l v (row_of view v).bits y steps → ⊥)
      → IsExpr view other v z
      → leaf view v ≡ z
  stays_again cut start back l y z is _ _ _ _ (opaque is') = refl
  stays_again cut start back l y z is _ _ _ _ (pair cut' p' left' right' x' y' is' _ _ _) = absurd cc
  stays_again cut start back l y z is _ _ _ _ (cast cut' op' w' of' x' is' _ _) = absurd cc
  stays_again cut start back l y z is _ _ _ _ (named cut' start' back' is' _ _) = refl
  stays_again cut start back l y z is within is_cut next_only none
      (advances cut' start' back' l' x' y' steps' is' within' is_cut' _ next' advance' _) =
      let turn = one_turn cut cut' is is' within within' is_cut is_cut' in
      let same_y : y ≡ y' = same_next (row_of view v).bits turn next_only next' in
      absurd (none steps' (rw (turn.same_loop, ← same_y) at advance'))
  stays_again cut start back l y z is _ _ _ _ (stays cut' start' back' l' y' is' _ _ _ _ _) = refl

-- ---- the expressions of an operand

-- a numeral
number_again : (view : View) (other : List ℕ) (w : ℕ) (place : Option ℕ) (n : ℕ) (z : Tree)
    → IsOperand view other w place (Number n) z
    → constant w n ≡ z
number_again view other w place n z number = refl

-- a register whose loop the operand leaves
left_again : (view : View) (other : List ℕ) (w : ℕ) (place : Option ℕ) (v : ValueId) (l : ℕ) (z : Tree)
    → Leaves view v.0 place l
    → IsOperand view other w place (Register v) z
    → leaf view v.0 ≡ z
left_again view other w place v l z leaves (left_loop l' leaves') = refl
left_again view other w place v l z leaves (inside never is) = absurd (never l leaves)

-- a register that has one expression, and whose loops the operand doesn't leave
inside_again : (view : View) (other : List ℕ) (w : ℕ) (place : Option ℕ) (v : ValueId) (x z : Tree)
    → ((l : ℕ) → Leaves view v.0 place l → ⊥)
    → ((y : Tree) → IsExpr view other v.0 y → x ≡ y)
    → IsOperand view other w place (Register v) z
    → x ≡ z
inside_again view other w place v x z never only (left_loop l leaves) = absurd (never l leaves)
inside_again view other w place v x z never only (inside never' is) = only _ is

-- ---- both

-- two expressions of a value are the same, and two of an operand
mutual
  pub one_value : (view : View) {progress : List ℕ} {v : ℕ} {x : Tree}
      → IsExpr view progress v x
      → (other : List ℕ)
      → HaveSame progress other
      → (z : Tree)
      → IsExpr view other v z
      → x ≡ z
  one_value view {progress} {v} (opaque is) other same z also = opaque_again view progress other same v z is also
  one_value view {progress} {v} (pair cut p left right x y is is_cut left_is right_is) other same z also =
      pair_again view progress other same v cut p left right x y z is is_cut
      (λ others members t there. one_operand view left_is others members t there)
      (λ others members t there. one_operand view right_is others members t there)
      also
  one_value view {progress} {v} (cast cut op w of x is is_cut source_is) other same z also =
      cast_again view progress other same v cut op w of x z is is_cut
      (λ others members t there. one_operand view source_is others members t there)
      also
  one_value view {progress} {v} (named cut start back is is_cut keeps) other same z also =
      named_again view progress other same v cut start back z is is_cut keeps also
  one_value view {progress} {v}
      (advances cut start back l x y steps is within is_cut keeps_not next_is advance start_is) other same z also =
      advances_again view progress other same v cut start back l x y steps z is within is_cut keeps_not
      (λ others members t there. one_operand view next_is others members t there)
      advance
      (λ others members t there. one_operand view start_is others members t there)
      also
  one_value view {progress} {v} (stays cut start back l y is within is_cut keeps_not next_is none) other same z also =
      stays_again view progress other same v cut start back l y z is within is_cut
      (λ others members t there. one_operand view next_is others members t there)
      none
      also

  pub one_operand : (view : View) {progress : List ℕ} {w : ℕ} {place : Option ℕ} {of : Source} {x : Tree}
      → IsOperand view progress w place of x
      → (other : List ℕ)
      → HaveSame progress other
      → (z : Tree)
      → IsOperand view other w place of z
      → x ≡ z
  one_operand view {progress} {w} {place} (number {n = n}) other same z also =
      number_again view other w place n z also
  one_operand view {progress} {w} {place} (left_loop {v = v} l leaves) other same z also =
      left_again view other w place v l z leaves also
  one_operand view {progress} {w} {place} (inside {v = v} {tree = tree} never is) other same z also =
      inside_again view other w place v tree z never (λ t there. one_value view is other same t there) also
