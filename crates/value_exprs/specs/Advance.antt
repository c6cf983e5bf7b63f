-- How a phi goes on in a turn of its loop.
use Rattle.std.specs.Prelude.{◌≡◌, ◌⊎◌, ℕ, ◌==◌, ◌&&◌, Bool, false, if◌then◌else◌, List, [], ◌∷◌, Option, Some, None}
use Rattle.scev_base.specs.declared.ids.LoopId.{LoopId}
use Rattle.scev_tree.specs.declared.kind.Kind.{Kind}
use Rattle.scev_tree.specs.declared.kind.Kind.TheVariants as kind
use Rattle.scev_tree.specs.Tree.{Tree, Terms, Factors, Parts, polynomial, no_terms, term, no_factors, factor, atom}
use Rattle.scev_tree.specs.Tree.{parts_of}
use Rattle.scev_tree.specs.Invariant.{IsInvariant}
use Rattle.scev_arena.specs.Limits.{is_in}
use Rattle.scev_forms.specs.Atoms.{alone}

-- a register's own monomial
abbrev pub is_register : ℕ → Kind → Parts → Bool
is_register v (kind.Leaf register home) parts = register.0 == v
is_register v _ parts = false

abbrev pub is_own : ℕ → Factors → ℕ → Bool
is_own v (factor (atom k w parts) no_factors) n = is_register v k parts && (n == 1)
is_own v _ n = false

abbrev pub behind : Factors → ℕ → Option Terms → Option Terms
behind own n None = None
behind own n (Some terms) = Some (term own n terms)

-- the other monomials, where one is the register's own with coefficient 1
abbrev pub rest_of : ℕ → Terms → Option Terms
rest_of v no_terms = None
rest_of v (term factors n terms) = if is_own v factors n then Some terms else behind factors n (rest_of v terms)

-- In each turn of a loop of a nest a phi's operand of w bits adds to it what is invariant in the loop, or a recurrence
-- of the loop. The parts behind the start of the phi's recurrence are that, or that one's.
pub record IsAdvance (parents : List (Option ℕ)) (l : LoopId) (v w : ℕ) (next : Tree) (steps : List Tree) : Type 0 where
  pub all : Terms
  pub rest : Terms
  pub is : next ≡ polynomial w all
  pub split : rest_of v all ≡ Some rest
  pub without : is_in (λ terms. false) (is_register v) (polynomial w rest) ≡ false
  pub parts : (IsInvariant parents l.0 (polynomial w rest) × (steps ≡ polynomial w rest ∷ []))
      ⊎ (alone (polynomial w rest) ≡ Some (atom (kind.Rec l) w (parts_of steps)))
