-- What forming a tree comes to.
use Rattle.std.specs.Prelude.{Option, Some, None}
use Rattle.scev_tree.specs.Tree.{Tree}
use Rattle.scev_arena.specs.declared.limit.Limit.{Limit}
use Rattle.scev_arena.specs.Limits.{first_limit}

-- what was formed, or the first limit that was met on the way
pub data Outcome (A : Type 0) : Type 0 where
  Done : A → Outcome A
  Refused : Limit → Outcome A

-- what comes next, of what was formed
abbrev pub next : {A B : Type 0} → Outcome A → (A → Outcome B) → Outcome B
next (Done a) f = f a
next (Refused why) f = Refused why

abbrev pub unless : {A : Type 0} → Option Limit → A → Outcome A
unless None a = Done a
unless (Some why) a = Refused why

-- A tree is looked at: it comes out if it is within all limits, and else the first one that it is above.
unfoldable pub tested : Tree → Outcome Tree
tested tree = unless (first_limit tree) tree
