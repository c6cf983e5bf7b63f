-- What holds of what is formed, where nothing is refused.
use Rattle.std.proofs.Common.{◌≡◌, Option, Some, None, refl, subst}
use Rattle.scev_tree.specs.Tree.{Tree}
use Rattle.scev_arena.specs.declared.limit.Limit.{Limit}
use Rattle.scev_arena.specs.Limits.{first_limit}
use Rattle.scev_forms.specs.Outcome.{Outcome, Done, Refused, next, unless, tested}

-- P holds of what was formed, if anything was
abbrev pub Gives : {A : Type 0} → (A → Type 0) → Outcome A → Type 0
Gives P (Done a) = P a
Gives P (Refused why) = Unit {0}

-- what was formed has what all that is formed has
pub given : {A : Type 0} (P : A → Type 0) (o : Outcome A) (a : A) → Gives P o → o ≡ Done a → P a
given P o a h e = subst (Gives P) e h

-- what holds of what comes next, of anything that was formed
pub gives_next : {A B : Type 0} (P : A → Type 0) (Q : B → Type 0) (o : Outcome A) (f : A → Outcome B)
    → Gives P o
    → ((a : A) → P a → Gives Q (f a))
    → Gives Q (next o f)
gives_next P Q (Done a) f h g = g a h
gives_next P Q (Refused why) f h g = tt

-- what follows of what was formed
pub gives_more : {A : Type 0} (P Q : A → Type 0) (o : Outcome A)
    → Gives P o
    → ((a : A) → P a → Q a)
    → Gives Q o
gives_more P Q (Done a) h g = g a h
gives_more P Q (Refused why) h g = tt

gives_unless : {A : Type 0} (P : A → Type 0) (limit : Option Limit) (a : A) → P a → Gives P (unless limit a)
gives_unless P None a h = h
gives_unless P (Some why) a h = tt

-- what holds of a tree holds once it has been looked at
pub gives_tested : (P : Tree → Type 0) (tree : Tree) → P tree → Gives P (tested tree)
unfolding tested
gives_tested P tree h = gives_unless P (first_limit tree) tree h

-- what is looked at and comes out is the tree itself
pub tested_same : (tree out : Tree) → tested tree ≡ Done out → out ≡ tree
tested_same tree out e = given (λ a. a ≡ tree) (tested tree) out (gives_tested (λ a. a ≡ tree) tree refl) e
