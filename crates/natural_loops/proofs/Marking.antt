-- Marks of the numbers of which something holds, as a loop sets them.
use Rattle.std.proofs.Common.{◌≡◌, ◌↔◌, ◌⊎◌, ℕ, ◌<◌, Bool, true, false, List, length, set, replicate}
use Rattle.std.proofs.Common.{sym, ◌∙◌, subst, inl, inr, arith, length-set}
use Rattle.std.proofs.lemmas.List.{length-replicate}
use Rattle.flow_graph.specs.Graph.{IsMarked}
use Rattle.flow_graph.proofs.SearchLemmas.{set_marked, set_keeps, set_cases, no_mark}

module _ (P : ℕ → Type 0) (count : ℕ) where
  -- P holds of what is marked, and what was seen is marked if P holds of it.
  pub record AreMarks (Seen : ℕ → Type 0) (marks : List Bool) : Type 0 where
    pub size : length marks ≡ count
    pub only : (b : ℕ) → IsMarked marks b → P b
    pub done : (b : ℕ) → Seen b → P b → IsMarked marks b

  -- nothing is marked, and nothing was seen
  pub AreMarks_none : (Seen : ℕ → Type 0) → ((b : ℕ) → Seen b → ⊥) → AreMarks Seen (replicate count false)
  AreMarks_none Seen none = record {
    size = length-replicate count false;
    only = λ b marked. absurd (no_mark count b marked);
    done = λ b seen holds. absurd (none b seen);
  }

  module _ (Seen Later : ℕ → Type 0) (marks : List Bool) (at : ℕ)
      (cases : (b : ℕ) → Later b → Seen b ⊎ (b ≡ at)) (before : AreMarks Seen marks)
    where
      -- one more was seen, of which P doesn't hold
      pub AreMarks_skip : (P at → ⊥) → AreMarks Later marks
      AreMarks_skip none = record {
        size = before.size;
        only = before.only;
        done = λ b later holds.
            elim (cases b later) [
              | inl seen ↦ before.done b seen holds
              | inr is ↦ absurd (none (subst P is holds))
            ];
      }

      -- one more was seen and marked
      pub AreMarks_more : at < count → P at → AreMarks Later (set marks at true)
      AreMarks_more within holds = record {
        size = length-set marks at true ∙ before.size;
        only = λ b marked.
            elim (set_cases marks at b marked) [
              | inl old ↦ before.only b old
              | inr is ↦ subst P is holds
            ];
        done = λ b later also.
            elim (cases b later) [
              | inl seen ↦ set_keeps marks at b (before.done b seen also)
              | inr is ↦ subst (IsMarked (set marks at true)) (sym is)
                  (set_marked marks at (omega (arith, within, before.size)))
            ];
      }

  -- all were seen
  pub AreMarks_all : (Seen : ℕ → Type 0) (marks : List Bool) → ((b : ℕ) → P b → Seen b) → AreMarks Seen marks
      → (b : ℕ) → IsMarked marks b ↔ P b
  AreMarks_all Seen marks seen are b = (are.only b, (λ holds. are.done b (seen b holds) holds))
