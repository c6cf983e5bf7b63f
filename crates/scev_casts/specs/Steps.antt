-- One step of a truncation.
use Rattle.std.specs.Prelude.{ℕ, ◌%◌, ◌^◌, ◌==◌, if◌then◌else◌, List, Option}
use Rattle.scev_tree.specs.Tree.{Tree, Factors, constant}
use Rattle.scev_forms.specs.Outcome.{Outcome, Done, next}
use Rattle.scev_forms.specs.Sums.{tree_sum}
use Rattle.scev_forms.specs.Casts.{truncated_factors}

-- the sum so far, with one more monomial
abbrev pub monomial_cut : List (Option ℕ) → ℕ → Factors → ℕ → Tree → Outcome Tree
monomial_cut parents w factors n sum =
    if n % 2 ^ w == 0 then Done sum
    else next (truncated_factors parents w factors (constant w n)) (λ product. tree_sum parents w sum product)
