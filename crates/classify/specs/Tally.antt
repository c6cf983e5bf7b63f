-- How often numbers occur in a list, counted up to two.
use Rattle.std.specs.Prelude.{ℕ, List, Bool, true, false, fold, slice_index_or, slice_set}
use Rattle.classify.specs.declared.tally.Often.{Often}
use Rattle.classify.specs.declared.tally.Often.TheVariants.{Never, Once, Twice}

-- one time more
abbrev pub more : Often → Often
more Never = Once
more Once = Twice
more Twice = Twice

-- the tally after one more number; a number past its end leaves it as it is
abbrev pub counted : List Often → ℕ → List Often
counted tally number = slice_set tally number (more (slice_index_or tally number Never))

-- the tally after more numbers
abbrev pub all_counted : List Often → List ℕ → List Often
all_counted tally numbers = fold counted tally numbers

-- whether a name that is defined so often and used so often is defined once, or is no name at all
abbrev pub once_if_any : Often → Often → Bool
once_if_any Never Never = true
once_if_any Never Once = false
once_if_any Never Twice = false
once_if_any Once used = true
once_if_any Twice used = false
