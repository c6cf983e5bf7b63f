-- The error of each limit.
use Rattle.scev_arena.specs.declared.limit.Limit.{Limit}
use Rattle.scev_arena.specs.declared.limit.Limit.TheVariants as limit
use Rattle.scev_sums.specs.declared.error.FoldError.{FoldError}
use Rattle.scev_sums.specs.declared.error.FoldError.TheVariants.{TooWide, TooHigh, TooDeep}

abbrev pub error_of : Limit → FoldError
error_of limit.TooWide = TooWide
error_of limit.TooHigh = TooHigh
error_of limit.TooDeep = TooDeep
