-- What is asked of a run.
use Rattle.std.specs.Prelude.{ℕ, List, Option}
use Rattle.std.specs.Option.{option_copied}
use Rattle.eval_request.specs.declared.request.Request.{Request}

-- a function by its name, the text of its arguments, if any, and the most steps
pub record Asked : Type 0 where
  pub name : List ℕ
  pub args : Option (List ℕ)
  pub most : ℕ

abbrev pub asked_by : Request → Asked
asked_by request = record { name = request.name.now; args = option_copied request.args; most = request.most }
