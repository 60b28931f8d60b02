-- What the reader makes of a plan file: its refusal, if it gives one, and the plan in a file that it takes.
use Rattle.std.specs.Prelude.{ℕ, List, Option}
use Rattle.std.specs.Result.{result_err}
use Rattle.plan.specs.declared.Plan.{Plan}
use Rattle.plan.specs.declared.refusal.Refusal.{Refusal}
use Rattle.plan_file.specs.File.{read_of}

unfoldable pub read_refusal : List ℕ → Option Refusal
read_refusal file = result_err (read_of file).answer

unfoldable pub plan_in : List ℕ → Plan
plan_in file = (read_of file).plan
