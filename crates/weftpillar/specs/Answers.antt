-- What a call on a plan file answers: 255 by the lengths, then the reader's refusal, then what the plan in the file answers.
use Rattle.std.specs.Prelude.{ℕ, Bool, not, List, length, eqb, Option, None, Some, Result, cond}
use Rattle.std.specs.Option.{option_map}
use Rattle.laws.specs.Row.{unless}
use Rattle.plan.specs.declared.Plan.{Plan}
use Rattle.answer_bytes.specs.declared.answers.Unanswered.{Unanswered}
use Rattle.answer_bytes.specs.declared.answers.Unanswered.TheVariants.{Refused, AnotherLength}
use Rattle.byte_calls.specs.Taken.{read_refusal, plan_in}

-- A lent buffer has another length than this.
abbrev pub other_than : ℕ → List ℕ → Bool
other_than n bytes = not (eqb (length bytes) n)

-- 255: a lent buffer has another length than the call asks for.
abbrev pub by_lengths : (lengths_wrong : Bool) → Option Unanswered
by_lengths wrong = cond wrong (Some AnotherLength) None

-- The reader's refusal.
abbrev pub by_file : List ℕ → Option Unanswered
by_file file = option_map Refused (read_refusal file)

-- The answer of a call on a plan file.
module _ {A : Type 0} where
  unfoldable pub answered : (lengths_wrong : Bool) → (file : List ℕ) → (Plan → Result A Unanswered) → Result A Unanswered
  answered wrong file answer = unless (by_lengths wrong) (unless (by_file file) (answer (plan_in file)))
