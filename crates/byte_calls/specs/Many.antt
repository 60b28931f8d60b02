-- Many steps by bytes, 5 each, one after the other.
use Rattle.std.specs.Prelude.{ℕ, zero, suc, ◌+◌, ◌*◌, cond, List, Result, Ok, Err}
use Rattle.std.specs.Result.{result_unwrap_or}
use Rattle.laws.specs.Over.{over}
use Rattle.plan.specs.declared.Plan.{Plan}
use Rattle.plan.specs.declared.refusal.Refusal.{Refusal}
use Rattle.plan.specs.declared.refusal.Refusal.TheVariants.{LineWrong}
use Rattle.plan.specs.Refusals.{refused_number}
use Rattle.laws.specs.Bytes.{byte_at}
use Rattle.plan_file.specs.File.{be32_of}
use Rattle.run.specs.declared.Run.{Run}
use Rattle.run.specs.declared.Step.{Step}
use Rattle.run.specs.Steps.{step_tested}
use Rattle.step_lines.specs.StepLine.{is_letter, step_by}

-- What is found, and with it the rest of a call; or the refusal.
module _ {A B R : Type 0} where
  abbrev pub and_then : Result A R → (A → Result B R) → Result B R
  and_then (Ok found) rest = rest found
  and_then (Err refusal) rest = Err refusal

-- The step that a letter and a number spell; 19 for another letter than D, T and S.
unfoldable pub step_spelt : (letter n : ℕ) → Result Step Refusal
step_spelt letter n = cond (is_letter letter) (Ok (step_by letter n)) (Err LineWrong)

-- A step by its letter and number, of a plan that passed 1 to 9.
unfoldable pub asked_of : Plan → Run → (letter n : ℕ) → Result Run Refusal
asked_of P r letter n = and_then (step_spelt letter n) (step_tested P r)

-- The k-th step of the bytes.
abbrev pub asked_at : Plan → List ℕ → ℕ → Run → Result Run Refusal
asked_at P steps k r = asked_of P r (byte_at steps (5 * k)) (be32_of steps (5 * k + 1))

-- The run after the first k steps; a refused step leaves it as it was, and the next one is tried.
unfoldable pub after_asked : Plan → List ℕ → ℕ → Run → Run
after_asked P steps zero r = r
after_asked P steps (suc k) r = result_unwrap_or (asked_at P steps k (after_asked P steps k r)) (after_asked P steps k r)

-- One byte a step: the k-th is the answer of the k-th step on the run after those before it.
unfoldable pub answers_bytes : Plan → List ℕ → (count : ℕ) → Run → List ℕ → List ℕ
answers_bytes P steps count r answers =
    over count (λ k b. refused_number (asked_at P steps k (after_asked P steps k r))) answers
