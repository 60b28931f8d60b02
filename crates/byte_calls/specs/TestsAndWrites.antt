-- What each call answers, by its tests in their order, of a plan that passed 1 to 9 with every lent buffer of the right length, and
-- what it writes where it is answered.
use Rattle.std.specs.Prelude.{ℕ, Bool, cond, List, length, Option, Result, Ok, Err}
use Rattle.laws.specs.Row.{unless}
use Rattle.plan.specs.declared.Plan.{Plan}
use Rattle.plan.specs.declared.refusal.Refusal.{Refusal}
use Rattle.plan.specs.declared.refusal.Refusal.TheVariants.{RunOutside}
use Rattle.run.specs.declared.Apart.{Apart}
use Rattle.run.specs.declared.Run.{Run}
use Rattle.run.specs.declared.Ticks.{Ticks}
use Rattle.run.specs.State.{range_refusal, apart_tested}
use Rattle.run.specs.Steps.{step_tested}
use Rattle.run.specs.Reckoning.{reckoned_tested}
use Rattle.shown.specs.declared.Given.{Given}
use Rattle.shown.specs.declared.Place.{Place}
use Rattle.shown.specs.Shown.{given_of}
use Rattle.run_bytes.specs.RunBytes.{run_in, run_bytes, spells_no_run}
use Rattle.answer_bytes.specs.declared.answers.Unanswered.{Unanswered}
use Rattle.answer_bytes.specs.Answers.{or_finished}
use Rattle.answer_bytes.specs.Forms.{step_bytes}
use Rattle.answer_bytes.specs.Places.{place_in, place_bytes, place_wrong}
use Rattle.byte_calls.specs.Many.{and_then, step_spelt, after_asked, answers_bytes}

-- What a call leaves in a lent buffer: what it writes of its answer, else what was there.
module _ {A R : Type 0} where
  abbrev pub leaves : Result A R → (written : A → List ℕ) → (before : List ℕ) → List ℕ
  leaves (Ok answer) written before = written answer
  leaves (Err r) written before = before

-- The run in bytes, a run put into bytes, and bytes that spell none, for the nodes of a plan.
abbrev pub run_for : Plan → List ℕ → Run
run_for P bytes = run_in P.nodes.0 bytes

abbrev pub run_put : Plan → (before : List ℕ) → Run → List ℕ
run_put P before r = run_bytes P.nodes.0 r before

abbrev pub run_wrong : Plan → List ℕ → Bool
run_wrong P bytes = spells_no_run P.nodes.0 bytes

-- The run in bytes: 10 where they spell none. And where nothing but the run can speak against the call: 10 also by its ranges.
unfoldable pub run_spelt : Plan → List ℕ → Result Run Refusal
run_spelt P bytes = cond (run_wrong P bytes) (Err RunOutside) (Ok (run_for P bytes))

unfoldable pub run_inside : Plan → List ℕ → Result Run Refusal
run_inside P bytes = and_then (run_spelt P bytes) (λ r. unless (range_refusal P r) (Ok r))

-- One step on a run: 19, 10, then what a step of this plan answers.
unfoldable pub step_asked : Plan → List ℕ → (letter n : ℕ) → Result Run Refusal
step_asked P run letter n = and_then (step_spelt letter n) (λ s. and_then (run_spelt P run) (λ r. step_tested P r s))

-- Many steps on a run, as many as there are answers: the run after them, and an answer for each.
unfoldable pub steps_asked : Plan → (run steps : List ℕ) → (count : ℕ) → Result Run Refusal
steps_asked P run steps count = and_then (run_inside P run) (λ r. Ok (after_asked P steps count r))

abbrev pub answers_put : Plan → (run steps answers : List ℕ) → Run → List ℕ
answers_put P run steps answers after = answers_bytes P steps (length answers) (run_for P run) answers

-- The out-of-step test.
unfoldable pub apart_asked : Plan → List ℕ → Result (Option Apart) Refusal
apart_asked P run = and_then (run_inside P run) (λ r. Ok (apart_tested P r))

-- A node's reckoning: 10, then what the reckoning answers.
unfoldable pub ticks_asked : Plan → List ℕ → (i : ℕ) → Result Ticks Refusal
ticks_asked P run i = and_then (run_spelt P run) (λ r. reckoned_tested P r i)

-- The next step of the shown run: 10, then what the shown run answers at this place, finished where it has no more steps.
unfoldable pub place_spelt : Plan → List ℕ → Result Place Refusal
place_spelt P bytes = cond (place_wrong P.nodes.0 bytes) (Err RunOutside) (Ok (place_in P.nodes.0 bytes))

unfoldable pub next_asked : Plan → List ℕ → Result Given Unanswered
next_asked P place = or_finished (and_then (place_spelt P place) (given_of P))

abbrev pub place_put : Plan → (before : List ℕ) → Given → List ℕ
place_put P before next = place_bytes P.nodes.0 next.place before

abbrev pub step_put : Given → List ℕ
step_put next = step_bytes next.step
