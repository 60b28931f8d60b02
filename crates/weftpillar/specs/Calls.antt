-- What each call answers, by its tests in their order, and what it leaves in the buffers lent to it: by its answer, and by the number of that.
use Rattle.std.specs.Prelude.{ℕ, ◌*◌, not, ◌||◌, List, length, eqb, Option, Result, Ok}
use Rattle.laws.specs.Row.{unless}
use Rattle.rules.specs.declared.Verdict.{Verdict}
use Rattle.rules.specs.Rules.{verdict_of}
use Rattle.run.specs.declared.Apart.{Apart}
use Rattle.run.specs.declared.Run.{Run}
use Rattle.run.specs.declared.Step.{Step}
use Rattle.run.specs.declared.Ticks.{Ticks}
use Rattle.run.specs.State.{fresh_run}
use Rattle.shown.specs.declared.Given.{Given}
use Rattle.shown.specs.declared.Place.{Place}
use Rattle.shown.specs.Shown.{fresh_place}
use Rattle.step_lines.specs.StepLine.{line_of}
use Rattle.run_bytes.specs.RunBytes.{run_bytes}
use Rattle.answer_bytes.specs.declared.answers.Unanswered.{Unanswered}
use Rattle.answer_bytes.specs.Answers.{answer_number, or_refused}
use Rattle.answer_bytes.specs.Forms.{verdict_bytes, step_bytes, apart_bytes, ticks_bytes}
use Rattle.answer_bytes.specs.Places.{place_bytes}
use Rattle.byte_calls.specs.Taken.{plan_in}
use Rattle.byte_calls.specs.TestsAndWrites.{leaves, run_put, step_asked, steps_asked, answers_put, apart_asked, ticks_asked, next_asked, place_put, step_put}
use Rattle.weftpillar.specs.Answers.{other_than, by_lengths, answered}

-- Judge a plan file.
unfoldable pub judged : (file verdict : List ℕ) → Result Verdict Unanswered
judged file verdict = answered (other_than 51 verdict) file (λ P. Ok (verdict_of P))

abbrev pub judge_answer : (file verdict : List ℕ) → ℕ
judge_answer file verdict = answer_number (judged file verdict)

abbrev pub judge_leaves : (file verdict : List ℕ) → List ℕ
judge_leaves file verdict = leaves (judged file verdict) verdict_bytes verdict

-- A fresh run, and a fresh place: all 32 places are written.
unfoldable pub begun : List ℕ → Result Run Unanswered
begun run = unless (by_lengths (other_than 291 run)) (Ok fresh_run)

abbrev pub fresh_answer : List ℕ → ℕ
fresh_answer run = answer_number (begun run)

abbrev pub fresh_leaves : List ℕ → List ℕ
fresh_leaves run = leaves (begun run) (λ r. run_bytes 32 r run) run

unfoldable pub place_begun : List ℕ → Result Place Unanswered
place_begun place = unless (by_lengths (other_than 292 place)) (Ok fresh_place)

abbrev pub fresh_place_answer : List ℕ → ℕ
fresh_place_answer place = answer_number (place_begun place)

abbrev pub fresh_place_leaves : List ℕ → List ℕ
fresh_place_leaves place = leaves (place_begun place) (λ q. place_bytes 32 q place) place

-- One step on a run: 19, 10, then what a step of this plan answers.
unfoldable pub stepped : (file run : List ℕ) → (letter n : ℕ) → Result Run Unanswered
stepped file run letter n = answered (other_than 291 run) file (λ P. or_refused (step_asked P run letter n))

abbrev pub step_answer : (file run : List ℕ) → (letter n : ℕ) → ℕ
step_answer file run letter n = answer_number (stepped file run letter n)

abbrev pub step_leaves : (file run : List ℕ) → (letter n : ℕ) → List ℕ
step_leaves file run letter n = leaves (stepped file run letter n) (run_put (plan_in file) run) run

-- Many steps on a run, as many as there are answers: 10 once, then an answer for each step.
unfoldable pub all_stepped : (file run steps answers : List ℕ) → Result Run Unanswered
all_stepped file run steps answers =
    answered (other_than 291 run || not (eqb (length steps) (5 * length answers))) file
    (λ P. or_refused (steps_asked P run steps (length answers)))

abbrev pub steps_answer : (file run steps answers : List ℕ) → ℕ
steps_answer file run steps answers = answer_number (all_stepped file run steps answers)

abbrev pub steps_leaves_run : (file run steps answers : List ℕ) → List ℕ
steps_leaves_run file run steps answers = leaves (all_stepped file run steps answers) (run_put (plan_in file) run) run

abbrev pub steps_leaves_answers : (file run steps answers : List ℕ) → List ℕ
steps_leaves_answers file run steps answers =
    leaves (all_stepped file run steps answers) (answers_put (plan_in file) run steps answers) answers

-- The out-of-step test: 10.
unfoldable pub apart : (file run answer : List ℕ) → Result (Option Apart) Unanswered
apart file run answer = answered (other_than 291 run || other_than 9 answer) file (λ P. or_refused (apart_asked P run))

abbrev pub apart_answer : (file run answer : List ℕ) → ℕ
apart_answer file run answer = answer_number (apart file run answer)

abbrev pub apart_leaves : (file run answer : List ℕ) → List ℕ
apart_leaves file run answer = leaves (apart file run answer) apart_bytes answer

-- A node's reckoning: 10, then what the reckoning answers.
unfoldable pub reckoned : (file run : List ℕ) → (i : ℕ) → (ticks : List ℕ) → Result Ticks Unanswered
reckoned file run i ticks = answered (other_than 291 run || other_than 4 ticks) file (λ P. or_refused (ticks_asked P run i))

abbrev pub reckon_answer : (file run : List ℕ) → (i : ℕ) → (ticks : List ℕ) → ℕ
reckon_answer file run i ticks = answer_number (reckoned file run i ticks)

abbrev pub reckon_leaves : (file run : List ℕ) → (i : ℕ) → (ticks : List ℕ) → List ℕ
reckon_leaves file run i ticks = leaves (reckoned file run i ticks) ticks_bytes ticks

-- The next step of the shown run: 10, then what the shown run answers at this place, 254 where it is finished.
unfoldable pub next : (file place step : List ℕ) → Result Given Unanswered
next file place step = answered (other_than 292 place || other_than 5 step) file (λ P. next_asked P place)

abbrev pub next_answer : (file place step : List ℕ) → ℕ
next_answer file place step = answer_number (next file place step)

abbrev pub next_leaves_place : (file place step : List ℕ) → List ℕ
next_leaves_place file place step = leaves (next file place step) (place_put (plan_in file) place) place

abbrev pub next_leaves_step : (file place step : List ℕ) → List ℕ
next_leaves_step file place step = leaves (next file place step) step_put step

-- A step line to a step: 19.
unfoldable pub line_read : (line step : List ℕ) → Result Step Unanswered
line_read line step = unless (by_lengths (other_than 5 step)) (or_refused (line_of line))

abbrev pub line_answer : (line step : List ℕ) → ℕ
line_answer line step = answer_number (line_read line step)

abbrev pub line_leaves : (line step : List ℕ) → List ℕ
line_leaves line step = leaves (line_read line step) step_bytes step
