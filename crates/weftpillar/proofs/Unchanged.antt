-- A call that answers anything but 0 changes no byte of any buffer lent to it: each call and each buffer that it may write.
use Prim.Native.Nat.{ℕ}
use mathlib.Core.Path.{◌≡◌, refl}
use mathlib.Core.List.{List}
use Rattle.std.specs.Prelude.{Result, Ok, Err}
use Rattle.answer_bytes.specs.declared.answers.Unanswered.{Unanswered}
use Rattle.answer_bytes.specs.Answers.{answer_number}
use Rattle.byte_calls.specs.TestsAndWrites.{leaves}
use Rattle.weftpillar.specs.Calls.{judge_answer, judge_leaves, fresh_answer, fresh_leaves, fresh_place_answer, fresh_place_leaves, step_answer, step_leaves, steps_answer, steps_leaves_run, steps_leaves_answers, apart_answer, apart_leaves, reckon_answer, reckon_leaves, next_answer, next_leaves_place, next_leaves_step, line_answer, line_leaves}

-- an answer that is not 0 is of a call that wrote nothing
unchanged : {A : Type 0} (answer : Result A Unanswered) (written : A → List ℕ) (before : List ℕ) → (answer_number answer ≡ 0 → ⊥) → leaves answer written before ≡ before
unchanged (Ok a) written before refused = absurd (refused refl)
unchanged (Err u) written before refused = refl

pub judge_unchanged : (file verdict : List ℕ) → (judge_answer file verdict ≡ 0 → ⊥) → judge_leaves file verdict ≡ verdict
judge_unchanged file verdict refused = unchanged _ _ _ refused

pub fresh_unchanged : (run : List ℕ) → (fresh_answer run ≡ 0 → ⊥) → fresh_leaves run ≡ run
fresh_unchanged run refused = unchanged _ _ _ refused

pub fresh_place_unchanged : (place : List ℕ) → (fresh_place_answer place ≡ 0 → ⊥) → fresh_place_leaves place ≡ place
fresh_place_unchanged place refused = unchanged _ _ _ refused

pub step_unchanged : (file run : List ℕ) (letter n : ℕ) → (step_answer file run letter n ≡ 0 → ⊥) → step_leaves file run letter n ≡ run
step_unchanged file run letter n refused = unchanged _ _ _ refused

pub steps_run_unchanged : (file run steps answers : List ℕ) → (steps_answer file run steps answers ≡ 0 → ⊥) → steps_leaves_run file run steps answers ≡ run
steps_run_unchanged file run steps answers refused = unchanged _ _ _ refused

pub steps_answers_unchanged : (file run steps answers : List ℕ) → (steps_answer file run steps answers ≡ 0 → ⊥) → steps_leaves_answers file run steps answers ≡ answers
steps_answers_unchanged file run steps answers refused = unchanged _ _ _ refused

pub out_of_step_unchanged : (file run answer : List ℕ) → (apart_answer file run answer ≡ 0 → ⊥) → apart_leaves file run answer ≡ answer
out_of_step_unchanged file run answer refused = unchanged _ _ _ refused

pub reckon_unchanged : (file run : List ℕ) (i : ℕ) (ticks : List ℕ) → (reckon_answer file run i ticks ≡ 0 → ⊥) → reckon_leaves file run i ticks ≡ ticks
reckon_unchanged file run i ticks refused = unchanged _ _ _ refused

pub next_place_unchanged : (file place step : List ℕ) → (next_answer file place step ≡ 0 → ⊥) → next_leaves_place file place step ≡ place
next_place_unchanged file place step refused = unchanged _ _ _ refused

pub next_step_unchanged : (file place step : List ℕ) → (next_answer file place step ≡ 0 → ⊥) → next_leaves_step file place step ≡ step
next_step_unchanged file place step refused = unchanged _ _ _ refused

pub line_unchanged : (line step : List ℕ) → (line_answer line step ≡ 0 → ⊥) → line_leaves line step ≡ step
line_unchanged line step refused = unchanged _ _ _ refused
