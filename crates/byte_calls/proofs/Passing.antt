-- Answers by the refusal that is given: a run in range, a step, and what they leave.
use Prim.Native.Nat.{ℕ}
use mathlib.Core.Path.{◌≡◌, refl, sym, ap, ◌∙◌}
use mathlib.Core.Bool.{Bool, true, false, cond}
use mathlib.Core.List.{List}
use Rattle.std.specs.Prelude.{Option, None, Some, Result, Ok, Err, IfOk}
use Rattle.std.specs.Result.{result_err, result_unwrap_or}
use Rattle.std.proofs.lemmas.Option.{none-some}
use Rattle.laws.specs.Row.{unless}
use Rattle.plan.specs.declared.Plan.{Plan}
use Rattle.plan.specs.declared.refusal.Refusal.{Refusal}
use Rattle.plan.specs.declared.refusal.Refusal.TheVariants.{RunOutside}
use Rattle.plan.specs.Refusals.{number_of, refused_number}
use Rattle.run.specs.declared.Run.{Run}
use Rattle.run.specs.declared.Step.{Step}
use Rattle.run.specs.declared.tested.TestedRun.{TestedRun}
use Rattle.run.specs.State.{range_refusal}
use Rattle.run.specs.Moves.{moved}
use Rattle.run.specs.Steps.{step_refusal, step_tested}
use Rattle.byte_calls.specs.Many.{and_then, step_spelt, asked_of}
use Rattle.byte_calls.specs.TestsAndWrites.{run_for, run_wrong, run_spelt, run_inside}

module _ {A R : Type 0} where
  -- the refusal of an answer is the one that is given; with none the answer is there
  unless_err : (x : Option R) (a : A) → result_err (unless x (Ok a)) ≡ x
  unless_err None a = refl
  unless_err (Some r) a = refl

  unless_ok : (x : Option R) (a : A) → None ≡ x → Ok a ≡ unless x (Ok a)
  unless_ok None a e = refl
  unless_ok (Some r) a e = absurd (none-some r e)

-- the run in bytes: 10 where they spell none, else its ranges decide
module _ (P : Plan) (bytes : List ℕ) where
  pub unspelt_outside : (r : Refusal) → Err r ≡ run_spelt P bytes → Some r ≡ result_err (run_inside P bytes)
  unfolding run_inside
  unspelt_outside r e = rw (← e)

  pub spelt_decides : (r : Run) (x : Option Refusal) → Ok r ≡ run_spelt P bytes → x ≡ range_refusal P r → x ≡ result_err (run_inside P bytes)
  unfolding run_inside
  spelt_decides r x e q = q ∙ sym (rw (← e) (unless_err (range_refusal P r) r))

  pub spelt_inside : (r : Run) (x : Result TestedRun Refusal) → Ok r ≡ run_spelt P bytes → result_err x ≡ range_refusal P r → IfOk x (λ tested. (tested.plan.plan ≡ P) × (tested.run ≡ r)) → IfOk x (λ tested. (tested.plan.plan ≡ P) × (Ok tested.run ≡ run_inside P bytes))
  unfolding run_inside
  spelt_inside r (Ok tested) e q h = (h.0, rw (← e, h.1) (unless_ok (range_refusal P r) r q))
  spelt_inside r (Err x) e q h = tt

  pub inside_run : (r : Run) → Ok r ≡ run_inside P bytes → r ≡ run_for P bytes
  unfolding run_inside run_spelt
  inside_run r e = go (run_wrong P bytes) e
    where
      kept : (x : Option Refusal) → Ok r ≡ unless x (Ok (run_for P bytes)) → r ≡ run_for P bytes
      kept (Some y) h = cc
      kept None h = cc

      go : (b : Bool) → Ok r ≡ and_then (cond b (Err RunOutside) (Ok (run_for P bytes))) (λ q. unless (range_refusal P q) (Ok q)) → r ≡ run_for P bytes
      go true h = cc
      go false h = kept (range_refusal P (run_for P bytes)) h

-- a step by its letter and number, once the step is known
module _ (P : Plan) (r : Run) (letter n : ℕ) (s : Step) (spelt : Ok s ≡ step_spelt letter n) where
  pub asked_decides : (x : Option Refusal) → x ≡ step_refusal P r s → x ≡ result_err (asked_of P r letter n)
  unfolding asked_of step_tested
  asked_decides x q = q ∙ sym (rw (← spelt) (unless_err (step_refusal P r s) (moved P r s)))

  pub asked_moved : (x : Result TestedRun Refusal) → result_err x ≡ step_refusal P r s → IfOk x (λ next. (next.plan.plan ≡ P) × (next.run ≡ moved P r s)) → IfOk x (λ next. (next.plan.plan ≡ P) × (Ok next.run ≡ asked_of P r letter n))
  unfolding asked_of step_tested
  asked_moved (Ok next) q h = (h.0, rw (← spelt, h.1) (unless_ok (step_refusal P r s) (moved P r s) q))
  asked_moved (Err x) q h = tt

-- what an answered step and a refused one leave, and their numbers
pub step_left : (x : Result Run Refusal) (before next : Run) → Ok next ≡ x → (next ≡ result_unwrap_or x before) × (0 ≡ refused_number x)
step_left x before next e = rw (← e) (refl, refl)

pub refused_left : (x : Result Run Refusal) (before : Run) (r : Refusal) → Some r ≡ result_err x → (before ≡ result_unwrap_or x before) × (number_of r ≡ refused_number x)
refused_left (Ok next) before r e = absurd (none-some r (sym e))
refused_left (Err q) before r e = (refl, (let same : r ≡ q = cc in ap number_of same))
