-- A step on a run: refused by the first row that holds, or done. Runs of several steps.
use Rattle.std.specs.Prelude.{ℕ, ◌+◌, ◌≡◌, Bool, true, false, not, ◌||◌, List, [], ◌∷◌, Option, Result, Ok, eqb, leb, ltb}
use Rattle.std.specs.Result.{result_unwrap_or}
use Rattle.laws.specs.Row.{Row, given, first_given, unless}
use Rattle.laws.specs.Below.{any_below}
use Rattle.plan.specs.declared.Plan.{Plan}
use Rattle.plan.specs.declared.refusal.Refusal.{Refusal}
use Rattle.plan.specs.declared.refusal.Refusal.TheVariants.{RunOutside, OutOfStep, NodeUnknown, TickTooEarly, DelayBeforeSend, DelayWrong, NotAboutToSend}
use Rattle.plan.specs.Tested.{plan_refusal}
use Rattle.run.specs.declared.Run.{Run}
use Rattle.run.specs.declared.Step.{Step}
use Rattle.run.specs.declared.Step.TheVariants.{Delay, TickOf, SendOf}
use Rattle.run.specs.declared.Apart.{Apart}
use Rattle.run.specs.State.{node, is_about, in_range, range_refusal, is_out_of_step, apart_tested}
use Rattle.run.specs.Moves.{moved}

-- The step is a delay.
abbrev pub is_delay : Step → Bool
is_delay (Delay d) = true
is_delay (TickOf i) = false
is_delay (SendOf i) = false

-- The step is a tick of node i.
abbrev pub is_tick_of : (i : ℕ) → Step → Bool
is_tick_of i (Delay d) = false
is_tick_of i (TickOf k) = eqb k.0 i
is_tick_of i (SendOf k) = false

-- The rows that speak of the step itself.
abbrev pub step_rows : Plan → Run → Step → List (Row Refusal)
step_rows P r (Delay d) =
    given DelayBeforeSend (any_below P.nodes.0 (λ i. is_about (node r i).mode))
    ∷ given DelayWrong (eqb d.0 0 || any_below P.nodes.0 (λ i. ltb P.max.0 ((node r i).time.0 + d.0)))
    ∷ []
step_rows P r (TickOf i) =
    given NodeUnknown (leb P.nodes.0 i.0) ∷ given TickTooEarly (ltb (node r i.0).time.0 P.min.0) ∷ []
step_rows P r (SendOf i) =
    given NodeUnknown (leb P.nodes.0 i.0) ∷ given NotAboutToSend (not (is_about (node r i.0).mode)) ∷ []

-- The first refusal that speaks against a step, where the plan passed 1 to 9; none where the step is legal.
unfoldable pub step_refusal : Plan → Run → Step → Option Refusal
step_refusal P r s =
    first_given (given RunOutside (not (in_range P r)) ∷ given OutOfStep (is_out_of_step P r) ∷ step_rows P r s)

-- A step where the plan passed 1 to 9: refused, or the run after it.
unfoldable pub step_tested : Plan → Run → Step → Result Run Refusal
step_tested P r s = unless (step_refusal P r s) (Ok (moved P r s))

-- A step of any plan on any run.
unfoldable pub step_of : Plan → Run → Step → Result Run Refusal
step_of P r s = unless (plan_refusal P) (step_tested P r s)

-- The out-of-step test of any plan on any run.
unfoldable pub apart_of : Plan → Run → Result (Option Apart) Refusal
apart_of P r = unless (plan_refusal P) (unless (range_refusal P r) (Ok (apart_tested P r)))

-- The run after a step, whatever is answered: the run as it was, where the step is refused.
abbrev pub run_left : Plan → Run → Step → Run
run_left P r s = result_unwrap_or (step_of P r s) r

-- The run after steps in a row, whatever is answered.
abbrev pub run_after : Plan → Run → List Step → Run
run_after P r [] = r
run_after P r (s ∷ steps) = run_after P (run_left P r s) steps

-- Every step in a row is done, none refused.
abbrev pub Legal : Plan → Run → List Step → Type 0
Legal P r [] = Unit {0}
Legal P r (s ∷ steps) = (step_of P r s ≡ Ok (moved P r s)) × Legal P (moved P r s) steps
