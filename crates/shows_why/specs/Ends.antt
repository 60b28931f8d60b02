-- Demand 3, second half: where the verdict names a failed rule, the shown run is legal, ends, and ends out of step.
use Rattle.std.specs.Prelude.{ℕ, suc, ◌+◌, ◌*◌, ◌≤◌, ◌≡◌, true, List, [], ◌∷◌, None, Some, Ok, length}
use Rattle.plan.specs.declared.Plan.{Plan}
use Rattle.plan.specs.Tested.{plan_refusal}
use Rattle.rules.specs.declared.Rule.{Rule}
use Rattle.rules.specs.Rules.{verdict_of}
use Rattle.run.specs.declared.Step.{Step}
use Rattle.run.specs.declared.Step.TheVariants.{Delay, TickOf, SendOf}
use Rattle.run.specs.State.{fresh_run, is_out_of_step}
use Rattle.run.specs.Steps.{Legal, run_after}
use Rattle.shown.specs.Shown.{fresh_place, given_of, place_at, shown_steps}

-- How many of the steps are ticks.
abbrev pub ticks_in : List Step → ℕ
ticks_in [] = 0
ticks_in (Delay d ∷ steps) = ticks_in steps
ticks_in (TickOf i ∷ steps) = suc (ticks_in steps)
ticks_in (SendOf i ∷ steps) = ticks_in steps

-- The shown run has `count` steps, no fewer. Each is legal; they lead to where the run is out of step; there it is finished,
-- and asked for more it gives no more. At most 2·N·C·k0 of the steps are ticks.
pub record Ends (P : Plan) : Type 0 where
  pub count : ℕ
  pub exact : length (shown_steps P count fresh_place) ≡ count
  pub legal : Legal P fresh_run (shown_steps P count fresh_place)
  pub reached : run_after P fresh_run (shown_steps P count fresh_place) ≡ (place_at P count fresh_place).run
  pub out : is_out_of_step P (place_at P count fresh_place).run ≡ true
  pub finished : given_of P (place_at P count fresh_place) ≡ Ok None
  pub no_more : (more : ℕ) → shown_steps P (count + more) fresh_place ≡ shown_steps P count fresh_place
  pub few : ticks_in (shown_steps P count fresh_place) ≤ 2 * P.nodes.0 * P.frame.0 * P.ticks.0

-- The claim: a plan that 1 to 9 let through and whose verdict names a failed rule has a shown run that ends so.
abbrev pub ShowsWhy : Plan → Type 0
ShowsWhy P = plan_refusal P ≡ None → (rule : Rule) → (verdict_of P).failed ≡ Some rule → Ends P
