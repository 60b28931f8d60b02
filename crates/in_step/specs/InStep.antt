-- Demand 3, first half: what holds after any legal steps of an accepted plan.
use Rattle.std.specs.Prelude.{ℕ, ◌+◌, ◌*◌, ◌-◌, ◌≤◌, ◌<◌, ◌≡◌, ◌≢◌, true, false, List, None, Ok}
use Rattle.plan.specs.declared.Plan.{Plan}
use Rattle.plan.specs.Tested.{plan_refusal}
use Rattle.rules.specs.Rules.{verdict_of}
use Rattle.run.specs.declared.Run.{Run}
use Rattle.run.specs.declared.Step.{Step}
use Rattle.run.specs.State.{fresh_run, node, is_sending, is_out_of_step}
use Rattle.run.specs.Steps.{Legal, run_after}
use Rattle.run.specs.Reckoning.{reckoned_of, time_since}

-- Node i's reckoning is answered, by c, and bounds the real time y since the last message (or start) from both sides.
pub record Reckons (P : Plan) (r : Run) (y i : ℕ) : Type 0 where
  pub c : ℕ
  pub answered : reckoned_of P r i ≡ Ok (record { 0 = c })
  pub most : y ≤ c * P.max.0 + (node r i).time.0
  pub least : c ≢ 0 → (c - 1) * P.min.0 + (node r i).time.0 ≤ y

-- While a node sends every node is in its slot, so that a step is never refused by 11; and every node's reckoning is right.
pub record InStep (P : Plan) (r : Run) (y : ℕ) : Type 0 where
  pub together : (i j : ℕ) → i < P.nodes.0 → j < P.nodes.0 → is_sending (node r i).mode ≡ true → (node r j).slot.0 ≡ (node r i).slot.0
  pub never_11 : is_out_of_step P r ≡ false
  pub reckons : (i : ℕ) → i < P.nodes.0 → Reckons P r y i

-- The claim: a plan that 1 to 9 let through and the verdict accepts is in step after any legal steps from a fresh run.
abbrev pub StaysInStep : Plan → Type 0
StaysInStep P =
    plan_refusal P ≡ None
    → (verdict_of P).failed ≡ None
    → (steps : List Step)
    → Legal P fresh_run steps
    → InStep P (run_after P fresh_run steps) (time_since 0 steps)
