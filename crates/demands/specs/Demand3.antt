-- Demand 3, both halves over one verdict: what the first rule that fails, or none, means.
use Rattle.std.specs.Prelude.{◌≡◌, List, Option, None, Some, Ok}
use Rattle.plan.specs.declared.Plan.{Plan}
use Rattle.rules.specs.declared.Rule.{Rule}
use Rattle.rules.specs.declared.Verdict.{Verdict}
use Rattle.rules.specs.Rules.{judged_of}
use Rattle.run.specs.declared.Step.{Step}
use Rattle.run.specs.State.{fresh_run}
use Rattle.run.specs.Steps.{Legal, run_after}
use Rattle.run.specs.Reckoning.{time_since}
use Rattle.in_step.specs.InStep.{InStep}
use Rattle.shows_why.specs.Ends.{Ends}

-- None fails: after any legal steps from a fresh start, while a node sends every node is in its slot, and every node's
-- reckoning bounds the real time since the last message (or start). A failed rule: the shown run is legal at every step,
-- ends, and ends with a node sending while another is elsewhere.
abbrev pub Means : Plan → Option Rule → Type 0
Means P None = (steps : List Step) → Legal P fresh_run steps → InStep P (run_after P fresh_run steps) (time_since 0 steps)
Means P (Some rule) = Ends P

-- Demand 3: where the judge gives a verdict, it means this.
abbrev pub Demand3 : Plan → Type 0
Demand3 P = (v : Verdict) → judged_of P ≡ Ok v → Means P v.failed
