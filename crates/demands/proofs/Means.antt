-- Demand 3, from its two halves.
use mathlib.Core.Path.{◌≡◌, refl, ap}
use Rattle.std.specs.Prelude.{Option, None, Some, Ok}
use Rattle.laws.specs.Row.{unless}
use Rattle.plan.specs.declared.Plan.{Plan}
use Rattle.plan.specs.declared.refusal.Refusal.{Refusal}
use Rattle.plan.specs.Tested.{plan_refusal}
use Rattle.rules.specs.declared.Rule.{Rule}
use Rattle.rules.specs.declared.Verdict.{Verdict}
use Rattle.rules.specs.Rules.{verdict_of, judged_of}
use Rattle.in_step.proofs.Stays.{stays_in_step}
use Rattle.shows_why.proofs.Why.{shows_why}
use Rattle.demands.specs.Demand3.{Means, Demand3}

-- a verdict is given only where 1 to 9 let the plan through, and it is the plan's
record Given (P : Plan) (v : Verdict) : Type 0 where
  pub passed : plan_refusal P ≡ None
  pub own : verdict_of P ≡ v

given : (P : Plan) (v : Verdict) → judged_of P ≡ Ok v → Given P v
unfolding judged_of
given P v h = go (plan_refusal P) refl h
  where
    go : (x : Option Refusal) → plan_refusal P ≡ x → unless x (Ok (verdict_of P)) ≡ Ok v → Given P v
    go None e q = record { passed = e; own = cc }
    go (Some r) e q = absurd (cc)

means : (P : Plan) (failed : Option Rule) → plan_refusal P ≡ None → (verdict_of P).failed ≡ failed → Means P failed
means P None e q = stays_in_step P e q
means P (Some rule) e q = shows_why P e rule q

pub demand_3 : (P : Plan) → Demand3 P
demand_3 P v h = let g = given P v h in means P v.failed g.passed (ap (λ (w : Verdict). w.failed) g.own)
