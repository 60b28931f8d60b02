-- Each step that is given at a place of a shown run leaves one fewer to give.
use Prim.Native.Nat.{ℕ, suc, ◌<◌}
use mathlib.Core.Path.{◌≡◌, sym, ap, ◌∙◌}
use native.Mathlib.Omega.{arith}
use Rattle.std.specs.Prelude.{Option, None, Some, Ok, unwrap_or}
use Rattle.std.specs.Option.{option_map}
use Rattle.plan.specs.Tested.{plan_refusal}
use Rattle.plan.proofs.Sound.{passes}
use Rattle.rules.specs.declared.Rule.{Rule}
use Rattle.rules.specs.Rules.{verdict_of}
use Rattle.run.specs.declared.Step.{Step}
use Rattle.shown.specs.declared.Parts.{Parts}
use Rattle.shown.specs.Parts.{parts_for}
use Rattle.shown.specs.Shown.{fresh_place, place_of, given_with, given_by}
use Rattle.shown.specs.declared.showing.Showing.{Showing}
use Rattle.shown.proofs.Giving.{given_is}
use Rattle.shows_why.proofs.Left.{steps_left, Within, within_fresh, left_falls}

-- The plan fails a rule, the parts are that rule's, and the place is one of a run that ends.
pub record Failing (shown : Showing) : Type 0 where
  pub plain : plan_refusal shown.run.plan.plan ≡ None
  pub rule : Rule
  pub fails : (verdict_of shown.run.plan.plan).failed ≡ Some rule
  pub parts : shown.parts ≡ parts_for shown.run.plan.plan rule
  pub within : Within shown.run.plan.plan (place_of shown)

abbrev pub to_give : Showing → ℕ
to_give shown = steps_left shown.run.plan.plan (place_of shown)

-- at the beginning
pub failing_fresh : (shown : Showing) (failed : Option Rule) → (verdict_of shown.run.plan.plan).failed ≡ failed
    → Some shown.parts ≡ option_map (parts_for shown.run.plan.plan) failed → place_of shown ≡ fresh_place → Failing shown
failing_fresh shown None v e fresh = cc
failing_fresh shown (Some rule) v e fresh =
    let plain = passes shown.run.plan.plan shown.run.plan.sound in
    record {
      plain = plain;
      rule = rule;
      fails = v;
      parts = ap (λ (o : Option Parts). unwrap_or o shown.parts) e;
      within = rw fresh (within_fresh shown.run.plan.plan rule plain v);
    }

-- after a step that was given
module _ (shown next : Showing) (step : Step) (failing : Failing shown) (given : Some (given_with (step, next)) ≡ given_by shown.run.plan.plan shown.parts (place_of shown)) (plan : next.run.plan.plan ≡ shown.run.plan.plan) (parts : next.parts ≡ shown.parts) where
  falls : to_give shown ≡ suc (steps_left shown.run.plan.plan (place_of next))
  falls =
      left_falls shown.run.plan.plan (place_of shown) (given_with (step, next)) failing.within
      (given_is shown.run.plan.plan failing.rule failing.plain failing.fails (place_of shown) shown.run.in_range ∙ ap Ok (rw (← failing.parts) (sym given)))

  pub gives_less : to_give next < to_give shown
  gives_less = rw plan (omega (arith, falls))

  pub goes_on : Failing next
  goes_on = record {
    plain = rw plan failing.plain;
    rule = failing.rule;
    fails = rw plan failing.fails;
    parts = rw plan (parts ∙ failing.parts);
    within = rw plan (omega (arith, falls, failing.within));
  }
