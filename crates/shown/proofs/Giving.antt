-- What is given out at a place: nothing out of step or past due; else the next step, where it is legal.
use mathlib.Core.Path.{◌≡◌}
use mathlib.Core.Bool.{true, false}
use Rattle.std.specs.Prelude.{None, Some, Ok}
use Rattle.laws.proofs.Bools.{or_true_left, or_true_right, or_neither}
use Rattle.plan.specs.declared.Plan.{Plan}
use Rattle.plan.specs.Tested.{plan_refusal}
use Rattle.rules.specs.declared.Rule.{Rule}
use Rattle.rules.specs.Rules.{verdict_of}
use Rattle.run.specs.declared.Step.{Step}
use Rattle.run.specs.State.{in_range, is_out_of_step}
use Rattle.run.specs.Steps.{step_refusal}
use Rattle.shown.specs.declared.Place.{Place}
use Rattle.shown.specs.declared.Parts.{Parts}
use Rattle.shown.specs.Parts.{parts_for}
use Rattle.shown.specs.Shown.{past_due, next_step, place_after, given_by, given_for, given_of}

module _ (P : Plan) (parts : Parts) (q : Place) where
  pub given_stops : is_out_of_step P q.run ≡ true → given_by P parts q ≡ None
  unfolding given_by
  given_stops e = rw (or_true_left (is_out_of_step P q.run) (past_due P parts q) e)

  pub given_late : past_due P parts q ≡ true → given_by P parts q ≡ None
  unfolding given_by
  given_late e = rw (or_true_right (is_out_of_step P q.run) (past_due P parts q) e)

  pub given_takes : (s : Step) → next_step P parts q ≡ s → is_out_of_step P q.run ≡ false → past_due P parts q ≡ false → step_refusal P q.run s ≡ None → given_by P parts q ≡ Some (record { step = s; place = place_after P parts q s })
  unfolding given_by
  given_takes s e t d l = rw (or_neither (is_out_of_step P q.run) (past_due P parts q) t d, e, l)

-- what is given out goes by the parts of the failed rule
pub given_is : (P : Plan) (rule : Rule) → plan_refusal P ≡ None → (verdict_of P).failed ≡ Some rule → (q : Place) → in_range P q.run ≡ true
    → given_of P q ≡ Ok (given_by P (parts_for P rule) q)
unfolding given_of given_for
given_is P rule e v q r = rw (e, r, v)
