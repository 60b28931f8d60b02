-- A tested plan, a tested run, what is prepared of a plan and a shown place are told apart by their data alone: a fact beside the data has one proof.
use mathlib.Core.Path.{◌≡◌, sym, ap, ◌∙◌}
use mathlib.Core.HLevel.{is_prop→PathP}
use Rattle.std.specs.Prelude.{true, ◌<◌}
use Rattle.std.proofs.Props.{props}
use Rattle.plan.specs.declared.Plan.{Plan}
use Rattle.plan.specs.declared.tested.TestedPlan.{TestedPlan}
use Rattle.plan.specs.Tested.{Sound}
use Rattle.gap.specs.declared.Distances.{Distances}
use Rattle.gap.specs.Distances.{distances_of}
use Rattle.rules.specs.declared.Verdict.{Verdict}
use Rattle.rules.specs.declared.prepared.Prepared.{Prepared}
use Rattle.rules.specs.Rules.{verdict_of}
use Rattle.run.specs.declared.Run.{Run}
use Rattle.run.specs.declared.tested.TestedRun.{TestedRun}
use Rattle.run.specs.State.{in_range}
use Rattle.shown.specs.declared.Parts.{Parts}
use Rattle.shown.specs.declared.Place.{Place}
use Rattle.shown.specs.declared.showing.Showing.{Showing}
use Rattle.shown.specs.Shown.{place_of}

sound_prop : (P : Plan) → IsProp (Sound P)
sound_prop P = hlevel props

pub same_plan : (x y : TestedPlan) → x.plan ≡ y.plan → x ≡ y
same_plan x y p = λ j. record { plan = p j; sound = is_prop→PathP (λ i. Sound (p i)) (λ i. sound_prop (p i)) x.sound y.sound j }

range_prop : (P : Plan) (r : Run) → IsProp (in_range P r ≡ true)
range_prop P r = hlevel props

pub same_run : (x y : TestedRun) → x.plan.plan ≡ y.plan.plan → x.run ≡ y.run → x ≡ y
same_run x y p q = let w = same_plan x.plan y.plan p in λ j. record {
  plan = w j;
  run = q j;
  in_range = is_prop→PathP (λ i. in_range (w i).plan (q i) ≡ true) (λ i. range_prop (w i).plan (q i)) x.in_range y.in_range j;
}

distances_prop : (P : Plan) (d : Distances) → IsProp (d ≡ distances_of P)
distances_prop P d = hlevel props

verdict_prop : (P : Plan) (v : Verdict) → IsProp (v ≡ verdict_of P)
verdict_prop P v = hlevel props

pub same_prepared : (x y : Prepared) → x.plan.plan ≡ y.plan.plan → x ≡ y
same_prepared x y p =
    let w = same_plan x.plan y.plan p in
    let d : x.distances ≡ y.distances = x.distances_right ∙ ap distances_of p ∙ sym y.distances_right in
    let v : x.verdict ≡ y.verdict = x.verdict_right ∙ ap verdict_of p ∙ sym y.verdict_right in
    λ j. record {
      plan = w j;
      distances = d j;
      verdict = v j;
      distances_right = is_prop→PathP (λ i. d i ≡ distances_of (w i).plan) (λ i. distances_prop (w i).plan (d i)) x.distances_right y.distances_right j;
      verdict_right = is_prop→PathP (λ i. v i ≡ verdict_of (w i).plan) (λ i. verdict_prop (w i).plan (v i)) x.verdict_right y.verdict_right j;
    }

sender_prop : (P : Plan) (parts : Parts) → IsProp (parts.sender.0 < P.nodes.0)
sender_prop P parts = hlevel props

pub same_showing : (x y : Showing) → x.run.plan.plan ≡ y.run.plan.plan → x.parts ≡ y.parts → place_of x ≡ place_of y → x ≡ y
same_showing x y p q s =
    let w = same_run x.run y.run p (ap (λ (z : Place). z.run) s) in
    λ j. record {
      run = w j;
      parts = q j;
      mark = (s j).mark;
      sender_is_a_node = is_prop→PathP (λ i. (q i).sender.0 < (w i).plan.plan.nodes.0) (λ i. sender_prop (w i).plan.plan (q i)) x.sender_is_a_node y.sender_is_a_node j;
    }
