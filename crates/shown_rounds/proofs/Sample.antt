-- Whole runs come out of the telling by rounds and moments by computing: document 01's listing, and one of each rule with
-- rounds before the pivot.
use Prim.Native.Nat.{ℕ}
use mathlib.Core.Path.{◌≡◌, refl}
use mathlib.Core.List.{List, [], ◌∷◌}
use Rattle.laws.specs.Row.{first_given}
use Rattle.laws.specs.Below.{any_below, all_below, first_from, largest_below, least_below}
use Rattle.laws.specs.Over.{over}
use Rattle.laws.specs.Ring.{distance}
use Rattle.plan.specs.declared.Plan.{Plan}
use Rattle.plan.specs.Numbers.{plan_by, slots}
use Rattle.plan.specs.Sending.{sends}
use Rattle.plan.specs.Tested.{is_active_outside, is_guard_or_tail_wrong, is_min_or_max_wrong, some_not_active, shares_slot, some_shared, plan_refusal}
use Rattle.gap.specs.Gap.{nearest, predecessor, distance_before, gap_of}
use Rattle.rules.specs.declared.Rule.{Rule}
use Rattle.rules.specs.declared.Rule.TheVariants.{One, Two, Three}
use Rattle.run.specs.declared.Step.{Step}
use Rattle.run.specs.State.{fresh_run, in_range, sends_apart, is_out_of_step}
use Rattle.run.specs.Moves.{clock_after, mode_after, slot_after}
use Rattle.run.specs.Steps.{step_refusal, step_tested, step_of}
use Rattle.run.proofs.Letters.{D, T, S}
use Rattle.shown.specs.Parts.{predecessor_at, widest_from, widest_node, parts_for}
use Rattle.shown_rounds.specs.Rounds.{in_order_from, round_before, pivot_round, rounds_before}
use Rattle.shown_rounds.specs.Moments.{at_moment, next_moment, moments, until_out}
use Rattle.shown_rounds.specs.ByRounds.{told}

-- A plan with its failed rule, the rounds before the pivot, more moments after it than its run has, and the whole run's steps.
record Told : Type 0 where
  plan : Plan
  rule : Rule
  rounds : ℕ
  moments : ℕ
  steps : List Step

told_of : Plan → Rule → (k n : ℕ) → List Step → Told
told_of P rule k n steps = record { plan = P; rule = rule; rounds = k; moments = n; steps = steps }

sample : List Told
sample =
    told_of (plan_by 3 3 3 5 1 2 1 1 (slots (0 ∷ 1 ∷ 2 ∷ []))) One 0 5
    (D 1 ∷ T 2 ∷ T 0 ∷ S 0 ∷ T 1 ∷ D 1 ∷ T 1 ∷ T 0 ∷ T 2 ∷ D 1 ∷ T 1 ∷ T 0 ∷ T 2 ∷ D 1 ∷ T 1 ∷ T 0 ∷ T 2 ∷ D 1 ∷ T 1 ∷ S 1 ∷ [])
    ∷ told_of (plan_by 3 5 4 5 1 2 2 2 (slots (0 ∷ 1 ∷ 3 ∷ []))) One 5 10
    (D 2 ∷ T 1 ∷ T 2 ∷ T 0 ∷ S 0 ∷ D 2 ∷ T 0 ∷ T 1 ∷ T 2 ∷ D 2 ∷ T 0 ∷ T 1 ∷ T 2 ∷ D 2 ∷ T 0 ∷ T 1 ∷ T 2 ∷ D 2 ∷ T 0 ∷ T 1 ∷ T 2 ∷ D 2 ∷ T 0 ∷ T 1 ∷ S 1 ∷ T 2 ∷ D 2 ∷ T 2 ∷ T 0 ∷ T 1 ∷ D 2 ∷ T 2 ∷ T 0 ∷ T 1 ∷ D 2 ∷ T 2 ∷ T 0 ∷ T 1 ∷ D 2 ∷ T 2 ∷ T 0 ∷ T 1 ∷ D 2 ∷ T 2 ∷ T 0 ∷ T 1 ∷ D 2 ∷ T 2 ∷ T 0 ∷ T 1 ∷ D 2 ∷ T 2 ∷ T 0 ∷ T 1 ∷ D 2 ∷ T 2 ∷ T 0 ∷ T 1 ∷ D 2 ∷ T 2 ∷ S 2 ∷ [])
    ∷ told_of (plan_by 3 3 3 7 3 2 3 4 (slots (2 ∷ 1 ∷ 0 ∷ []))) Two 2 16
    (D 3 ∷ T 0 ∷ T 1 ∷ T 2 ∷ D 3 ∷ T 0 ∷ T 1 ∷ T 2 ∷ D 3 ∷ T 1 ∷ T 2 ∷ S 2 ∷ T 0 ∷ D 3 ∷ T 0 ∷ D 1 ∷ T 1 ∷ T 2 ∷ D 2 ∷ T 0 ∷ D 2 ∷ T 1 ∷ T 2 ∷ D 1 ∷ T 0 ∷ D 3 ∷ T 0 ∷ T 1 ∷ T 2 ∷ D 3 ∷ T 0 ∷ D 1 ∷ T 1 ∷ T 2 ∷ D 2 ∷ T 0 ∷ D 2 ∷ T 1 ∷ T 2 ∷ D 1 ∷ T 0 ∷ D 3 ∷ T 0 ∷ T 1 ∷ T 2 ∷ D 3 ∷ T 0 ∷ D 1 ∷ T 1 ∷ S 1 ∷ T 2 ∷ D 2 ∷ T 0 ∷ [])
    ∷ told_of (plan_by 3 3 3 5 2 1 11 13 (slots (1 ∷ 2 ∷ 0 ∷ []))) Three 1 4
    (D 11 ∷ T 0 ∷ T 1 ∷ T 2 ∷ D 11 ∷ T 1 ∷ T 2 ∷ S 2 ∷ T 0 ∷ D 11 ∷ T 0 ∷ D 2 ∷ T 1 ∷ T 2 ∷ D 9 ∷ T 0 ∷ [])
    ∷ []

Right : List Told → Type 0
Right [] = Unit {0}
Right (w ∷ more) = (until_out w.plan fresh_run (told w.plan (parts_for w.plan w.rule) w.rounds w.moments) ≡ w.steps) × Right more

sample_right : Right sample
unfolding told_of sample Right first_given any_below all_below first_from largest_below least_below over distance sends is_active_outside is_guard_or_tail_wrong is_min_or_max_wrong some_not_active shares_slot some_shared plan_refusal nearest predecessor distance_before gap_of fresh_run in_range sends_apart is_out_of_step clock_after mode_after slot_after step_refusal step_tested step_of predecessor_at widest_from widest_node parts_for in_order_from round_before pivot_round rounds_before at_moment next_moment moments until_out
sample_right = (refl, (refl, (refl, (refl, tt))))
