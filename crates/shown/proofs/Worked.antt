-- Document 01's listing, and worked runs for each rule, come out of the definitions by computing. The steps were worked out
-- apart from the definitions, by a reading of document 01 that goes by rounds and moments and not by places.
use Prim.Native.Nat.{◌+◌}
use mathlib.Core.Path.{◌≡◌, refl}
use mathlib.Core.List.{List, [], ◌∷◌}
use lib.ListN.{length}
use Rattle.laws.specs.Row.{first_given}
use Rattle.laws.specs.Below.{any_below, all_below, first_from, largest_below, least_below}
use Rattle.laws.specs.Over.{over}
use Rattle.laws.specs.Ring.{distance}
use Rattle.plan.specs.declared.Plan.{Plan}
use Rattle.plan.specs.Numbers.{plan_by, slots}
use Rattle.plan.specs.Sending.{sends}
use Rattle.plan.specs.Tested.{is_active_outside, is_guard_or_tail_wrong, is_min_or_max_wrong, some_not_active, shares_slot, some_shared, plan_refusal}
use Rattle.gap.specs.Gap.{nearest, predecessor, distance_before, gap_of}
use Rattle.rules.specs.Rules.{sides_at, failed_by, verdict_at, verdict_of}
use Rattle.run.specs.declared.Step.{Step}
use Rattle.run.specs.State.{fresh_run, in_range, sends_apart, is_out_of_step}
use Rattle.run.specs.Moves.{clock_after, mode_after, slot_after}
use Rattle.run.specs.Steps.{step_refusal}
use Rattle.run.proofs.Letters.{D, T, S}
use Rattle.shown.specs.Parts.{predecessor_at, widest_from, widest_node, parts_for}
use Rattle.shown.specs.Shown.{fresh_place, due_time, past_due, goes_first, goes_second, next_step, mark_after, given_by, given_for, given_of, shown_steps}

-- A plan, and the steps of its whole shown run.
record Shown : Type 0 where
  plan : Plan
  steps : List Step

shown : Plan → List Step → Shown
shown P steps = record { plan = P; steps = steps }

worked : List Shown
worked =
    -- document 01's listing: rule 1 with p = 0
    shown (plan_by 3 3 3 5 1 2 1 1 (slots (0 ∷ 1 ∷ 2 ∷ [])))
    (D 1 ∷ T 2 ∷ T 0 ∷ S 0 ∷ T 1 ∷ D 1 ∷ T 1 ∷ T 0 ∷ T 2 ∷ D 1 ∷ T 1 ∷ T 0 ∷ T 2 ∷ D 1 ∷ T 1 ∷ T 0 ∷ T 2 ∷ D 1 ∷ T 1 ∷ S 1 ∷ [])
    -- rule 1: the fast node leaves slot 0 while the sender of p still sends
    ∷ shown (plan_by 3 3 3 4 1 1 2 5 (slots (1 ∷ 0 ∷ 2 ∷ [])))
    (D 2 ∷ T 2 ∷ T 1 ∷ S 1 ∷ T 0 ∷ D 2 ∷ T 0 ∷ D 2 ∷ T 0 ∷ [])
    -- rule 1 with p = 1 and equal sides: with the slow node first it would miss
    ∷ shown (plan_by 3 5 4 5 1 2 2 2 (slots (0 ∷ 1 ∷ 3 ∷ [])))
    (D 2 ∷ T 1 ∷ T 2 ∷ T 0 ∷ S 0 ∷ D 2 ∷ T 0 ∷ T 1 ∷ T 2 ∷ D 2 ∷ T 0 ∷ T 1 ∷ T 2 ∷ D 2 ∷ T 0 ∷ T 1 ∷ T 2 ∷ D 2 ∷ T 0 ∷ T 1 ∷ T 2 ∷ D 2 ∷ T 0 ∷
    T 1 ∷ S 1 ∷ T 2 ∷ D 2 ∷ T 2 ∷ T 0 ∷ T 1 ∷ D 2 ∷ T 2 ∷ T 0 ∷ T 1 ∷ D 2 ∷ T 2 ∷ T 0 ∷ T 1 ∷ D 2 ∷ T 2 ∷ T 0 ∷ T 1 ∷ D 2 ∷ T 2 ∷ T 0 ∷ T 1 ∷
    D 2 ∷ T 2 ∷ T 0 ∷ T 1 ∷ D 2 ∷ T 2 ∷ T 0 ∷ T 1 ∷ D 2 ∷ T 2 ∷ T 0 ∷ T 1 ∷ D 2 ∷ T 2 ∷ S 2 ∷ [])
    -- rule 2 with its tail: the fast node is pending at its last tick in s
    ∷ shown (plan_by 3 3 3 7 3 2 3 4 (slots (2 ∷ 1 ∷ 0 ∷ [])))
    (D 3 ∷ T 0 ∷ T 1 ∷ T 2 ∷ D 3 ∷ T 0 ∷ T 1 ∷ T 2 ∷ D 3 ∷ T 1 ∷ T 2 ∷ S 2 ∷ T 0 ∷ D 3 ∷ T 0 ∷ D 1 ∷ T 1 ∷ T 2 ∷ D 2 ∷ T 0 ∷ D 2 ∷ T 1 ∷ T 2 ∷ D 1 ∷ T 0 ∷ D 3 ∷ T 0 ∷ T 1 ∷ T 2 ∷ D 3 ∷ T 0 ∷ D 1 ∷ T 1 ∷ T 2 ∷ D 2 ∷ T 0 ∷ D 2 ∷ T 1 ∷ T 2 ∷ D 1 ∷ T 0 ∷ D 3 ∷ T 0 ∷ T 1 ∷ T 2 ∷ D 3 ∷ T 0 ∷ D 1 ∷ T 1 ∷ S 1 ∷ T 2 ∷ D 2 ∷ T 0 ∷ [])
    -- rule 2 without its tail: the fast node has left s when the sender of s sends
    ∷ shown (plan_by 3 3 3 7 3 2 7 10 (slots (1 ∷ 0 ∷ 2 ∷ [])))
    (D 7 ∷ T 0 ∷ T 1 ∷ T 2 ∷ D 7 ∷ T 0 ∷ T 1 ∷ T 2 ∷ D 7 ∷ T 0 ∷ T 1 ∷ S 1 ∷ T 2 ∷ D 7 ∷ T 2 ∷ D 3 ∷ T 0 ∷ T 1 ∷ D 4 ∷ T 2 ∷ D 6 ∷ T 0 ∷ T 1 ∷
    D 1 ∷ T 2 ∷ D 7 ∷ T 2 ∷ D 2 ∷ T 0 ∷ T 1 ∷ D 5 ∷ T 2 ∷ D 5 ∷ T 0 ∷ T 1 ∷ D 2 ∷ T 2 ∷ D 7 ∷ T 2 ∷ D 1 ∷ T 0 ∷ T 1 ∷ D 6 ∷ T 2 ∷ D 4 ∷ T 0 ∷
    T 1 ∷ D 3 ∷ T 2 ∷ D 7 ∷ T 2 ∷ T 0 ∷ S 0 ∷ [])
    -- rule 2 with p = 1, equal sides and its tail
    ∷ shown (plan_by 3 5 5 7 3 2 7 8 (slots (3 ∷ 1 ∷ 0 ∷ [])))
    (D 7 ∷ T 0 ∷ T 1 ∷ T 2 ∷ D 7 ∷ T 0 ∷ T 1 ∷ T 2 ∷ D 7 ∷ T 0 ∷ T 1 ∷ T 2 ∷ S 2 ∷ D 7 ∷ T 0 ∷ T 1 ∷ T 2 ∷ D 7 ∷ T 0 ∷ T 1 ∷ T 2 ∷ D 7 ∷ T 0 ∷ T 1 ∷ T 2 ∷ D 7 ∷ T 0 ∷ T 1 ∷ T 2 ∷ D 7 ∷ T 0 ∷ T 1 ∷ T 2 ∷ D 7 ∷ T 0 ∷ T 1 ∷ T 2 ∷ D 7 ∷ T 0 ∷ T 1 ∷ S 1 ∷ T 2 ∷ D 7 ∷ T 2 ∷ D 1 ∷ T 0 ∷ T 1 ∷ D 6 ∷ T 2 ∷ D 2 ∷ T 0 ∷ T 1 ∷ D 5 ∷ T 2 ∷ D 3 ∷ T 0 ∷ T 1 ∷ D 4 ∷ T 2 ∷ D 4 ∷ T 0 ∷ T 1 ∷ D 3 ∷ T 2 ∷ D 5 ∷ T 0 ∷ T 1 ∷ D 2 ∷ T 2 ∷ D 6 ∷ T 0 ∷ T 1 ∷ D 1 ∷ T 2 ∷ D 7 ∷ T 2 ∷ T 0 ∷ T 1 ∷ D 7 ∷ T 2 ∷ D 1 ∷ T 0 ∷ T 1 ∷ D 6 ∷ T 2 ∷ D 2 ∷ T 0 ∷ T 1 ∷ D 5 ∷ T 2 ∷ D 3 ∷ T 0 ∷ T 1 ∷ D 4 ∷ T 2 ∷ D 4 ∷ T 0 ∷ T 1 ∷ D 3 ∷ T 2 ∷ D 5 ∷ T 0 ∷ T 1 ∷ D 2 ∷ T 2 ∷ D 6 ∷ T 0 ∷ T 1 ∷ D 1 ∷ T 2 ∷ D 7 ∷ T 2 ∷ T 0 ∷ S 0 ∷ T 1 ∷ D 7 ∷ T 2 ∷ [])
    -- rule 3, with the sender of slot 0 last in number order
    ∷ shown (plan_by 3 3 3 5 2 1 11 13 (slots (1 ∷ 2 ∷ 0 ∷ [])))
    (D 11 ∷ T 0 ∷ T 1 ∷ T 2 ∷ D 11 ∷ T 1 ∷ T 2 ∷ S 2 ∷ T 0 ∷ D 11 ∷ T 0 ∷ D 2 ∷ T 1 ∷ T 2 ∷ D 9 ∷ T 0 ∷ [])
    ∷ []

-- Asked for more steps than it has, the shown run gives just these.
Right : List Shown → Type 0
Right [] = Unit {0}
Right (w ∷ more) = (shown_steps w.plan (length w.steps + 10) fresh_place ≡ w.steps) × Right more

worked_right : Right worked
unfolding shown worked Right first_given any_below all_below first_from largest_below least_below over distance sends is_active_outside is_guard_or_tail_wrong is_min_or_max_wrong some_not_active shares_slot some_shared plan_refusal nearest predecessor distance_before gap_of sides_at failed_by verdict_at verdict_of fresh_run in_range sends_apart is_out_of_step clock_after mode_after slot_after step_refusal predecessor_at widest_from widest_node parts_for fresh_place due_time past_due goes_first goes_second next_step mark_after given_by given_for given_of
worked_right = (refl, (refl, (refl, (refl, (refl, (refl, (refl, tt)))))))
