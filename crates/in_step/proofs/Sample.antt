-- The claim is not empty: a plan that is accepted, and a legal run of it that sends, and goes round the frame.
use Prim.Native.Nat.{ℕ, zero, suc}
use mathlib.Core.Path.{◌≡◌, refl}
use mathlib.Core.Bool.{Bool, true, false, ◌&&◌}
use mathlib.Core.List.{List, [], ◌∷◌, ◌++◌}
use Rattle.std.specs.Prelude.{Option, None, Some, Ok, is_ok}
use Rattle.laws.specs.Row.{first_given, unless}
use Rattle.laws.specs.Below.{any_below, all_below, largest_below}
use Rattle.laws.specs.Over.{over}
use Rattle.laws.specs.Ring.{distance}
use Rattle.laws.proofs.Bools.{clash, and_true_left, and_true_right}
use Rattle.plan.specs.declared.Plan.{Plan}
use Rattle.plan.specs.declared.refusal.Refusal.{Refusal}
use Rattle.plan.specs.Numbers.{plan_by, slots_from}
use Rattle.plan.specs.Sending.{sends}
use Rattle.plan.specs.Tested.{is_active_outside, is_guard_or_tail_wrong, is_min_or_max_wrong, some_not_active, shares_slot, some_shared, plan_refusal}
use Rattle.gap.specs.Gap.{nearest, predecessor, distance_before, gap_of}
use Rattle.rules.specs.Rules.{sides_at, failed_by, verdict_at, verdict_of}
use Rattle.run.specs.declared.Mode.TheVariants.{Sending}
use Rattle.run.specs.declared.Run.{Run}
use Rattle.run.specs.declared.Step.{Step}
use Rattle.run.specs.State.{node, fresh_run, in_range, sends_apart, is_out_of_step}
use Rattle.run.specs.Moves.{clock_after, mode_after, slot_after, moved}
use Rattle.run.specs.Steps.{step_refusal, step_tested, step_of, run_left, Legal, run_after}
use Rattle.run.specs.Reckoning.{time_since}
use Rattle.run.proofs.Letters.{D, T, S}
use Rattle.in_step.specs.InStep.{InStep}
use Rattle.in_step.proofs.Stays.{stays_in_step}

-- N = 3, C = 6, n = 4, k0 = 10, g = t = 2, 39/40, slots 0, 1, 2
pub sample : Plan
sample = plan_by 3 6 4 10 2 2 39 40 (slots_from 0 3)

pub let_through : plan_refusal sample ≡ None
unfolding sample first_given any_below sends is_active_outside is_guard_or_tail_wrong is_min_or_max_wrong some_not_active shares_slot some_shared plan_refusal
let_through = refl

pub accepted : (verdict_of sample).failed ≡ None
unfolding sample any_below largest_below distance sends nearest predecessor distance_before gap_of sides_at failed_by verdict_at verdict_of
accepted = refl

-- rounds: a delay of min, and a tick of every node, in number order; a node that becomes about to send sends at once

quiet : ℕ → List Step
quiet zero = []
quiet (suc n) = D 39 ∷ T 0 ∷ T 1 ∷ T 2 ∷ quiet n

by_0 : List Step
by_0 = D 39 ∷ T 0 ∷ S 0 ∷ T 1 ∷ T 2 ∷ []

by_1 : List Step
by_1 = D 39 ∷ T 0 ∷ T 1 ∷ S 1 ∷ T 2 ∷ []

by_2 : List Step
by_2 = D 39 ∷ T 0 ∷ T 1 ∷ T 2 ∷ S 2 ∷ []

-- each node sends once, and the frame comes to its last slot
pub frame : List Step
frame = quiet 1 ++ by_0 ++ quiet 8 ++ by_1 ++ quiet 8 ++ by_2 ++ quiet 36

-- it begins anew
pub anew : List Step
anew = quiet 3 ++ by_0

-- every step is done
pub every_done : Plan → Run → List Step → Bool
every_done P r [] = true
every_done P r (s ∷ steps) = is_ok (step_of P r s) && every_done P (run_left P r s) steps

done_is : (P : Plan) (r : Run) (s : Step) → is_ok (step_of P r s) ≡ true → step_of P r s ≡ Ok (moved P r s)
unfolding step_of step_tested
done_is P r s = go (plan_refusal P) (step_refusal P r s)
  where
    go : (a b : Option Refusal) → is_ok (unless a (unless b (Ok (moved P r s)))) ≡ true → unless a (unless b (Ok (moved P r s))) ≡ Ok (moved P r s)
    go None None h = refl
    go None (Some x) h = clash false h refl
    go (Some x) b h = clash false h refl

all_legal : (P : Plan) (steps : List Step) (r : Run) → every_done P r steps ≡ true → Legal P r steps
unfolding every_done
all_legal P [] r h = tt
all_legal P (s ∷ steps) r h =
    let rest = every_done P (run_left P r s) steps in
    let done = done_is P r s (and_true_left (is_ok (step_of P r s)) rest h) in
    (done, all_legal P steps (moved P r s) (rw done at (and_true_right (is_ok (step_of P r s)) rest h)))

-- after the frame node 0 is in the last slot, and node 2 sent last; then node 0 is sending again, in slot 0
pub record GoesRound : Type 0 where
  pub done : every_done sample fresh_run (frame ++ anew) ≡ true
  pub last_slot : (node (run_after sample fresh_run frame) 0).slot.0 ≡ 5
  pub last_message : (run_after sample fresh_run frame).last ≡ Some (record { 0 = 2 })
  pub first_slot : (node (run_after sample fresh_run (frame ++ anew)) 0).slot.0 ≡ 0
  pub new_message : (run_after sample fresh_run (frame ++ anew)).last ≡ Some (record { 0 = 0 })
  pub sending : (node (run_after sample fresh_run (frame ++ anew)) 0).mode ≡ Sending

pub goes_round : GoesRound
unfolding sample quiet by_0 by_1 by_2 frame anew every_done first_given any_below all_below over sends plan_refusal is_active_outside is_guard_or_tail_wrong is_min_or_max_wrong some_not_active shares_slot some_shared fresh_run in_range sends_apart is_out_of_step clock_after mode_after slot_after step_refusal step_tested step_of
goes_round = record { done = refl; last_slot = refl; last_message = refl; first_slot = refl; new_message = refl; sending = refl }

pub sample_in_step : InStep sample (run_after sample fresh_run (frame ++ anew)) (time_since 0 (frame ++ anew))
sample_in_step = stays_in_step sample let_through accepted (frame ++ anew) (all_legal sample (frame ++ anew) fresh_run goes_round.done)
