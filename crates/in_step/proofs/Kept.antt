-- Every legal step keeps the invariant: the list of nodes, and induction on the steps.
use Prim.Native.Nat.{ℕ, ◌+◌, ◌-◌, ◌<◌}
use mathlib.Core.Path.{◌≡◌, refl, sym, ◌∙◌}
use mathlib.Core.Logic.{◌≢◌}
use mathlib.Core.Bool.{false}
use mathlib.Core.List.{List, [], ◌∷◌}
use native.Mathlib.Omega.{arith}
use Rattle.std.specs.Prelude.{None, Some}
use Rattle.laws.proofs.Digits.{slots_some}
use Rattle.laws.proofs.Ring.{end_to_start}
use Rattle.plan.specs.declared.Plan.{Plan}
use Rattle.plan.specs.Sending.{own}
use Rattle.plan.specs.Tested.{plan_refusal, Sound}
use Rattle.plan.proofs.Sound.{own_in_frame}
use Rattle.rules.proofs.Distances.{RulesHold}
use Rattle.run.specs.declared.Run.{Run}
use Rattle.run.specs.declared.Step.{Step}
use Rattle.run.specs.declared.Step.TheVariants.{Delay, TickOf, SendOf}
use Rattle.run.specs.State.{node, fresh_run}
use Rattle.run.specs.Moves.{node_hearing, delayed, ticked, sent}
use Rattle.run.specs.Steps.{Legal, run_after}
use Rattle.run.specs.Reckoning.{ticks_from, time_since}
use Rattle.run.proofs.Nodes.{room_fresh, node_fresh, room_moved}
use Rattle.run.proofs.EveryNode.{all_delayed, all_ticked, all_sent}
use Rattle.run.proofs.Legal.{DelayLegal, TickLegal, SendLegal, legal_step, done_step}
use Rattle.in_step.proofs.Numbers.{live_start}
use Rattle.in_step.proofs.Invariant.{Phase, phase_of, waits, InPhase, Short, Inv, Holds}
use Rattle.in_step.proofs.OneNode.{away_none, tick_keeps, delay_keeps}
use Rattle.in_step.proofs.Moment.{due_turn, all_short, gathered}
use Rattle.in_step.proofs.Message.{AboutHere, about_here, sender_keeps, hearer_keeps}
use Rattle.in_step.proofs.Phases.{lead_own, lead_other, due_of}

module _ (P : Plan) (S : Sound P) (A : RulesHold P) where
  -- in any state no node's count is at the last tick of slot D: some node's turn there is next
  pub short_of : (r : Run) (y : ℕ) → Inv P r y → (i : ℕ) → i < P.nodes.0 → (node r i).pending ≡ false → Short P (phase_of P r.last) (phase_of P r.last).D (node r i)
  short_of r y v i h =
      let due = due_of P S A r.last v.sent in
      let n = due.next in
      all_short S due.holds i n.by h (due_turn S due.holds n.by n.below n.away (v.good n.by n.below)) (v.good i h)

  pub inv_tick : (r : Run) (y i : ℕ) → Inv P r y → TickLegal P r i → Inv P (ticked P i r) y
  inv_tick r y i v l =
      let H = (due_of P S A r.last v.sent).holds in
      record {
        room = rw (room_moved P r (TickOf (record { 0 = i }))) v.room;
        sent = v.sent;
        good =
            all_ticked P r v.room (λ k a. InPhase P (phase_of P r.last) y (own P k) a) i l.below
            (tick_keeps S H (own_in_frame P S i l.below) (v.good i l.below) l.ripe (short_of r y v i l.below)) (λ k h n. v.good k h);
      }

  pub inv_delay : (r : Run) (y d : ℕ) → Inv P r y → DelayLegal P r d → Inv P (delayed P d r) (y + d)
  inv_delay r y d v l =
      record {
        room = rw (room_moved P r (Delay (record { 0 = d }))) v.room;
        sent = v.sent;
        good = all_delayed P r v.room (λ k a. InPhase P (phase_of P r.last) (y + d) (own P k) a) d (λ k h. delay_keeps d (l.none_about k h) (l.within k h) (v.good k h));
      }

  pub inv_send : (r : Run) (y i : ℕ) → Inv P r y → SendLegal P r i → Inv P (sent P i r) 0
  inv_send r y i v l =
      record {
        room = rw (room_moved P r (SendOf (record { 0 = i }))) v.room;
        sent = record { by = i; below = l.below; slot = sym place };
        good =
            all_sent P r v.room (λ k a. InPhase P f' 0 (own P k) a) i l.below
            (sender_keeps S hw place refl (lead_own P (node r i).slot (own P i) (sym place)) here (v.good i l.below)) hears;
      }
    where
      f : Phase
      f = phase_of P r.last

      f' : Phase
      f' = phase_of P (Some (node r i).slot)

      H : Holds P f
      H = (due_of P S A r.last v.sent).holds

      hw : own P i < P.frame.0
      hw = own_in_frame P S i l.below

      here : AboutHere P f y (own P i) (node r i)
      here = about_here l.about (v.good i l.below)

      place : (node r i).slot.0 ≡ own P i
      place = here.about.place

      ahead : own P i ≢ f.p
      ahead e = omega (arith, here.about.ahead, away_none P f.p (own P i) H.start e)

      hears : (k : ℕ) → k < P.nodes.0 → k ≢ i → InPhase P f' 0 (own P k) (node_hearing P (node r k))
      hears k h n =
          let apart : own P k ≢ own P i = λ e. n (S.own_apart k i h l.below e) in
          let leads = lead_other P (node r i).slot (own P k) (λ e. apart (e ∙ place)) in
          let all = gathered S H k i h l.below n hw here.about (v.good k h) in
          hearer_keeps S hw place refl leads apart (S.own_active i l.below) ahead all (v.good k h)

  pub inv_fresh : Inv P fresh_run 0
  unfolding fresh_run
  inv_fresh =
      let u : ticks_from P (P.frame.0 - 1) 0 0 ≡ P.ticks.0 = rw (end_to_start P.frame.0 (omega (arith, S.frame_low))) (omega arith) in
      let some = slots_some (phase_of P None).D P.ticks.0 (due_of P S A None tt).next.one in
      record {
        room = rw room_fresh S.nodes_high;
        sent = tt;
        good =
            λ i h.
            rw (node_fresh i (omega (arith, S.nodes_high)))
            (record {
              range = record { clock = omega (arith, S.ticks_low); slot = omega (arith, S.frame_low); time = omega arith };
              here = waits (record { live = live_start refl u refl; before = λ e. omega (arith, S.guard_low) });
            });
      }

  pub inv_steps : plan_refusal P ≡ None → (steps : List Step) (r : Run) (y : ℕ) → Inv P r y → Legal P r steps → Inv P (run_after P r steps) (time_since y steps)
  inv_steps e [] r y v l = v
  inv_steps e (Delay d ∷ steps) r y v l =
      let legal = legal_step P r (Delay d) (done_step P r (Delay d) _ e l.0).refusal in
      rw l.0 (inv_steps e steps (delayed P d.0 r) (y + d.0) (inv_delay r y d.0 v legal.kind) l.1)
  inv_steps e (TickOf i ∷ steps) r y v l =
      let legal = legal_step P r (TickOf i) (done_step P r (TickOf i) _ e l.0).refusal in
      rw l.0 (inv_steps e steps (ticked P i.0 r) y (inv_tick r y i.0 v legal.kind) l.1)
  inv_steps e (SendOf i ∷ steps) r y v l =
      let legal = legal_step P r (SendOf i) (done_step P r (SendOf i) _ e l.0).refusal in
      rw l.0 (inv_steps e steps (sent P i.0 r) 0 (inv_send r y i.0 v legal.kind) l.1)
