-- The reckoning of a good node: its ticks since slot p began, less o, or 0 where a message is pending; never below 0, and right on both sides.
use Prim.Native.Nat.{ℕ, ◌+◌, ◌*◌, ◌-◌, ◌≤◌, ◌<◌}
use mathlib.Core.Path.{◌≡◌, refl}
use mathlib.Core.Logic.{◌≢◌}
use mathlib.Core.Bool.{Bool, true, false, ◌&&◌, and-false}
use native.Mathlib.Omega.{arith}
use borrow.Author.Tests.{le-ltb, ne_eqb, eq-eqb}
use lib.Dec.{eqb, ltb}
use Rattle.std.specs.Prelude.{Option, None, Some}
use Rattle.laws.specs.Ring.{distance}
use Rattle.laws.proofs.Same.{by_same}
use Rattle.laws.proofs.Digits.{same_slot}
use Rattle.plan.specs.declared.Plan.{Plan}
use Rattle.plan.specs.declared.Slot.{Slot}
use Rattle.plan.specs.Tested.{Sound}
use Rattle.rules.proofs.Distances.{RulesHold}
use Rattle.run.specs.declared.Mode.{Mode}
use Rattle.run.specs.declared.NodeState.{NodeState}
use Rattle.run.specs.Reckoning.{ticks_from, reckoning, below_zero}
use Rattle.in_step.proofs.Numbers.{live_most, live_least}
use Rattle.in_step.proofs.Invariant.{phase_of, ticks_of, Case, hears, waits, about, sends, InPhase, Short, Sent, Holds}
use Rattle.in_step.proofs.OneNode.{knows, ticks_here}
use Rattle.in_step.proofs.Phases.{due_of, due_one}

pub record Counts (P : Plan) (l : Option Slot) (y : ℕ) (a : NodeState) : Type 0 where
  pub whole : below_zero P l a ≡ false
  pub most : y ≤ reckoning P l a * P.max.0 + a.time.0
  pub least : reckoning P l a ≢ 0 → (reckoning P l a - 1) * P.min.0 + a.time.0 ≤ y

module _ {P : Plan} (S : Sound P) (A : RulesHold P) {y w : ℕ} {a : NodeState} where
  -- after a message
  counts_after : (q : Slot) → Holds P (phase_of P (Some q)) → InPhase P (phase_of P (Some q)) y w a → Counts P (Some q) y a
  unfolding reckoning below_zero
  counts_after q H g = go refl g.here
    where
      u : ℕ
      u = ticks_from P q.0 a.clock.0 a.slot.0

      not_early : P.guard.0 ≤ u → (eqb a.slot.0 q.0 && true && ltb a.clock.0 P.guard.0) ≡ false
      not_early low =
          by_same a.slot.0 q.0
          (λ e. rw (eq-eqb a.slot.0 q.0 e) (le-ltb a.clock.0 P.guard.0 (omega (arith, low, ticks_here P q.0 a.clock.0 a.slot.0 H.start e))))
          (λ n. rw (ne_eqb a.slot.0 q.0 n))

      counts : a.pending ≡ false → Counts P (Some q) y a
      counts e =
          let l = knows g e in
          let low : P.guard.0 ≤ u = omega (arith, H.lead_low w, l.above) in
          record {
            whole = rw e (not_early low);
            most = rw e (live_most (u - P.guard.0) refl low l);
            least = rw e (live_least (u - P.guard.0) refl (H.lead_high w) l);
          }

      go : {m : Mode} {b : Bool} → a.pending ≡ b → Case P (phase_of P (Some q)) y w a m b → Counts P (Some q) y a
      go e (hears v) = record { whole = rw (e, and-false (eqb a.slot.0 q.0)); most = rw e (omega (arith, v.time)); least = rw e (λ n. absurd (n refl)) }
      go e (waits v) = counts e
      go e (about v) = counts e
      go e (sends v) = counts e

  -- before the first message: the next sending slot is one slot from the end of the frame, so every node counts one slot and its clock
  counts_before : (a.pending ≡ false → Short P (phase_of P None) (phase_of P None).D a) → InPhase P (phase_of P None) y w a → Counts P None y a
  unfolding reckoning below_zero
  counts_before short g = go refl g.here
    where
      counts : a.pending ≡ false → Counts P None y a
      counts e =
          let k = P.ticks.0 in
          let c = a.clock.0 in
          let l = knows g e in
          let d = distance P.frame.0 (P.frame.0 - 1) a.slot.0 in
          let u : d * k + c + 1 < 1 * k + k = rw (due_one P S A) at (short e) in
          let one : d ≡ 1 = same_slot d 1 k c (omega (arith, l.above)) g.range.clock (omega arith) in
          let e : c ≡ ticks_of P (phase_of P None) a - k = rw one (omega arith) in
          record { whole = refl; most = live_most c e l.above l; least = live_least c e (omega arith) l }

      go : {m : Mode} {b : Bool} → a.pending ≡ b → Case P (phase_of P None) y w a m b → Counts P None y a
      go e (hears v) = absurd (omega (arith, v.message, S.guard_tail))
      go e (waits v) = counts e
      go e (about v) = counts e
      go e (sends v) = counts e

  pub counts_of : (l : Option Slot) → Sent P l → (a.pending ≡ false → Short P (phase_of P l) (phase_of P l).D a) → InPhase P (phase_of P l) y w a → Counts P l y a
  counts_of (Some q) h short g = counts_after q (due_of P S A (Some q) h).holds g
  counts_of None h short g = counts_before short g
