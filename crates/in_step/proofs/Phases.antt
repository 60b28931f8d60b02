-- What an accepted plan gives each phase: who is due, and the rules at every distance up to it.
use Prim.Native.Nat.{ℕ, ◌+◌, ◌-◌, ◌≤◌, ◌<◌}
use mathlib.Core.Path.{◌≡◌}
use mathlib.Core.Logic.{◌≢◌}
use native.Mathlib.Nat.{le_trans}
use native.Mathlib.Omega.{arith}
use borrow.Author.Tests.{eq-eqb, ne_eqb}
use lib.Dec.{eqb}
use Rattle.std.specs.Prelude.{Option, None, Some}
use Rattle.laws.specs.Ring.{distance}
use Rattle.laws.proofs.Bools.{cond_by}
use Rattle.laws.proofs.Ring.{end_below, end_to_start}
use Rattle.plan.specs.declared.Plan.{Plan}
use Rattle.plan.specs.declared.Slot.{Slot}
use Rattle.plan.specs.Sending.{own}
use Rattle.plan.specs.Tested.{Sound}
use Rattle.plan.proofs.Sound.{sends_by, own_in_frame}
use Rattle.gap.proofs.Facts.{slots_to_next}
use Rattle.gap.proofs.Forth.{next_at, next_within}
use Rattle.rules.proofs.Distances.{RulesHold}
use Rattle.in_step.proofs.Invariant.{phase_of, Sent, Due}

-- the lead after a message in slot q

module _ (P : Plan) (q : Slot) where
  pub lead_own : (w : ℕ) → w ≡ q.0 → (phase_of P (Some q)).lead w ≡ P.guard.0
  lead_own w e = rw (eq-eqb w q.0 e)

  pub lead_other : (w : ℕ) → w ≢ q.0 → (phase_of P (Some q)).lead w ≡ P.guard.0 + 1
  lead_other w n = rw (ne_eqb w q.0 n)

-- from the end of the frame

module _ (P : Plan) (S : Sound P) (A : RulesHold P) where
  due_at : (p o : ℕ) (lead : ℕ → ℕ) → p < P.frame.0 → P.guard.0 ≤ o → ((w : ℕ) → o ≤ lead w) → ((w : ℕ) → lead w ≤ o + 1)
      → Due P (record { p = p; o = o; D = slots_to_next P p; lead = lead; z = 2 })
  due_at p o lead hp ho low high =
      let next = next_at P S p hp in
      let within = next_within P S p hp in
      record {
        holds =
            record {
              start = hp;
              one = next.one;
              gap = next.short;
              early = ho;
              lead_low = low;
              lead_high = high;
              rule1 = λ d h. A.rule1 d o (le_trans h within) ho;
              rule2 = λ d h. A.rule2 d o (le_trans h within) ho;
              spared = λ i m hi hm n a. omega (arith, high (own P i));
              rule3 = A.rule3;
            };
        next = next;
      }

  pub due_of : (l : Option Slot) → Sent P l → Due P (phase_of P l)
  due_of (Some q) v =
      due_at q.0 P.guard.0 (phase_of P (Some q)).lead (rw v.slot at (own_in_frame P S v.by v.below)) (omega arith)
      (λ w. cond_by (λ (n : ℕ). P.guard.0 ≤ n) (eqb w q.0) P.guard.0 (P.guard.0 + 1) (λ e. omega arith) (λ e. omega arith))
      (λ w. cond_by (λ (n : ℕ). n ≤ P.guard.0 + 1) (eqb w q.0) P.guard.0 (P.guard.0 + 1) (λ e. omega arith) (λ e. omega arith))
  due_of None v =
      due_at (P.frame.0 - 1) P.ticks.0 (λ w. P.ticks.0) (end_below P.frame.0 (omega (arith, S.frame_low))) (omega (arith, S.guard_tail)) (λ w. omega arith) (λ w. omega arith)

  -- before the first message the next sending slot is slot 0, one slot from the end of the frame
  pub due_one : (phase_of P None).D ≡ 1
  due_one =
      let next = (due_of None tt).next in
      let v = sends_by P 0 S.slot_0_sends in
      let away : distance P.frame.0 (P.frame.0 - 1) (own P v.by) ≡ 1 = rw v.slot (end_to_start P.frame.0 (omega (arith, S.frame_low))) in
      omega (arith, next.one, next.near v.by v.below (omega arith))
