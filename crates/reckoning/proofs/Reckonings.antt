-- What refusals 10, 12 and 17 let through, and that such a reckoning is no number below 0 and fits a u32.
use Prim.Native.Nat.{ℕ, ◌≤◌, ◌<◌}
use mathlib.Core.Path.{◌≡◌}
use mathlib.Core.Bool.{true, false, not}
use mathlib.Core.List.{[], ◌∷◌}
use native.Mathlib.Nat.{mul-le-mul, mul-le-mul_right}
use native.Mathlib.Decide.{ℕ_discrete}
use native.Mathlib.Omega.{arith}
use borrow.Author.Tests.{leb-false, ltb-false, eq-eqb}
use lib.Dec.{leb}
use Rattle.std.specs.Prelude.{None, Some}
use Rattle.laws.specs.Row.{given}
use Rattle.laws.specs.Ring.{distance}
use Rattle.laws.proofs.Bools.{false_not_true}
use Rattle.laws.proofs.Rows.{all_off}
use Rattle.laws.proofs.Ring.{Reaches, on, round, distance_reaches, distance_below}
use Rattle.plan.specs.declared.Plan.{Plan}
use Rattle.plan.specs.declared.Slot.{Slot}
use Rattle.plan.specs.declared.refusal.Refusal.TheVariants.{RunOutside, NodeUnknown, ReckoningBelow0}
use Rattle.plan.specs.Tested.{Sound}
use Rattle.run.specs.declared.NodeState.{NodeState}
use Rattle.run.specs.declared.Run.{Run}
use Rattle.run.specs.State.{node, in_range}
use Rattle.run.specs.Reckoning.{ticks_from, below_zero, reckoning_refusal}
use Rattle.run.proofs.Ranges.{NodeWithin}

pub record ReckoningLegal (P : Plan) (r : Run) (i : ℕ) : Type 0 where
  pub range : in_range P r ≡ true
  pub below : i < P.nodes.0
  pub not_below_0 : below_zero P r.last (node r i) ≡ false

pub legal_reckoning : (P : Plan) (r : Run) (i : ℕ) → reckoning_refusal P r i ≡ None → ReckoningLegal P r i
unfolding reckoning_refusal
legal_reckoning P r i h =
    let o = all_off (given RunOutside (not (in_range P r)) ∷ given NodeUnknown (leb P.nodes.0 i) ∷ given ReckoningBelow0 (below_zero P r.last (node r i)) ∷ []) h in
    record { range = false_not_true (in_range P r) o.0; below = leb-false P.nodes.0 i o.1.0; not_below_0 = o.1.1.0 }

module _ (P : Plan) (o : Sound P) (p : Slot) (a : NodeState) (in_frame : p.0 < P.frame.0) (w : NodeWithin P a) where
  -- the ticks since a slot began are fewer than those of a frame
  pub ticks_from_high : ticks_from P p.0 a.clock.0 a.slot.0 ≤ 1044735
  ticks_from_high =
      let d : distance P.frame.0 p.0 a.slot.0 ≤ 4096 = omega (arith, distance_below P.frame.0 p.0 a.slot.0 (omega arith), o.frame_high) in
      omega (arith, mul-le-mul d o.ticks_high, w.clock, o.ticks_high)

  -- where refusal 17 does not speak, g can be taken away
  pub guard_reached : a.pending ≡ false → below_zero P (Some p) a ≡ false → P.guard.0 ≤ ticks_from P p.0 a.clock.0 a.slot.0
  unfolding below_zero
  guard_reached quiet h = go (ℕ_discrete a.slot.0 p.0)
    where
      away : (a.slot.0 ≡ p.0 → ⊥) → Reaches P.frame.0 p.0 (distance P.frame.0 p.0 a.slot.0) a.slot.0 → 1 ≤ distance P.frame.0 p.0 a.slot.0
      away n (on e) = omega arith
      away n (round e) = omega arith

      go : Dec (a.slot.0 ≡ p.0) → P.guard.0 ≤ ticks_from P p.0 a.clock.0 a.slot.0
      go (yes e) = omega (arith, ltb-false a.clock.0 P.guard.0 (rw (eq-eqb a.slot.0 p.0 e, quiet) at h))
      go (no n) = omega (arith, mul-le-mul_right P.ticks.0 (away n (distance_reaches P.frame.0 p.0 a.slot.0 in_frame w.slot)), o.guard_tail)
