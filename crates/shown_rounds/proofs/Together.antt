-- In a round every node is in the slot of a node that sends: no run up to the pivot's end is out of step.
use Prim.Native.Nat.{ℕ, ◌+◌, ◌*◌, ◌-◌, ◌≤◌, ◌<◌}
use mathlib.Core.Path.{◌≡◌, sym, ◌∙◌}
use mathlib.Core.Bool.{true, false}
use native.Mathlib.Decide.{ℕ_discrete}
use native.Mathlib.Omega.{arith}
use borrow.Author.Tests.{eqb-false}
use lib.Dec.{eqb}
use Rattle.laws.specs.Below.{any_below}
use Rattle.laws.specs.Ring.{distance}
use Rattle.laws.proofs.Bools.{and_true_left, and_true_right, true_not_false, not_so}
use Rattle.laws.proofs.Belows.{any_never, any_some}
use Rattle.laws.proofs.Ring.{distance_self}
use Rattle.plan.specs.declared.Plan.{Plan}
use Rattle.plan.specs.Sending.{own}
use Rattle.plan.specs.Tested.{Sound}
use Rattle.plan.proofs.Sound.{own_in_frame}
use Rattle.run.specs.declared.Run.{Run}
use Rattle.run.specs.State.{node, is_sending, elsewhere, sends_apart, is_out_of_step}
use Rattle.shown.specs.declared.Parts.{Parts}
use Rattle.shows_why.proofs.Stands.{at_place, sending_at}
use Rattle.shown.proofs.Roles.{Roles, pivot_in_frame}
use Rattle.shows_why.proofs.Rounds.{Turned, done, due, Round}
use Rattle.shows_why.proofs.AfterMessage.{AfterMessage}

-- whoever sends has every node in its slot: not out of step
in_step : (P : Plan) (r : Run) → ((i j : ℕ) → i < P.nodes.0 → j < P.nodes.0 → is_sending (node r i).mode ≡ true → (node r j).slot.0 ≡ (node r i).slot.0) → is_out_of_step P r ≡ false
unfolding is_out_of_step sends_apart
in_step P r h = any_never P.nodes.0 (sends_apart P r) (λ i l. not_so (sends_apart P r i) (apart i l))
  where
    apart : (i : ℕ) → i < P.nodes.0 → sends_apart P r i ≡ true → ⊥
    apart i l e =
        let s = and_true_left (is_sending (node r i).mode) (any_below P.nodes.0 (elsewhere r i)) e in
        let w = any_some P.nodes.0 (elsewhere r i) (and_true_right (is_sending (node r i).mode) (any_below P.nodes.0 (elsewhere r i)) e) in
        eqb-false (node r w.at).slot.0 (node r i).slot.0 (true_not_false (eqb (node r w.at).slot.0 (node r i).slot.0) w.passes) (h i w.at l w.below s)

module _ {P : Plan} (o : Sound P) where
  -- two counts of one round are at most one apart
  near : {T v x u y : ℕ} → Turned P T v x → Turned P T u y → (v ≤ u + 1) × (u ≤ v + 1)
  near (done a b) (done d e) = (omega arith, omega arith)
  near (done a b) (due d e) = (omega arith, omega arith)
  near (due a b) (done d e) = (omega arith, omega arith)
  near (due a b) (due d e) = (omega arith, omega arith)

  pub round_in_step : (T : ℕ) (r : Run) (n : ℕ → ℕ) → Round P T r n → is_out_of_step P r ≡ false
  round_in_step T r n t = in_step P r shares
    where
      shares : (i j : ℕ) → i < P.nodes.0 → j < P.nodes.0 → is_sending (node r i).mode ≡ true → (node r j).slot.0 ≡ (node r i).slot.0
      shares i j hi hj e =
          let s = (t i hi).stands in
          let w = sending_at o s e in
          let here = w.0 in
          let base = distance P.frame.0 0 (own P i) * P.ticks.0 in
          let at : base + (node r i).clock.0 ≡ n i = rw here at s.counts in
          let close = near (t i hi).turned (t j hj).turned in
          (at_place o (t j hj).stands (own P i) (n j - base) (own_in_frame P o i hi) (omega (arith, w.1, w.2, close.0, close.1, o.guard_low, o.tail_low)) (omega (arith, w.1, close.0, o.guard_low))).0
          ∙ sym here

  pub dawn_in_step : {c : Parts} {r : Run} {n : ℕ → ℕ} → Roles P c → AfterMessage P c r n → is_out_of_step P r ≡ false
  dawn_in_step {c} {r} R D = in_step P r (λ i j hi hj e. here j hj (ℕ_discrete j c.fast.0) ∙ sym (here i hi (ℕ_discrete i c.fast.0)))
    where
      here : (k : ℕ) → k < P.nodes.0 → Dec (k ≡ c.fast.0) → (node r k).slot.0 ≡ c.p.0
      here k l (yes e) = rw e D.fast.slot
      here k l (no d) = (at_place o (D.others k l d).stands c.p.0 P.guard.0 (pivot_in_frame R) (omega (arith, o.guard_tail)) (rw (distance_self P.frame.0 c.p.0 (pivot_in_frame R)) (omega arith))).0
