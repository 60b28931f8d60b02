-- A legal step keeps every number of the run in its range: what passed test 10 passes it again.
use Prim.Native.Nat.{ℕ, ◌+◌, ◌%◌, ◌≤◌, ◌<◌}
use mathlib.Core.Path.{◌≡◌, refl}
use mathlib.Core.Bool.{Bool, true, false, ◌&&◌}
use native.Mathlib.Nat.{mod-lt}
use native.Mathlib.Decide.{ℕ_discrete}
use native.Mathlib.Omega.{arith}
use borrow.Author.Tests.{ltb-true, leb-true, lt-ltb, le-leb}
use lib.Dec.{eqb, leb, ltb}
use lib.ListN.{length}
use Rattle.laws.specs.Below.{all_below}
use Rattle.laws.proofs.Bools.{and_true_left, and_true_right, and_both, cond_by}
use Rattle.laws.proofs.Belows.{all_at, all_ever}
use Rattle.plan.specs.declared.Plan.{Plan}
use Rattle.plan.specs.Sending.{own}
use Rattle.plan.specs.Tested.{Sound}
use Rattle.run.specs.declared.Mode.{Mode}
use Rattle.run.specs.declared.Mode.TheVariants.{Waiting, AboutToSend, Sending}
use Rattle.run.specs.declared.NodeState.{NodeState}
use Rattle.run.specs.declared.Run.{Run}
use Rattle.run.specs.declared.Step.{Step}
use Rattle.run.specs.declared.Step.TheVariants.{Delay, TickOf, SendOf}
use Rattle.run.specs.State.{node, node_in_range, last_in_range, in_range, fresh_run}
use Rattle.run.specs.Moves.{clock_after, slot_after, node_ticked, moved}
use Rattle.run.proofs.Nodes.{node_when_delayed, node_when_ticked, node_still, node_sender, node_when_hearing, node_fresh}
use Rattle.run.proofs.Legal.{StepLegal}

-- the three numbers of a node lie in their ranges
pub record NodeWithin (P : Plan) (a : NodeState) : Type 0 where
  pub clock : a.clock.0 < P.ticks.0
  pub slot : a.slot.0 < P.frame.0
  pub time : a.time.0 ≤ P.max.0

pub within_node : (P : Plan) (a : NodeState) → node_in_range P a ≡ true → NodeWithin P a
within_node P a h =
    let two = and_true_left (ltb a.clock.0 P.ticks.0 && ltb a.slot.0 P.frame.0) (leb a.time.0 P.max.0) h in
    record {
      clock = ltb-true a.clock.0 P.ticks.0 (and_true_left (ltb a.clock.0 P.ticks.0) (ltb a.slot.0 P.frame.0) two);
      slot = ltb-true a.slot.0 P.frame.0 (and_true_right (ltb a.clock.0 P.ticks.0) (ltb a.slot.0 P.frame.0) two);
      time = leb-true a.time.0 P.max.0 (and_true_right (ltb a.clock.0 P.ticks.0 && ltb a.slot.0 P.frame.0) (leb a.time.0 P.max.0) h);
    }

pub node_within : (P : Plan) (a : NodeState) → NodeWithin P a → node_in_range P a ≡ true
node_within P a w = rw (lt-ltb a.clock.0 P.ticks.0 w.clock, lt-ltb a.slot.0 P.frame.0 w.slot, le-leb a.time.0 P.max.0 w.time)

module _ (P : Plan) (r : Run) where
  -- a run in range, node by node
  pub range_node : in_range P r ≡ true → (i : ℕ) → i < P.nodes.0 → NodeWithin P (node r i)
  unfolding in_range
  range_node h i l =
      within_node P (node r i)
      (all_at P.nodes.0 (λ i. node_in_range P (node r i)) (and_true_left (all_below P.nodes.0 (λ i. node_in_range P (node r i))) (last_in_range P r.last) h) i l)

  pub range_last : in_range P r ≡ true → last_in_range P r.last ≡ true
  unfolding in_range
  range_last h = and_true_right (all_below P.nodes.0 (λ i. node_in_range P (node r i))) (last_in_range P r.last) h

  pub nodes_range : ((i : ℕ) → i < P.nodes.0 → NodeWithin P (node r i)) → last_in_range P r.last ≡ true → in_range P r ≡ true
  unfolding in_range
  nodes_range h l =
      and_both (all_below P.nodes.0 (λ i. node_in_range P (node r i))) (last_in_range P r.last)
      (all_ever P.nodes.0 (λ i. node_in_range P (node r i)) (λ i m. node_within P (node r i) (h i m))) l

pub fresh_range : (P : Plan) → Sound P → in_range P fresh_run ≡ true
unfolding fresh_run
fresh_range P o =
    nodes_range P fresh_run (λ i l. rw (node_fresh i (omega (arith, o.nodes_high))) (record { clock = omega (arith, o.ticks_low); slot = omega (arith, o.frame_low); time = omega arith })) refl

module _ (P : Plan) (o : Sound P) where
  clock_within : (b : Bool) (c : ℕ) → clock_after P b c < P.ticks.0
  unfolding clock_after
  clock_within true c = omega (arith, o.guard_tail)
  clock_within false c = mod-lt (c + 1) (omega (arith, o.ticks_low))

  slot_within : (c s : ℕ) (m : Mode) → s < P.frame.0 → slot_after P c s m < P.frame.0
  unfolding slot_after
  slot_within c s Waiting h =
      cond_by (λ (x : ℕ). x < P.frame.0) (eqb (c + 1) P.ticks.0) ((s + 1) % P.frame.0) s (λ e. mod-lt (s + 1) (omega (arith, o.frame_low))) (λ e. h)
  slot_within c s AboutToSend h = h
  slot_within c s Sending h = h

  pub ticked_within : (w : ℕ) (a : NodeState) → NodeWithin P a → NodeWithin P (node_ticked P w a)
  ticked_within w a h =
      record { clock = clock_within a.pending a.clock.0; slot = slot_within a.clock.0 a.slot.0 a.mode h.slot; time = omega arith }

  pub step_keeps_range : (r : Run) (s : Step) → P.nodes.0 ≤ length r.nodes → StepLegal P r s → in_range P (moved P r s) ≡ true
  step_keeps_range r (Delay d) room l = nodes_range P (moved P r (Delay d)) at (range_last P r l.range)
    where
      at : (i : ℕ) → i < P.nodes.0 → NodeWithin P (node (moved P r (Delay d)) i)
      at i h =
          let w = range_node P r l.range i h in
          rw (node_when_delayed P r d.0 i h (omega arith)) (record { clock = w.clock; slot = w.slot; time = l.kind.within i h })
  step_keeps_range r (TickOf i) room l = nodes_range P (moved P r (TickOf i)) (λ k h. at k h (ℕ_discrete k i.0)) (range_last P r l.range)
    where
      at : (k : ℕ) → k < P.nodes.0 → Dec (k ≡ i.0) → NodeWithin P (node (moved P r (TickOf i)) k)
      at k h (yes e) =
          rw (e, node_when_ticked P r i.0 (omega (arith, l.kind.below))) (ticked_within (own P i.0) (node r i.0) (range_node P r l.range i.0 l.kind.below))
      at k h (no n) = rw (node_still P r i.0 k n) (range_node P r l.range k h)
  step_keeps_range r (SendOf i) room l =
      nodes_range P (moved P r (SendOf i)) (λ k h. at k h (ℕ_discrete k i.0)) (lt-ltb (node r i.0).slot.0 P.frame.0 (range_node P r l.range i.0 l.kind.below).slot)
    where
      at : (k : ℕ) → k < P.nodes.0 → Dec (k ≡ i.0) → NodeWithin P (node (moved P r (SendOf i)) k)
      at k h (yes e) =
          let w = range_node P r l.range i.0 l.kind.below in
          rw (e, node_sender P r i.0 l.kind.below (omega (arith, l.kind.below))) (record { clock = w.clock; slot = w.slot; time = w.time })
      at k h (no n) =
          let w = range_node P r l.range k h in
          rw (node_when_hearing P r i.0 k h (omega arith) n) (record { clock = w.clock; slot = w.slot; time = w.time })
