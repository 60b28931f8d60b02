-- What holds of every node after a step: of the node that changes by what the step makes of it, of the others by what they were.
use Prim.Native.Nat.{ℕ, ◌≤◌, ◌<◌}
use mathlib.Core.Logic.{◌≢◌}
use native.Mathlib.Omega.{arith}
use lib.ListN.{length}
use Rattle.laws.proofs.Same.{at_same}
use Rattle.plan.specs.declared.Plan.{Plan}
use Rattle.plan.specs.Sending.{own}
use Rattle.run.specs.declared.NodeState.{NodeState}
use Rattle.run.specs.declared.Run.{Run}
use Rattle.run.specs.State.{node}
use Rattle.run.specs.Moves.{node_ticked, node_delayed, node_sent, node_hearing, ticked, delayed, sent}
use Rattle.run.proofs.Nodes.{node_when_delayed, node_when_ticked, node_still, node_sender, node_when_hearing}

module _ (P : Plan) (r : Run) (room : P.nodes.0 ≤ length r.nodes) (A : ℕ → NodeState → Type 0) where
  pub all_delayed : (d : ℕ) → ((k : ℕ) → k < P.nodes.0 → A k (node_delayed d (node r k))) → (k : ℕ) → k < P.nodes.0 → A k (node (delayed P d r) k)
  all_delayed d h k l = rw (node_when_delayed P r d k l (omega arith)) (h k l)

  pub all_ticked : (i : ℕ) → i < P.nodes.0 → A i (node_ticked P (own P i) (node r i)) → ((k : ℕ) → k < P.nodes.0 → k ≢ i → A k (node r k))
      → (k : ℕ) → k < P.nodes.0 → A k (node (ticked P i r) k)
  all_ticked i below now h k l =
      at_same (λ k. A k (node (ticked P i r) k)) k i (rw (node_when_ticked P r i (omega arith)) now) (λ n. rw (node_still P r i k n) (h k l n))

  pub all_sent : (i : ℕ) → i < P.nodes.0 → A i (node_sent (node r i)) → ((k : ℕ) → k < P.nodes.0 → k ≢ i → A k (node_hearing P (node r k)))
      → (k : ℕ) → k < P.nodes.0 → A k (node (sent P i r) k)
  all_sent i below now h k l =
      at_same (λ k. A k (node (sent P i r) k)) k i (rw (node_sender P r i below (omega arith)) now) (λ n. rw (node_when_hearing P r i k l (omega arith) n) (h k l n))
