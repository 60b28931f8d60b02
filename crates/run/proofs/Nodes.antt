-- A node of the run after each step: whoever reasons of a run cites these, and never the lists.
use Prim.Native.Nat.{ℕ, ◌<◌}
use mathlib.Core.Path.{◌≡◌, refl, ◌∙◌}
use mathlib.Core.Logic.{◌≢◌}
use lib.ListN.{length, length-set, length-replicate, get_or-replicate}
use lib.Seq.{get_or-set_same, get_or-set_other}
use borrow.Author.Tests.{eq-eqb, ne_eqb}
use Rattle.laws.proofs.Overs.{length_over, get_or_over}
use Rattle.plan.specs.declared.Plan.{Plan}
use Rattle.plan.specs.Sending.{own}
use Rattle.run.specs.declared.Run.{Run}
use Rattle.run.specs.declared.Step.{Step}
use Rattle.run.specs.declared.Step.TheVariants.{Delay, TickOf, SendOf}
use Rattle.run.specs.State.{node, fresh_node, fresh_run}
use Rattle.run.specs.Moves.{node_delayed, node_ticked, node_sent, node_hearing, node_at_send, delayed, ticked, sent, moved}

-- fresh

pub room_fresh : length fresh_run.nodes ≡ 32
unfolding fresh_run
room_fresh = length-replicate 32 fresh_node

pub node_fresh : (i : ℕ) → i < 32 → node fresh_run i ≡ fresh_node
unfolding fresh_run
node_fresh i h = get_or-replicate 32 i fresh_node fresh_node h

module _ (P : Plan) (r : Run) where
  -- a step keeps the number of places
  pub room_moved : (s : Step) → length (moved P r s).nodes ≡ length r.nodes
  room_moved (Delay d) = length_over P.nodes.0 (λ k a. node_delayed d.0 a) r.nodes
  room_moved (TickOf i) = length-set r.nodes i.0 (node_ticked P (own P i.0) (node r i.0))
  room_moved (SendOf i) = length_over P.nodes.0 (node_at_send P i.0) r.nodes

  pub node_when_delayed : (d i : ℕ) → i < P.nodes.0 → i < length r.nodes → node (delayed P d r) i ≡ node_delayed d (node r i)
  node_when_delayed d i h l = get_or_over P.nodes.0 (λ k a. node_delayed d a) r.nodes i fresh_node h l

  pub node_when_ticked : (i : ℕ) → i < length r.nodes → node (ticked P i r) i ≡ node_ticked P (own P i) (node r i)
  node_when_ticked i l = get_or-set_same r.nodes i (node_ticked P (own P i) (node r i)) fresh_node l

  pub node_still : (i j : ℕ) → j ≢ i → node (ticked P i r) j ≡ node r j
  node_still i j n = get_or-set_other r.nodes i j (node_ticked P (own P i) (node r i)) fresh_node n

  pub node_sender : (i : ℕ) → i < P.nodes.0 → i < length r.nodes → node (sent P i r) i ≡ node_sent (node r i)
  node_sender i h l = get_or_over P.nodes.0 (node_at_send P i) r.nodes i fresh_node h l ∙ rw (eq-eqb i i refl)

  pub node_when_hearing : (i j : ℕ) → j < P.nodes.0 → j < length r.nodes → j ≢ i → node (sent P i r) j ≡ node_hearing P (node r j)
  node_when_hearing i j h l n = get_or_over P.nodes.0 (node_at_send P i) r.nodes j fresh_node h l ∙ rw (ne_eqb j i n)
