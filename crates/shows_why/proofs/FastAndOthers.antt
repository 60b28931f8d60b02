-- A run as the fast node and the others beside it, each with its ticks: what a step makes of both sides.
use Prim.Native.Nat.{ℕ, suc, ◌<◌}
use mathlib.Core.Path.{◌≡◌, sym}
use mathlib.Core.Logic.{◌≢◌}
use native.Mathlib.Omega.{arith}
use Rattle.plan.specs.declared.Plan.{Plan}
use Rattle.plan.specs.Sending.{own}
use Rattle.run.specs.declared.NodeState.{NodeState}
use Rattle.run.specs.declared.Run.{Run}
use Rattle.run.specs.State.{node}
use Rattle.run.specs.Moves.{node_ticked, node_delayed, node_sent, node_hearing, ticked, delayed, sent}
use Rattle.run.proofs.Nodes.{node_when_delayed, node_when_ticked, node_still, node_when_hearing}
use Rattle.run.proofs.EveryNode.{all_delayed, all_sent}
use Rattle.shown.specs.declared.Parts.{Parts}
use Rattle.shows_why.proofs.Progress.{Setting, bump, bump_same, bump_other, all_counted}

-- A of the fast node, and B of each other node beside it
pub record FastAndOthers (P : Plan) (parts : Parts) (A : ℕ → NodeState → Type 0) (B : ℕ → NodeState → ℕ → ℕ → NodeState → Type 0) (r : Run) (m : ℕ → ℕ) : Type 0 where
  pub fast : A (m parts.fast.0) (node r parts.fast.0)
  pub others : (i : ℕ) → i < P.nodes.0 → i ≢ parts.fast.0 → B (m parts.fast.0) (node r parts.fast.0) i (m i) (node r i)

module _ {P : Plan} {parts : Parts} {r : Run} (G : Setting P parts r) (A : ℕ → NodeState → Type 0) (B : ℕ → NodeState → ℕ → ℕ → NodeState → Type 0) (m : ℕ → ℕ) where
  open G use {roles as R, room}

  abbrev f : ℕ
  f = parts.fast.0

  pub both_delayed : (d : ℕ) → A (m f) (node_delayed d (node r f)) → ((i : ℕ) → i < P.nodes.0 → i ≢ f → B (m f) (node_delayed d (node r f)) i (m i) (node_delayed d (node r i)))
      → FastAndOthers P parts A B (delayed P d r) m
  both_delayed d a b =
      let at : node (delayed P d r) f ≡ node_delayed d (node r f) = node_when_delayed P r d f R.fast_below (omega (arith, R.fast_below)) in
      record { fast = rw at a; others = rw at (all_delayed P r room (λ i x. i ≢ f → B (m f) (node_delayed d (node r f)) i (m i) x) d b) }

  pub fast_ticked : A (suc (m f)) (node_ticked P (own P f) (node r f)) → ((i : ℕ) → i < P.nodes.0 → i ≢ f → B (suc (m f)) (node_ticked P (own P f) (node r f)) i (m i) (node r i))
      → FastAndOthers P parts A B (ticked P f r) (bump m f)
  fast_ticked a b =
      let at : node (ticked P f r) f ≡ node_ticked P (own P f) (node r f) = node_when_ticked P r f (omega (arith, R.fast_below)) in
      record { fast = rw (at, bump_same m f) a; others = λ i l n. rw (at, bump_same m f, node_still P r f i n, bump_other m f i n) (b i l n) }

  pub other_ticked : (i : ℕ) → i < P.nodes.0 → i ≢ f → B (m f) (node r f) i (suc (m i)) (node_ticked P (own P i) (node r i)) → FastAndOthers P parts A B r m
      → FastAndOthers P parts A B (ticked P i r) (bump m i)
  other_ticked i l n b w =
      let at : node (ticked P i r) f ≡ node r f = node_still P r i f (λ e. n (sym e)) in
      let count : bump m i f ≡ m f = bump_other m i f (λ e. n (sym e)) in
      record { fast = rw (at, count) w.fast; others = rw (at, count) (all_counted P r room (λ k x v. k ≢ f → B (m f) (node r f) k v x) m i l (λ n. b) (λ k l d. w.others k l)) }

  pub other_sent : (i : ℕ) → i < P.nodes.0 → i ≢ f → A (m f) (node_hearing P (node r f)) → B (m f) (node_hearing P (node r f)) i (m i) (node_sent (node r i))
      → ((k : ℕ) → k < P.nodes.0 → k ≢ i → k ≢ f → B (m f) (node_hearing P (node r f)) k (m k) (node_hearing P (node r k))) → FastAndOthers P parts A B (sent P i r) m
  other_sent i l n a b h =
      let at : node (sent P i r) f ≡ node_hearing P (node r f) = node_when_hearing P r i f R.fast_below (omega (arith, R.fast_below)) (λ e. n (sym e)) in
      record { fast = rw at a; others = rw at (all_sent P r room (λ k x. k ≢ f → B (m f) (node_hearing P (node r f)) k (m k) x) i l (λ n. b) h) }
