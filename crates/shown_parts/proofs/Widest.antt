-- The predecessor that the distances hold for a node's place, where the node's D is M.
use Prim.Native.Nat.{ℕ, ◌<◌}
use mathlib.Core.Path.{◌≡◌}
use mathlib.Core.Bool.{cond}
use native.Mathlib.Omega.{arith}
use lib.ListN.{get_or}
use lib.Dec.{eqb}
use Rattle.plan.specs.declared.tested.TestedPlan.{TestedPlan}
use Rattle.plan.specs.declared.Slot.{Slot}
use Rattle.gap.specs.declared.NodeDistance.{NodeDistance}
use Rattle.gap.specs.declared.Distances.{Distances}
use Rattle.gap.specs.Gap.{gap_of}
use Rattle.gap.specs.Distances.{no_distance, distances_of}
use Rattle.gap.proofs.Table.{distances_at}
use Rattle.shown.specs.Parts.{predecessor_at}

-- what stands at a node's place, where its D is M; C where it is not
abbrev pub held : TestedPlan → Slot → NodeDistance → ℕ
held plan gap node = cond (eqb node.distance.0 gap.0) node.predecessor.0 plan.plan.frame.0

pub predecessor_held : (plan : TestedPlan) (distances : Distances) (gap : Slot) → distances ≡ distances_of plan.plan → gap.0 ≡ gap_of plan.plan
    → (i : ℕ) → i < plan.plan.nodes.0 → held plan gap (get_or distances.nodes i no_distance) ≡ predecessor_at plan.plan (gap_of plan.plan) i
unfolding predecessor_at
predecessor_held plan distances gap right widest i h =
    let l : i < 32 = omega (arith, plan.sound.nodes_high) in
    rw (distances_at plan.plan distances right i h l, widest)
