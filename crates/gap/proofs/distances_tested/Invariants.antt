-- After i turns the first i places hold their nodes' predecessor and D, the others 0.
-- The own slots of a tested plan lie in the frame, which is what `node_distance` asks.
use Rattle.std.proofs.Common.{◌≡◌, replicate}
use Rattle.laws.specs.Over.{over}
use Rattle.plan.specs.Sending.{own}
use Rattle.gap.specs.Distances.{node_distance, no_distance}
use Rattle.gap.proofs.distances_tested.Given as goal

abbrev pub invariant-loop-i : goal.invariant-loop-i
invariant-loop-i l = l.nodes ≡ over l.i (λ k x. node_distance l.fn.plan.plan (own l.fn.plan.plan k)) (replicate 32 no_distance)
