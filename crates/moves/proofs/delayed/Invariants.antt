-- After its turns the first nodes are delayed. The next node is as it was, so its time stays within max and does not wrap.
use Rattle.std.proofs.Common.{◌≡◌, take}
use Rattle.laws.specs.Over.{over}
use Rattle.run.specs.Moves.{node_delayed}
use Rattle.moves.proofs.delayed.Given as goal

abbrev pub invariant-loop-node : goal.invariant-loop-node
invariant-loop-node l = l.node-items ≡ over l.node-index (λ k a. node_delayed l.fn.d.0 a) (take l.fn.plan.plan.nodes.0 l.fn.run.nodes)
