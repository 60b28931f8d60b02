-- After k turns the first k nodes are as the send makes them.
use Rattle.std.proofs.Common.{◌≡◌, take}
use Rattle.laws.specs.Over.{over}
use Rattle.run.specs.Moves.{node_at_send}
use Rattle.moves.proofs.sent.Given as goal

abbrev pub invariant-loop-k : goal.invariant-loop-k
invariant-loop-k l = l.node-items ≡ over l.k (node_at_send l.fn.plan.plan l.fn.i.0) (take l.fn.plan.plan.nodes.0 l.fn.run.nodes)
