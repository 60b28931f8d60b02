-- The first k places are read, the others are fresh.
use Rattle.std.proofs.Common.{◌≡◌, ◌*◌, take}
use Rattle.run.specs.State.{fresh_run}
use Rattle.run_bytes.specs.RunBytes.{node_in}
use Rattle.laws.specs.Over.{over}
use Rattle.run_bytes.proofs.read_run.Given as goal

abbrev pub invariant-loop-k : goal.invariant-loop-k
invariant-loop-k l = l.node-items ≡ over l.k (λ j a. node_in l.bytes (9 * j)) (take l.fn.nodes fresh_run.nodes)
