-- The first k places are written, the length stays.
use Rattle.std.proofs.Common.{◌≡◌, length}
use Rattle.run_bytes.specs.RunBytes.{nodes_bytes}
use Rattle.run_bytes.proofs.write_run.Given as goal

abbrev pub invariant-loop-k : goal.invariant-loop-k
invariant-loop-k l = (l.bytes ≡ nodes_bytes l.k l.fn.run l.initial.bytes) × (length l.bytes ≡ length l.initial.bytes)
