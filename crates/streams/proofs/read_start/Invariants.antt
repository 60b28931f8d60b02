-- What is filled lies in the buffer, and each read that goes on fills more of it.
use Rattle.std.proofs.Common.{◌≤◌, ◌-◌, length}
use Rattle.streams.proofs.read_start.Given as goal

abbrev pub invariant-loop-filled : goal.invariant-loop-filled
invariant-loop-filled g l = l.filled ≤ length l.start

abbrev pub decreases-loop-filled : goal.decreases-loop-filled
decreases-loop-filled g l = length l.initial.start - l.filled
