-- After so many turns exactly the slots that a node of the first so many sends in are marked. Own slots lie in the frame, and so in the table.
use Rattle.std.proofs.Common.{◌≡◌, length}
use Rattle.gap.proofs.Table.{Marked}
use Rattle.gap.proofs.occupied.Given as goal

abbrev pub invariant-loop-own : goal.invariant-loop-own
invariant-loop-own l = (length l.table ≡ 4096) × Marked l.fn.plan.plan l.own-index l.table
