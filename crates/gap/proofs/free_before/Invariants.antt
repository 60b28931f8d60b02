-- After `count` turns none of so many slots from the slot backwards is taken. Slot 0 is not passed, so nothing wraps.
use Rattle.gap.specs.Distances.{Free}
use Rattle.gap.proofs.free_before.Given as goal

abbrev pub invariant-loop-count : goal.invariant-loop-count
invariant-loop-count l = Free l.table l.slot.0 l.count
