-- The slots left are the measure. A free slot is passed by `nearest_on` and the row of free slots before it by
-- `nearest_skip`, so the call on what is left finds the same slot.
use Rattle.gap.proofs.+nearest_taken.Given as goal

abbrev pub decreases-nearest_taken : goal.decreases-nearest_taken
decreases-nearest_taken l = l.left.0
