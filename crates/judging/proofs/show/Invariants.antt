-- The shown place is one of a run that ends, and fewer steps are left to give each time.
use Rattle.judging.proofs.Giving.{Failing, to_give}
use Rattle.judging.proofs.show.Given as goal

abbrev pub invariant-loop-step : goal.invariant-loop-step
invariant-loop-step g l = Failing l.shown

abbrev pub decreases-loop-step : goal.decreases-loop-step
decreases-loop-step g l = to_give l.shown
