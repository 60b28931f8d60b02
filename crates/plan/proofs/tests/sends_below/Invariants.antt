-- What was found of the slots so far.
use Rattle.std.proofs.Common.{◌≡◌}
use Rattle.plan.specs.Sending.{sends_below}
use Rattle.plan.proofs.tests.sends_below.Given as goal

abbrev pub invariant-loop-own : goal.invariant-loop-own
invariant-loop-own l = l.found ≡ sends_below l.fn.plan l.own-index l.fn.slot.0
