-- The plan stays, line after line.
use Rattle.std.proofs.Common.{◌≡◌}
use Rattle.stepper.proofs.block_done.Given as goal

abbrev pub invariant-loop-byte : goal.invariant-loop-byte
invariant-loop-byte g l = l.desk.run.plan.plan ≡ l.initial.desk.run.plan.plan
