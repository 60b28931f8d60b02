-- After k steps the plan is the same, the run is the one after them, and so many are answered.
use Rattle.std.proofs.Common.{◌≡◌}
use Rattle.byte_calls.specs.Many.{after_asked, answers_bytes}
use Rattle.byte_calls.proofs.many.steps_taken.Given as goal

abbrev pub invariant-loop-k : goal.invariant-loop-k
invariant-loop-k l =
    (l.state.plan.plan ≡ l.fn.run.plan.plan)
    × (l.state.run ≡ after_asked l.fn.run.plan.plan l.steps l.k l.fn.run.run)
    × (l.answers ≡ answers_bytes l.fn.run.plan.plan l.steps l.k l.fn.run.run l.fn.answers)
