use Rattle.byte_calls.specs.TestsAndWrites.{steps_asked}
use Rattle.byte_calls.proofs.Passing.{inside_run}
use Rattle.byte_calls.proofs.many.steps_on.Goals as goal

pub returns-clause-answers_after : goal.returns-clause-answers_after
unfolding steps_asked
returns-clause-answers_after c =
    let found = c.in_ok-before.ensures.run in
    rw (← found.1, c.steps_taken-after.ensures.answers_after, found.0, inside_run _ _ _ found.1)
