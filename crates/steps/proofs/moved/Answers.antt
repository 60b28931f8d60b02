-- What each move requires, a legal step has; it keeps the range.
use Rattle.std.proofs.Common.{◌≡◌, arith, length, rules}
use Rattle.run.specs.declared.Step.TheVariants.{Delay, TickOf, SendOf}
use Rattle.run.specs.Moves.{moved}
use Rattle.run.proofs.Legal.{legal_step}
use Rattle.run.proofs.Ranges.{step_keeps_range}
use Rattle.steps.proofs.moved.Goals as goal
use Rattle.steps.proofs.moved.Goals.{in-Delay, in-TickOf, in-SendOf}

pub delayed-next-requires : goal.delayed-next-requires
delayed-next-requires c = (legal_step c.args.run.plan.plan c.args.run.run (Delay c.in-Delay.d) (rw c.in-Delay.is at c.requires)).kind.within

pub ticked-next-requires : goal.ticked-next-requires
ticked-next-requires c = (legal_step c.args.run.plan.plan c.args.run.run (TickOf c.in-TickOf.i) (rw c.in-TickOf.is at c.requires)).kind.below

pub sent-next-requires : goal.sent-next-requires
sent-next-requires c = (legal_step c.args.run.plan.plan c.args.run.run (SendOf c.in-SendOf.i) (rw c.in-SendOf.is at c.requires)).kind.below

pub invariant_of-result : goal.invariant_of-result
invariant_of-result c =
    let run = c.args.run in
    let room : length run.run.nodes ≡ 32 = search rules in
    let next : c.match-step.next ≡ moved run.plan.plan run.run c.args.step = search rules in
    record { in_range = rw next (step_keeps_range run.plan.plan run.plan.sound run.run c.args.step (omega (arith, run.plan.sound.nodes_high)) (legal_step run.plan.plan run.run c.args.step c.requires)) }
