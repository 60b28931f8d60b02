-- Where 17 does not speak, g can be taken away.
use borrow.Author.Tests.{ltb-true}
use Rattle.run.proofs.Ranges.{within_node}
use Rattle.reckoning.proofs.Reckonings.{guard_reached}
use Rattle.reckoning.proofs.ticks_reckoned.Goals as goal

pub overflow_sub-result : goal.overflow_sub-result
overflow_sub-result c =
    let P = c.args.plan.plan in
    let p = c.in-Some.slot in
    let in_frame = ltb-true p.0 P.frame.0 (rw c.in-Some.is at c.requires.last_value) in
    let within = within_node P c.args.node c.requires.node_value in
    let reached = guard_reached P c.args.plan.sound p c.args.node in_frame within c.if-node.false (rw c.in-Some.is at c.requires.not_below_zero) in
    rw c.ticks_from.ensures reached
