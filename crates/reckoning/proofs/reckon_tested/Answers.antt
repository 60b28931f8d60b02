-- What 10, 12 and 17 let through is what the ticks require.
use Rattle.std.proofs.Common.{sym, arith}
use Rattle.run.proofs.Ranges.{node_within, range_node, range_last}
use Rattle.reckoning.proofs.Reckonings.{legal_reckoning}
use Rattle.reckoning.proofs.reckon_tested.Goals as goal

pub bounds-run-i : goal.bounds-run-i
bounds-run-i c =
    let legal = legal_reckoning c.args.plan.plan c.args.run c.args.i.0 (sym c.in_ok-reckoning_refusal.ensures) in
    omega (arith, legal.below, c.args.plan.sound.nodes_high)

pub ticks_reckoned-requires-clause-node_value : goal.ticks_reckoned-requires-clause-node_value
ticks_reckoned-requires-clause-node_value c =
    let legal = legal_reckoning c.args.plan.plan c.args.run c.args.i.0 (sym c.in_ok-reckoning_refusal.ensures) in
    node_within c.args.plan.plan _ (range_node c.args.plan.plan c.args.run legal.range c.args.i.0 legal.below)

pub ticks_reckoned-requires-clause-last_value : goal.ticks_reckoned-requires-clause-last_value
ticks_reckoned-requires-clause-last_value c =
    range_last c.args.plan.plan c.args.run (legal_reckoning c.args.plan.plan c.args.run c.args.i.0 (sym c.in_ok-reckoning_refusal.ensures)).range

pub ticks_reckoned-requires-clause-not_below_zero : goal.ticks_reckoned-requires-clause-not_below_zero
ticks_reckoned-requires-clause-not_below_zero c = (legal_reckoning c.args.plan.plan c.args.run c.args.i.0 (sym c.in_ok-reckoning_refusal.ensures)).not_below_0
