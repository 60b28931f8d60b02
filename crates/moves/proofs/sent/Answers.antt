use Rattle.std.proofs.Common.{rules, take, Some}
use Rattle.laws.proofs.Overs.{over_more, over_end}
use Rattle.run.specs.State.{node, fresh_node}
use Rattle.moves.proofs.sent.Goals as goal

pub loop-k-preserved : goal.loop-k-preserved
loop-k-preserved c = over_more c.loop-k.k _ (take c.args.plan.plan.nodes.0 c.args.run.nodes) _ fresh_node _ (search rules) c.loop-k.invariant (search rules)

pub returns : goal.returns
returns c =
    λ j. record { nodes = over_end c.args.plan.plan.nodes.0 c.loop-k.k _ c.args.run.nodes _ (search rules) c.loop-k.invariant j; last = Some (node c.args.run c.args.i.0).slot }
