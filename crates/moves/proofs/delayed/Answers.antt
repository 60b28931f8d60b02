use Rattle.std.proofs.Common.{rules, ◌≡◌, ◌<◌, ap, take, get_or, arith}
use Rattle.std.proofs.lemmas.List.{get_or-take}
use Rattle.laws.proofs.Overs.{get_or_past, over_more, over_end}
use Rattle.run.specs.declared.NodeState.{NodeState}
use Rattle.run.specs.State.{node, fresh_node}
use Rattle.moves.proofs.delayed.Goals as goal

pub node_delayed-requires : goal.node_delayed-requires
node_delayed-requires c =
    let l = c.loop-node in
    let below : l.node-index < c.args.plan.plan.nodes.0 = search rules in
    let before : get_or l.node-items l.node-index fresh_node ≡ node c.args.run l.node-index =
    rw (l.invariant, get_or_past l.node-index _ (take c.args.plan.plan.nodes.0 c.args.run.nodes) l.node-index fresh_node (omega arith)) (get_or-take _ c.args.run.nodes l.node-index fresh_node below) in
    let time = ap (λ (a : NodeState). a.time.0) before in
    omega (arith, c.requires l.node-index below, time)

pub loop-node-preserved : goal.loop-node-preserved
loop-node-preserved c = over_more c.loop-node.node-index _ (take c.args.plan.plan.nodes.0 c.args.run.nodes) _ fresh_node _ (search rules) c.loop-node.invariant (search rules)

pub returns : goal.returns
returns c =
    λ j. record { nodes = over_end c.args.plan.plan.nodes.0 c.loop-node.node-index _ c.args.run.nodes _ (search rules) c.loop-node.invariant j; last = c.args.run.last }
