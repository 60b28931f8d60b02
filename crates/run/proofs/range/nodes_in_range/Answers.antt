use Rattle.std.proofs.Common.{rules}
use Rattle.std.proofs.lemmas.Iterator.{YieldsList-from_slice}
use Rattle.laws.proofs.Chains.{all_in}
use Rattle.run.specs.State.{fresh_node, node_in_range}
use Rattle.run.proofs.range.nodes_in_range.Goals as goal

pub returns : goal.returns
returns c =
    all_in (node_in_range c.args.plan.plan) c.args.run.nodes c.args.plan.plan.nodes.0 fresh_node _ _ (search rules) c.all.ensures.ran
    (YieldsList-from_slice _ cc) (λ x b q k. search rules)
