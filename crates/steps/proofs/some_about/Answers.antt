use Rattle.std.proofs.Common.{rules}
use Rattle.std.proofs.lemmas.Iterator.{YieldsList-from_slice}
use Rattle.laws.proofs.Chains.{any_in}
use Rattle.run.specs.declared.NodeState.{NodeState}
use Rattle.run.specs.State.{fresh_node, is_about}
use Rattle.steps.proofs.some_about.Goals as goal

pub returns : goal.returns
returns c =
    any_in (λ (a : NodeState). is_about a.mode) c.args.run.run.nodes c.args.run.plan.plan.nodes.0 fresh_node _ _ (search rules) c.any.ensures.ran
    (YieldsList-from_slice _ cc) (λ x b q k. search rules)
