use Rattle.std.proofs.Common.{rules}
use Rattle.std.proofs.lemmas.Iterator.{YieldsList-from_slice}
use Rattle.laws.proofs.Chains.{position_in}
use Rattle.run.specs.declared.NodeState.{NodeState}
use Rattle.run.specs.State.{lowest, fresh_node, is_sending}
use Rattle.elsewhere.proofs.first_sending.Goals as goal

pub returns-in_err-i : goal.returns-in_err-i
unfolding lowest
returns-in_err-i c =
    let found = position_in (λ (a : NodeState). is_sending a.mode) c.args.run.nodes c.args.plan.plan.nodes.0 fresh_node _ _ (search rules) c.position.ensures.ran (YieldsList-from_slice _ cc) (λ x b q k. search rules) in
    search (rules, found)

pub returns : goal.returns
unfolding lowest
returns c =
    let found = position_in (λ (a : NodeState). is_sending a.mode) c.args.run.nodes c.args.plan.plan.nodes.0 fresh_node _ _ (search rules) c.position.ensures.ran (YieldsList-from_slice _ cc) (λ x b q k. search rules) in
    search (rules, found)
