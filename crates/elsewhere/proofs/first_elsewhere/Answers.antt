use Rattle.std.proofs.Common.{rules, tests, not, eqb}
use Rattle.std.proofs.lemmas.Iterator.{YieldsList-from_slice}
use Rattle.laws.proofs.Chains.{position_in}
use Rattle.run.specs.declared.NodeState.{NodeState}
use Rattle.run.specs.State.{lowest, node, fresh_node}
use Rattle.elsewhere.proofs.first_elsewhere.Goals as goal

pub returns-in_err-j : goal.returns-in_err-j
unfolding lowest
returns-in_err-j c =
    let found = position_in (λ (a : NodeState). not (eqb a.slot.0 (node c.args.run c.args.i.0).slot.0)) c.args.run.nodes c.args.plan.plan.nodes.0 fresh_node _ _ (search rules) c.position.ensures.ran (YieldsList-from_slice _ cc) (λ x b q k. search (rules, tests)) in
    search (rules, found)

pub returns : goal.returns
unfolding lowest
returns c =
    let found = position_in (λ (a : NodeState). not (eqb a.slot.0 (node c.args.run c.args.i.0).slot.0)) c.args.run.nodes c.args.plan.plan.nodes.0 fresh_node _ _ (search rules) c.position.ensures.ran (YieldsList-from_slice _ cc) (λ x b q k. search (rules, tests)) in
    search (rules, found)
