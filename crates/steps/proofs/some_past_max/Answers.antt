use Rattle.std.proofs.Common.{rules, tests, ◌+◌, ltb}
use Rattle.std.proofs.lemmas.Iterator.{YieldsList-from_slice}
use Rattle.laws.proofs.Chains.{any_in}
use Rattle.run.specs.declared.NodeState.{NodeState}
use Rattle.run.specs.State.{fresh_node}
use Rattle.steps.proofs.some_past_max.Goals as goal

pub returns : goal.returns
returns c =
    any_in (λ (a : NodeState). ltb c.args.run.plan.plan.max.0 (a.time.0 + c.args.d.0)) c.args.run.run.nodes c.args.run.plan.plan.nodes.0 fresh_node _ _ (search rules) c.any.ensures.ran
    (YieldsList-from_slice _ cc) (λ x b q k. search (rules, tests))
