use Rattle.std.proofs.Common.{rules, tests}
use Rattle.std.proofs.lemmas.Iterator.{YieldsList-from_range}
use Rattle.plan.specs.Tested.{shares_slot, some_shared}
use Rattle.laws.proofs.Chains.{any_in_range}
use Rattle.plan.proofs.tests.some_shared.Goals as goal

pub returns : goal.returns
unfolding some_shared
returns c =
    any_in_range (shares_slot c.args.plan) c.args.plan.nodes.0 _ _ c.any.ensures.ran
    (YieldsList-from_range 0 c.args.plan.nodes.0 c.args.plan.nodes.0 (cc) (search rules)) (λ x b q k. search (rules, tests))
