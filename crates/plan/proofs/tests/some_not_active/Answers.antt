use Rattle.std.proofs.Common.{rules, tests, leb}
use Rattle.std.proofs.lemmas.Iterator.{YieldsList-from_slice}
use Rattle.plan.specs.declared.Slot.{Slot}
use Rattle.plan.specs.Tested.{some_not_active}
use Rattle.laws.proofs.Chains.{any_in}
use Rattle.plan.proofs.tests.some_not_active.Goals as goal

pub returns : goal.returns
unfolding some_not_active
returns c =
    any_in (λ (own : Slot). leb c.args.plan.active.0 own.0) c.args.plan.slots c.args.plan.nodes.0 (record { 0 = 0 }) _ _ (search rules) c.any.ensures.ran
    (YieldsList-from_slice _ cc) (λ x b q k. search (rules, tests))
