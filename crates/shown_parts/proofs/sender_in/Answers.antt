use Rattle.std.proofs.Common.{rules, tests, eqb, ◌∙◌}
use Rattle.std.proofs.lemmas.Iterator.{YieldsList-from_slice}
use Rattle.laws.proofs.Chains.{position_in, first_or_end}
use Rattle.plan.specs.declared.Slot.{Slot}
use Rattle.shown_parts.proofs.sender_in.Goals as goal

pub returns : goal.returns
returns c = c.unwrap_or.ensures ∙ first_or_end _ _ (position_in (λ (own : Slot). eqb own.0 c.args.slot.0) c.args.plan.plan.slots c.args.plan.plan.nodes.0 (record { 0 = 0 }) _ _ (search rules) c.position-found.ensures.ran (YieldsList-from_slice _ cc) (λ x b q k. search (rules, tests)))
