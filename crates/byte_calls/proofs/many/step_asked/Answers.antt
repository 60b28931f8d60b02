use Rattle.byte_calls.proofs.Passing.{asked_decides, asked_moved}
use Rattle.byte_calls.proofs.many.step_asked.Goals as goal

pub returns-clause-refusal : goal.returns-clause-refusal
returns-clause-refusal c = asked_decides _ _ _ _ _ c.in_ok-step_spelt.ensures _ c.step_in_range.ensures.refusal

pub returns-clause-moved : goal.returns-clause-moved
returns-clause-moved c = asked_moved _ _ _ _ _ c.in_ok-step_spelt.ensures c.step_in_range.result c.step_in_range.ensures.refusal c.step_in_range.ensures.moved
