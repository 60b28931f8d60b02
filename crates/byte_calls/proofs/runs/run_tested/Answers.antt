-- 10 where the bytes spell no run, else by the run's ranges.
use Rattle.std.proofs.lemmas.Result.{err_from_is_err_and}
use Rattle.byte_calls.proofs.Passing.{unspelt_outside, spelt_decides, spelt_inside}
use Rattle.byte_calls.proofs.runs.run_tested.Goals as goal

pub returns-in_err-run_spelt-clause-refusal : goal.returns-in_err-run_spelt-clause-refusal
returns-in_err-run_spelt-clause-refusal c =
    let p = err_from_is_err_and c.from_residual.result c.from_residual.ensures.1 in
    rw (p.1, p.2) (unspelt_outside _ _ _ c.in_err-run_spelt.ensures)

pub returns-clause-refusal : goal.returns-clause-refusal
returns-clause-refusal c = spelt_decides _ _ _ _ c.in_ok-run_spelt.ensures c.tested.ensures.refusal

pub returns-clause-run : goal.returns-clause-run
returns-clause-run c = spelt_inside _ _ _ c.tested.result c.in_ok-run_spelt.ensures c.tested.ensures.refusal c.tested.ensures.same
