use Rattle.std.proofs.lemmas.Result.{err_from_is_err_and}
use Rattle.plan.proofs.Sound.{frame_speaks, ticks_speak}
use Rattle.plan.proofs.Plan.tested.Goals as goal

pub returns-in_err-frame_tested-clause-refusal : goal.returns-in_err-frame_tested-clause-refusal
returns-in_err-frame_tested-clause-refusal c =
    let p = err_from_is_err_and c.from_residual.result c.from_residual.ensures.1 in
    rw (p.1, p.2) (frame_speaks c.args.self _ c.in_err-frame_tested.ensures)

pub returns-in_err-ticks_tested-clause-refusal : goal.returns-in_err-ticks_tested-clause-refusal
returns-in_err-ticks_tested-clause-refusal c =
    let p = err_from_is_err_and c.from_residual-in_err-ticks_tested.result c.from_residual-in_err-ticks_tested.ensures.1 in
    rw (p.1, p.2) (ticks_speak c.args.self _ c.in_ok-frame_tested.ensures c.in_err-ticks_tested.ensures)
