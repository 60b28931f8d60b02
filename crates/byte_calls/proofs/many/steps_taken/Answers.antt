use Rattle.std.proofs.Common.{◌≡◌, ◌*◌, refl, ap, ◌∙◌, arith}
use Rattle.std.specs.Result.{result_err}
use Rattle.laws.specs.Bytes.{byte_at}
use Rattle.byte_calls.specs.Many.{asked_of, asked_at, after_asked}
use Rattle.byte_calls.proofs.AskedOn.{asked_none, asked_more, answers_none, answers_more}
use Rattle.byte_calls.proofs.Passing.{step_left, refused_left}
use Rattle.byte_calls.proofs.many.steps_taken.Goals as goal
use Rattle.byte_calls.proofs.many.steps_taken.Goals.{in-Ok, in-Err}

pub loop-k-init : goal.loop-k-init
loop-k-init c = (refl, asked_none _ _ _, answers_none _ _ _ _)

pub loop-k-preserved : goal.loop-k-preserved
loop-k-preserved c =
    let a = c.args in
    let P = a.run.plan.plan in
    let steps = a.steps.now in
    let l = c.loop-k in
    let before = after_asked P steps l.k a.run.run in
    let asked : asked_of l.state.plan.plan l.state.run (byte_at steps (5 * l.k)) c.be32.result ≡ asked_at P steps l.k before = rw (l.invariant.0, l.invariant.1, c.be32.ensures) in
    elim c.match-step_asked.branch [
      | in-Ok w ↦
          let left = step_left (asked_at P steps l.k before) before w.in-Ok.next.run (w.in-Ok.ensures.moved.1 ∙ asked) in
          (rw w.state-is (w.in-Ok.ensures.moved.0 ∙ l.invariant.0), rw w.state-is (left.0 ∙ asked_more P steps a.run.run l.k), rw w.answers-is (answers_more P steps a.run.run l.k a.answers.now l.answers 0 (omega arith) l.invariant.2 left.1))
      | in-Err w ↦
          let left = refused_left (asked_at P steps l.k before) before w.in-Err.refusal (w.in-Err.ensures.refusal ∙ ap result_err asked) in
          (rw w.state-is l.invariant.0, rw w.state-is (l.invariant.1 ∙ left.0 ∙ asked_more P steps a.run.run l.k), rw w.answers-is (answers_more P steps a.run.run l.k a.answers.now l.answers w.number.result (omega arith) l.invariant.2 (w.number.ensures ∙ left.1)))
    ]
