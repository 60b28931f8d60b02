use Rattle.std.proofs.Common.{sym, ap, refl}
use Rattle.rules.specs.declared.Verdict.{Verdict}
use Rattle.shown.specs.Shown.{fresh_place}
use Rattle.judging.proofs.Giving.{failing_fresh, gives_less, goes_on}
use Rattle.judging.proofs.show.Goals as goal

pub loop-step-init : goal.loop-step-init
unfolding fresh_place
loop-step-init g c =
    let same = c.in-Some.ensures.same in
    let fails = ap (λ (v : Verdict). v.failed) (sym c.args.prepared.verdict_right) in
    failing_fresh c.in-Some.shown c.args.prepared.verdict.failed (rw (same.0, c.fresh-fresh.ensures.plan) fails) (rw same.0 c.in-Some.ensures.parts) (rw (same.1, c.fresh-fresh.ensures.run) refl)

pub loop-step-smaller : goal.loop-step-smaller
loop-step-smaller g c =
    gives_less c.loop-step.shown c.in-Some-given_tested.next c.in-Some-given_tested.step c.loop-step.invariant c.in-Some-given_tested.ensures.given
    c.in-Some-given_tested.ensures.same.0 c.in-Some-given_tested.ensures.same.1

pub loop-step-preserved : goal.loop-step-preserved
loop-step-preserved g c =
    goes_on c.loop-step.shown c.in-Some-given_tested.next c.in-Some-given_tested.step c.loop-step.invariant c.in-Some-given_tested.ensures.given
    c.in-Some-given_tested.ensures.same.0 c.in-Some-given_tested.ensures.same.1
