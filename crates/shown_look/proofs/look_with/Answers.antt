use Rattle.std.proofs.Common.{◌≡◌, ◌-◌, ap, ◌∙◌, arith, rules, tests}
use Rattle.std.specs.Prelude.{Some}
use Rattle.shown_look.specs.Looking.{seen_from}
use Rattle.shown_look.proofs.Looks.{seen_nothing, late_looked, on_time_looked}
use Rattle.shown_look.proofs.look_with.Goals as goal

pub loop-i-init : goal.loop-i-init
loop-i-init c = (λ k l m. absurd (omega arith), seen_nothing c.args.plan.plan c.args.parts (record { run = c.args.run.now; mark = c.args.mark }))

pub returns-then-lt : goal.returns-then-lt
returns-then-lt c =
    late_looked c.args.plan.plan c.args.parts (record { run = c.args.run.now; mark = c.args.mark }) (c.loop-i.i - 1) (search rules) (rw (← c.due_time-due.ensures) (search (rules, tests)))

pub returns : goal.returns
returns c =
    let e : c.loop-i.i ≡ 0 = omega arith in
    ap Some (c.loop-i.invariant.1 ∙ ap (seen_from c.args.plan.plan c.args.parts (record { run = c.args.run.now; mark = c.args.mark })) e)
    ∙ on_time_looked c.args.plan.plan c.args.parts (record { run = c.args.run.now; mark = c.args.mark }) (λ k m. c.loop-i.invariant.0 k (omega arith) m)
