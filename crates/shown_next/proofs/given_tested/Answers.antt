-- Past due, out of step, or neither: in step and on time the next step is legal (`next_legal`) and needs no test.
use Rattle.std.proofs.Common.{◌≡◌, None, Some, sym, ◌∙◌, rules}
use Rattle.shown.specs.Shown.{place_of}
use Rattle.shown.proofs.Play.{next_legal}
use Rattle.shown.proofs.Giving.{given_stops, given_late, given_takes}
use Rattle.shown_look.proofs.Looks.{looked_late, looked_on_time}
use Rattle.shown_next.proofs.given_tested.Goals as goal

pub returns-in_err-seen-clause-given : goal.returns-in_err-seen-clause-given
returns-in_err-seen-clause-given c =
    let P = c.args.showing.run.plan.plan in
    let parts = c.args.showing.parts in
    let q = place_of c.args.showing in
    let late = looked_late P parts q c.in_err-seen.ensures in
    let none : c.from_residual.result ≡ None = search rules in
    rw none (sym (given_late P parts q late))

pub is_out-requires : goal.is_out-requires
is_out-requires c =
    let P = c.args.showing.run.plan.plan in
    let parts = c.args.showing.parts in
    let q = place_of c.args.showing in
    (looked_on_time P parts q c.in_ok-seen.seen c.in_ok-seen.ensures).1

pub returns-then-is_out-clause-given : goal.returns-then-is_out-clause-given
returns-then-is_out-clause-given c =
    sym (given_stops c.args.showing.run.plan.plan c.args.showing.parts (place_of c.args.showing) (sym c.is_out.ensures ∙ c.if-is_out.true))

pub next_step-step-requires : goal.next_step-step-requires
next_step-step-requires c =
    let P = c.args.showing.run.plan.plan in
    let parts = c.args.showing.parts in
    let q = place_of c.args.showing in
    (looked_on_time P parts q c.in_ok-seen.seen c.in_ok-seen.ensures).1

-- in step and on time, the next step is legal
pub moved-next-requires : goal.moved-next-requires
moved-next-requires c =
    let P = c.args.showing.run.plan.plan in
    let parts = c.args.showing.parts in
    let q = place_of c.args.showing in
    let seen = looked_on_time P parts q c.in_ok-seen.seen c.in_ok-seen.ensures in
    rw c.next_step-step.ensures (next_legal P parts c.args.showing.run.plan.sound q c.args.showing.run.in_range (sym c.is_out.ensures ∙ c.if-is_out.false) seen.0)

pub returns-clause-given : goal.returns-clause-given
returns-clause-given c =
    let P = c.args.showing.run.plan.plan in
    let parts = c.args.showing.parts in
    let q = place_of c.args.showing in
    let step = c.next_step-step.result in
    let seen = looked_on_time P parts q c.in_ok-seen.seen c.in_ok-seen.ensures in
    let together = sym c.is_out.ensures ∙ c.if-is_out.false in
    let legal = next_legal P parts c.args.showing.run.plan.sound q c.args.showing.run.in_range together seen.0 in
    let taken = given_takes P parts q step (sym c.next_step-step.ensures) together seen.0 (rw c.next_step-step.ensures legal) in
    let moved = c.moved-next.ensures.run in
    let marked = c.mark_after.ensures in
    (λ j. Some (record { step = step; place = record { run = moved j; mark = marked j } })) ∙ sym taken
