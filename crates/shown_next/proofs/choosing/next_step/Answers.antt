-- The four nodes seen, in turn: the first below N goes, N is nobody. `chosen_next` says that this is the next step.
use Rattle.std.proofs.Common.{◌∙◌}
use borrow.Author.Tests.{lt-ltb, le-ltb}
use Rattle.run.specs.declared.Step.TheVariants.{Delay}
use Rattle.shown.specs.Shown.{place_of}
use Rattle.shown_look.proofs.Looks.{chosen_next}
use Rattle.shown_next.proofs.choosing.next_step.Goals as goal

pub returns-then-seen-nodes : goal.returns-then-seen-nodes
returns-then-seen-nodes c =
    rw (lt-ltb _ _ c.if-seen-nodes.true) at (chosen_next c.args.showing.run.plan.plan c.args.showing.parts (place_of c.args.showing) c.args.seen c.requires)

pub returns-then-seen-nodes-2 : goal.returns-then-seen-nodes-2
returns-then-seen-nodes-2 c =
    rw (le-ltb _ _ c.if-seen-nodes.false, lt-ltb _ _ c.if-seen-nodes-2.true) at (chosen_next c.args.showing.run.plan.plan c.args.showing.parts (place_of c.args.showing) c.args.seen c.requires)

pub returns-then-seen-nodes-3 : goal.returns-then-seen-nodes-3
returns-then-seen-nodes-3 c =
    rw (le-ltb _ _ c.if-seen-nodes.false, le-ltb _ _ c.if-seen-nodes-2.false, lt-ltb _ _ c.if-seen-nodes-3.true) at (chosen_next c.args.showing.run.plan.plan c.args.showing.parts (place_of c.args.showing) c.args.seen c.requires)

pub returns-then-seen-nodes-4 : goal.returns-then-seen-nodes-4
returns-then-seen-nodes-4 c =
    rw (le-ltb _ _ c.if-seen-nodes.false, le-ltb _ _ c.if-seen-nodes-2.false, le-ltb _ _ c.if-seen-nodes-3.false, lt-ltb _ _ c.if-seen-nodes-4.true) at (chosen_next c.args.showing.run.plan.plan c.args.showing.parts (place_of c.args.showing) c.args.seen c.requires)

pub returns : goal.returns
returns c =
    let wait = c.time_to_due.ensures in
    (λ j. Delay (record { 0 = wait j }))
    ∙ rw (le-ltb _ _ c.if-seen-nodes.false, le-ltb _ _ c.if-seen-nodes-2.false, le-ltb _ _ c.if-seen-nodes-3.false, le-ltb _ _ c.if-seen-nodes-4.false) at (chosen_next c.args.showing.run.plan.plan c.args.showing.parts (place_of c.args.showing) c.args.seen c.requires)
