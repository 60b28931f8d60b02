-- A failed rule's parts have a sender below N (`cast`); the verdict holds M (`verdict_gap`).
use Rattle.std.proofs.Common.{sym, ap, ◌∙◌}
use Rattle.rules.specs.declared.Verdict.{Verdict}
use Rattle.rules.proofs.Preparing.{verdict_gap}
use Rattle.shown.proofs.Casting.{cast}
use Rattle.shown_next.proofs.showing.Goals as goal

pub parts_tested-requires-clause-gap_value : goal.parts_tested-requires-clause-gap_value
parts_tested-requires-clause-gap_value c = verdict_gap c.args.prepared.plan.plan c.args.prepared.verdict c.args.prepared.verdict_right

pub invariant_of-result : goal.invariant_of-result
invariant_of-result c =
    let plan = c.args.prepared.plan in
    let fails = ap (λ (v : Verdict). v.failed) (sym c.args.prepared.verdict_right) ∙ c.in_ok-rule.was in
    record { sender_is_a_node = rw (c.parts_tested.ensures, c.requires) (cast plan.plan plan.sound _ fails).roles.sender_below }
