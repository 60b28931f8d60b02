-- The table marks exactly the sending slots, so the nearest taken slot before a slot is its predecessor.
use Rattle.std.proofs.Common.{◌≡◌, ◌∙◌, ◌+◌, ◌-◌, ◌%◌}
use Rattle.laws.specs.Ring.{distance}
use Rattle.plan.specs.Sending.{sends}
use Rattle.gap.specs.Distances.{taken}
use Rattle.gap.specs.Gap.{slot_before, predecessor, distance_before}
use Rattle.gap.proofs.Table.{nearest_same}
use Rattle.gap.proofs.node_distance.Goals as goal

pub returns : goal.returns
unfolding predecessor distance_before distance
returns c =
    let P = c.args.plan.plan in
    let C = P.frame.0 in
    let back = c.slot_before-before.ensures in
    let same = nearest_same (taken c.args.table.now) (sends P) C (C - 1) (slot_before C c.args.slot.0) (rw back.0 at back.1) (λ x l. c.requires.0.marks x) in
    let p : c.nearest_taken-predecessor.result.0 ≡ predecessor P c.args.slot.0 = rw back.0 at c.nearest_taken-predecessor.ensures.0 ∙ same in
    λ j. record { predecessor = record { 0 = p j }; distance = record { 0 = (c.args.slot.0 + C - p j) % C } }
