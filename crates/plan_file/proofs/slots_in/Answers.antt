use Rattle.std.proofs.Common.{◌≡◌, ℕ, ap, ◌∙◌, length, replicate, arith}
use borrow.Author.Tests.{lt-ltb, le-ltb}
use Rattle.std.proofs.lemmas.List.{length-replicate}
use Rattle.plan.specs.declared.Slot.{Slot}
use Rattle.plan_file.specs.File.{nodes_in, slot_at, slots_of}
use Rattle.laws.proofs.Overs.{over_more}
use Rattle.laws.specs.Over.{over}
use Rattle.plan_file.proofs.slots_in.Goals.{then-place-nodes, else-place-nodes}
use Rattle.plan_file.proofs.slots_in.Goals as goal

pub loop-place-preserved : goal.loop-place-preserved
unfolding slot_at
loop-place-preserved c =
    let l = c.loop-place in
    let file = c.args.file.now in
    let zero : Slot = record { 0 = 0 } in
    let long : length (replicate 32 zero) ≡ 32 = length-replicate 32 zero in
    let read : c.if-place-nodes.slot.0 ≡ slot_at file l.place =
    elim c.if-place-nodes.branch [
      | then-place-nodes w ↦ rw (w.slot-is, lt-ltb l.place (nodes_in file) (omega arith), w.be16.ensures)
      | else-place-nodes w ↦ rw (w.slot-is, le-ltb l.place (nodes_in file) (omega arith))
    ] in
    over_more l.place _ (replicate 32 zero) l.slot-items zero c.if-place-nodes.slot (omega arith) l.invariant (λ j. record { 0 = read j })

pub returns : goal.returns
unfolding slots_of
returns c =
    let file = c.args.file.now in
    let e : c.loop-place.place ≡ 32 = omega arith in
    let zero : Slot = record { 0 = 0 } in
    c.loop-place.invariant ∙ ap (λ (n : ℕ). over n (λ k x. record { 0 = slot_at file k }) (replicate 32 zero)) e
