use Rattle.std.proofs.Common.{Bool, ◌≡◌, ◌∙◌, ℕ, false, true, subst, arith, length, rules}
use Rattle.std.proofs.Math.ListN.{length-set}
use Rattle.std.proofs.lemmas.List.{length-replicate, length-take}
use Rattle.plan.proofs.Sound.{own_in_frame}
use Rattle.plan.specs.Sending.{sends}
use Rattle.gap.proofs.Table.{Marked, marked_none, marked_more, own_at}
use Rattle.gap.proofs.occupied.Goals as goal

pub loop-own-init : goal.loop-own-init
loop-own-init c = (rw c.requires (length-replicate 4096 false), rw c.requires (marked_none c.args.plan.plan 4096))

pub loop-own-preserved : goal.loop-own-preserved
loop-own-preserved c =
    let P = c.args.plan.plan in
    let at = own_at P c.loop-own.own-index c.loop-own-test.true in
    let w = own_in_frame P c.args.plan.sound c.loop-own.own-index at.below in
    (length-set c.loop-own.table _ true ∙ c.loop-own.invariant.0, rw at.is (marked_more P c.loop-own.own-index c.loop-own.table (omega (arith, w, c.args.plan.sound.frame_high, c.loop-own.invariant.0)) c.loop-own.invariant.1))

pub bounds-table-own : goal.bounds-table-own
bounds-table-own c =
    let P = c.args.plan.plan in
    let at = own_at P c.loop-own.own-index c.loop-own-test.true in
    omega (arith, at.is, own_in_frame P c.args.plan.sound c.loop-own.own-index at.below, c.args.plan.sound.frame_high)

pub returns : goal.returns
unfolding sends
returns c =
    let P = c.args.plan.plan in
    let long : length P.slots ≡ 32 = search rules in
    let e : c.loop-own.own-index ≡ P.nodes.0 = omega (arith, length-take P.nodes.0 P.slots, c.args.plan.sound.nodes_high) in
    record { long = omega (arith, c.loop-own.invariant.0); marks = subst (λ (n : ℕ). Marked P n c.loop-own.table) e c.loop-own.invariant.1 }
