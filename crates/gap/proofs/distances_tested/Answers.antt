use Rattle.std.proofs.Common.{ℕ, ◌≡◌, ap, ◌∙◌, length, replicate, arith, rules}
use Rattle.std.proofs.lemmas.List.{length-replicate, length-take}
use Rattle.laws.specs.Over.{over}
use Rattle.laws.proofs.Overs.{over_none, over_more}
use Rattle.plan.specs.Sending.{own}
use Rattle.plan.proofs.Sound.{own_in_frame}
use Rattle.gap.specs.declared.NodeDistance.{NodeDistance}
use Rattle.gap.specs.Distances.{node_distance, no_distance, distances_of}
use Rattle.gap.proofs.Table.{own_at}
use Rattle.gap.proofs.distances_tested.Goals as goal

pub loop-i-init : goal.loop-i-init
loop-i-init c = over_none _ _

pub node_distance-requires : goal.node_distance-requires
node_distance-requires c =
    let P = c.args.plan.plan in
    let at = own_at P c.loop-i.i c.loop-i-test.true in
    (c.occupied.ensures, rw at.is (own_in_frame P c.args.plan.sound c.loop-i.i at.below))

pub bounds-nodes-i : goal.bounds-nodes-i
bounds-nodes-i c = omega (arith, (own_at c.args.plan.plan c.loop-i.i c.loop-i-test.true).below, c.args.plan.sound.nodes_high)

pub loop-i-preserved : goal.loop-i-preserved
loop-i-preserved c =
    let P = c.args.plan.plan in
    let at = own_at P c.loop-i.i c.loop-i-test.true in
    let n = c.args.plan.sound.nodes_high in
    let long : length (replicate 32 no_distance) ≡ 32 = length-replicate 32 no_distance in
    over_more c.loop-i.i (λ (k : ℕ) (x : NodeDistance). node_distance P (own P k)) (replicate 32 no_distance) c.loop-i.nodes no_distance c.node_distance.result (omega (arith, at.below)) c.loop-i.invariant (rw at.is at c.node_distance.ensures)

pub returns : goal.returns
unfolding distances_of
returns c =
    let P = c.args.plan.plan in
    let long : length P.slots ≡ 32 = search rules in
    let e : c.loop-i.i ≡ P.nodes.0 = omega (arith, length-take P.nodes.0 P.slots, c.args.plan.sound.nodes_high) in
    let q = c.loop-i.invariant ∙ ap (λ (n : ℕ). over n (λ (k : ℕ) (x : NodeDistance). node_distance P (own P k)) (replicate 32 no_distance)) e in
    λ j. record { nodes = q j }
