-- The largest of the nodes' distances, each its node's D.
use Rattle.std.proofs.Common.{rules, ◌≡◌, ap, ◌∙◌, arith, get_or, max, take}
use Rattle.std.specs.List.{fold}
use Rattle.laws.proofs.Belows.{largest_same}
use Rattle.laws.proofs.Chains.{largest_chain}
use Rattle.gap.specs.declared.NodeDistance.{NodeDistance}
use Rattle.gap.specs.Distances.{no_distance}
use Rattle.gap.specs.Gap.{distance_before, distance_for, gap_of}
use Rattle.gap.proofs.Table.{distances_at}
use Rattle.gap.proofs.gap_tested.Goals as goal

pub returns : goal.returns
unfolding gap_of distance_before
returns c =
    let P = c.args.plan.plan in
    let N = P.nodes.0 in
    let nodes = c.args.distances.nodes in
    let f = λ (x : NodeDistance). x.distance.0 in
    let high = c.args.plan.sound.nodes_high in
    let e : c.fold.result ≡ fold (λ a x. max a (f x)) 0 (take N nodes) = search rules in
    e ∙ largest_chain f nodes N no_distance (search rules)
    ∙ largest_same N (λ i. f (get_or nodes i no_distance)) (distance_for P) (λ i h. ap f (distances_at P c.args.distances c.requires i h (omega (arith, high))))
