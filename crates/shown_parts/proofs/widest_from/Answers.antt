use Rattle.std.proofs.Common.{rules, ◌≡◌, ◌∙◌, min, take}
use Rattle.std.specs.List.{fold}
use Rattle.laws.proofs.Chains.{least_chain, least_same}
use Rattle.gap.specs.Distances.{no_distance}
use Rattle.gap.specs.Gap.{gap_of}
use Rattle.shown.specs.Parts.{predecessor_at, widest_from}
use Rattle.shown_parts.proofs.Widest.{held, predecessor_held}
use Rattle.shown_parts.proofs.widest_from.Goals as goal

pub returns : goal.returns
unfolding widest_from
returns c =
    let plan = c.args.plan in
    let P = plan.plan in
    let gap = c.args.gap in
    let nodes = c.args.distances.nodes in
    let high = plan.sound.nodes_high in
    let e : c.fold-least.result ≡ fold (λ a x. min a (held plan gap x)) P.frame.0 (take P.nodes.0 nodes) = search rules in
    e ∙ least_chain (held plan gap) P.frame.0 nodes P.nodes.0 no_distance (search rules)
    ∙ least_same P.frame.0 P.nodes.0 _ (predecessor_at P (gap_of P)) (predecessor_held plan c.args.distances gap c.requires.distances_value c.requires.gap_value)
