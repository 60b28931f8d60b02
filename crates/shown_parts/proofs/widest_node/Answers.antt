use Rattle.std.proofs.Common.{rules, tests, eqb, ◌∙◌, get_or}
use Rattle.std.proofs.lemmas.Iterator.{YieldsList-from_slice}
use Rattle.laws.proofs.Chains.{position_in, first_or_end, first_same}
use Rattle.gap.specs.declared.NodeDistance.{NodeDistance}
use Rattle.gap.specs.Distances.{no_distance}
use Rattle.gap.specs.Gap.{gap_of}
use Rattle.shown.specs.Parts.{predecessor_at, widest_from, widest_node}
use Rattle.shown_parts.proofs.Widest.{held, predecessor_held}
use Rattle.shown_parts.proofs.widest_node.Goals as goal

pub returns : goal.returns
unfolding widest_node
returns c =
    let plan = c.args.plan in
    let P = plan.plan in
    let gap = c.args.gap in
    let nodes = c.args.distances.nodes in
    let from = c.args.from.0 in
    c.unwrap_or.ensures ∙ first_or_end _ _ (position_in (λ (x : NodeDistance). eqb (held plan gap x) from) nodes P.nodes.0 no_distance _ _ (search rules) c.position-found.ensures.ran (YieldsList-from_slice _ cc) (λ x b q k. search (rules, tests)))
    ∙ first_same P.nodes.0 (λ i. eqb (held plan gap (get_or nodes i no_distance)) from) (λ i. eqb (predecessor_at P (gap_of P) i) (widest_from P)) (λ i h. rw (predecessor_held plan c.args.distances gap c.requires.distances_value c.requires.gap_value i h, c.requires.from_value))
