use Rattle.std.proofs.Common.{◌≡◌, refl, ◌∙◌, arith, rules}
use Rattle.std.proofs.lemmas.List.{get_or-take, length-take}
use Rattle.run.specs.State.{fresh_node}
use Rattle.run_bytes.specs.RunBytes.{run_bytes}
use Rattle.run_bytes.proofs.Written.{nodes_none, nodes_more}
use Rattle.run_bytes.proofs.write_run.Goals as goal

pub loop-k-init : goal.loop-k-init
loop-k-init c = (nodes_none _ _, refl)

pub loop-k-preserved : goal.loop-k-preserved
loop-k-preserved c =
    let l = c.loop-k in
    let node = get_or-take c.args.nodes c.args.run.nodes l.k fresh_node (omega (arith, length-take c.args.nodes c.args.run.nodes)) in
    (c.write_node.ensures ∙ rw (l.invariant.0, node) (nodes_more l.k _ _), search rules)

pub returns : goal.returns
unfolding run_bytes
returns c =
    let l = c.loop-k in
    let a = c.args in
    let e : l.k ≡ a.nodes = omega arith in
    c.write_last.ensures ∙ rw (run_bytes, l.invariant.0, e)
