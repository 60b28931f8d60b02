use Rattle.std.proofs.Common.{◌≡◌, take, length, arith}
use Rattle.std.proofs.lemmas.List.{length-take}
use Rattle.run.specs.State.{fresh_node, fresh_run}
use Rattle.laws.proofs.Overs.{over_none, over_more, over_end}
use Rattle.run_bytes.specs.RunBytes.{last_in, run_in}
use Rattle.run_bytes.proofs.RoundTrip.{fresh_places}
use Rattle.run_bytes.proofs.read_run.Goals as goal

pub loop-k-init : goal.loop-k-init
loop-k-init c = rw c.fresh.ensures (over_none _ _)

pub loop-k-preserved : goal.loop-k-preserved
loop-k-preserved c =
    let few = c.requires.0 in
    let long : length (take c.args.nodes fresh_run.nodes) ≡ c.args.nodes = omega (arith, length-take c.args.nodes fresh_run.nodes, fresh_places) in
    let same : length (take c.args.nodes c.fresh.result.nodes) ≡ length (take c.args.nodes fresh_run.nodes) = rw c.fresh.ensures in
    over_more c.loop-k.k _ (take c.args.nodes fresh_run.nodes) _ fresh_node _ (omega arith) c.loop-k.invariant c.node_in.ensures

pub returns : goal.returns
unfolding run_in fresh_run
returns c =
    let few = c.requires.0 in
    let long : length (take c.args.nodes fresh_run.nodes) ≡ c.args.nodes = omega (arith, length-take c.args.nodes fresh_run.nodes, fresh_places) in
    let same : length (take c.args.nodes c.fresh.result.nodes) ≡ length (take c.args.nodes fresh_run.nodes) = rw c.fresh.ensures in
    let places = over_end c.args.nodes c.loop-k.k _ fresh_run.nodes _ (omega arith) c.loop-k.invariant in
    rw (c.fresh.ensures, c.last_in.ensures, run_in) (λ j. record { nodes = places j; last = last_in c.args.bytes.now })
