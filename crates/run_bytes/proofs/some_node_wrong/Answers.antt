use Rattle.std.proofs.Common.{rules, tests, ◌*◌}
use Rattle.std.proofs.lemmas.Iterator.{YieldsList-from_range}
use Rattle.laws.proofs.Chains.{any_in_range}
use Rattle.run_bytes.specs.RunBytes.{node_wrong}
use Rattle.run_bytes.proofs.some_node_wrong.Goals as goal

pub returns : goal.returns
returns c =
    any_in_range (λ k. node_wrong c.args.bytes.now (9 * k)) c.args.nodes _ _ c.any.ensures.ran (YieldsList-from_range 0 c.args.nodes c.args.nodes (cc) (search rules)) (λ x b q k. search (rules, tests))
