use Rattle.std.proofs.Common.{◌-◌, ℕ, min, rules, tests}
use mathlib.Core.Path.{◌∙◌}
use Rattle.std.proofs.lemmas.Iterator.{YieldsList-from_range}
use Rattle.std.proofs.lemmas.Iterator.Consumers.{fold_from_yields_List}
use Rattle.laws.proofs.Chains.{least_range}
use Rattle.run.specs.State.{node}
use Rattle.shown.specs.Shown.{due_time}
use Rattle.shown_next.proofs.choosing.time_to_due.Goals as goal

pub returns : goal.returns
returns c =
    let P = c.args.showing.run.plan.plan in
    let left = λ (k : ℕ). due_time P c.args.showing.parts c.args.showing.mark k - (node c.args.showing.run.run k).time.0 in
    fold_from_yields_List _ (λ a k. min a (left k)) _ _ c.fold.ensures.ran (YieldsList-from_range 0 P.nodes.0 P.nodes.0 (cc) (search rules)) (λ a x b q k. search (rules, tests))
    ∙ least_range left P.max.0 P.nodes.0
