-- By the rule. In rule 2 the node that sends in s is below N (`widest`), so its slot can be read; in rule 3 both
-- slots are 0, and silent in both is silent in one (`and_self`).
use Rattle.std.proofs.Common.{ap, ◌∙◌, ◌&&◌, arith}
use mathlib.Core.Bool.{and_self}
use Rattle.laws.specs.Below.{first_below}
use Rattle.plan.specs.Sending.{own}
use Rattle.shown.specs.Parts.{silent_in, parts_with, parts_for}
use Rattle.shown.proofs.Casting.{widest}
use Rattle.shown_parts.proofs.parts_tested.Goals as goal

pub bounds-plan-widest : goal.bounds-plan-widest
bounds-plan-widest c =
    let o = c.args.plan.sound in
    omega (arith, c.widest_node-widest.ensures, o.nodes_high, (widest c.args.plan.plan o).below)

pub returns-in-Two : goal.returns-in-Two
unfolding parts_for
returns-in-Two c =
    let P = c.args.plan.plan in
    let p = c.widest_from-p-in-Two.ensures in
    let s = ap (own P) c.widest_node-widest.ensures in
    rw c.in-Two.is
    (c.parts_with-in-Two.ensures ∙ ap (parts_with P _) c.first_silent-fast.ensures ∙ λ j. parts_with P (p j) (first_below P.nodes.0 (λ i. silent_in P (p j) i && silent_in P (s j) i)))

pub returns-in-Three : goal.returns-in-Three
unfolding parts_for
returns-in-Three c =
    let P = c.args.plan.plan in
    rw c.in-Three.is
    (c.parts_with-in-Three.ensures ∙ ap (parts_with P 0) (c.first_silent-fast-in-Three.ensures ∙ λ j. first_below P.nodes.0 (λ i. and_self (silent_in P 0 i) j)))
