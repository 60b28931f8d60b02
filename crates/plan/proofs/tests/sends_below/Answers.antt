use Rattle.std.proofs.Common.{◌≡◌, ◌<◌, ◌||◌, sym, ap, ◌∙◌, arith, eqb, length, get_or, take, rules}
use Rattle.std.proofs.lemmas.List.{length-take, get_or-take}
use Rattle.laws.proofs.Belows.{any_none, any_next}
use Rattle.plan.specs.declared.Slot.{Slot}
use Rattle.plan.specs.Sending.{own, sends_below}
use Rattle.plan.proofs.tests.sends_below.Goals as goal

pub loop-own-init : goal.loop-own-init
loop-own-init c = sym (any_none _)

pub loop-own-preserved : goal.loop-own-preserved
loop-own-preserved c =
    let P = c.args.plan in
    let k = c.loop-own.own-index in
    let s = c.args.slot.0 in
    let l : k < c.args.count = omega (arith, c.loop-own-test.true, length-take c.args.count P.slots) in
    let e = c.eq-found.ensures ∙ ap (λ (x : Slot). eqb x.0 s) (get_or-take c.args.count P.slots k (record { 0 = 0 }) l) in
    (λ j. c.loop-own.invariant j || e j) ∙ sym (any_next k (λ i. eqb (own P i) s))

pub returns : goal.returns
returns c =
    let P = c.args.plan in
    let long : length P.slots ≡ 32 = search rules in
    let e : c.loop-own.own-index ≡ c.args.count = omega (arith, length-take c.args.count P.slots, c.requires) in
    c.loop-own.invariant ∙ ap (λ n. sends_below P n c.args.slot.0) e
