-- 4,096 slots of 255 ticks are 1,044,480, which is the bound; one slot or more has at least k0 ticks.
use Rattle.std.proofs.Common.{◌≤◌, refl, arith, rules}
use native.Mathlib.Nat.{mul-le-mul, mul-le-mul_right}
use Rattle.laws.proofs.Products.{fits_product}
use Rattle.rules.proofs.slots_ticks.Goals as goal

pub overflow_mul-result : goal.overflow_mul-result
overflow_mul-result c = fits_product 4096 255 (omega arith) (search rules) tt

pub returns : goal.returns
returns c =
    let k : c.args.plan.ticks.0 ≤ 255 = search rules in
    rw (c.from.ensures, c.from-2.ensures) (refl, omega (arith, mul-le-mul_right c.args.plan.ticks.0 c.requires.1), mul-le-mul c.requires.0 k)
