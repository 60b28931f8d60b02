-- 1,044,480 ticks of 2,000,000 time units each fit in 64 bits.
use Rattle.std.proofs.Common.{arith}
use Rattle.laws.proofs.Products.{fits_product}
use Rattle.rules.proofs.ticks_at.Goals as goal

pub overflow_mul-result : goal.overflow_mul-result
overflow_mul-result c = fits_product 1044480 2000000 (omega arith) (omega arith) tt
