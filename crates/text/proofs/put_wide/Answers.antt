-- 20 places hold every number below 2 ^ 64, so that is room for it where the word ended; both are one text.
use Rattle.std.proofs.Common.{arith}
use Rattle.text.proofs.Decimals.{decimal_wide}
use Rattle.text.proofs.Puts.{put_within, ◌then◌}
use Rattle.text.proofs.put_wide.Goals as goal

pub put_digits-requires : goal.put_digits-requires
put_digits-requires c = omega (arith, decimal_wide)

pub returns : goal.returns
returns c = c.put_word-digits.ensures then put_within _ (decimal_wide _ c.ranges.number.fits) c.put_digits.ensures
