-- A number below 2 ^ 32 has at most 10 digits, so that is room for it where the word ended; both are one text.
use Rattle.std.proofs.Common.{arith}
use Rattle.text.proofs.Decimals.{decimal_number}
use Rattle.text.proofs.Puts.{put_within, ◌then◌}
use Rattle.text.proofs.put_numbered.Goals as goal

pub put_digits-requires : goal.put_digits-requires
put_digits-requires c = omega (arith, decimal_number)

pub returns : goal.returns
returns c = c.put_word-digits.ensures then put_within _ (decimal_number _ c.ranges.number.fits) c.put_digits.ensures
