use Rattle.std.proofs.Common.{ap, length, arith}
use Rattle.text.proofs.Decimals.{decimal_one, decimal_more, length_more}
use Rattle.text.proofs.Puts.{put_as, ◌then◌}
use Rattle.text.proofs.+put_digits.Goals as goal

pub put_byte-requires : goal.put_byte-requires
put_byte-requires t c = omega (arith, ap length (decimal_one c.args.number c.if-number-lt10.true))

pub returns-then-number-lt10 : goal.returns-then-number-lt10
returns-then-number-lt10 t c = put_as (decimal_one _ c.if-number-lt10.true) c.put_byte.ensures

pub put_digits-last-requires : goal.put_digits-last-requires
put_digits-last-requires t c = (omega arith, omega (arith, length_more c.args.number (omega arith) (omega arith)))

pub put_byte-requires-2 : goal.put_byte-requires-2
put_byte-requires-2 t c = omega (arith, length_more c.args.number (omega arith) (omega arith))

pub returns : goal.returns
returns t c = put_as (decimal_more _ c.if-number-lt10.false (omega arith)) (c.put_digits-last.ensures then c.put_byte-2.ensures)
