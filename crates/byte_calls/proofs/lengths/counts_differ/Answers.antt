-- With a remainder there are not five bytes for each answer; with none, the fifths are counted.
use Rattle.std.proofs.Common.{◌*◌, ap, not, arith}
use borrow.Author.Tests.{ne_eqb}
use Rattle.byte_calls.proofs.TwoLengths.{whole_fifths}
use Rattle.byte_calls.proofs.lengths.counts_differ.Goals as goal

pub returns-then-steps-ne0 : goal.returns-then-steps-ne0
returns-then-steps-ne0 c =
    let a = c.args in
    let z = c.if-steps-ne0.true in
    rw (ne_eqb _ 0 z, ne_eqb a.steps (5 * a.answers) (λ e. z (omega arith)))

pub returns-else-steps-ne0 : goal.returns-else-steps-ne0
returns-else-steps-ne0 c = ap not (whole_fifths _ _ c.if-steps-ne0.false)
