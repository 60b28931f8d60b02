-- Accepted has 16 bytes; a failed rule is named by its number, with at most 24 bytes.
use Rattle.std.proofs.Common.{arith}
use Rattle.text.proofs.Puts.{put_more}
use Rattle.verdict_lines.proofs.put_outcome.Goals as goal

pub returns-in-None : goal.returns-in-None
returns-in-None c = rw c.in-None.is (put_more 24 (omega arith) c.put_word.ensures)

pub returns-in-Some : goal.returns-in-Some
returns-in-Some c = rw c.in-Some.is (rw c.number.ensures at c.put_ended.ensures)
