-- The newline stands where the number ended; 10 bytes of room and 1 are 11.
use Rattle.std.proofs.Common.{arith}
use Rattle.text.proofs.Puts.{put_more, ◌then◌}
use Rattle.text.proofs.put_ended.Goals as goal

pub returns : goal.returns
returns c = put_more _ (omega arith) (c.put_numbered-end.ensures then c.put_byte.ensures)
