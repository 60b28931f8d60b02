-- The two nodes, each after its word, and the newline: at most 14 and 12 bytes, so 26.
use Rattle.text.proofs.Puts.{◌then◌}
use Rattle.lines.specs.Lines.{out_text}
use Rattle.lines.proofs.put_out.Goals as goal

pub returns : goal.returns
unfolding out_text
returns c = c.put_numbered-first.ensures then c.put_ended.ensures
