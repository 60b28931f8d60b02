-- Line 1 by its two numbers, the three rule lines, the verdict line: at most 22 and 16, three times 64, and 24 bytes, so 254.
use Rattle.text.proofs.Puts.{◌then◌}
use Rattle.verdict_lines.proofs.put_verdict.Goals as goal

pub returns : goal.returns
returns c =
    c.put_numbered-first.ensures then c.put_ended-second.ensures then c.put_rule-third.ensures then c.put_rule-fourth.ensures then c.put_rule-fifth.ensures then c.put_outcome.ensures
