-- The rule's number, left side, right side, outcome: at most 15, 21, 21 and 7 bytes, so 64.
use Rattle.text.proofs.Puts.{◌then◌}
use Rattle.verdict_lines.proofs.put_rule.Goals as goal

pub returns : goal.returns
returns c =
    rw c.number.ensures at c.put_numbered-first.ensures then c.put_wide-second.ensures then c.put_wide-third.ensures then c.put_holds.ensures
