use Rattle.std.proofs.Common.{rules, ◌∙◌}
use Rattle.letters.proofs.Spelling.{step_byte}
use Rattle.letters.proofs.step_by.Goals as goal

pub returns : goal.returns
returns c = c.from.ensures ∙ rw (c.unwrap_or.ensures, c.try_from.ensures) (step_byte c.args.letter c.args.number)
