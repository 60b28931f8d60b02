-- A node was seen sending: the test tells. None was: the run is not out of step (`silent_in_step`).
use Rattle.std.proofs.Common.{sym, ◌∙◌, rules, tests}
use borrow.Author.Tests.{le-ltb}
use Rattle.shown.specs.Shown.{place_of}
use Rattle.shown_look.proofs.Looks.{silent_in_step}
use Rattle.shown_next.proofs.is_out.Goals as goal

pub returns-else-lt : goal.returns-else-lt
returns-else-lt c =
    search (rules, tests)
    ∙ sym (silent_in_step c.args.showing.run.plan.plan c.args.showing.parts (place_of c.args.showing) c.args.seen c.requires (search (rules, tests)))
