use Rattle.std.proofs.Common.{◌∙◌, ◌-◌, arith, rules}
use Rattle.gap.specs.Distances.{taken}
use Rattle.gap.proofs.Table.{nearest_none, nearest_here, nearest_on, nearest_skip}
use Rattle.gap.proofs.+nearest_taken.Goals as goal

pub returns-then-left-eq0 : goal.returns-then-left-eq0
returns-then-left-eq0 t c = (nearest_none _ _ _ _ c.if-left-eq0.true, search rules)

pub returns-then-table-slot : goal.returns-then-table-slot
returns-then-table-slot t c = (nearest_here _ _ _ _ c.if-table-slot.true, search rules)

pub returns : goal.returns
returns t c =
    let free = c.free_before-free in
    let back = c.slot_before-before in
    let f = taken c.args.table.now in
    let skip = nearest_skip f c.args.frame.0 (c.args.left.0 - 1) back.result.0 free.result.0 (omega arith) (omega arith) back.ensures.1 free.ensures.1 in
    let on = nearest_on f c.args.frame.0 c.args.left.0 c.args.slot.0 c.if-left-eq0.false c.if-table-slot.false in
    (c.nearest_taken.ensures.0 ∙ skip ∙ rw back.ensures.0 on, c.nearest_taken.ensures.1)
