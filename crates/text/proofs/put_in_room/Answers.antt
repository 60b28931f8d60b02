-- With the room the text is what `put` put; without it nothing is put.
use Rattle.std.proofs.Common.{sym, refl, ◌∙◌}
use Rattle.text.proofs.Written.{wrote, no_room}
use Rattle.text.proofs.put_in_room.Goals as goal

pub returns-then-has_room-clause-value : goal.returns-then-has_room-clause-value
returns-then-has_room-clause-value g c text puts =
    (wrote _ (sym c.has_room.ensures ∙ c.if-has_room.true) (puts _ _ (record { shown = _; shows = refl; left = _; met = c.put.ensures; leaves = refl }))).0

pub returns-then-has_room-clause-out_after : goal.returns-then-has_room-clause-out_after
returns-then-has_room-clause-out_after g c text puts =
    (wrote _ (sym c.has_room.ensures ∙ c.if-has_room.true) (puts _ _ (record { shown = _; shows = refl; left = _; met = c.put.ensures; leaves = refl }))).1

pub returns : goal.returns
returns g c =
    let none = sym c.has_room.ensures ∙ c.if-has_room.false in
    record { value = λ text _. (no_room _ _ _ text none).0; out_after = λ text _. (no_room _ _ _ text none).1 }
