-- The copy stands from `at` on, and the bytes round it as they were.
use Rattle.std.proofs.Common.{◌≡◌, ◌+◌, ◌-◌, ◌++◌, take, length, sym, ap, refl, ◌∙◌, arith}
use Rattle.std.proofs.lemmas.List.{append_assoc, drop-drop}
use Rattle.std.proofs.lemmas.List.Edits.{sets-eq}
use Rattle.text.proofs.put_word.Goals as goal

pub returns : goal.returns
returns c =
    let xs = c.args.out.now in
    let word = c.args.word.now in
    let e : c.args.at + length word - c.args.at ≡ length word = omega arith in
    let placed = sym (sets-eq word xs c.args.at (omega arith) ∙ append_assoc (take c.args.at xs) word _) in
    record { holds = rw (e, c.copy_from_slice.ensures.after) (ap (λ rest. take c.args.at xs ++ (word ++ rest)) (drop-drop (length word) c.args.at xs) ∙ placed); ends = refl; within = omega arith }
