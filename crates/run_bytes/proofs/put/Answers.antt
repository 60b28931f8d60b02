-- The form stands from `at` on, and the bytes round it as they were.
use Rattle.std.proofs.Common.{◌≡◌, ◌+◌, ◌-◌, ◌++◌, take, length, sym, ap, ◌∙◌, arith}
use Rattle.std.proofs.lemmas.List.{append_assoc, drop-drop}
use Rattle.std.proofs.lemmas.List.Edits.{sets-eq}
use Rattle.run_bytes.proofs.put.Goals as goal

pub returns : goal.returns
returns c =
    let xs = c.args.bytes.now in
    let form = c.args.form.now in
    let e : c.args.at + length form - c.args.at ≡ length form = omega arith in
    let placed = sym (sets-eq form xs c.args.at (omega arith) ∙ append_assoc (take c.args.at xs) form _) in
    rw (e, c.copy_from_slice.ensures.after) (ap (λ rest. take c.args.at xs ++ (form ++ rest)) (drop-drop (length form) c.args.at xs) ∙ placed)
