-- Two numbers, one after the other.
use Rattle.std.proofs.Common.{◌≡◌, ◌+◌, refl, ◌∙◌, arith}
use Rattle.run_bytes.specs.Numbers.{be64_bytes}
use Rattle.run_bytes.proofs.Numbers.{form64}
use Rattle.run_bytes.proofs.Sets.{sets_after}
use Rattle.answer_bytes.specs.Forms.{sides_bytes}
use Rattle.answer_bytes.proofs.verdicts.put_sides.Goals as goal

pub returns : goal.returns
unfolding sides_bytes
returns c =
    let a = c.args in
    let left : c.to_be_bytes.result ≡ be64_bytes a.sides.left = c.to_be_bytes.ensures ∙ form64 _ (omega arith) in
    let right : c.to_be_bytes-2.result ≡ be64_bytes a.sides.right = c.to_be_bytes-2.ensures ∙ form64 _ (omega arith) in
    rw (c.put-2.ensures, c.put.ensures, left, right) (sets_after a.bytes.now a.at (a.at + 8) (be64_bytes a.sides.left) (be64_bytes a.sides.right) refl)
