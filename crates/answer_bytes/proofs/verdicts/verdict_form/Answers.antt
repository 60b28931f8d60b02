-- Each part by its own form; together they fill the 51 bytes.
use Rattle.std.proofs.Common.{◌≡◌, replicate, ◌∙◌, refl, arith, rules}
use Rattle.run_bytes.specs.Numbers.{be16_bytes}
use Rattle.run_bytes.proofs.Numbers.{form16}
use Rattle.answer_bytes.specs.Forms.{outcome_number}
use Rattle.answer_bytes.proofs.VerdictParts.{parts_whole}
use Rattle.answer_bytes.proofs.verdicts.verdict_form.Goals as goal

pub returns : goal.returns
returns c =
    let v = c.args.verdict in
    let gap : c.to_be_bytes.result ≡ be16_bytes v.gap.0 = c.to_be_bytes.ensures ∙ form16 _ (omega arith) in
    let number : c.map_or.result ≡ outcome_number v.failed = search rules in
    rw (c.put_sides-3.ensures, c.put_sides-2.ensures, c.put_sides.ensures, c.put-2.ensures, c.put.ensures, gap, number)
    (parts_whole (replicate 51 0) v refl)
