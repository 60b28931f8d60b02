-- The parts of a verdict, written one after the other, are the verdict's bytes.
use Prim.Native.Nat.{ℕ}
use mathlib.Core.Path.{◌≡◌, refl, sym, ◌∙◌}
use mathlib.Core.List.{List, ◌++◌}
use native.Mathlib.Omega.{arith}
use lib.ListN.{length, set}
use lib.Seq.{sets}
use Rattle.rules.specs.declared.Sides.{Sides}
use Rattle.rules.specs.declared.Verdict.{Verdict}
use Rattle.run_bytes.specs.Numbers.{be16_bytes}
use Rattle.run_bytes.proofs.Sets.{sets_after, sets_whole}
use Rattle.answer_bytes.specs.Forms.{outcome_number, sides_bytes, verdict_bytes}

sides_length : (s : Sides) → length (sides_bytes s) ≡ 16
unfolding sides_bytes
sides_length s = refl

pub verdict_length : (v : Verdict) → length (verdict_bytes v) ≡ 51
unfolding verdict_bytes sides_bytes
verdict_length v = refl

-- a list with the parts of a verdict put into it, one after the other
abbrev pub parts_put : List ℕ → Verdict → List ℕ
parts_put l v = sets (sets (sets (sets (set l 0 (outcome_number v.failed)) 1 (be16_bytes v.gap.0)) 3 (sides_bytes v.one)) 19 (sides_bytes v.two)) 35 (sides_bytes v.three)

parts_verdict : (l : List ℕ) (v : Verdict) → parts_put l v ≡ sets l 0 (verdict_bytes v)
unfolding verdict_bytes sides_bytes
parts_verdict l v =
    let head : List ℕ = sets (set l 0 (outcome_number v.failed)) 1 (be16_bytes v.gap.0) in
    let a = sides_length v.one in
    let b = sides_length v.two in
    sets_after (sets head 3 (sides_bytes v.one)) 19 35 (sides_bytes v.two) (sides_bytes v.three) (omega arith)
    ∙ sets_after head 3 19 (sides_bytes v.one) (sides_bytes v.two ++ sides_bytes v.three) (omega arith)

pub parts_whole : (l : List ℕ) (v : Verdict) → length l ≡ 51 → parts_put l v ≡ verdict_bytes v
parts_whole l v h = parts_verdict l v ∙ sets_whole l (verdict_bytes v) (h ∙ sym (verdict_length v))
