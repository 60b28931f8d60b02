-- What refusals 20 to 22 let through, files long enough for what is read of them; and which of 20 to 22 and 1 to 9 speaks first.
use Prim.Native.Nat.{ℕ, ◌+◌, ◌*◌, ◌≤◌}
use mathlib.Core.Path.{◌≡◌, refl, sym, ap, ◌∙◌}
use mathlib.Core.Bool.{true, false, not, ◌||◌}
use mathlib.Core.List.{List, []}
use borrow.Author.Tests.{ltb-false, eqb-true, eq-eqb, ne_eqb}
use lib.ListN.{length}
use lib.Dec.{eqb, ltb}
use Rattle.laws.proofs.Bools.{or_false_left, or_false_right, false_not_true}
use Rattle.laws.specs.Row.{given}
use Rattle.laws.proofs.Rows.{all_off, off_all, first_here, first_next}
use Rattle.std.specs.Prelude.{Option, None, Some, Ok, Err}
use Rattle.std.proofs.lemmas.Option.{none-some}
use Rattle.std.specs.Result.{result_err}
use Rattle.std.specs.Option.{option_or}
use Rattle.plan.specs.declared.refusal.Refusal.{Refusal}
use Rattle.plan.specs.declared.refusal.Refusal.TheVariants.{NotAPlanFile, VersionUnknown, LengthWrong}
use Rattle.plan.specs.Tested.{plan_refusal}
use Rattle.laws.specs.Bytes.{byte_at}
use Rattle.plan_file.specs.File.{be16_of, mark_wrong, is_length_wrong, file_rows, file_refusal, plan_of, no_plan, read_by, read_of}

pub mark_long : (file : List ℕ) → mark_wrong file ≡ false → 5 ≤ length file
unfolding mark_wrong
mark_long file h =
    let short = ltb (length file) 5 in
    let c = not (eqb (byte_at file 0) 67) in
    let s = not (eqb (byte_at file 1) 83) in
    let p = not (eqb (byte_at file 2) 80) in
    ltb-false (length file) 5 (or_false_left short c (or_false_left (short || c) s (or_false_left (short || c || s) p h)))

pub record Whole (file : List ℕ) : Type 0 where
  pub head : 21 ≤ length file
  pub exact : length file ≡ 21 + 2 * byte_at file 5

pub whole : (file : List ℕ) → file_refusal file ≡ None → Whole file
unfolding file_refusal is_length_wrong
whole file e =
    let o = all_off (file_rows file) e in
    let short = ltb (length file) 21 in
    let same = eqb (length file) (21 + 2 * byte_at file 5) in
    record {
      head = ltb-false (length file) 21 (or_false_left short (not same) o.1.1.0);
      exact = eqb-true (length file) (21 + 2 * byte_at file 5) (false_not_true same (or_false_right short (not same) o.1.1.0));
    }

-- 20, 21, 22 in turn: where a test holds its row gives the refusal, where it doesn't the rows after it decide

pub speaks_20 : (file : List ℕ) → mark_wrong file ≡ true → Some NotAPlanFile ≡ file_refusal file
unfolding file_refusal
speaks_20 file m = sym (first_here (given NotAPlanFile (mark_wrong file)) _ m)

pub speaks_21 : (file : List ℕ) → mark_wrong file ≡ false → (be16_of file 3 ≡ 1 → ⊥) → Some VersionUnknown ≡ file_refusal file
unfolding file_refusal
speaks_21 file m v = sym (first_next (given NotAPlanFile (mark_wrong file)) _ m ∙ first_here (given VersionUnknown (not (eqb (be16_of file 3) 1))) _ (ap not (ne_eqb _ 1 v)))

pub speaks_22 : (file : List ℕ) → mark_wrong file ≡ false → be16_of file 3 ≡ 1 → is_length_wrong file ≡ true → Some LengthWrong ≡ file_refusal file
unfolding file_refusal
speaks_22 file m v l = sym (first_next (given NotAPlanFile (mark_wrong file)) _ m ∙ first_next (given VersionUnknown (not (eqb (be16_of file 3) 1))) _ (ap not (eq-eqb _ 1 v)) ∙ first_here (given LengthWrong (is_length_wrong file)) [] l)

pub none_speaks : (file : List ℕ) → mark_wrong file ≡ false → be16_of file 3 ≡ 1 → is_length_wrong file ≡ false → None ≡ file_refusal file
unfolding file_refusal
none_speaks file m v l = sym (off_all (file_rows file) (m, (ap not (eq-eqb _ 1 v), (l, tt))))

-- what the reader answers, by the first of both that speaks

pub refused_by_file : (file : List ℕ) (r : Refusal) → Some r ≡ file_refusal file → Some r ≡ result_err (read_of file).answer
unfolding read_of
refused_by_file file r e = rw (← e)

pub refused_by_plan : (file : List ℕ) (x : Option Refusal) → None ≡ file_refusal file → x ≡ plan_refusal (plan_of file) → x ≡ result_err (read_of file).answer
unfolding read_of
refused_by_plan file x f p = go (plan_refusal (plan_of file)) p
  where
    go : (y : Option Refusal) → x ≡ y → x ≡ result_err (read_by (option_or (file_refusal file) y) (plan_of file)).answer
    go (Some r) e = rw (← f) e
    go None e = rw (← f) e

pub plan_taken : (file : List ℕ) → None ≡ file_refusal file → None ≡ plan_refusal (plan_of file) → plan_of file ≡ (read_of file).plan
unfolding read_of
plan_taken file f p = rw (← f, ← p)

pub refused_read : (file : List ℕ) (r : Refusal) → Some r ≡ result_err (read_of file).answer → record { answer = Err r; plan = no_plan } ≡ read_of file
unfolding read_of
refused_read file r e = go (option_or (file_refusal file) (plan_refusal (plan_of file))) e
  where
    go : (x : Option Refusal) → Some r ≡ result_err (read_by x (plan_of file)).answer → record { answer = Err r; plan = no_plan } ≡ read_by x (plan_of file)
    go (Some q) h = let same : r ≡ q = cc in rw same
    go None h = absurd (none-some r (sym h))

-- a plan that the reader takes passed 1 to 9
pub taken_passes : (file : List ℕ) → (read_of file).answer ≡ Ok tt → plan_refusal (read_of file).plan ≡ None
unfolding read_of
taken_passes file e = go (file_refusal file) (plan_refusal (plan_of file)) refl e
  where
    go : (x y : Option Refusal) → plan_refusal (plan_of file) ≡ y → (read_by (option_or x y) (plan_of file)).answer ≡ Ok tt → plan_refusal (read_by (option_or x y) (plan_of file)).plan ≡ None
    go (Some r) y p h = cc
    go None (Some r) p h = cc
    go None None p h = p
