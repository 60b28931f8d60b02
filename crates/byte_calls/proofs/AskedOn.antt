-- Steps one after the other and their answers: none yet, and one more.
use Prim.Native.Nat.{ℕ, ◌+◌, ◌<◌}
use mathlib.Core.Path.{◌≡◌, refl}
use mathlib.Core.List.{List}
use native.Mathlib.Numerals.{add-one}
use lib.ListN.{length, set}
use Rattle.laws.proofs.Overs.{over_none, over_more, length_over}
use Rattle.plan.specs.declared.Plan.{Plan}
use Rattle.run.specs.declared.Run.{Run}
use Rattle.std.specs.Result.{result_unwrap_or}
use Rattle.plan.specs.Refusals.{refused_number}
use Rattle.byte_calls.specs.Many.{asked_at, after_asked, answers_bytes}

module _ (P : Plan) (steps : List ℕ) (r : Run) where
  pub asked_none : r ≡ after_asked P steps 0 r
  unfolding after_asked
  asked_none = refl

  pub asked_more : (k : ℕ) → result_unwrap_or (asked_at P steps k (after_asked P steps k r)) (after_asked P steps k r) ≡ after_asked P steps (k + 1) r
  unfolding after_asked
  asked_more k = rw (add-one k)

  pub answers_none : (answers : List ℕ) → answers ≡ answers_bytes P steps 0 r answers
  unfolding answers_bytes
  answers_none answers = over_none _ answers

  pub answers_more : (k : ℕ) (answers now : List ℕ) (n : ℕ) → k < length answers → now ≡ answers_bytes P steps k r answers → n ≡ refused_number (asked_at P steps k (after_asked P steps k r)) → set now k n ≡ answers_bytes P steps (k + 1) r answers
  unfolding answers_bytes
  answers_more k answers now n h e q = over_more k _ answers now 0 n h e q

  pub answers_length : (k : ℕ) (answers : List ℕ) → length (answers_bytes P steps k r answers) ≡ length answers
  unfolding answers_bytes
  answers_length k answers = length_over k _ answers
