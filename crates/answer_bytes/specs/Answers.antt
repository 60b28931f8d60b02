-- What a call answers, as a number: 0 done, 254 finished, 255 a lent buffer of another length, else the refusal's.
use Rattle.std.specs.Prelude.{ℕ, Option, None, Some, Result, Ok, Err}
use Rattle.plan.specs.declared.refusal.Refusal.{Refusal}
use Rattle.plan.specs.Refusals.{number_of}
use Rattle.answer_bytes.specs.declared.answers.Unanswered.{Unanswered}
use Rattle.answer_bytes.specs.declared.answers.Unanswered.TheVariants.{Refused, Finished, AnotherLength}

-- 254: the shown run has no more steps. 255: a lent buffer has another length than the call asks for.
abbrev pub unanswered_number : Unanswered → ℕ
unanswered_number (Refused r) = number_of r
unanswered_number Finished = 254
unanswered_number AnotherLength = 255

module _ {A : Type 0} where
  abbrev pub answer_number : Result A Unanswered → ℕ
  answer_number (Ok a) = 0
  answer_number (Err u) = unanswered_number u

  -- An answer that may be refused.
  abbrev pub or_refused : Result A Refusal → Result A Unanswered
  or_refused (Ok a) = Ok a
  or_refused (Err r) = Err (Refused r)

  -- The next of something, which is finished where there is none.
  abbrev pub or_finished : Result (Option A) Refusal → Result A Unanswered
  or_finished (Ok (Some a)) = Ok a
  or_finished (Ok None) = Err Finished
  or_finished (Err r) = Err (Refused r)
