-- A step's letter and number, and the step that they spell. In a line and in bytes a step is its letter and its number.
use Rattle.std.specs.Prelude.{ℕ, Bool, cond, ◌||◌, eqb, Result, Ok, Err}
use Rattle.run.specs.declared.Step.{Step}
use Rattle.run.specs.declared.Step.TheVariants.{Delay, TickOf, SendOf}
use Rattle.letters.specs.declared.Letter.{Letter}
use Rattle.letters.specs.declared.Letter.TheVariants.{D, T, S}
use Rattle.letters.specs.declared.NoLetter.{NoLetter}
use Rattle.letters.specs.declared.Spelt.{Spelt}

-- D with the length of a delay, T with the node of a tick, S with the node of a send.
unfoldable pub spelt_of : Step → Spelt
spelt_of (Delay d) = record { letter = D; number = d.0 }
spelt_of (TickOf i) = record { letter = T; number = i.0 }
spelt_of (SendOf i) = record { letter = S; number = i.0 }

-- The byte of a letter.
abbrev pub byte_of : Letter → ℕ
byte_of D = 68
byte_of T = 84
byte_of S = 83

-- A byte that is a letter: D, T or S.
unfoldable pub is_letter : ℕ → Bool
is_letter b = eqb b 68 || eqb b 84 || eqb b 83

-- The letter that a byte is.
unfoldable pub letter_of : ℕ → Result Letter NoLetter
letter_of b = cond (eqb b 68) (Ok D) (cond (eqb b 84) (Ok T) (cond (eqb b 83) (Ok S) (Err (record {}))))

-- The step that a letter and a number spell: D a delay, T a tick, S a send; what is no letter counts as S.
abbrev pub step_by : (letter n : ℕ) → Step
step_by letter n = cond (eqb letter 68) (Delay (record { 0 = n })) (cond (eqb letter 84) (TickOf (record { 0 = n })) (SendOf (record { 0 = n })))

-- The step that is spelt.
abbrev pub step_spelt : Spelt → Step
step_spelt spelt = step_by (byte_of spelt.letter) spelt.number
