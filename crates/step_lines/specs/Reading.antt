-- A step line read byte by byte, with nothing kept of it but its letter and its number: what StepLine.antt says of the whole line, in one pass.
use Rattle.std.specs.Prelude.{ℕ, ◌+◌, ◌*◌, ◌-◌, Bool, cond, not, ◌&&◌, eqb, leb, List, fold, Result, Ok, Err}
use Rattle.plan.specs.declared.refusal.Refusal.{Refusal}
use Rattle.plan.specs.declared.refusal.Refusal.TheVariants.{LineWrong}
use Rattle.run.specs.declared.Step.{Step}
use Rattle.letters.specs.Letters.{letter_of, step_spelt}
use Rattle.letters.specs.declared.Letter.{Letter as ALetter}
use Rattle.letters.specs.declared.NoLetter.{NoLetter}
use Rattle.letters.specs.declared.Spelt.{Spelt}
use Rattle.step_lines.specs.declared.Reading.{Reading}
use Rattle.step_lines.specs.declared.Reading.TheVariants.{Nothing, Letter, Blank, Number, Whole, Wrong}
use Rattle.step_lines.specs.StepLine.{is_digit}

-- A number with one digit more.
abbrev pub with_digit : (n digit : ℕ) → ℕ
with_digit n digit = n * 10 + (digit - 48)

-- A digit that may follow a number: no 0 may precede it, and it may not lead above 4,294,967,295.
abbrev pub may_follow : (n byte : ℕ) → Bool
may_follow n byte = is_digit byte && not (eqb n 0) && leb (with_digit n byte) 4294967295

-- The first byte of a line: a letter, or no step line begins so.
abbrev pub begun_by : Result ALetter NoLetter → Reading
begun_by (Ok letter) = Letter letter
begun_by (Err none) = Wrong

-- A byte after a number: the newline, or a digit that may follow it.
abbrev pub number_after : Spelt → (byte : ℕ) → Reading
number_after spelt byte =
    cond (eqb byte 10) (Whole spelt)
    (cond (may_follow spelt.number byte) (Number (record spelt { number = with_digit spelt.number byte })) Wrong)

-- A line read so far, and one byte more.
unfoldable pub reading_after : Reading → (byte : ℕ) → Reading
reading_after Nothing byte = begun_by (letter_of byte)
reading_after (Letter letter) byte = cond (eqb byte 32) (Blank letter) Wrong
reading_after (Blank letter) byte = cond (is_digit byte) (Number (record { letter = letter; number = byte - 48 })) Wrong
reading_after (Number spelt) byte = number_after spelt byte
reading_after (Whole spelt) byte = Wrong
reading_after Wrong byte = Wrong

-- All bytes of a line, one after the other.
abbrev pub reading_of : List ℕ → Reading
reading_of line = fold reading_after Nothing line

-- What a line asks for that ends here.
unfoldable pub line_read : Reading → Result Step Refusal
line_read Nothing = Err LineWrong
line_read (Letter letter) = Err LineWrong
line_read (Blank letter) = Err LineWrong
line_read (Number spelt) = Err LineWrong
line_read (Whole spelt) = Ok (step_spelt spelt)
line_read Wrong = Err LineWrong
