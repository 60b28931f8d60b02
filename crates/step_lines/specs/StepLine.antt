-- A step line read: a step, or refusal 19.
use Rattle.std.specs.Prelude.{ℕ, zero, suc, ◌+◌, ◌*◌, ◌-◌, Bool, cond, not, ◌&&◌, ◌||◌, List, length, eqb, leb, Result, Ok, Err}
use Rattle.laws.specs.Bytes.{byte_at}
use Rattle.laws.specs.Below.{all_below}
use Rattle.plan.specs.declared.refusal.Refusal.{Refusal}
use Rattle.plan.specs.declared.refusal.Refusal.TheVariants.{LineWrong}
use Rattle.run.specs.declared.Step.{Step}
unfoldable pub use Rattle.letters.specs.Letters.{is_letter}
pub use Rattle.letters.specs.Letters.{step_by}

-- A decimal digit.
abbrev pub is_digit : ℕ → Bool
is_digit b = leb 48 b && leb b 57

-- The number that the first n digits from place 2 on spell.
unfoldable pub spelled : List ℕ → ℕ → ℕ
spelled line zero = 0
spelled line (suc n) = spelled line n * 10 + (byte_at line (2 + n) - 48)

-- How many bytes stand between the blank and the newline.
abbrev pub digit_count : List ℕ → ℕ
digit_count line = length line - 3

-- A letter that a line may begin with.
abbrev pub line_letter : ℕ → Bool
line_letter b = is_letter b

-- The line has the shape of a step line: a letter, one blank, a number, a newline at the end.
-- The number: digits alone, at least one, and no 0 in front of others.
unfoldable pub line_shaped : List ℕ → Bool
line_shaped line =
    leb 4 (length line)
    && line_letter (byte_at line 0)
    && eqb (byte_at line 1) 32
    && eqb (byte_at line (length line - 1)) 10
    && all_below (digit_count line) (λ k. is_digit (byte_at line (2 + k)))
    && (eqb (digit_count line) 1 || not (eqb (byte_at line 2) 48))

-- What a line asks for: 19 for another shape, or a number above 4,294,967,295.
unfoldable pub line_of : List ℕ → Result Step Refusal
line_of line =
    cond (line_shaped line && leb (spelled line (digit_count line)) 4294967295)
    (Ok (step_by (byte_at line 0) (spelled line (digit_count line))))
    (Err LineWrong)
