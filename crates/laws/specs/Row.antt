-- Tests in a row: each has a refusal, and the first that holds gives its own.
use Rattle.std.specs.Prelude.{ℕ, Bool, cond, ◌||◌, List, [], ◌∷◌, Option, None, Some, Result, Err, ltb}

-- One row of a table of refusals: the refusal, and whether it is to be given.
pub record Row (R : Type 0) : Type 0 where
  pub refusal : R
  pub holds : Bool

module _ {R : Type 0} where
  -- `given NodeUnknown b`: this refusal is given exactly when b holds.
  abbrev pub given : R → Bool → Row R
  given r b = record { refusal = r; holds = b }

  -- The refusal of the first row that holds, in the order of the list; none where no row does.
  unfoldable pub first_given : List (Row R) → Option R
  first_given [] = None
  first_given (row ∷ rows) = cond row.holds (Some row.refusal) (first_given rows)

-- The refusal that is given, or else the answer.
module _ {A R : Type 0} where
  abbrev pub unless : Option R → Result A R → Result A R
  unless (Some r) answer = Err r
  unless None answer = answer

-- x lies outside low..high, both ends included.
abbrev pub outside : (low high x : ℕ) → Bool
outside low high x = ltb x low || ltb high x
