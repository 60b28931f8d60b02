-- Places round a ring of C, numbered 0 to C − 1.
use Rattle.std.specs.Prelude.{ℕ, ◌+◌, ◌-◌, ◌%◌}

-- The number of places from p to s, forward round the ring.
unfoldable pub distance : (C p s : ℕ) → ℕ
distance C p s = (s + C - p) % C
