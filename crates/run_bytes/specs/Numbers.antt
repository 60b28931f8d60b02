-- Numbers as bytes, big-endian.
use Rattle.std.specs.Prelude.{ℕ, ◌/◌, ◌%◌, List, [], ◌∷◌, ◌++◌}

-- The 2, 4 and 8 bytes of a number below 2^16, 2^32, 2^64.
abbrev pub be16_bytes : ℕ → List ℕ
be16_bytes n = n / 256 ∷ n % 256 ∷ []

abbrev pub be32_bytes : ℕ → List ℕ
be32_bytes n = be16_bytes (n / 65536) ++ be16_bytes (n % 65536)

abbrev pub be64_bytes : ℕ → List ℕ
be64_bytes n = be32_bytes (n / 4294967296) ++ be32_bytes (n % 4294967296)
