-- The library's bytes of a number, the high one first, are the form of the number.
use Prim.Native.Nat.{ℕ, zero, suc, ◌<◌}
use mathlib.Core.Path.{◌≡◌, refl}
use mathlib.Core.Bool.{Bool, true, false}
use native.Mathlib.Omega.{arith}
use mir.Val.{bool_byte}
use lib.ListN.{get_or}
use Rattle.std.specs.Int.{to_be_bytes, w16, w32, w64}
use Rattle.std.proofs.lemmas.Nat.{be_bytes_2, be_bytes_4, be_bytes_8}
use Rattle.run_bytes.specs.Numbers.{be16_bytes, be32_bytes, be64_bytes}
use Rattle.run_bytes.specs.RunBytes.{flag_byte}

small16 : (n : ℕ) → n < 65536 → (i : ℕ) → get_or (be16_bytes n) i 0 < 256
small16 n h zero = omega arith
small16 n h (suc zero) = omega arith
small16 n h (suc (suc i)) = omega arith

pub form16 : (n : ℕ) → n < 65536 → to_be_bytes w16 n ≡ be16_bytes n
form16 n h = be_bytes_2 (be16_bytes n) n refl (small16 n h) (omega arith)

small32 : (n : ℕ) → n < 4294967296 → (i : ℕ) → get_or (be32_bytes n) i 0 < 256
small32 n h zero = omega arith
small32 n h (suc zero) = omega arith
small32 n h (suc (suc zero)) = omega arith
small32 n h (suc (suc (suc zero))) = omega arith
small32 n h (suc (suc (suc (suc i)))) = omega arith

pub form32 : (n : ℕ) → n < 4294967296 → to_be_bytes w32 n ≡ be32_bytes n
form32 n h = be_bytes_4 (be32_bytes n) n refl (small32 n h) (omega arith)

small64 : (n : ℕ) → n < 18446744073709551616 → (i : ℕ) → get_or (be64_bytes n) i 0 < 256
small64 n h zero = omega arith
small64 n h (suc zero) = omega arith
small64 n h (suc (suc zero)) = omega arith
small64 n h (suc (suc (suc zero))) = omega arith
small64 n h (suc (suc (suc (suc zero)))) = omega arith
small64 n h (suc (suc (suc (suc (suc zero))))) = omega arith
small64 n h (suc (suc (suc (suc (suc (suc zero)))))) = omega arith
small64 n h (suc (suc (suc (suc (suc (suc (suc zero))))))) = omega arith
small64 n h (suc (suc (suc (suc (suc (suc (suc (suc i)))))))) = omega arith

pub form64 : (n : ℕ) → n < 18446744073709551616 → to_be_bytes w64 n ≡ be64_bytes n
form64 n h = be_bytes_8 (be64_bytes n) n refl (small64 n h) (omega arith)

-- the library's byte of a flag is its form
pub byte_of_flag : (b : Bool) → bool_byte b ≡ flag_byte b
byte_of_flag true = refl
byte_of_flag false = refl
