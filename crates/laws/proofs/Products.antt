-- Laws of products: a difference times a factor, and products that fit a u64.
use Prim.Native.Nat.{ℕ, ◌+◌, ◌*◌, ◌-◌, ◌^◌, ◌≤◌}
use mathlib.Core.Path.{◌≡◌}
use native.Mathlib.Nat.{add-mul, sub-add_cancel, mul-le-mul, lt_of_le_of_lt}
use lib.Dec.{T, ltb, lit<}
use mir.Syntax.{w64}
use mir.Val.{Fits}

pub sub_mul : (a b c : ℕ) → b ≤ a → (a - b) * c + b * c ≡ a * c
sub_mul a b c h = rw (← add-mul, sub-add_cancel h)

-- a product of two numbers fits a u64 where the product of their bounds does
pub fits_product : (A B : ℕ) {x y : ℕ} → x ≤ A → y ≤ B → T (ltb (A * B) (2 ^ 64)) → Fits w64 (x * y)
fits_product A B ha hb t = record { fits = lt_of_le_of_lt (mul-le-mul ha hb) (lit< t) }
