-- A count d·k + c as d slots of k ticks and a clock c below k.
use Prim.Native.Nat.{ℕ, ◌+◌, ◌*◌, ◌≤◌, ◌<◌}
use mathlib.Core.Path.{◌≡◌}
use native.Mathlib.Nat.{mul-le-mul_right, lt_of_mul-lt-mul_right}
use native.Mathlib.Omega.{arith}

-- a count has one number of slots and one clock
pub same_digits : (d e k c h : ℕ) → c < k → h < k → d * k + c ≡ e * k + h → (d ≡ e) × (c ≡ h)
same_digits d e k c h hc hh q =
    let a : d < e + 1 = lt_of_mul-lt-mul_right k (omega arith) in
    let b : e < d + 1 = lt_of_mul-lt-mul_right k (omega arith) in
    let s : d ≡ e = omega arith in
    (s, let z : e * k + c ≡ e * k + h = rw s at q in omega arith)

-- a count within slot D is a count of D slots
pub same_slot : (d D k c : ℕ) → D * k ≤ d * k + c → c < k → d * k + c < D * k + k → d ≡ D
same_slot d D k c h hc h' =
    let a : d < D + 1 = lt_of_mul-lt-mul_right k (omega arith) in
    let b : D < d + 1 = lt_of_mul-lt-mul_right k (omega arith) in
    omega arith

-- a count short of the end of slot D is one of at most D slots
pub slot_within : (d D k c : ℕ) → d * k + c < D * k + k → d ≤ D
slot_within d D k c h = let a : d < D + 1 = lt_of_mul-lt-mul_right k (omega arith) in omega arith

-- one slot is at most D of them
pub slots_some : (D k : ℕ) → 1 ≤ D → k ≤ D * k
slots_some D k h = let q : 1 * k ≤ D * k = mul-le-mul_right k h in omega arith
