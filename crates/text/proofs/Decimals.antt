-- A number in decimal: its last digit after the digits of its tenth, and at most as many digits as places.
use Prim.Native.Nat.{ℕ, zero, suc, ◌+◌, ◌/◌, ◌%◌, ◌^◌, ◌≤◌, ◌<◌}
use mathlib.Core.Path.{◌≡◌, sym, ap, ◌∙◌}
use mathlib.Core.Bool.{cond}
use mathlib.Core.List.{List, [], ◌∷◌, ◌++◌}
use native.Mathlib.Omega.{arith}
use borrow.Author.Tests.{lt-ltb, le-ltb}
use lib.ListN.{length, length-append}
use lib.Dec.{ltb}
use Rattle.laws.proofs.Bools.{cond_by}
use Rattle.text.specs.Text.{digits_within, decimal}

-- a place more than a number needs makes no difference
digits_more : (places n : ℕ) → n < 10 ^ suc places → digits_within (suc (suc places)) n ≡ digits_within (suc places) n
unfolding digits_within
digits_more zero n h = rw (lt-ltb n 10 (omega arith))
digits_more (suc places) n h = ap (λ (ds : List ℕ). cond (ltb n 10) ((48 + n) ∷ []) (ds ++ ((48 + n % 10) ∷ []))) (digits_more places (n / 10) (omega arith))

pub decimal_one : (n : ℕ) → n < 10 → decimal n ≡ (48 + n) ∷ []
unfolding digits_within
decimal_one n h = rw (lt-ltb n 10 h)

pub decimal_more : (n : ℕ) → 10 ≤ n → n < 10 ^ 20 → decimal n ≡ decimal (n / 10) ++ ((48 + n % 10) ∷ [])
unfolding digits_within
decimal_more n h l = rw (le-ltb n 10 h) (ap (λ (ds : List ℕ). ds ++ ((48 + n % 10) ∷ [])) (sym (digits_more 18 (n / 10) (omega arith))))

-- a number below 10 ^ k has at most k digits
digits_few : (places k n : ℕ) → n < 10 ^ suc k → length (digits_within places n) ≤ suc k
unfolding digits_within
digits_few zero k n h = omega arith
digits_few (suc places) zero n h = rw (lt-ltb n 10 (omega arith)) (omega arith)
digits_few (suc places) (suc k) n h =
    cond_by (λ l. length l ≤ suc (suc k)) (ltb n 10) ((48 + n) ∷ []) (digits_within places (n / 10) ++ ((48 + n % 10) ∷ []))
    (λ _. omega arith)
    (λ _. omega (arith, digits_few places k (n / 10) (omega arith), length-append (digits_within places (n / 10)) ((48 + n % 10) ∷ [])))

pub decimal_number : (n : ℕ) → n < 2 ^ 32 → length (decimal n) ≤ 10
decimal_number n h = digits_few 20 9 n (omega arith)

pub decimal_wide : (n : ℕ) → n < 2 ^ 64 → length (decimal n) ≤ 20
decimal_wide n h = digits_few 20 19 n (omega arith)

-- the last digit is one more
pub length_more : (n : ℕ) → 10 ≤ n → n < 10 ^ 20 → length (decimal n) ≡ length (decimal (n / 10)) + 1
length_more n h k = ap length (decimal_more n h k) ∙ length-append (decimal (n / 10)) ((48 + n % 10) ∷ [])
