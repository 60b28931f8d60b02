-- Laws of a list whose first n places are changed.
use Prim.Native.Nat.{ℕ, zero, suc, ◌+◌, ◌≤◌, ◌<◌}
use mathlib.Core.Path.{◌≡◌, refl, ap}
use mathlib.Core.List.{List, [], ◌∷◌, ◌++◌}
use native.Mathlib.Nat.{not-suc-le-zero, le_of_suc-le-suc}
use native.Mathlib.Numerals.{add-one}
use native.Mathlib.Omega.{arith}
use lib.ListN.{length, get_or, set, take, drop}
use Rattle.laws.specs.Over.{over}

module _ {A : Type 0} where
  pub over_none : (f : ℕ → A → A) (xs : List A) → xs ≡ over 0 f xs
  unfolding over
  over_none f xs = refl

  pub length_over : (n : ℕ) (f : ℕ → A → A) (xs : List A) → length (over n f xs) ≡ length xs
  unfolding over
  length_over zero f xs = refl
  length_over (suc n) f [] = refl
  length_over (suc n) f (x ∷ xs) = ap suc (length_over n (λ k. f (suc k)) xs)

  -- a place below n holds its changed value
  pub get_or_over : (n : ℕ) (f : ℕ → A → A) (xs : List A) (i : ℕ) (d : A) → i < n → i < length xs → get_or (over n f xs) i d ≡ f i (get_or xs i d)
  unfolding over
  get_or_over zero f xs i d h l = absurd (not-suc-le-zero h)
  get_or_over (suc n) f [] i d h l = absurd (not-suc-le-zero l)
  get_or_over (suc n) f (x ∷ xs) zero d h l = refl
  get_or_over (suc n) f (x ∷ xs) (suc i) d h l = get_or_over n (λ k. f (suc k)) xs i d (le_of_suc-le-suc h) (le_of_suc-le-suc l)

  -- a place from n on is as it was
  pub get_or_past : (n : ℕ) (f : ℕ → A → A) (xs : List A) (i : ℕ) (d : A) → n ≤ i → get_or (over n f xs) i d ≡ get_or xs i d
  unfolding over
  get_or_past zero f xs i d h = refl
  get_or_past (suc n) f [] i d h = refl
  get_or_past (suc n) f (x ∷ xs) zero d h = absurd (not-suc-le-zero h)
  get_or_past (suc n) f (x ∷ xs) (suc i) d h = get_or_past n (λ k. f (suc k)) xs i d (le_of_suc-le-suc h)

  set_over : (n : ℕ) (f : ℕ → A → A) (xs : List A) (d : A) → n < length xs → set (over n f xs) n (f n (get_or xs n d)) ≡ over (suc n) f xs
  unfolding over
  set_over zero f [] d l = absurd (not-suc-le-zero l)
  set_over zero f (x ∷ xs) d l = refl
  set_over (suc n) f [] d l = absurd (not-suc-le-zero l)
  set_over (suc n) f (x ∷ xs) d l = ap (λ (ys : List A). f 0 x ∷ ys) (set_over n (λ k. f (suc k)) xs d (le_of_suc-le-suc l))

  -- one more place changed, by a store at n
  pub over_more : (n : ℕ) (f : ℕ → A → A) (xs ys : List A) (d q : A) → n < length xs → ys ≡ over n f xs → q ≡ f n (get_or ys n d) → set ys n q ≡ over (n + 1) f xs
  over_more n f xs ys d q l e p =
      let at : get_or ys n d ≡ get_or xs n d = rw e (get_or_past n f xs n d (omega arith)) in
      rw (add-one, p, at, e) (set_over n f xs d l)

  -- the first n places changed alone, with the rest put behind them
  pub over_front : (n : ℕ) (f : ℕ → A → A) (xs : List A) → over n f (take n xs) ++ drop n xs ≡ over n f xs
  unfolding over
  over_front zero f xs = refl
  over_front (suc n) f [] = refl
  over_front (suc n) f (x ∷ xs) = ap (λ (ys : List A). f 0 x ∷ ys) (over_front n (λ k. f (suc k)) xs)

  -- a loop over the first n places, at its end
  pub over_end : (n k : ℕ) (f : ℕ → A → A) (xs ys : List A) → k ≡ n → ys ≡ over k f (take n xs) → ys ++ drop n xs ≡ over n f xs
  over_end n k f xs ys e q = rw (q, e) (over_front n f xs)
