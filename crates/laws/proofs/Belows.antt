-- Laws of the questions about the numbers below n.
use Prim.Native.Nat.{ℕ, zero, suc, ◌+◌, ◌≤◌, ◌<◌, min, max}
use mathlib.Core.Path.{◌≡◌, refl}
use mathlib.Core.Bool.{Bool, true, false, ◌||◌}
use native.Mathlib.Nat.{not-suc-le-zero}
use native.Mathlib.Numerals.{add-one}
use native.Mathlib.Decide.{ℕ_discrete, dec_le, dec_lt}
use native.Mathlib.Omega.{arith}
use borrow.Author.Tests.{ltb-true, ltb-false}
use lib.Dec.{ltb}
use Rattle.laws.specs.Below.{any_below, all_below, first_from, first_below, largest_below, least_below}
use Rattle.laws.proofs.Bools.{clash, and_true_left, and_true_right, and_both, or_neither, or_true_left, or_true_right, Either, first_holds, second_holds, or_either}

-- some number passes

pub any_none : (f : ℕ → Bool) → any_below 0 f ≡ false
unfolding any_below
any_none f = refl

pub any_next : (n : ℕ) (f : ℕ → Bool) → any_below (n + 1) f ≡ (any_below n f || f n)
unfolding any_below
any_next n f = rw add-one refl

pub any_more : (n : ℕ) (f : ℕ → Bool) → any_below n f ≡ false → f n ≡ false → any_below (n + 1) f ≡ false
unfolding any_below
any_more n f p q = rw add-one (or_neither (any_below n f) (f n) p q)

pub any_found : (n i : ℕ) (f : ℕ → Bool) → i < n → f i ≡ true → any_below n f ≡ true
unfolding any_below
any_found zero i f h p = absurd (not-suc-le-zero h)
any_found (suc n) i f h p = go (ℕ_discrete i n) (λ l. any_found n i f l p)
  where
    go : Dec (i ≡ n) → (i < n → any_below n f ≡ true) → any_below (suc n) f ≡ true
    go (yes e) r = or_true_right (any_below n f) (f n) (rw e at p)
    go (no e) r = or_true_left (any_below n f) (f n) (r (omega arith))

pub any_not : (n : ℕ) (f : ℕ → Bool) → any_below n f ≡ false → (i : ℕ) → i < n → f i ≡ false
any_not n f h i l = go (f i) refl
  where
    go : (b : Bool) → f i ≡ b → f i ≡ false
    go true e = clash (any_below n f) (any_found n i f l e) h
    go false e = e

pub any_never : (n : ℕ) (f : ℕ → Bool) → ((i : ℕ) → i < n → f i ≡ false) → any_below n f ≡ false
unfolding any_below
any_never zero f h = refl
any_never (suc n) f h = or_neither (any_below n f) (f n) (any_never n f (λ i l. h i (omega arith))) (h n (omega arith))

-- one that passes, where some number does
pub record Some (n : ℕ) (f : ℕ → Bool) : Type 0 where
  pub at : ℕ
  pub below : at < n
  pub passes : f at ≡ true

pub any_some : (n : ℕ) (f : ℕ → Bool) → any_below n f ≡ true → Some n f
unfolding any_below
any_some zero f h = clash false h refl
any_some (suc n) f h = go (or_either (any_below n f) (f n) h) (any_some n f)
  where
    go : Either (any_below n f) (f n) → (any_below n f ≡ true → Some n f) → Some (suc n) f
    go (first_holds e) r = let s = r e in record { at = s.at; below = omega (arith, s.below); passes = s.passes }
    go (second_holds e) r = record { at = n; below = omega arith; passes = e }

-- every number passes

pub all_none : (f : ℕ → Bool) → all_below 0 f ≡ true
unfolding all_below
all_none f = refl

pub all_more : (n : ℕ) (f : ℕ → Bool) → all_below n f ≡ true → f n ≡ true → all_below (n + 1) f ≡ true
unfolding all_below
all_more n f p q = rw add-one (and_both (all_below n f) (f n) p q)

pub all_at : (n : ℕ) (f : ℕ → Bool) → all_below n f ≡ true → (i : ℕ) → i < n → f i ≡ true
unfolding all_below
all_at zero f h i l = absurd (not-suc-le-zero l)
all_at (suc n) f h i l = go (ℕ_discrete i n) (λ m. all_at n f (and_true_left (all_below n f) (f n) h) i m)
  where
    go : Dec (i ≡ n) → (i < n → f i ≡ true) → f i ≡ true
    go (yes e) r = rw e (and_true_right (all_below n f) (f n) h)
    go (no e) r = r (omega arith)

pub all_ever : (n : ℕ) (f : ℕ → Bool) → ((i : ℕ) → i < n → f i ≡ true) → all_below n f ≡ true
unfolding all_below
all_ever zero f h = refl
all_ever (suc n) f h = and_both (all_below n f) (f n) (all_ever n f (λ i l. h i (omega arith))) (h n (omega arith))

pub all_fails : (n i : ℕ) (f : ℕ → Bool) → i < n → f i ≡ false → all_below n f ≡ false
all_fails n i f l e = go (all_below n f) refl
  where
    go : (b : Bool) → all_below n f ≡ b → all_below n f ≡ false
    go true h = clash (f i) (all_at n f h i l) e
    go false h = h

-- the first that passes

pub data Found (n : ℕ) (f : ℕ → Bool) (i : ℕ) : Type 0 where
  found : i < n → f i ≡ true → ((j : ℕ) → j < i → f j ≡ false) → Found n f i
  none : i ≡ n → ((j : ℕ) → j < n → f j ≡ false) → Found n f i

first_from_found : (f : ℕ → Bool) (left i : ℕ) → ((j : ℕ) → j < i → f j ≡ false) → Found (i + left) f (first_from f left i)
unfolding first_from
first_from_found f zero i h = none (omega arith) (λ j l. h j (omega arith))
first_from_found f (suc left) i h = go (f i) refl (first_from_found f left (suc i))
  where
    more : f i ≡ false → (j : ℕ) → j < suc i → f j ≡ false
    more e j l = at (ℕ_discrete j i)
      where
        at : Dec (j ≡ i) → f j ≡ false
        at (yes q) = rw q e
        at (no q) = h j (omega arith)

    go : (b : Bool) → f i ≡ b → (((j : ℕ) → j < suc i → f j ≡ false) → Found (suc i + left) f (first_from f left (suc i))) → Found (i + suc left) f (first_from f (suc left) i)
    go true e r = rw (first_from, e) (found (omega arith) e h)
    go false e r = rw (first_from, e) (let q : suc i + left ≡ i + suc left = omega arith in rw q at (r (more e)))

-- the first number below n that passes, with what is known of it
pub first_found : (n : ℕ) (f : ℕ → Bool) → Found n f (first_below n f)
first_found n f = let q : 0 + n ≡ n = omega arith in rw q at (first_from_found f n 0 (λ j l. absurd (not-suc-le-zero l)))

first_unique : (n i j : ℕ) (f : ℕ → Bool) → Found n f i → Found n f j → i ≡ j
first_unique n i j f (found a b c) (found d e g) = go (ltb i j) refl (ltb j i) refl
  where
    go : (x : Bool) → ltb i j ≡ x → (y : Bool) → ltb j i ≡ y → i ≡ j
    go true p true q = clash (f i) b (g i (omega (arith, ltb-true i j p)))
    go true p false q = clash (f i) b (g i (omega (arith, ltb-true i j p)))
    go false p true q = clash (f j) e (c j (omega (arith, ltb-true j i q)))
    go false p false q = omega (arith, ltb-false i j p, ltb-false j i q)
first_unique n i j f (found a b c) (none d e) = clash (f i) b (e i a)
first_unique n i j f (none a b) (found c d e) = clash (f j) d (b j c)
first_unique n i j f (none a b) (none c d) = omega arith

-- i is the first that passes
pub first_at : (n i : ℕ) (f : ℕ → Bool) → i < n → ((j : ℕ) → j < i → f j ≡ false) → f i ≡ true → first_below n f ≡ i
first_at n i f l h e = first_unique n (first_below n f) i f (first_found n f) (found l e h)

-- none passes
pub first_none : (n : ℕ) (f : ℕ → Bool) → ((j : ℕ) → j < n → f j ≡ false) → first_below n f ≡ n
first_none n f h = first_unique n (first_below n f) n f (first_found n f) (none refl h)

-- one passes, so the first does
pub first_passes : (n i : ℕ) (f : ℕ → Bool) → i < n → f i ≡ true → (first_below n f < n) × (f (first_below n f) ≡ true)
first_passes n i f l e = go (first_below n f) (first_found n f)
  where
    go : (k : ℕ) → Found n f k → (k < n) × (f k ≡ true)
    go k (found a b c) = (a, b)
    go k (none a b) = clash (f i) e (b i l)

-- the first number below n that passes, by whether it is below n
pub first_is : (n : ℕ) (f : ℕ → Bool) → ltb (first_below n f) n ≡ true → f (first_below n f) ≡ true
first_is n f h = go (first_below n f) (first_found n f) (ltb-true (first_below n f) n h)
  where
    go : (i : ℕ) → Found n f i → i < n → f i ≡ true
    go i (found l t b) m = t
    go i (none e b) m = absurd (omega arith)

pub first_is_none : (n : ℕ) (f : ℕ → Bool) → ltb (first_below n f) n ≡ false → (j : ℕ) → j < n → f j ≡ false
first_is_none n f h = go (first_below n f) (first_found n f) (ltb-false (first_below n f) n h)
  where
    go : (i : ℕ) → Found n f i → n ≤ i → (j : ℕ) → j < n → f j ≡ false
    go i (found l t b) m = absurd (omega arith)
    go i (none e b) m = b

-- no number before the first passes; one more place looked at
pub before_more : (f : ℕ → Bool) (i : ℕ) → ((j : ℕ) → j < i → f j ≡ false) → f i ≡ false → (j : ℕ) → j < i + 1 → f j ≡ false
before_more f i h e j l = go (ℕ_discrete j i)
  where
    go : Dec (j ≡ i) → f j ≡ false
    go (yes q) = rw q e
    go (no q) = h j (omega arith)

-- the largest value

pub largest_none : (f : ℕ → ℕ) → largest_below 0 f ≡ 0
unfolding largest_below
largest_none f = refl

pub largest_more : (n : ℕ) (f : ℕ → ℕ) → largest_below (n + 1) f ≡ max (largest_below n f) (f n)
unfolding largest_below
largest_more n f = rw add-one

pub largest_above : (n : ℕ) (f : ℕ → ℕ) (i : ℕ) → i < n → f i ≤ largest_below n f
unfolding largest_below
largest_above zero f i h = absurd (not-suc-le-zero h)
largest_above (suc n) f i h = go (ℕ_discrete i n) (λ l. largest_above n f i l)
  where
    go : Dec (i ≡ n) → (i < n → f i ≤ largest_below n f) → f i ≤ largest_below (suc n) f
    go (yes e) r = rw e (let z : f n ≤ max (largest_below n f) (f n) = omega arith in z)
    go (no e) r = let z : f i ≤ largest_below n f = r (omega arith) in omega arith

pub largest_within : (n : ℕ) (f : ℕ → ℕ) (b : ℕ) → ((i : ℕ) → i < n → f i ≤ b) → largest_below n f ≤ b
unfolding largest_below
largest_within zero f b h = omega arith
largest_within (suc n) f b h =
    let z : largest_below n f ≤ b = largest_within n f b (λ i l. h i (omega arith)) in
    let w : f n ≤ b = h n (omega arith) in
    omega arith

-- equal values, equal largest
pub largest_same : (n : ℕ) (f g : ℕ → ℕ) → ((i : ℕ) → i < n → f i ≡ g i) → largest_below n f ≡ largest_below n g
unfolding largest_below
largest_same zero f g h = refl
largest_same (suc n) f g h = rw (largest_same n f g (λ i l. h i (omega arith)), h n (omega arith))

-- a number at which the largest value stands
pub record Reached (n : ℕ) (f : ℕ → ℕ) (v : ℕ) : Type 0 where
  pub at : ℕ
  pub below : at < n
  pub value : f at ≡ v

pub largest_reached : (n : ℕ) (f : ℕ → ℕ) → 0 < n → Reached n f (largest_below n f)
unfolding largest_below
largest_reached zero f h = absurd (not-suc-le-zero h)
largest_reached (suc zero) f h = record { at = 0; below = omega arith; value = omega arith }
largest_reached (suc (suc n)) f h = go (ltb (f (suc n)) (largest_below (suc n) f)) refl (largest_reached (suc n) f (omega arith))
  where
    go : (b : Bool) → ltb (f (suc n)) (largest_below (suc n) f) ≡ b → Reached (suc n) f (largest_below (suc n) f) → Reached (suc (suc n)) f (largest_below (suc (suc n)) f)
    go true e r =
        let l = ltb-true (f (suc n)) (largest_below (suc n) f) e in
        record { at = r.at; below = omega (arith, r.below); value = omega (arith, r.value) }
    go false e r =
        let l = ltb-false (f (suc n)) (largest_below (suc n) f) e in
        record { at = suc n; below = omega arith; value = omega arith }

-- the least value

pub least_none : (top : ℕ) (f : ℕ → ℕ) → least_below top 0 f ≡ top
unfolding least_below
least_none top f = refl

pub least_more : (top n : ℕ) (f : ℕ → ℕ) → least_below top (n + 1) f ≡ min (least_below top n f) (f n)
unfolding least_below
least_more top n f = rw add-one

pub least_top : (top n : ℕ) (f : ℕ → ℕ) → least_below top n f ≤ top
unfolding least_below
least_top top zero f = omega arith
least_top top (suc n) f = let z = least_top top n f in omega arith

pub least_under : (top n : ℕ) (f : ℕ → ℕ) (i : ℕ) → i < n → least_below top n f ≤ f i
unfolding least_below
least_under top zero f i h = absurd (not-suc-le-zero h)
least_under top (suc n) f i h = go (ℕ_discrete i n) (λ l. least_under top n f i l)
  where
    go : Dec (i ≡ n) → (i < n → least_below top n f ≤ f i) → least_below top (suc n) f ≤ f i
    go (yes e) r = rw e (let z : min (least_below top n f) (f n) ≤ f n = omega arith in z)
    go (no e) r = let z : least_below top n f ≤ f i = r (omega arith) in omega arith

least_short : (top n : ℕ) (f : ℕ → ℕ) → least_below top n f < top → Reached n f (least_below top n f)
unfolding least_below
least_short top zero f h = absurd (omega arith)
least_short top (suc n) f h = go (dec_le (least_below top n f) (f n)) (least_short top n f)
  where
    go : Dec (least_below top n f ≤ f n) → (least_below top n f < top → Reached n f (least_below top n f)) → Reached (suc n) f (least_below top (suc n) f)
    go (yes l) r =
        let w = r (omega arith) in
        record { at = w.at; below = omega (arith, w.below); value = omega (arith, w.value) }
    go (no l) r = record { at = n; below = omega arith; value = omega arith }

-- the least value stands at some number, if one is at most `top`
pub least_reached : (top n : ℕ) (f : ℕ → ℕ) (i : ℕ) → i < n → f i ≤ top → Reached n f (least_below top n f)
least_reached top n f i h l = go (dec_lt (least_below top n f) top)
  where
    go : Dec (least_below top n f < top) → Reached n f (least_below top n f)
    go (yes s) = least_short top n f s
    go (no s) = record { at = i; below = h; value = omega (arith, least_under top n f i h) }
