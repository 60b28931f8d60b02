-- Laws of the places round a ring: every remainder by the ring's size is taken away here.
use Prim.Native.Nat.{ℕ, ◌+◌, ◌-◌, ◌%◌, ◌≤◌, ◌<◌}
use mathlib.Core.Path.{◌≡◌, sym, ◌∙◌}
use mathlib.Core.Logic.{◌≢◌}
use native.Mathlib.Nat.{mod-eq_of_lt, mod-eq-sub-mod, mod-lt}
use native.Mathlib.Decide.{dec_le, dec_lt}
use native.Mathlib.Omega.{arith}
use Rattle.laws.specs.Ring.{distance}

pub mod_once : (a C : ℕ) → C ≤ a → a < C + C → a % C ≡ a - C
mod_once a C h l = mod-eq-sub-mod h ∙ mod-eq_of_lt (omega arith)

-- d places on from p, round the ring, is s
pub data Reaches (C p d s : ℕ) : Type 0 where
  on : p + d ≡ s → Reaches C p d s
  round : p + d ≡ s + C → Reaches C p d s

pub distance_reaches : (C p s : ℕ) → p < C → s < C → Reaches C p (distance C p s) s
unfolding distance
distance_reaches C p s hp hs = go (dec_le p s)
  where
    go : Dec (p ≤ s) → Reaches C p (distance C p s) s
    go (yes h) = on (omega (arith, mod_once (s + C - p) C (omega arith) (omega arith)))
    go (no h) = round (let e : (s + C - p) % C ≡ s + C - p = mod-eq_of_lt (omega arith) in omega arith)

pub distance_below : (C p s : ℕ) → 0 < C → distance C p s < C
unfolding distance
distance_below C p s h = mod-lt (s + C - p) h

-- the distance is the one number below C that leads from p to s
pub distance_is : (C p s d : ℕ) → p < C → s < C → d < C → Reaches C p d s → distance C p s ≡ d
distance_is C p s d hp hs hd (on e) = go (distance_reaches C p s hp hs)
  where
    go : Reaches C p (distance C p s) s → distance C p s ≡ d
    go (on q) = omega arith
    go (round q) = omega (arith, distance_below C p s (omega arith))
distance_is C p s d hp hs hd (round e) = go (distance_reaches C p s hp hs)
  where
    go : Reaches C p (distance C p s) s → distance C p s ≡ d
    go (on q) = omega (arith, distance_below C p s (omega arith))
    go (round q) = omega arith

pub distance_self : (C p : ℕ) → p < C → distance C p p ≡ 0
distance_self C p h = distance_is C p p 0 h h (omega arith) (on (omega arith))

-- slots at the same distance are the same slot
pub distance_same : (C p s s' : ℕ) → p < C → s < C → s' < C → distance C p s ≡ distance C p s' → s ≡ s'
distance_same C p s s' hp hs ht e = go (distance_reaches C p s hp hs) (distance_reaches C p s' hp ht)
  where
    go : Reaches C p (distance C p s) s → Reaches C p (distance C p s') s' → s ≡ s'
    go (on a) (on b) = omega arith
    go (on a) (round b) = omega arith
    go (round a) (on b) = omega arith
    go (round a) (round b) = omega arith

-- slots from which it is the same distance are the same slot
pub distance_same_to : (C p p' s : ℕ) → p < C → p' < C → s < C → distance C p s ≡ distance C p' s → p ≡ p'
distance_same_to C p p' s hp hq hs e = go (distance_reaches C p s hp hs) (distance_reaches C p' s hq hs)
  where
    go : Reaches C p (distance C p s) s → Reaches C p' (distance C p' s) s → p ≡ p'
    go (on a) (on b) = omega arith
    go (on a) (round b) = omega arith
    go (round a) (on b) = omega arith
    go (round a) (round b) = omega arith

-- two places are at least 1 apart
pub distance_apart : (C p s : ℕ) → p < C → s < C → p ≢ s → 1 ≤ distance C p s
distance_apart C p s hp hs n = go (distance_reaches C p s hp hs)
  where
    go : Reaches C p (distance C p s) s → 1 ≤ distance C p s
    go (on a) = omega arith
    go (round a) = omega arith

-- of two places after p, from the nearer to the farther; and of two places before s
pub distance_rest : (C p x s : ℕ) → p < C → x < C → s < C → distance C p x ≤ distance C p s → distance C x s ≡ distance C p s - distance C p x
distance_rest C p x s hp hx hs l =
    distance_is C x s (distance C p s - distance C p x) hx hs (omega (arith, distance_below C p s (omega arith)))
    (go (distance_reaches C p s hp hs) (distance_reaches C p x hp hx))
  where
    go : Reaches C p (distance C p s) s → Reaches C p (distance C p x) x → Reaches C x (distance C p s - distance C p x) s
    go (on a) (on b) = on (omega arith)
    go (on a) (round b) = absurd (omega arith)
    go (round a) (on b) = round (omega arith)
    go (round a) (round b) = on (omega arith)

pub distance_part : (C p x s : ℕ) → p < C → x < C → s < C → distance C x s ≤ distance C p s → distance C p x ≡ distance C p s - distance C x s
distance_part C p x s hp hx hs l =
    distance_is C p x (distance C p s - distance C x s) hp hx (omega (arith, distance_below C p s (omega arith)))
    (go (distance_reaches C p s hp hs) (distance_reaches C x s hx hs))
  where
    go : Reaches C p (distance C p s) s → Reaches C x (distance C x s) s → Reaches C p (distance C p s - distance C x s) x
    go (on a) (on b) = on (omega arith)
    go (on a) (round b) = absurd (omega arith)
    go (round a) (on b) = round (omega arith)
    go (round a) (round b) = on (omega arith)

-- d places on from p, and the place that is as far on from p as s
pub distance_on : (C p d : ℕ) → p < C → d < C → distance C p ((p + d) % C) ≡ d
distance_on C p d hp hd = distance_is C p ((p + d) % C) d hp (mod-lt (p + d) (omega arith)) hd (go (dec_lt (p + d) C))
  where
    go : Dec (p + d < C) → Reaches C p d ((p + d) % C)
    go (yes l) = on (sym (mod-eq_of_lt l))
    go (no l) = round (omega (arith, mod_once (p + d) C (omega arith) (omega arith)))

pub place_on : (C p s : ℕ) → p < C → s < C → (p + distance C p s) % C ≡ s
place_on C p s hp hs =
    distance_same C p ((p + distance C p s) % C) s hp (mod-lt (p + distance C p s) (omega arith)) hs
    (distance_on C p (distance C p s) hp (distance_below C p s (omega arith)))

-- one place on
pub next_place : (C s : ℕ) → s < C → Reaches C s 1 ((s + 1) % C)
next_place C s h = go (dec_lt (s + 1) C)
  where
    go : Dec (s + 1 < C) → Reaches C s 1 ((s + 1) % C)
    go (yes l) = on (sym (mod-eq_of_lt l))
    go (no l) = round (omega (arith, mod_once (s + 1) C (omega arith) (omega arith)))

pub next_below : (C s : ℕ) → 0 < C → (s + 1) % C < C
next_below C s h = mod-lt (s + 1) h

-- one place on is one farther, short of a whole round
pub distance_next : (C p s : ℕ) → p < C → s < C → distance C p s + 1 < C → distance C p ((s + 1) % C) ≡ distance C p s + 1
distance_next C p s hp hs h =
    distance_is C p ((s + 1) % C) (distance C p s + 1) hp (next_below C s (omega arith)) h
    (go (distance_reaches C p s hp hs) (next_place C s hs))
  where
    go : Reaches C p (distance C p s) s → Reaches C s 1 ((s + 1) % C) → Reaches C p (distance C p s + 1) ((s + 1) % C)
    go (on a) (on b) = on (omega arith)
    go (on a) (round b) = round (omega arith)
    go (round a) (on b) = round (omega arith)
    go (round a) (round b) = on (omega (arith, next_below C s (omega arith)))

-- one place back
pub before_below : (C s : ℕ) → 0 < C → (s + C - 1) % C < C
before_below C s h = mod-lt (s + C - 1) h

before_place : (C s : ℕ) → s < C → Reaches C ((s + C - 1) % C) 1 s
before_place C s h = go (dec_le 1 s)
  where
    go : Dec (1 ≤ s) → Reaches C ((s + C - 1) % C) 1 s
    go (yes l) = on (omega (arith, mod_once (s + C - 1) C (omega arith) (omega arith)))
    go (no l) = round (let e : (s + C - 1) % C ≡ s + C - 1 = mod-eq_of_lt (omega arith) in omega arith)

-- one place back is one farther, short of a whole round; the place before s is 1 away
pub distance_back : (C p s : ℕ) → p < C → s < C → distance C p s + 1 < C → distance C ((p + C - 1) % C) s ≡ distance C p s + 1
distance_back C p s hp hs h =
    let hb = before_below C p (omega arith) in
    distance_is C ((p + C - 1) % C) s (distance C p s + 1) hb hs h (go hb (before_place C p hp) (distance_reaches C p s hp hs))
  where
    go : (p + C - 1) % C < C → Reaches C ((p + C - 1) % C) 1 p → Reaches C p (distance C p s) s → Reaches C ((p + C - 1) % C) (distance C p s + 1) s
    go hb (on a) (on b) = on (omega arith)
    go hb (on a) (round b) = round (omega arith)
    go hb (round a) (on b) = round (omega arith)
    go hb (round a) (round b) = absurd (omega arith)

pub before_away : (C s : ℕ) → 1 < C → s < C → distance C ((s + C - 1) % C) s ≡ 1
before_away C s h hs = distance_back C s s hs hs (omega (arith, distance_self C s hs)) ∙ omega (arith, distance_self C s hs)

-- from the first place, and from the last to the first
pub from_0 : (C s : ℕ) → s < C → distance C 0 s ≡ s
from_0 C s h = distance_is C 0 s s (omega arith) h h (on (omega arith))

pub end_below : (C : ℕ) → 1 ≤ C → C - 1 < C
end_below C h = omega arith

pub end_to_start : (C : ℕ) → 2 ≤ C → distance C (C - 1) 0 ≡ 1
end_to_start C h = distance_is C (C - 1) 0 1 (omega arith) (omega arith) (omega arith) (round (omega arith))
