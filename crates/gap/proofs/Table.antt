-- The walk over a table of occupied slots finds what the definition says.
use Prim.Native.Nat.{ℕ, zero, suc, ◌+◌, ◌-◌, ◌%◌, ◌≤◌, ◌<◌}
use mathlib.Core.Path.{◌≡◌, refl, sym, ap, ◌∙◌}
use mathlib.Core.Logic.{◌≢◌}
use mathlib.Core.Bool.{Bool, true, false, ◌||◌}
use mathlib.Core.List.{List}
use native.Mathlib.Nat.{sub-zero, mod-eq_of_lt, mod-lt}
use native.Mathlib.Numerals.{add-one}
use native.Mathlib.Decide.{ℕ_discrete}
use native.Mathlib.Omega.{arith}
use borrow.Author.Tests.{eq-eqb, ne_eqb}
use lib.ListN.{length, get_or, set, take, replicate, length-replicate, length-take}
use Rattle.std.proofs.lemmas.List.{get_or-take}
use Rattle.plan.specs.declared.Slot.{Slot}
use lib.Seq.{get_or-set_same, get_or-set_other}
use lib.Dec.{eqb}
use Rattle.laws.specs.Below.{any_below}
use Rattle.laws.proofs.Bools.{or_true_right}
use Rattle.laws.proofs.Ring.{mod_once}
use Rattle.plan.specs.declared.Plan.{Plan}
use Rattle.plan.specs.Sending.{own, sends_below}
use Rattle.gap.specs.Gap.{slot_before, nearest}
use Rattle.laws.proofs.Overs.{get_or_over}
use Rattle.gap.specs.declared.Distances.{Distances}
use Rattle.gap.specs.Distances.{taken, Free, node_distance, no_distance, distances_of}

-- the slot before: round the frame from slot 0, one less from any other

pub before_0 : (C s : ℕ) → s ≡ 0 → s < C → C - 1 ≡ slot_before C s
before_0 C s e h = let m : (s + C - 1) % C ≡ s + C - 1 = mod-eq_of_lt (omega arith) in omega arith

pub before_other : (C s : ℕ) → s ≢ 0 → s < C → s - 1 ≡ slot_before C s
before_other C s e h = omega (arith, mod_once (s + C - 1) C (omega arith) (omega arith))

-- the search, by what it meets

pub nearest_none : (f : ℕ → Bool) (C left s : ℕ) → left ≡ 0 → s ≡ nearest f C left s
unfolding nearest
nearest_none f C left s e = rw e

pub nearest_here : (f : ℕ → Bool) (C left s : ℕ) → f s ≡ true → s ≡ nearest f C left s
unfolding nearest
nearest_here f C zero s e = refl
nearest_here f C (suc left) s e = rw (nearest, e)

pub nearest_on : (f : ℕ → Bool) (C left s : ℕ) → left ≢ 0 → f s ≡ false → nearest f C (left - 1) (slot_before C s) ≡ nearest f C left s
unfolding nearest
nearest_on f C zero s n e = absurd (n refl)
nearest_on f C (suc left) s n e = let q : suc left - 1 ≡ left = omega arith in rw (nearest, e, q)

-- a row of slots that do not pass, not round the frame, is skipped at once
pub nearest_skip : (f : ℕ → Bool) (C left s n : ℕ) → n ≤ left → n ≤ s → s < C → ((j : ℕ) → j < n → f (s - j) ≡ false) → nearest f C (left - n) (s - n) ≡ nearest f C left s
nearest_skip f C left s zero l m h free = rw (sub-zero left, sub-zero s)
nearest_skip f C left s (suc n) l m h free =
    let rest = nearest_skip f C (left - 1) (s - 1) n (omega arith) (omega arith) (omega arith) (λ j i. rw (less s j) (free (suc j) (omega arith))) in
    let first = nearest_on f C left s (omega arith) (rw (sub-zero s) at (free 0 (omega arith))) in
    rw (less left n, less s n) at rest ∙ rw (← before_other C s (omega arith) h) at first
  where
    less : (a b : ℕ) → a - 1 - b ≡ a - suc b
    less a b = omega arith

-- tests that agree on the frame find the same
pub nearest_same : (f g : ℕ → Bool) (C left s : ℕ) → s < C → ((x : ℕ) → x < C → f x ≡ g x) → nearest f C left s ≡ nearest g C left s
unfolding nearest
nearest_same f g C zero s h same = refl
nearest_same f g C (suc left) s h same =
    go (g s) (same s h) (nearest_same f g C left (slot_before C s) (mod-lt (s + C - 1) (omega arith)) same)
  where
    go : (b : Bool) → f s ≡ b → nearest f C left (slot_before C s) ≡ nearest g C left (slot_before C s)
        → nearest f C (suc left) s ≡ elim b [ true ↦ s | false ↦ nearest g C left (slot_before C s) ]
    go true e r = rw (nearest, e)
    go false e r = rw (nearest, e) r

-- the table

-- exactly the slots that a node below i sends in are marked
abbrev pub Marked : Plan → ℕ → List Bool → Type 0
Marked P i table = (s : ℕ) → taken table s ≡ sends_below P i s

get_or_off : (n s : ℕ) → taken (replicate n false) s ≡ false
get_or_off zero s = refl
get_or_off (suc n) zero = refl
get_or_off (suc n) (suc s) = get_or_off n s

pub marked_none : (P : Plan) (n : ℕ) → Marked P 0 (replicate n false)
unfolding any_below
marked_none P n s = get_or_off n s

pub marked_more : (P : Plan) (i : ℕ) (table : List Bool) → own P i < length table → Marked P i table → Marked P (i + 1) (set table (own P i) true)
unfolding any_below
marked_more P i table l m s = go (ℕ_discrete s (own P i))
  where
    go : Dec (s ≡ own P i) → taken (set table (own P i) true) s ≡ sends_below P (i + 1) s
    go (yes e) = rw (e, add-one, get_or-set_same table (own P i) true false l, or_true_right (sends_below P i (own P i)) (eqb (own P i) (own P i)) (eq-eqb (own P i) (own P i) refl))
    go (no n) = get_or-set_other table (own P i) s true false n ∙ m s ∙ rw (add-one, ne_eqb (own P i) s (λ e. n (sym e))) (or_is_false (sends_below P i s))
      where
        or_is_false : (b : Bool) → b ≡ (b || false)
        or_is_false true = refl
        or_is_false false = refl

-- a row of free slots, and one more slot
pub free_more : (table : List Bool) (s n : ℕ) → Free table s n → taken table (s - n) ≡ false → Free table s (n + 1)
free_more table s n row e j h = go (ℕ_discrete j n)
  where
    go : Dec (j ≡ n) → taken table (s - j) ≡ false
    go (yes q) = rw q e
    go (no q) = row j (omega arith)

-- the sending slots of the nodes, as the places of the list of the first N slots

pub record OwnAt (P : Plan) (i : ℕ) (slot : Slot) : Type 0 where
  pub below : i < P.nodes.0
  pub is : slot.0 ≡ own P i

pub own_at : (P : Plan) (i : ℕ) → i < length (take P.nodes.0 P.slots) → OwnAt P i (get_or (take P.nodes.0 P.slots) i (record { 0 = 0 }))
own_at P i h =
    let l : i < P.nodes.0 = omega (arith, length-take P.nodes.0 P.slots) in
    record { below = l; is = ap (λ (s : Slot). s.0) (get_or-take P.nodes.0 P.slots i (record { 0 = 0 }) l) }

-- the distances of all nodes

-- what stands at a node's place
pub distances_at : (P : Plan) (distances : Distances) → distances ≡ distances_of P → (i : ℕ) → i < P.nodes.0 → i < 32 → get_or distances.nodes i no_distance ≡ node_distance P (own P i)
unfolding distances_of
distances_at P distances e i h l =
    rw e (get_or_over P.nodes.0 (λ k x. node_distance P (own P k)) (replicate 32 no_distance) i no_distance h (let z : length (replicate 32 no_distance) ≡ 32 = length-replicate 32 no_distance in omega arith))
