-- The facts of the frame: over who sends, and of a plan, as the crates above cite them.
-- Proved in Back.antt (predecessors), Forth.antt (the next sending slot) and Bounds.antt (M).
use Prim.Native.Nat.{ℕ, ◌+◌, ◌-◌, ◌%◌, ◌≤◌, ◌<◌}
use mathlib.Core.Path.{◌≡◌}
use mathlib.Core.Logic.{◌≢◌}
use mathlib.Core.Bool.{Bool, true}
use Rattle.laws.specs.Below.{first_from}
use Rattle.laws.specs.Ring.{distance}
use Rattle.plan.specs.declared.Plan.{Plan}
use Rattle.plan.specs.Sending.{own, sends}
use Rattle.plan.specs.Tested.{Sound}
use Rattle.plan.proofs.Sound.{sends_by, own_sends, own_in_frame}
use Rattle.gap.specs.Gap.{distance_for}

-- q is the predecessor of s: a sending slot, another one, and every other sending slot lies at least as far before s.
pub record Nearest (sending : ℕ → Bool) (C s q : ℕ) : Type 0 where
  pub within : q < C
  pub sent : sending q ≡ true
  pub other : q ≢ s
  pub near : (x : ℕ) → x < C → sending x ≡ true → x ≢ s → distance C q s ≤ distance C x s

-- The number of slots from p to the next sending slot after it, forward round a frame of C; C where no other sends.
abbrev pub slots_to_next_among : (sending : ℕ → Bool) → (C p : ℕ) → ℕ
slots_to_next_among sending C p = first_from (λ d. sending ((p + d) % C)) (C - 1) 1

-- The next sending slot after p is d slots away, and none is nearer.
pub record NextSlot (sending : ℕ → Bool) (C p d : ℕ) : Type 0 where
  pub one : 1 ≤ d
  pub short : d < C
  pub slot : ℕ
  pub within : slot < C
  pub sent : sending slot ≡ true
  pub away : distance C p slot ≡ d
  pub near : (x : ℕ) → x < C → sending x ≡ true → 1 ≤ distance C p x → d ≤ distance C p x

-- The same in a plan.
unfoldable pub slots_to_next : Plan → (p : ℕ) → ℕ
slots_to_next P p = slots_to_next_among (sends P) P.frame.0 p

-- The next sending slot after p is d slots away: a node sends there, and no node sends nearer.
pub record NextAt (P : Plan) (p d : ℕ) : Type 0 where
  pub one : 1 ≤ d
  pub short : d < P.frame.0
  pub by : ℕ
  pub below : by < P.nodes.0
  pub away : distance P.frame.0 p (own P by) ≡ d
  pub near : (j : ℕ) → j < P.nodes.0 → 1 ≤ distance P.frame.0 p (own P j) → d ≤ distance P.frame.0 p (own P j)

-- The predecessor q of node i's sending slot: a sending slot, another one, and node i's is the next after it.
pub record Before (P : Plan) (i q : ℕ) : Type 0 where
  pub within : q < P.frame.0
  pub sending : sends P q ≡ true
  pub other : q ≢ own P i
  pub away : distance P.frame.0 q (own P i) ≡ distance_for P i
  pub next : NextAt P q (distance_for P i)

-- the next sending slot of a plan is some node's, and the other nodes' slots are sending slots too
pub next_sender : (P : Plan) → Sound P → (p d : ℕ) → NextSlot (sends P) P.frame.0 p d → NextAt P p d
next_sender P o p d n =
    let b = sends_by P n.slot n.sent in
    record {
      one = n.one;
      short = n.short;
      by = b.by;
      below = b.below;
      away = rw b.slot n.away;
      near = λ j h l. n.near (own P j) (own_in_frame P o j h) (own_sends P j h) l;
    }
