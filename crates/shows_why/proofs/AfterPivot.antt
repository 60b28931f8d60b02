-- After the pivot, while nobody has sent since: all read one clock on the wall, the fast node by min and the others by max.
use Prim.Native.Nat.{ℕ, suc, ◌+◌, ◌*◌, ◌≤◌, ◌<◌}
use mathlib.Core.Path.{◌≡◌, refl, sym, ◌∙◌}
use mathlib.Core.Logic.{◌≢◌}
use mathlib.Core.Bool.{true, false}
use native.Mathlib.Nat.{mul-le-mul_right, mul-le-mul_left}
use native.Mathlib.Decide.{dec_le}
use native.Mathlib.Omega.{arith}
use borrow.Author.Tests.{eq-eqb, ne_eqb, eqb-true}
use Rattle.laws.proofs.Bools.{clash}
use Rattle.laws.proofs.Same.{by_same, at_same}
use Rattle.plan.specs.declared.Plan.{Plan}
use Rattle.plan.specs.Sending.{own}
use Rattle.plan.proofs.Sound.{own_in_frame}
use Rattle.run.specs.declared.NodeState.{NodeState}
use Rattle.run.specs.declared.Run.{Run}
use Rattle.run.specs.State.{node, is_about, is_sending}
use Rattle.run.specs.Moves.{delayed, ticked}
use Rattle.run.proofs.TickCases.{still_silent, sending_before}
use Rattle.shown.specs.declared.Mark.TheVariants.{After}
use Rattle.shown.specs.declared.Place.{Place}
use Rattle.shown.specs.declared.Parts.{Parts}
use Rattle.shown.specs.Shown.{due_time, goes_first}
use Rattle.shown.proofs.Play.{OnTime, TickMove, DelayMove, turn_first}
use Rattle.shows_why.proofs.Progress.{Setting, bump}
use Rattle.shows_why.proofs.Stands.{busy_at_own, Stands, tick_stands, about_count, delay_stands}
use Rattle.shows_why.proofs.FastAndOthers.{FastAndOthers, both_delayed, fast_ticked, other_ticked}
use Rattle.shown.proofs.Roles.{far_fits, Roles, far_of, far_none}

-- the place after the pivot with the run r
abbrev pub later : Run → Place
later r = record { run = r; mark = After }

-- after the pivot the fast node is due at min and the others at max, and the fast node goes first
module _ (P : Plan) (parts : Parts) where
  pub due_fast : due_time P parts After parts.fast.0 ≡ P.min.0
  unfolding due_time
  due_fast = rw (eq-eqb parts.fast.0 parts.fast.0 refl)

  pub due_slow : (i : ℕ) → i ≢ parts.fast.0 → due_time P parts After i ≡ P.max.0
  unfolding due_time
  due_slow i n = rw (ne_eqb i parts.fast.0 n)

  pub fast_goes_first : (r : Run) (i : ℕ) → parts.fast.0 < P.nodes.0 → i ≢ parts.fast.0 → TickMove P parts (later r) i → (node r parts.fast.0).time.0 ≢ P.min.0
  unfolding goes_first
  fast_goes_first r i l n m e = n (eqb-true i parts.fast.0 (turn_first P parts (later r) m.turn parts.fast.0 l (e ∙ sym due_fast) (eq-eqb parts.fast.0 parts.fast.0 refl)))

-- the fast node, which has ticked j times since the pivot
pub record Fast (P : Plan) (parts : Parts) (j : ℕ) (a : NodeState) : Type 0 where
  pub stands : Stands P parts.p.0 (own P parts.fast.0) (P.guard.0 + 1 + j) a
  pub time : a.time.0 ≤ P.min.0
  pub now : is_about a.mode ≡ true → a.time.0 ≡ 0
  pub silent : is_sending a.mode ≡ false
  pub limit : 1 + j ≤ far_of P parts parts.fast.0 * P.ticks.0

-- another node i, which has ticked m times, beside the fast node f with j ticks
pub record Slow (P : Plan) (parts : Parts) (j : ℕ) (f : NodeState) (i m : ℕ) (a : NodeState) : Type 0 where
  pub stands : Stands P parts.p.0 (own P i) (P.guard.0 + m) a
  pub time : a.time.0 ≤ P.max.0
  pub wall : j * P.min.0 + f.time.0 ≡ m * P.max.0 + a.time.0
  pub first : f.time.0 ≡ P.min.0 → 0 < a.time.0
  pub first_about : is_about f.mode ≡ true → 0 < a.time.0
  pub now : is_about a.mode ≡ true → (1 ≤ m) × (a.time.0 ≡ 0)
  pub alone : is_sending a.mode ≡ true → own P i ≡ parts.p.0

abbrev pub AfterPivot : Plan → Parts → Run → (ℕ → ℕ) → Type 0
AfterPivot P parts = FastAndOthers P parts (Fast P parts) (Slow P parts)

-- one node

module _ {P : Plan} {parts : Parts} (R : Roles P parts) where
  open R use {sound as S}

  -- the others never have more ticks than the fast node
  not_ahead : {j i m : ℕ} {x a : NodeState} → x.time.0 ≤ P.min.0 → Slow P parts j x i m a → m ≤ j
  not_ahead {j} {i} {m} l s = go (dec_le m j)
    where
      go : Dec (m ≤ j) → m ≤ j
      go (yes h) = h
      go (no h) =
          let x : (j + 1) * P.max.0 ≤ m * P.max.0 = mul-le-mul_right P.max.0 (omega arith) in
          let y : j * P.min.0 ≤ j * P.max.0 = mul-le-mul_left j S.min_max in
          absurd (omega (arith, s.first (omega (arith, s.wall, S.min_max)), s.wall, S.min_max))

  -- another node that is about to send has come to its own slot, and that isn't p
  pub slow_about : {j i m : ℕ} {x a : NodeState} → Slow P parts j x i m a → is_about a.mode ≡ true → (own P i ≢ parts.p.0) × (m ≡ far_of P parts i * P.ticks.0)
  slow_about {j} {i} {m} s e =
      let u : P.guard.0 + m ≡ far_of P parts i * P.ticks.0 + P.guard.0 = about_count S s.stands e in
      (λ q. absurd (let z : P.guard.0 + m ≡ 0 * P.ticks.0 + P.guard.0 = rw (far_none R i q) at u in omega (arith, (s.now e).0)), omega arith)

  -- the fast node at the limit is about to send
  fast_at_limit : {j : ℕ} {a : NodeState} → Fast P parts j a → is_about a.mode ≡ false → 1 + j < far_of P parts parts.fast.0 * P.ticks.0
  fast_at_limit {j} {a} x e =
      by_same (1 + j) (far_of P parts parts.fast.0 * P.ticks.0)
      (λ q. clash (is_sending a.mode) (busy_at_own S x.stands (own_in_frame P S parts.fast.0 R.fast_below) (omega arith) e) x.silent) (λ q. omega (arith, x.limit))

-- the run

module _ {P : Plan} {parts : Parts} {r : Run} (G : Setting P parts r) where
  open G use {roles as R, room}
  open R use {sound as S}

  abbrev f : ℕ
  f = parts.fast.0

  -- nobody is past due
  pub later_on_time : (node r f).time.0 ≤ P.min.0 → ((i : ℕ) → i < P.nodes.0 → i ≢ f → (node r i).time.0 ≤ P.max.0) → OnTime P parts (later r)
  later_on_time fast others i l =
      by_same i f (λ e. rw (e, due_fast P parts) fast) (λ n. rw (due_slow P parts i n) (others i l n))

  module _ {m : ℕ → ℕ} (w : AfterPivot P parts r m) where
    pub behind : (i : ℕ) → i < P.nodes.0 → i ≢ f → m i ≤ m f
    behind i l n = not_ahead R w.fast.time (w.others i l n)

    -- nobody has ticked a whole frame
    pub after_pivot_short : (i : ℕ) → i < P.nodes.0 → P.guard.0 + m i < P.frame.0 * P.ticks.0
    after_pivot_short i l =
        let fits : P.guard.0 + m f < P.frame.0 * P.ticks.0 = omega (arith, far_fits R f, w.fast.limit) in
        at_same (λ k. P.guard.0 + m k < P.frame.0 * P.ticks.0) i f fits (λ n. omega (arith, behind i l n))

    pub after_pivot_on_time : OnTime P parts (later r)
    after_pivot_on_time = later_on_time w.fast.time (λ i l n. (w.others i l n).time)

    pub after_pivot_delay : (d : ℕ) → DelayMove P parts (later r) d → AfterPivot P parts (delayed P d r) m
    after_pivot_delay d h =
        both_delayed G (Fast P parts) (Slow P parts) m d
        (record {
          stands = delay_stands S w.fast.stands d;
          time = rw (due_fast P parts) at (h.within f R.fast_below);
          now = λ e. clash (is_about (node r f).mode) e (h.quiet f R.fast_below);
          silent = w.fast.silent;
          limit = w.fast.limit;
        })
        (λ i l n.
        let s = w.others i l n in
        record {
          stands = delay_stands S s.stands d;
          time = rw (due_slow P parts i n) at (h.within i l);
          wall = omega (arith, s.wall);
          first = λ e. omega (arith, h.some);
          first_about = λ e. omega (arith, h.some);
          now = λ e. clash (is_about (node r i).mode) e (h.quiet i l);
          alone = s.alone;
        })

    pub after_pivot_fast : TickMove P parts (later r) f → AfterPivot P parts (ticked P f r) (bump m f)
    after_pivot_fast h =
        let quiet = h.quiet f R.fast_below in
        let limit = fast_at_limit R w.fast quiet in
        let due : (node r f).time.0 ≡ P.min.0 = h.due ∙ due_fast P parts in
        let more : P.guard.0 + 1 + suc (m f) ≡ suc (P.guard.0 + 1 + m f) = omega arith in
        fast_ticked G (Fast P parts) (Slow P parts) m
        (record {
          stands = rw more (tick_stands S quiet (omega (arith, far_fits R f)) w.fast.stands);
          time = omega arith;
          now = λ e. refl;
          silent = still_silent P (own P f) (node r f).clock.0 (node r f).slot.0 (node r f).mode quiet w.fast.silent;
          limit = omega arith;
        })
        (λ i l n.
        let s = w.others i l n in
        record {
          stands = s.stands;
          time = s.time;
          wall = omega (arith, s.wall);
          first = λ e. s.first due;
          first_about = λ e. s.first due;
          now = s.now;
          alone = s.alone;
        })

    pub after_pivot_other : (i : ℕ) → i ≢ f → TickMove P parts (later r) i → AfterPivot P parts (ticked P i r) (bump m i)
    after_pivot_other i n h =
        let s = w.others i h.below n in
        let quiet = h.quiet i h.below in
        let more : P.guard.0 + suc (m i) ≡ suc (P.guard.0 + m i) = omega arith in
        other_ticked G (Fast P parts) (Slow P parts) m i h.below n
        (record {
          stands = rw more (tick_stands S quiet (omega (arith, far_fits R f, w.fast.limit, behind i h.below n)) s.stands);
          time = omega arith;
          wall = omega (arith, s.wall, h.due, due_slow P parts i n);
          first = λ e. absurd (fast_goes_first P parts r i R.fast_below n h e);
          first_about = λ e. clash (is_about (node r f).mode) e (h.quiet f R.fast_below);
          now = λ e. (omega arith, refl);
          alone = λ e. s.alone (sending_before P (own P i) (node r i).clock.0 (node r i).slot.0 (node r i).mode quiet e);
        }) w
