-- After the pivot, rule by rule: every step keeps the clock on the wall, or leads to rule 2's last tick, or out of step.
use Prim.Native.Nat.{ℕ, ◌+◌, ◌*◌, ◌-◌, ◌≤◌, ◌<◌}
use mathlib.Core.Path.{◌≡◌, refl, sym, ap, ◌∙◌}
use mathlib.Core.Logic.{◌≢◌}
use mathlib.Core.Bool.{true, false}
use native.Mathlib.Nat.{lt_of_mul-lt-mul_right, mul-le-mul_right}
use native.Mathlib.Decide.{dec_le}
use native.Mathlib.Omega.{arith}
use Rattle.laws.proofs.Ring.{distance_self}
use Rattle.laws.proofs.Bools.{not_so}
use Rattle.laws.proofs.Same.{by_same}
use Rattle.plan.specs.declared.Plan.{Plan}
use Rattle.plan.specs.Sending.{own}
use Rattle.plan.proofs.Sound.{own_in_frame}
use Rattle.run.specs.declared.Run.{Run}
use Rattle.run.specs.declared.Step.{Step}
use Rattle.run.specs.declared.Step.TheVariants.{Delay, TickOf, SendOf}
use Rattle.run.specs.State.{node, is_about, is_out_of_step}
use Rattle.run.specs.Moves.{node_hearing, moved, ticked, sent}
use Rattle.run.proofs.Nodes.{node_still, node_sender}
use Rattle.run.proofs.Apartness.{out_is, send_apart}
use Rattle.shown.specs.declared.Parts.{Parts}
use Rattle.shown.proofs.Play.{OnTime, SendMove, TickMove, Move}
use Rattle.shows_why.proofs.Progress.{Setting, bump, bump_same, bump_other, counted, Unless, over, on}
use Rattle.shows_why.proofs.Stands.{busy_at_own, at_place, before_slot, past_slot, about_at, about_count, waits_away, busy}
use Rattle.shown.proofs.Roles.{far_fits, far_of, FailsOne, FailsTwo, FailsThree, Failure, one, two, three, pivot_in_frame, far_away, far_same, sender_not_fast}
use Rattle.shows_why.proofs.FastAndOthers.{other_sent}
use Rattle.shows_why.proofs.AfterPivot.{later, due_fast, Slow, AfterPivot, slow_about, behind, after_pivot_short, after_pivot_on_time, after_pivot_delay, after_pivot_fast, after_pivot_other}
use Rattle.shows_why.proofs.LastTick.{Beside, still_due, rests, Leaving, LastTick, last_tick_short, last_tick_on_time, last_tick_send, last_tick_out, last_tick_other, last_tick_delay}

-- what a failed rule adds to the clock on the wall
abbrev pub Besides : (P : Plan) (parts : Parts) → Failure P parts → (ℕ → ℕ) → Type 0
Besides P parts (one F) m = Unit {0}
Besides P parts (two b F) m = m b ≤ far_of P parts b * P.ticks.0
Besides P parts (three F) m = P.guard.0 + 1 + m parts.fast.0 < P.ticks.0

-- after the pivot: nobody has sent since, or only the fast node's last tick is left
pub data Ending (P : Plan) (parts : Parts) (F : Failure P parts) (r : Run) (m : ℕ → ℕ) : Type 0 where
  nobody_sent : AfterPivot P parts r m → Besides P parts F m → Ending P parts F r m
  last_tick : {b : ℕ} → FailsTwo P parts b → LastTick P parts b r m → Ending P parts F r m

module _ {P : Plan} {parts : Parts} {r : Run} (G : Setting P parts r) {m : ℕ → ℕ} (w : AfterPivot P parts r m) where
  open G use {roles as R, room}
  open R use {sound as S}
  open w use {fast, others}

  abbrev f : ℕ
  f = parts.fast.0

  -- the fast node about to send
  fast_count : is_about (node r f).mode ≡ true → 1 + m f ≡ far_of P parts f * P.ticks.0
  fast_count e = omega (arith, about_count S fast.stands e)

  -- another node in another slot than the fast node's own, which is about to send: out of step
  fast_sends : (i : ℕ) → i < P.nodes.0 → i ≢ f → is_about (node r f).mode ≡ true → P.guard.0 + m i < far_of P parts f * P.ticks.0 → is_out_of_step P (sent P f r) ≡ true
  fast_sends i l n e h = send_apart P r room f i R.fast_below l n (rw (about_at S fast.stands e).0 (before_slot S (others i l n).stands (own P f) h))

  -- rule 1: the fast node sends while the sender of p has not come to its slot

  one_send : FailsOne P parts → (i : ℕ) → SendMove P parts (later r) i → is_out_of_step P (sent P i r) ≡ true
  one_send F i h =
      by_same i f
      (λ e.
      let a = parts.sender.0 in
      let about : is_about (node r f).mode ≡ true = rw e at h.about in
      let s = others a R.sender_below (sender_not_fast R) in
      let z : (1 + m f) * P.min.0 ≡ far_of P parts f * P.ticks.0 * P.min.0 = ap (λ (n : ℕ). n * P.min.0) (fast_count about) in
      let u : P.guard.0 + m a < far_of P parts f * P.ticks.0 = lt_of_mul-lt-mul_right P.max.0 (omega (arith, s.wall, s.first_about about, fast.now about, F.rule)) in
      rw e (fast_sends a R.sender_below (sender_not_fast R) about u))
      (λ n.
      let a = slow_about R (others i h.below n) h.about in
      let z : far_of P parts f * P.ticks.0 ≤ far_of P parts i * P.ticks.0 = mul-le-mul_right P.ticks.0 (F.near i h.below a.0) in
      absurd (omega (arith, a.1, fast.limit, behind G w i h.below n)))

  -- rule 3, while the fast node is in p

  module _ (F : FailsThree P) (inside : P.guard.0 + 1 + m f < P.ticks.0) where
    -- a slot that isn't p is reached after k0 ticks
    far : (k : ℕ) → k < P.nodes.0 → own P k ≢ parts.p.0 → 1 * P.ticks.0 ≤ far_of P parts k * P.ticks.0
    far k l n = mul-le-mul_right P.ticks.0 (far_away R k l n)

    three_send : (i : ℕ) → SendMove P parts (later r) i → ⊥
    three_send i h =
        by_same i f (λ e. omega (arith, fast_count (rw e at h.about), far f R.fast_below R.fast_away))
        (λ n. let a = slow_about R (others i h.below n) h.about in omega (arith, a.1, far i h.below a.0, behind G w i h.below n))

    -- the tick that takes the fast node out of p finds the sender of p still sending
    three_out : TickMove P parts (later r) f → P.guard.0 + 2 + m f ≡ P.ticks.0 → is_out_of_step P (ticked P f r) ≡ true
    three_out h e =
        let a = parts.sender.0 in
        let n = sender_not_fast R in
        let hp = pivot_in_frame R in
        let s = others a R.sender_below n in
        let due : (node r f).time.0 ≡ P.min.0 = h.due ∙ due_fast P parts in
        let z : (P.guard.0 + 2 + m f) * P.min.0 ≡ P.ticks.0 * P.min.0 = ap (λ (n : ℕ). n * P.min.0) e in
        let u : m a + (P.guard.0 + P.tail.0) < P.ticks.0 = lt_of_mul-lt-mul_right P.max.0 (omega (arith, s.wall, s.first due, F.rule)) in
        let self = distance_self P.frame.0 parts.p.0 hp in
        let at = at_place S s.stands parts.p.0 (P.guard.0 + m a) hp (omega arith) (rw self (omega arith)) in
        let sends = busy S s.stands (at.0 ∙ sym R.sender_own) (omega (arith, at.1)) (omega (arith, at.1)) (h.quiet a R.sender_below) in
        out_is P (ticked P f r) a f R.sender_below R.fast_below (rw (node_still P r f a n) sends)
        (rw (node_still P r f a n, at.0)
        (past_slot S (after_pivot_fast G w h).fast.stands parts.p.0 (rw (self, bump_same m f) (omega arith))))

  -- rule 2, while node b has not passed its own slot's beginning

  module _ (b : ℕ) (F : FailsTwo P parts b) (inside : m b ≤ far_of P parts b * P.ticks.0) where
    t : Slow P parts (m f) (node r f) b (m b) (node r b)
    t = others b F.below F.other

    -- a node that sends in neither p nor b's slot reaches its own a slot later than b
    farther : (i : ℕ) → i < P.nodes.0 → own P i ≢ parts.p.0 → i ≢ b → (far_of P parts b + 1) * P.ticks.0 ≤ far_of P parts i * P.ticks.0
    farther i l a n =
        let apart : far_of P parts i ≢ far_of P parts b = λ e. n (far_same R i b l F.below e) in
        mul-le-mul_right P.ticks.0 (omega (arith, F.near i l a))

    -- no third node is about to send: all but the fast node read one clock on the wall, so none is more than a tick ahead of b
    no_third : (i : ℕ) → i < P.nodes.0 → i ≢ f → i ≢ b → is_about (node r i).mode ≡ true → ⊥
    no_third i l n d e =
        let s = others i l n in
        let a = slow_about R s e in
        let abreast : m i < m b + 2 = lt_of_mul-lt-mul_right P.max.0 (omega (arith, s.wall, t.wall, t.time, S.min_low, S.min_max)) in
        omega (arith, a.1, farther i l a.0 d, S.ticks_low)

    -- b about to send
    module _ (h : SendMove P parts (later r) b) where
      zero : (node r b).time.0 ≡ 0
      zero = (t.now h.about).1

      there : m b ≡ far_of P parts b * P.ticks.0
      there = (slow_about R t h.about).1

      -- another node i has ticked as often as b, or is due and lacks one tick
      beside : (i : ℕ) → i < P.nodes.0 → i ≢ b → i ≢ f → Beside P b (node r f).time.0 i (m i) (node_hearing P (node r i))
      beside i l d n =
          let s = others i l n in
          by_same (m i) (m b)
          (λ q.
          let z : m i * P.max.0 ≡ m b * P.max.0 = ap (λ (n : ℕ). n * P.max.0) q in
          rests (omega (arith, s.wall, t.wall, zero, S.min_max)) (not_so (is_about (node r i).mode) (no_third i l n d)) (after_pivot_short G w i l))
          (λ q.
          let low : m b < m i + 2 = lt_of_mul-lt-mul_right P.max.0 (omega (arith, s.wall, s.time, t.wall, zero, S.min_low, S.min_max)) in
          let high : m i < m b + 1 = lt_of_mul-lt-mul_right P.max.0 (omega (arith, s.wall, t.wall, zero, S.min_low, S.min_max)) in
          let z : (m i + 1) * P.max.0 ≡ m b * P.max.0 = ap (λ (n : ℕ). n * P.max.0) (omega arith) in
          let a = at_place S s.stands (own P b) (P.guard.0 - 1) (own_in_frame P S b F.below) (omega (arith, S.guard_tail)) (omega (arith, there, S.guard_low)) in
          let away : (node r i).slot.0 ≢ own P i = λ y. d (S.own_apart i b l F.below (sym y ∙ a.0)) in
          still_due d (omega (arith, s.wall, t.wall, zero)) (waits_away S s.stands away) away (omega (arith, there, far_fits R b)))

      -- the fast node in b's slot at its last clock
      begins : P.guard.0 + 2 + m f ≡ (far_of P parts b + 1) * P.ticks.0 → LastTick P parts b (sent P b r) m
      begins e =
          let at = at_place S fast.stands (own P b) (P.ticks.0 - 1) (own_in_frame P S b F.below) (omega (arith, S.ticks_low)) (omega (arith, S.ticks_low)) in
          record {
            speaks = rw (node_sender P r b F.below (omega (arith, F.below))) (record { sends = refl; slot = (about_at S t.stands h.about).0 });
            places = other_sent G (Leaving P (own P b)) (λ j x. Beside P b x.time.0) m b F.below F.other
                (record {
                  time = fast.time;
                  waits = waits_away S fast.stands (λ q. F.other (S.own_apart b f F.below R.fast_below (sym at.0 ∙ q)));
                  clock = omega (arith, at.1, S.ticks_low);
                  slot = at.0;
                  short = after_pivot_short G w f R.fast_below;
                })
                (rests (omega (arith, zero, S.min_max)) refl (after_pivot_short G w b F.below)) beside;
          }

      -- the fast node has left b's slot, or is at its last clock there
      b_sends : Unless P (later (sent P b r)) (LastTick P parts b (sent P b r) m)
      b_sends =
          let z : m b * P.max.0 ≡ far_of P parts b * P.ticks.0 * P.max.0 = ap (λ (n : ℕ). n * P.max.0) there in
          let first : (node r f).time.0 ≢ P.min.0 = λ q. absurd (omega (arith, zero, t.first q)) in
          go (dec_le ((far_of P parts b + 1) * P.ticks.0) (P.guard.0 + 1 + m f)) (lt_of_mul-lt-mul_right P.min.0 (omega (arith, t.wall, zero, fast.time, F.rule)))
        where
          go : Dec ((far_of P parts b + 1) * P.ticks.0 ≤ P.guard.0 + 1 + m f) → (far_of P parts b + 1) * P.ticks.0 < P.guard.0 + 3 + m f
              → Unless P (later (sent P b r)) (LastTick P parts b (sent P b r) m)
          go (yes l) late =
              over (send_apart P r room b f F.below R.fast_below (λ q. F.other (sym q)) (rw (about_at S t.stands h.about).0 (past_slot S fast.stands (own P b) l)))
          go (no l) late = on (begins (omega arith))

    two_send : (i : ℕ) → SendMove P parts (later r) i → Unless P (later (sent P i r)) (LastTick P parts b (sent P i r) m)
    two_send i h =
        by_same i f
        (λ e. over (rw e (fast_sends b F.below F.other (rw e at h.about) (omega (arith, farther f R.fast_below R.fast_away (λ q. F.other (sym q)), S.guard_tail)))))
        (λ n. by_same i b (λ d. rw d (b_sends (rw d at h))) (λ d. absurd (no_third i h.below n d h.about)))

    -- b's own tick does not take it past its slot's beginning
    two_inside : is_about (node r b).mode ≡ false → m b < far_of P parts b * P.ticks.0
    two_inside e =
        by_same (m b) (far_of P parts b * P.ticks.0)
        (λ q. absurd (F.away (t.alone (busy_at_own S t.stands (own_in_frame P S b F.below) (omega arith) e)))) (λ q. omega arith)

  -- every rule, while nobody has sent

  one_more_send : (F : Failure P parts) → Besides P parts F m → (i : ℕ) → SendMove P parts (later r) i → Unless P (later (sent P i r)) (Ending P parts F (sent P i r) m)
  one_more_send (one F) b i h = over (one_send F i h)
  one_more_send (two k F) b i h = go (two_send k F b i h)
    where
      go : Unless P (later (sent P i r)) (LastTick P parts k (sent P i r) m) → Unless P (later (sent P i r)) (Ending P parts (two k F) (sent P i r) m)
      go (over e) = over e
      go (on t) = on (last_tick F t)
  one_more_send (three F) b i h = absurd (three_send F b i h)

  fast_tick : (F : Failure P parts) → Besides P parts F m → TickMove P parts (later r) f → Unless P (later (ticked P f r)) (Ending P parts F (ticked P f r) (bump m f))
  fast_tick (one F) b h = on (nobody_sent (after_pivot_fast G w h) tt)
  fast_tick (two k F) b h = on (nobody_sent (after_pivot_fast G w h) (rw (bump_other m f k F.other) b))
  fast_tick (three F) b h =
      by_same (P.guard.0 + 2 + m f) P.ticks.0 (λ e. over (three_out F b h e)) (λ n. on (nobody_sent (after_pivot_fast G w h) (rw (bump_same m f) (omega arith))))

  besides_other : (F : Failure P parts) → Besides P parts F m → (i : ℕ) → i ≢ f → TickMove P parts (later r) i → Besides P parts F (bump m i)
  besides_other (one F) b i n h = tt
  besides_other (two k F) b i n h =
      by_same k i (λ e. rw (← e, bump_same m k) (two_inside k F b (h.quiet k F.below))) (λ d. rw (bump_other m i k d) b)
  besides_other (three F) b i n h = rw (bump_other m i f (λ e. n (sym e))) b

module _ {P : Plan} {parts : Parts} {r : Run} (G : Setting P parts r) {m : ℕ → ℕ} {F : Failure P parts} where
  pub ending_short : Ending P parts F r m → (i : ℕ) → i < P.nodes.0 → P.guard.0 + m i < P.frame.0 * P.ticks.0
  ending_short (nobody_sent w b) = after_pivot_short G w
  ending_short (last_tick H t) = last_tick_short G H t

  pub ending_on_time : Ending P parts F r m → OnTime P parts (later r)
  ending_on_time (nobody_sent w b) = after_pivot_on_time G w
  ending_on_time (last_tick H t) = last_tick_on_time G H t

  pub ending_keeps : Ending P parts F r m → (s : Step) → Move P parts (later r) s → Unless P (later (moved P r s)) (Ending P parts F (moved P r s) (counted s m))
  ending_keeps (nobody_sent w b) (Delay d) h = on (nobody_sent (after_pivot_delay G w d.0 h) b)
  ending_keeps (last_tick H t) (Delay d) h = on (last_tick H (last_tick_delay G H t d.0 h))
  ending_keeps (nobody_sent w b) (TickOf i) h =
      by_same i.0 parts.fast.0 (λ e. rw e (fast_tick G w F b (rw e at h))) (λ n. on (nobody_sent (after_pivot_other G w i.0 n h) (besides_other G w F b i.0 n h)))
  ending_keeps (last_tick H t) (TickOf i) h = by_same i.0 parts.fast.0 (λ e. over (rw e (last_tick_out G H t))) (λ n. on (last_tick H (last_tick_other G H t i.0 n h)))
  ending_keeps (nobody_sent w b) (SendOf i) h = one_more_send G w F b i.0 h
  ending_keeps (last_tick H t) (SendOf i) h = absurd (last_tick_send G H t i.0 h)
