-- Every public function's own contract leaves one answer, and one content of what was lent: all of them, by crate, methods and
-- conversions (`From`, `TryFrom`) too. None stands here for what promises no one answer: `judging::tell` and the texts of `Display`
-- promise nothing of what they write, `flush` and `add` of a page answer whether text could go out, and `streams` says how much is read
-- at most. Equality and `Debug` that are derived are not listed. The byte forms and the calls that C and Rust link are in UniqueBytes.
use mathlib.Core.Path.{◌≡◌, sym, ap, ◌∙◌}
use denote.RattleType.{RattleType}
use denote.Param.Laws.{Laws}
use mir.Syntax.{Dict}
use Rattle.std.specs.Prelude.{ℕ, List, Result}
use Rattle.std.specs.Result.{result_err}
use Rattle.plan.specs.declared.Plan.{Plan}
use Rattle.plan.specs.declared.Slot.{Slot}
use Rattle.plan.specs.declared.refusal.Refusal.{Refusal}
use Rattle.run.specs.declared.Run.{Run}
use Rattle.run.specs.declared.Step.{Step}
use Rattle.run.specs.Steps.{step_of, run_left}
use Rattle.shown.specs.declared.Given.{Given}
use Rattle.text.specs.Written.{Puts}
use Rattle.plan.proofs.refusal.Refusal.number.Reads as refusal-number
use Rattle.plan.proofs.Plan.tested.Reads as plan-tested
use Rattle.plan_file.proofs.be16.Reads as be16
use Rattle.plan_file.proofs.be32.Reads as be32
use Rattle.plan_file.proofs.read_tested.Reads as read-tested
use Rattle.plan_file.proofs.read_plan.Reads as read-plan
use Rattle.gap.proofs.distances_tested.Reads as distances-tested
use Rattle.gap.proofs.gap_tested.Reads as gap-tested
use Rattle.rules.proofs.Rule.number.Reads as rule-number
use Rattle.rules.proofs.Sides.holds.Reads as sides-hold
use Rattle.rules.proofs.verdict_tested.Reads as verdict-tested
use Rattle.rules.proofs.judge.Reads as judge
use Rattle.rules.proofs.prepare.Reads as prepare
use Rattle.run.proofs.fresh.Reads as fresh
use Rattle.run.proofs.Mode.is_about_to_send.Reads as is-about-to-send
use Rattle.run.proofs.Mode.is_sending.Reads as is-sending
use Rattle.run.proofs.in_range.Reads as is-in-range
use Rattle.run.proofs.tested.TestedRun.fresh.Reads as fresh-tested
use Rattle.run.proofs.Run.tested.Reads as run-tested
use Rattle.elsewhere.proofs.apart_tested.Reads as apart-tested
use Rattle.elsewhere.proofs.is_out_of_step.Reads as is-out-of-step
use Rattle.elsewhere.proofs.out_of_step.Reads as out-of-step
use Rattle.moves.proofs.ticked.Reads as ticked
use Rattle.moves.proofs.delayed.Reads as delayed
use Rattle.moves.proofs.sent.Reads as sent
use Rattle.steps.proofs.moved.Reads as moved
use Rattle.steps.proofs.step_in_range.Reads as step-in-range
use Rattle.steps.proofs.step_tested.Reads as step-tested
use Rattle.steps.proofs.step.Reads as step
use Rattle.reckoning.proofs.reckon_tested.Reads as reckon-tested
use Rattle.reckoning.proofs.reckon.Reads as reckon
use Rattle.desk.proofs.step_in_place.Reads as step-in-place
use Rattle.desk.proofs.step_at_desk.Reads as step-at-desk
use Rattle.shown.proofs.fresh_place.Reads as fresh-place
use Rattle.shown.proofs.PlaceFromShowing.from.Reads as place-from
use Rattle.shown_parts.proofs.parts_tested.Reads as parts-tested
use Rattle.shown_look.proofs.due_time.Reads as due-time
use Rattle.shown_look.proofs.guard_ends.Reads as guard-ends
use Rattle.shown_look.proofs.look_round.Reads as look-round
use Rattle.shown_next.proofs.given_tested.Reads as given-tested
use Rattle.shown_next.proofs.showing.Reads as showing
use Rattle.shown_next.proofs.next_shown.Reads as next-shown
use Rattle.letters.proofs.RefusalFromNoLetter.from.Reads as no-letter-refused
use Rattle.letters.proofs.U8FromLetter.from.Reads as letter-to-byte
use Rattle.letters.proofs.LetterTryFromU8.try_from.Reads as byte-to-letter
use Rattle.letters.proofs.SpeltFromStep.from.Reads as step-to-spelt
use Rattle.letters.proofs.StepFromSpelt.from.Reads as spelt-to-step
use Rattle.letters.proofs.step_by.Reads as step-by
use Rattle.text.proofs.has_room.Reads as has-room
use Rattle.text.proofs.put_byte.Reads as put-byte
use Rattle.text.proofs.put_word.Reads as put-word
use Rattle.text.proofs.put_numbered.Reads as put-numbered
use Rattle.text.proofs.put_wide.Reads as put-wide
use Rattle.text.proofs.put_ended.Reads as put-ended
use Rattle.text.proofs.put_in_room.Reads as put-in-room
use Rattle.text.specs.contracts.put_in_room.F-FnOnce.{Ghosts}
use Rattle.pages.proofs.Page.new.Reads as new-page
use Rattle.lines.proofs.put_refused.Reads as put-refused
use Rattle.lines.proofs.write_step.Reads as write-step
use Rattle.lines.proofs.write_out.Reads as write-out
use Rattle.lines.proofs.write_answer.Reads as write-answer
use Rattle.lines.proofs.write_refused.Reads as write-refused
use Rattle.verdict_lines.proofs.write_judged.Reads as write-judged
use Rattle.step_lines.proofs.reading_byte.Reads as reading-byte
use Rattle.step_lines.proofs.reading_end.Reads as reading-end
use Rattle.step_lines.proofs.read_line.Reads as read-line
use Rattle.promises.specs.Promises.{OneAnswer, One}
use Rattle.promises.proofs.ByEquations.{same_result, same_done, same_option, by_equations, by_refusals}
use Rattle.promises.proofs.Tested.{same_plan, same_run, same_prepared, same_showing}

abbrev slot : ℕ → Slot
slot n = record { 0 = n }

-- plan

pub refusal_number_one : OneAnswer refusal-number.Post
refusal_number_one κ a x y l m p q = p ∙ sym q

pub plan_tested_one : OneAnswer plan-tested.Post
plan_tested_one κ a x y l m p q = same_result x y (p.0 ∙ sym q.0) p.1 q.1 (λ s t u v. same_plan s t (u ∙ sym v))

-- plan_file

pub be16_one : OneAnswer be16.Post
be16_one κ a x y l m p q = p ∙ sym q

pub be32_one : OneAnswer be32.Post
be32_one κ a x y l m p q = p ∙ sym q

pub read_tested_one : OneAnswer read-tested.Post
read_tested_one κ a x y l m p q = same_result x y (p.0 ∙ sym q.0) p.1 q.1 (λ s t u v. same_plan s t (u ∙ sym v))

pub read_plan_one : OneAnswer read-plan.Post
read_plan_one κ a x y l m p q = p ∙ sym q

-- gap: of a tested plan

pub distances_tested_one : OneAnswer distances-tested.Post
distances_tested_one κ a x y l m p q = p ∙ sym q

pub gap_tested_one : OneAnswer gap-tested.Post
gap_tested_one κ a x y l m p q = ap (λ (n : ℕ). slot n) (p ∙ sym q)

-- rules

pub rule_number_one : OneAnswer rule-number.Post
rule_number_one κ a x y l m p q = p ∙ sym q

pub sides_hold_one : OneAnswer sides-hold.Post
sides_hold_one κ a x y l m p q = p ∙ sym q

pub verdict_tested_one : OneAnswer verdict-tested.Post
verdict_tested_one κ a x y l m p q = p ∙ sym q

pub judge_one : OneAnswer judge.Post
judge_one κ a x y l m p q = p ∙ sym q

pub prepare_one : OneAnswer prepare.Post
prepare_one κ a x y l m p q = same_prepared x y (p ∙ sym q)

-- run

pub fresh_one : OneAnswer fresh.Post
fresh_one κ a x y l m p q = p ∙ sym q

pub is_about_to_send_one : OneAnswer is-about-to-send.Post
is_about_to_send_one κ a x y l m p q = p ∙ sym q

pub is_sending_one : OneAnswer is-sending.Post
is_sending_one κ a x y l m p q = p ∙ sym q

pub in_range_one : OneAnswer is-in-range.Post
in_range_one κ a x y l m p q = p ∙ sym q

pub fresh_tested_one : OneAnswer fresh-tested.Post
fresh_tested_one κ a x y l m p q = same_run x y (p.0 ∙ sym q.0) (p.1 ∙ sym q.1)

pub run_tested_one : OneAnswer run-tested.Post
run_tested_one κ a x y l m p q = same_result x y (p.0 ∙ sym q.0) p.1 q.1 (λ s t u v. same_run s t (u.0 ∙ sym v.0) (u.1 ∙ sym v.1))

-- elsewhere

pub apart_tested_one : OneAnswer apart-tested.Post
apart_tested_one κ a x y l m p q = p ∙ sym q

pub is_out_of_step_one : OneAnswer is-out-of-step.Post
is_out_of_step_one κ a x y l m p q = p ∙ sym q

pub out_of_step_one : OneAnswer out-of-step.Post
out_of_step_one κ a x y l m p q = p ∙ sym q

-- moves: of a tested plan

pub ticked_one : OneAnswer ticked.Post
ticked_one κ a x y l m p q = p ∙ sym q

pub delayed_one : OneAnswer delayed.Post
delayed_one κ a x y l m p q = p ∙ sym q

pub sent_one : OneAnswer sent.Post
sent_one κ a x y l m p q = p ∙ sym q

-- steps

pub moved_one : OneAnswer moved.Post
moved_one κ a x y l m p q = same_run x y (p.0 ∙ sym q.0) (p.1 ∙ sym q.1)

pub step_in_range_one : OneAnswer step-in-range.Post
step_in_range_one κ a x y l m p q = same_result x y (p.0 ∙ sym q.0) p.1 q.1 (λ s t u v. same_run s t (u.0 ∙ sym v.0) (u.1 ∙ sym v.1))

pub step_tested_one : OneAnswer step-tested.Post
step_tested_one κ a x y l m p q = p ∙ sym q

pub step_one : OneAnswer step.Post
step_one κ a x y l m p q = p ∙ sym q

-- reckoning

pub reckon_tested_one : OneAnswer reckon-tested.Post
reckon_tested_one κ a x y l m p q = p ∙ sym q

pub reckon_one : OneAnswer reckon.Post
reckon_one κ a x y l m p q = p ∙ sym q

-- desk, the run that is lent: the two equations of its contract, written out, and the contract's own

pub step_in_place_one : (P : Plan) (r : Run) (s : Step) (x y : Result (Unit {0}) Refusal) (l m : Run)
    → (result_err x ≡ result_err (step_of P r s)) × (l ≡ run_left P r s) → (result_err y ≡ result_err (step_of P r s)) × (m ≡ run_left P r s) → (x ≡ y) × (l ≡ m)
step_in_place_one P r s x y l m p q = (same_done x y (p.0 ∙ sym q.0), p.1 ∙ sym q.1)

pub step_in_place_own : One (λ κ l. l.0.now) step-in-place.Post
step_in_place_own = by_refusals _ _ (λ κ a x l p. p)

pub step_at_desk_one : OneAnswer step-at-desk.Post
step_at_desk_one κ a x y l m p q = λ j. (same_done x.0 y.0 (p.0 ∙ sym q.0) j, (p.1 ∙ sym q.1) j)

-- shown, and its parts, look and next step

pub fresh_place_one : OneAnswer fresh-place.Post
fresh_place_one κ a x y l m p q = p ∙ sym q

pub place_from_one : OneAnswer place-from.Post
place_from_one κ a x y l m p q = p ∙ sym q

pub parts_tested_one : OneAnswer parts-tested.Post
parts_tested_one κ a x y l m p q = p ∙ sym q

pub due_time_one : OneAnswer due-time.Post
due_time_one κ a x y l m p q = λ j. record { 0 = (p ∙ sym q) j }

pub guard_ends_one : OneAnswer guard-ends.Post
guard_ends_one κ a x y l m p q = p ∙ sym q

pub look_round_one : OneAnswer look-round.Post
look_round_one κ a x y l m p q = p ∙ sym q

pub given_tested_one : OneAnswer given-tested.Post
given_tested_one κ a x y l m p q = same_option x y (p.0 ∙ sym q.0) p.1 q.1 (λ s t e u v.
    let w = same_showing s.1 t.1 (u.0 ∙ sym v.0) (u.1 ∙ sym v.1) (ap (λ (z : Given). z.place) e) in λ j. ((e j).step, w j))

pub showing_one : OneAnswer showing.Post
showing_one κ a x y l m p q = same_option x y (p.0 ∙ sym q.0) p.1 q.1 (λ s t e u v. same_showing s t (u.0 ∙ sym v.0) e (u.1 ∙ sym v.1))

pub next_shown_one : OneAnswer next-shown.Post
next_shown_one κ a x y l m p q = p ∙ sym q

-- letters

pub no_letter_refused_one : OneAnswer no-letter-refused.Post
no_letter_refused_one κ a x y l m p q = p ∙ sym q

pub letter_to_byte_one : OneAnswer letter-to-byte.Post
letter_to_byte_one κ a x y l m p q = p ∙ sym q

pub byte_to_letter_one : OneAnswer byte-to-letter.Post
byte_to_letter_one κ a x y l m p q = p ∙ sym q

pub step_to_spelt_one : OneAnswer step-to-spelt.Post
step_to_spelt_one κ a x y l m p q = p ∙ sym q

pub spelt_to_step_one : OneAnswer spelt-to-step.Post
spelt_to_step_one κ a x y l m p q = p ∙ sym q

pub step_by_one : OneAnswer step-by.Post
step_by_one κ a x y l m p q = p ∙ sym q

-- text: bytes put into a lent buffer

pub has_room_one : OneAnswer has-room.Post
has_room_one κ a x y l m p q = p ∙ sym q

pub put_byte_one : One (λ κ l. l.0.now) put-byte.Post
put_byte_one = by_equations _ _ (λ κ a x l p. (p.ends, p.holds))

pub put_word_one : One (λ κ l. l.0.now) put-word.Post
put_word_one = by_equations _ _ (λ κ a x l p. (p.ends, p.holds))

pub put_numbered_one : One (λ κ l. l.0.now) put-numbered.Post
put_numbered_one = by_equations _ _ (λ κ a x l p. (p.ends, p.holds))

pub put_wide_one : One (λ κ l. l.0.now) put-wide.Post
put_wide_one = by_equations _ _ (λ κ a x l p. (p.ends, p.holds))

pub put_ended_one : One (λ κ l. l.0.now) put-ended.Post
put_ended_one = by_equations _ _ (λ κ a x l p. (p.ends, p.holds))

-- of every function that it may be given: `text` is what that one puts
module _ (F : RattleType) (laws : Laws F) (call : Ghosts F) (once drop : Dict) (text : List ℕ) where
  pub put_in_room_one : One (λ κ l. l.0.now) (λ κ a x l. Puts call a.1.1.1.0 a.1.1.0 a.0.now a.1.0 text × put-in-room.Post F laws call once drop κ a x l)
  put_in_room_one = by_equations _ _ (λ κ a x l p. (p.1.0 text p.0, p.1.1 text p.0))

-- pages

pub new_page_one : OneAnswer new-page.Post
new_page_one κ a x y l m p q = p ∙ sym q

-- lines, verdict_lines: texts put or written into a lent buffer

pub put_refused_one : One (λ κ l. l.0.now) put-refused.Post
put_refused_one = by_equations _ _ (λ κ a x l p. (p.ends, p.holds))

pub write_step_one : One (λ κ l. l.0.now) write-step.Post
write_step_one = by_equations _ _ (λ κ a x l p. p)

pub write_out_one : One (λ κ l. l.0.now) write-out.Post
write_out_one = by_equations _ _ (λ κ a x l p. p)

pub write_answer_one : One (λ κ l. l.0.now) write-answer.Post
write_answer_one = by_equations _ _ (λ κ a x l p. p)

pub write_refused_one : One (λ κ l. l.0.now) write-refused.Post
write_refused_one = by_equations _ _ (λ κ a x l p. p)

pub write_judged_one : One (λ κ l. l.0.now) write-judged.Post
write_judged_one = by_equations _ _ (λ κ a x l p. p)

-- step_lines

pub reading_byte_one : OneAnswer reading-byte.Post
reading_byte_one κ a x y l m p q = p ∙ sym q

pub reading_end_one : OneAnswer reading-end.Post
reading_end_one κ a x y l m p q = p ∙ sym q

pub read_line_one : OneAnswer read-line.Post
read_line_one κ a x y l m p q = p ∙ sym q
