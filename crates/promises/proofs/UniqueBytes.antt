-- The same of the byte forms and of the calls that C and Rust link.
use mathlib.Core.Path.{sym, ◌∙◌}
use denote.RattleType.{RattleType}
use denote.Param.Laws.{Laws}
use Rattle.run_bytes.proofs.put.Reads as put
use Rattle.run_bytes.proofs.read_run.Reads as read-run
use Rattle.run_bytes.proofs.write_run.Reads as write-run
use Rattle.run_bytes.proofs.spells_no_run.Reads as spells-no-run
use Rattle.answer_bytes.proofs.answers.Unanswered.number.Reads as unanswered-number
use Rattle.answer_bytes.proofs.answers.UnansweredFromRefusal.from.Reads as unanswered-from
use Rattle.answer_bytes.proofs.answer_number.Reads as answer-number
use Rattle.answer_bytes.proofs.step_form.Reads as step-form
use Rattle.answer_bytes.proofs.apart_form.Reads as apart-form
use Rattle.answer_bytes.proofs.ticks_form.Reads as ticks-form
use Rattle.answer_bytes.proofs.verdict_form.Reads as verdict-form
use Rattle.answer_bytes.proofs.place_wrong.Reads as place-wrong
use Rattle.answer_bytes.proofs.read_place.Reads as read-place
use Rattle.answer_bytes.proofs.write_place.Reads as write-place
use Rattle.byte_calls.proofs.counts_differ.Reads as counts-differ
use Rattle.byte_calls.proofs.taken_from.Reads as taken-from
use Rattle.byte_calls.proofs.verdict_by.Reads as verdict-by
use Rattle.byte_calls.proofs.step_on.Reads as step-on
use Rattle.byte_calls.proofs.steps_on.Reads as steps-on
use Rattle.byte_calls.proofs.apart_on.Reads as apart-on
use Rattle.byte_calls.proofs.reckon_on.Reads as reckon-on
use Rattle.byte_calls.proofs.next_on.Reads as next-on
use Rattle.weftpillar.proofs.weftpillar_judge.Reads as weftpillar-judge
use Rattle.weftpillar.proofs.weftpillar_fresh.Reads as weftpillar-fresh
use Rattle.weftpillar.proofs.weftpillar_fresh_place.Reads as weftpillar-fresh-place
use Rattle.weftpillar.proofs.weftpillar_step.Reads as weftpillar-step
use Rattle.weftpillar.proofs.weftpillar_steps.Reads as weftpillar-steps
use Rattle.weftpillar.proofs.weftpillar_out_of_step.Reads as weftpillar-out-of-step
use Rattle.weftpillar.proofs.weftpillar_reckon.Reads as weftpillar-reckon
use Rattle.weftpillar.proofs.weftpillar_next.Reads as weftpillar-next
use Rattle.weftpillar.proofs.weftpillar_line.Reads as weftpillar-line
use Rattle.promises.specs.Promises.{OneAnswer, OneLeft, One}
use Rattle.promises.proofs.ByEquations.{same_result, by_refusals}
use Rattle.promises.proofs.Tested.{same_plan}

-- run_bytes

pub put_one : OneLeft (λ κ l. l.0.now) put.Post
put_one κ a x y l m p q = p ∙ sym q

pub read_run_one : OneAnswer read-run.Post
read_run_one κ a x y l m p q = p ∙ sym q

pub write_run_one : OneLeft (λ κ l. l.0.now) write-run.Post
write_run_one κ a x y l m p q = p ∙ sym q

pub spells_no_run_one : OneAnswer spells-no-run.Post
spells_no_run_one κ a x y l m p q = p ∙ sym q

-- answer_bytes

pub unanswered_number_one : OneAnswer unanswered-number.Post
unanswered_number_one κ a x y l m p q = p ∙ sym q

pub unanswered_from_one : OneAnswer unanswered-from.Post
unanswered_from_one κ a x y l m p q = p ∙ sym q

-- of answers of every type
pub answer_number_one : (A : RattleType) (laws : Laws A) → OneAnswer (answer-number.Post A laws)
answer_number_one A laws κ a x y l m p q = p ∙ sym q

pub step_form_one : OneAnswer step-form.Post
step_form_one κ a x y l m p q = p ∙ sym q

pub apart_form_one : OneAnswer apart-form.Post
apart_form_one κ a x y l m p q = p ∙ sym q

pub ticks_form_one : OneAnswer ticks-form.Post
ticks_form_one κ a x y l m p q = p ∙ sym q

pub verdict_form_one : OneAnswer verdict-form.Post
verdict_form_one κ a x y l m p q = p ∙ sym q

pub place_wrong_one : OneAnswer place-wrong.Post
place_wrong_one κ a x y l m p q = p ∙ sym q

pub read_place_one : OneAnswer read-place.Post
read_place_one κ a x y l m p q = p ∙ sym q

pub write_place_one : OneLeft (λ κ l. l.0.now) write-place.Post
write_place_one κ a x y l m p q = p ∙ sym q

-- byte_calls: of a tested plan, with every buffer of the right length

pub counts_differ_one : OneAnswer counts-differ.Post
counts_differ_one κ a x y l m p q = p ∙ sym q

pub taken_from_one : OneAnswer taken-from.Post
taken_from_one κ a x y l m p q = same_result x y (p.0 ∙ sym q.0) p.1 q.1 (λ s t u v. same_plan s t (u ∙ sym v))

pub verdict_by_one : OneAnswer verdict-by.Post
verdict_by_one κ a x y l m p q = p ∙ sym q

pub step_on_one : One (λ κ l. l.1.0.now) step-on.Post
step_on_one = by_refusals _ _ (λ κ a x l p. p)

pub steps_on_one : One (λ κ l. l.1.0.now) steps-on.Post
steps_on_one = by_refusals _ _ (λ κ a x l p. (p.0, p.1.0))

pub steps_on_second : One (λ κ l. l.1.1.1.0.now) steps-on.Post
steps_on_second = by_refusals _ _ (λ κ a x l p. (p.0, p.1.1))

pub apart_on_one : One (λ κ l. l.1.1.0.now) apart-on.Post
apart_on_one = by_refusals _ _ (λ κ a x l p. p)

pub reckon_on_one : One (λ κ l. l.1.1.1.0.now) reckon-on.Post
reckon_on_one = by_refusals _ _ (λ κ a x l p. p)

pub next_on_one : One (λ κ l. l.1.0.now) next-on.Post
next_on_one = by_refusals _ _ (λ κ a x l p. (p.0, p.1.0))

pub next_on_second : One (λ κ l. l.1.1.0.now) next-on.Post
next_on_second = by_refusals _ _ (λ κ a x l p. (p.0, p.1.1))

-- weftpillar: each call and each buffer that it may write

pub weftpillar_judge_one : One (λ κ l. l.1.0.now) weftpillar-judge.Post
weftpillar_judge_one = by_refusals _ _ (λ κ a x l p. p)

pub weftpillar_fresh_one : One (λ κ l. l.0.now) weftpillar-fresh.Post
weftpillar_fresh_one = by_refusals _ _ (λ κ a x l p. p)

pub weftpillar_fresh_place_one : One (λ κ l. l.0.now) weftpillar-fresh-place.Post
weftpillar_fresh_place_one = by_refusals _ _ (λ κ a x l p. p)

pub weftpillar_step_one : One (λ κ l. l.1.0.now) weftpillar-step.Post
weftpillar_step_one = by_refusals _ _ (λ κ a x l p. p)

pub weftpillar_steps_one : One (λ κ l. l.1.0.now) weftpillar-steps.Post
weftpillar_steps_one = by_refusals _ _ (λ κ a x l p. (p.0, p.1.0))

pub weftpillar_steps_second : One (λ κ l. l.1.1.1.0.now) weftpillar-steps.Post
weftpillar_steps_second = by_refusals _ _ (λ κ a x l p. (p.0, p.1.1))

pub weftpillar_out_of_step_one : One (λ κ l. l.1.1.0.now) weftpillar-out-of-step.Post
weftpillar_out_of_step_one = by_refusals _ _ (λ κ a x l p. p)

pub weftpillar_reckon_one : One (λ κ l. l.1.1.1.0.now) weftpillar-reckon.Post
weftpillar_reckon_one = by_refusals _ _ (λ κ a x l p. p)

pub weftpillar_next_one : One (λ κ l. l.1.0.now) weftpillar-next.Post
weftpillar_next_one = by_refusals _ _ (λ κ a x l p. (p.0, p.1.0))

pub weftpillar_next_second : One (λ κ l. l.1.1.0.now) weftpillar-next.Post
weftpillar_next_second = by_refusals _ _ (λ κ a x l p. (p.0, p.1.1))

pub weftpillar_line_one : One (λ κ l. l.1.0.now) weftpillar-line.Post
weftpillar_line_one = by_refusals _ _ (λ κ a x l p. p)
