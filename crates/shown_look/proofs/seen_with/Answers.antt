-- Each of the five by `lowest_with`: node i where it passes that test, else the lowest of the nodes after it.
use Rattle.std.proofs.Common.{◌≡◌, ap, ◌&&◌, eqb}
use Rattle.run.specs.State.{node, is_about, is_sending}
use Rattle.shown.specs.Shown.{is_due, goes_first, goes_second}
use Rattle.shown_look.specs.declared.Seen.{Seen}
use Rattle.shown_look.specs.Looking.{seen_from}
use Rattle.shown_look.proofs.Looks.{lowest_with}
use Rattle.shown_look.proofs.seen_with.Goals as goal

pub returns : goal.returns
unfolding seen_from
returns c q m s e =
    let P = c.args.plan in
    let parts = c.args.parts in
    let i = c.args.i in
    let l = c.requires.i_lt_nodes in
    let about : c.is_about_to_send-about.result ≡ is_about (node q.run i.0).mode = rw s c.is_about_to_send-about.ensures in
    let due : eqb c.args.state.time.0 c.due_time.result.0 ≡ is_due P parts q i.0 = rw (s, m, c.due_time.ensures) in
    let goes1 : c.goes_first.result ≡ goes_first P parts q.run q.mark i.0 = rw m (c.goes_first.ensures q.run s) in
    let goes2 : c.goes_second.result ≡ goes_second parts q.mark i.0 = rw m c.goes_second.ensures in
    let sends : c.is_sending-sending.result ≡ is_sending (node q.run i.0).mode = rw s c.is_sending-sending.ensures in
    λ j. record {
      about = lowest_with P i _ _ _ (λ k. is_about (node q.run k).mode) l about (ap (λ (x : Seen). x.about) e) c.lower.ensures j;
      first = lowest_with P i _ _ _ (λ k. is_due P parts q k && goes_first P parts q.run q.mark k) l (λ j. due j && goes1 j) (ap (λ (x : Seen). x.first) e) c.lower-2.ensures j;
      second = lowest_with P i _ _ _ (λ k. is_due P parts q k && goes_second parts q.mark k) l (λ j. due j && goes2 j) (ap (λ (x : Seen). x.second) e) c.lower-3.ensures j;
      due = lowest_with P i _ _ _ (is_due P parts q) l due (ap (λ (x : Seen). x.due) e) c.lower-4.ensures j;
      sending = lowest_with P i _ _ _ (λ k. is_sending (node q.run k).mode) l sends (ap (λ (x : Seen). x.sending) e) c.lower-5.ensures j;
    }
