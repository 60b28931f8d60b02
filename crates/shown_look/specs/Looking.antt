-- What one look round the nodes finds for the next step.
use Rattle.std.specs.Prelude.{ℕ, ◌-◌, Bool, cond, ◌&&◌, Option, None, Some}
use Rattle.laws.specs.Below.{first_from}
use Rattle.plan.specs.declared.Plan.{Plan}
use Rattle.plan.specs.declared.Node.{Node}
use Rattle.run.specs.State.{node, is_about, is_sending}
use Rattle.shown.specs.declared.Parts.{Parts}
use Rattle.shown.specs.declared.Place.{Place}
use Rattle.shown_look.specs.declared.Seen.{Seen}
use Rattle.shown.specs.Shown.{is_due, past_due, goes_first, goes_second}

-- The lowest node from i on that passes; N where none does.
abbrev pub lowest_from : Plan → ℕ → (ℕ → Bool) → Node
lowest_from P i f = record { 0 = first_from f (P.nodes.0 - i) i }

-- The lowest of the nodes from i on: about to send, due of those who go first, of those who go next, of all, sending.
unfoldable pub seen_from : Plan → Parts → Place → ℕ → Seen
seen_from P parts q i =
    record {
      about = lowest_from P i (λ k. is_about (node q.run k).mode);
      first = lowest_from P i (λ k. is_due P parts q k && goes_first P parts q.run q.mark k);
      second = lowest_from P i (λ k. is_due P parts q k && goes_second parts q.mark k);
      due = lowest_from P i (is_due P parts q);
      sending = lowest_from P i (λ k. is_sending (node q.run k).mode);
    }

-- What was seen of all nodes; none where a time is past due.
unfoldable pub looked_of : Plan → Parts → Place → Option Seen
looked_of P parts q = cond (past_due P parts q) None (Some (seen_from P parts q 0))
