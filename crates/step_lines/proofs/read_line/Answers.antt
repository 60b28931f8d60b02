-- Each turn reads one byte more, so all of them read the line.
use Rattle.std.proofs.Common.{◌≡◌, ◌∙◌, sym, ap, refl, rules}
use Rattle.std.proofs.lemmas.Fn.{fold_over, slice_gives, fronts}
use Rattle.std.proofs.lemmas.List.Sums.{fold-append}
use Rattle.step_lines.specs.declared.Reading.TheVariants.{Nothing}
use Rattle.step_lines.specs.Reading.{reading_of, reading_after, line_read}
use Rattle.step_lines.proofs.ByBytes.{by_bytes}
use Rattle.step_lines.proofs.read_line.Goals as goal

pub returns : goal.returns
returns c =
    let bytes : c.iter.result.rest.now ≡ c.args.line.now = search rules in
    let read : c.fold.result ≡ reading_of c.iter.result.rest.now =
    fold_over fronts (λ y. y.now) _ (λ bytes reading. reading ≡ reading_of bytes) _
    (λ bytes reading byte more f' so_far call.
    (let one : more ≡ reading_after reading byte.now = search rules in one ∙ rw so_far (sym (fold-append reading_after Nothing bytes _)), refl))
    c.iter.result c.iter.result.rest.now _ _ (slice_gives c.iter.result) refl c.fold.ensures.ran in
    c.reading_end.ensures ∙ ap line_read (read ∙ ap reading_of bytes) ∙ sym (by_bytes c.args.line.now)
