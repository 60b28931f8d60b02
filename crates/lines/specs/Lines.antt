-- The lines of a run and the line of a refusal, each whole with its newline.
use Rattle.std.specs.Prelude.{ℕ, List, ◌∷◌, ◌++◌, Result, Ok, Err}
use Rattle.plan.specs.declared.refusal.Refusal.{Refusal}
use Rattle.plan.specs.Refusals.{number_of}
use Rattle.run.specs.declared.Apart.{Apart}
use Rattle.run.specs.declared.Step.{Step}
use Rattle.letters.specs.Letters.{spelt_of, byte_of}
use Rattle.text.specs.Text.{bytes, numbered, ended}

-- The one line of a refusal, by its number.
abbrev pub refused_line : ℕ → List ℕ
refused_line number = ended "refused " number

-- A step line: the step's letter, a blank, its number.
unfoldable pub step_text : Step → List ℕ
step_text s = byte_of (spelt_of s).letter ∷ ended " " (spelt_of s).number

-- The stepping program's answer to a step.
unfoldable pub answer_text : Result Unit Refusal → List ℕ
answer_text (Ok done) = bytes "ok\n"
answer_text (Err refusal) = refused_line (number_of refusal)

-- The last line of a shown run: the lowest sending node with a node elsewhere, and the lowest such node.
unfoldable pub out_text : Apart → List ℕ
out_text apart = numbered "out " apart.sending.0 ++ ended " " apart.elsewhere.0
