-- A step line that was written is read back as the same step.
use Prim.Native.Nat.{ℕ, zero, suc, ◌+◌, ◌-◌, ◌/◌, ◌%◌, ◌^◌, ◌≤◌, ◌<◌}
use mathlib.Core.Path.{◌≡◌, refl, ap, ◌∙◌}
use mathlib.Core.Bool.{Bool, true, false}
use mathlib.Core.List.{List, [], ◌∷◌, ◌++◌}
use Rattle.std.specs.Prelude.{fold, Ok}
use Rattle.std.proofs.lemmas.List.Sums.{fold-append}
use native.Mathlib.Omega.{arith}
use borrow.Author.Tests.{ltb-true, ltb-false, lt-ltb, le-leb, ne_eqb}
use lib.Dec.{ltb, leb}
use Rattle.laws.proofs.Bools.{and_both}
use Rattle.run.specs.declared.Step.{Step}
use Rattle.letters.specs.declared.Letter.{Letter}
use Rattle.letters.specs.declared.Letter.TheVariants.{D, T, S}
use Rattle.letters.specs.declared.Spelt.{Spelt}
use Rattle.letters.specs.Letters.{spelt_of, byte_of, letter_of, step_spelt}
use Rattle.letters.proofs.Spelling.{spelt_back}
use Rattle.text.specs.Text.{digits_within, decimal}
use Rattle.lines.specs.Lines.{step_text}
use Rattle.step_lines.specs.StepLine.{is_digit, line_of}
use Rattle.step_lines.specs.Reading.{with_digit, reading_after, line_read}
use Rattle.step_lines.specs.declared.Reading.{Reading}
use Rattle.step_lines.specs.declared.Reading.TheVariants.{Nothing, Blank, Number}
use Rattle.step_lines.proofs.ByBytes.{by_bytes}

digit_is : (d : ℕ) → d < 10 → is_digit (48 + d) ≡ true
digit_is d h = and_both (leb 48 (48 + d)) (leb (48 + d) 57) (le-leb 48 (48 + d) (omega arith)) (le-leb (48 + d) 57 (omega arith))

-- a first digit, and one more
read_digit : (letter : Letter) (d : ℕ) → d < 10 → reading_after (Blank letter) (48 + d) ≡ Number (record { letter = letter; number = d })
unfolding reading_after
read_digit letter d h = let e : 48 + d - 48 ≡ d = omega arith in rw (digit_is d h, e)

read_more : (letter : Letter) (n : ℕ) → 10 ≤ n → n ≤ 4294967295 → reading_after (Number (record { letter = letter; number = n / 10 })) (48 + n % 10) ≡ Number (record { letter = letter; number = n })
unfolding reading_after
read_more letter n h k =
    let e : with_digit (n / 10) (48 + n % 10) ≡ n = omega arith in
    rw (ne_eqb (48 + n % 10) 10 (omega arith), digit_is (n % 10) (omega arith), ne_eqb (n / 10) 0 (omega arith), e, le-leb n 4294967295 k)

read_digits : (letter : Letter) (places n : ℕ) → n < 10 ^ suc places → n ≤ 4294967295 → fold reading_after (Blank letter) (digits_within (suc places) n) ≡ Number (record { letter = letter; number = n })
unfolding digits_within
read_digits letter zero n h k = rw (lt-ltb n 10 (omega arith)) (read_digit letter n (omega arith))
read_digits letter (suc places) n h k = go (ltb n 10) refl (read_digits letter places (n / 10) (omega arith) (omega arith))
  where
    go : (t : Bool) → ltb n 10 ≡ t → fold reading_after (Blank letter) (digits_within (suc places) (n / 10)) ≡ Number (record { letter = letter; number = n / 10 }) → fold reading_after (Blank letter) (digits_within (suc (suc places)) n) ≡ Number (record { letter = letter; number = n })
    go true e r = rw e (read_digit letter n (ltb-true n 10 e))
    go false e r = rw (e, fold-append, r) (read_more letter n (ltb-false n 10 e) k)

read_start : (letter : Letter) → reading_after (reading_after Nothing (byte_of letter)) 32 ≡ Blank letter
unfolding reading_after letter_of
read_start D = refl
read_start T = refl
read_start S = refl

read_newline : (spelt : Spelt) → line_read (reading_after (Number spelt) 10) ≡ Ok (step_spelt spelt)
unfolding reading_after line_read
read_newline spelt = refl

-- a line of this form, with a letter in front
read_line : (spelt : Spelt) → spelt.number ≤ 4294967295 → line_of (byte_of spelt.letter ∷ 32 ∷ (decimal spelt.number ++ (10 ∷ []))) ≡ Ok (step_spelt spelt)
read_line spelt k =
    let letter = spelt.letter in
    let n = spelt.number in
    let rest : List ℕ = decimal n ++ (10 ∷ []) in
    by_bytes (byte_of letter ∷ 32 ∷ rest)
    ∙ ap (λ (r : Reading). line_read (fold reading_after r rest)) (read_start letter)
    ∙ ap line_read (fold-append reading_after (Blank letter) (decimal n) (10 ∷ []))
    ∙ ap (λ (r : Reading). line_read (reading_after r 10)) (read_digits letter 19 n (omega arith) k)
    ∙ read_newline spelt

pub reads_back : (s : Step) → (spelt_of s).number ≤ 4294967295 → line_of (step_text s) ≡ Ok s
unfolding step_text
reads_back s h = read_line (spelt_of s) h ∙ ap Ok (spelt_back s)
