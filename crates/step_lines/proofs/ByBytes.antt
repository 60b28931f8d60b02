-- A line read byte by byte is the line read as a whole. After each byte the reading says what is known of the line: how far it is a
-- step line (its letter, blank, number, newline), or that it is none.
use Prim.Native.Nat.{ℕ, zero, suc, ◌+◌, ◌-◌, ◌≤◌, ◌<◌}
use mathlib.Core.Path.{◌≡◌, refl, ap, ◌∙◌}
use mathlib.Core.Bool.{Bool, true, false, cond, not, ◌&&◌, ◌||◌}
use mathlib.Core.List.{List}
use Rattle.std.specs.Prelude.{fold, Ok, Err, Result}
use native.Mathlib.Decide.{ℕ_discrete}
use native.Mathlib.Omega.{arith}
use borrow.Author.Tests.{leb-true, eqb-true, eqb-false, le-leb, eq-eqb, ne_eqb}
use lib.Dec.{eqb, leb}
use lib.ListN.{length, drop}
use lib.Seq.{drop-cons, drop-length}
use Rattle.laws.proofs.Bools.{clash, and_true_left, and_true_right, or_either, Either, first_holds, second_holds, cond_by, true_not_false}
use Rattle.laws.proofs.Belows.{all_at, all_ever}
use Rattle.plan.specs.declared.refusal.Refusal.TheVariants.{LineWrong}
use Rattle.laws.specs.Bytes.{byte_at}
use Rattle.letters.specs.declared.Letter.{Letter as ALetter}
use Rattle.letters.specs.declared.NoLetter.{NoLetter}
use Rattle.letters.specs.Letters.{step_by, byte_of, letter_of}
use Rattle.letters.proofs.Spelling.{byte_is_letter, letter_byte, no_letter}
use Rattle.step_lines.specs.StepLine.{is_digit, line_letter, spelled, digit_count, line_shaped, line_of}
use Rattle.step_lines.specs.Reading.{with_digit, may_follow, begun_by, reading_after, reading_of, line_read}
use Rattle.step_lines.specs.declared.Reading.{Reading}
use Rattle.step_lines.specs.declared.Reading.TheVariants.{Nothing, Letter, Blank, Number, Whole, Wrong}

digit_low : (b : ℕ) → is_digit b ≡ true → 48 ≤ b
digit_low b h = leb-true 48 b (and_true_left (leb 48 b) (leb b 57) h)

digit_high : (b : ℕ) → is_digit b ≡ true → b ≤ 57
digit_high b h = leb-true b 57 (and_true_right (leb 48 b) (leb b 57) h)

and_parts : (a b : Bool) → (a && b) ≡ true → (a ≡ true) × (b ≡ true)
and_parts a b h = (and_true_left a b h, and_true_right a b h)

module _ (line : List ℕ) where
  spelled_grows : (m n : ℕ) → m ≤ n → spelled line m ≤ spelled line n
  unfolding spelled
  spelled_grows m zero h = let e : m ≡ 0 = omega arith in rw e (omega arith)
  spelled_grows m (suc n) h = go (ℕ_discrete m (suc n)) (spelled_grows m n)
    where
      go : Dec (m ≡ suc n) → (m ≤ n → spelled line m ≤ spelled line n) → spelled line m ≤ spelled line (suc n)
      go (yes e) r = rw e (omega arith)
      go (no e) r = omega (arith, r (omega arith))

  -- A line that is a step line, or its beginning: the letter, the blank, k digits.
  record Begun (k : ℕ) : Type 0 where
    letter : line_letter (byte_at line 0) ≡ true
    blank : byte_at line 1 ≡ 32
    some : 1 ≤ k
    digits : (j : ℕ) → j < k → is_digit (byte_at line (2 + j)) ≡ true
    first : 1 < k → byte_at line 2 ≡ 48 → ⊥
    fits : spelled line k ≤ 4294967295

  -- A step line: its beginning, and the newline at the end.
  record Good : Type 0 where
    long : 4 ≤ length line
    begun : Begun (digit_count line)
    newline : byte_at line (length line - 1) ≡ 10

  -- a number that is 0 begins with 0
  spelled_none : (k : ℕ) → Begun k → spelled line k ≡ 0 → byte_at line 2 ≡ 48
  unfolding spelled
  spelled_none k b e = omega (arith, spelled_grows 1 k b.some, digit_low (byte_at line 2) (b.digits 0 b.some))

  good_test : Bool
  good_test = line_shaped line && leb (spelled line (digit_count line)) 4294967295

  test_good : good_test ≡ true → Good
  unfolding good_test line_shaped
  test_good h =
      let six = and_parts (line_shaped line) (leb (spelled line (digit_count line)) 4294967295) h in
      let five = and_parts _ _ six.0 in
      let four = and_parts _ _ five.0 in
      let three = and_parts _ _ four.0 in
      let two = and_parts _ _ three.0 in
      let one = and_parts _ _ two.0 in
      let long = leb-true 4 (length line) one.0 in
      record {
        long = long;
        begun = record {
          letter = one.1;
          blank = eqb-true _ 32 two.1;
          some = omega arith;
          digits = all_at _ _ four.1;
          first = λ l e. first (or_either _ _ five.1) l e;
          fits = leb-true _ _ six.1;
        };
        newline = eqb-true _ 10 three.1;
      }
    where
      first : Either (eqb (digit_count line) 1) (not (eqb (byte_at line 2) 48)) → 1 < digit_count line → byte_at line 2 ≡ 48 → ⊥
      first (first_holds p) l e = omega (arith, eqb-true (digit_count line) 1 p)
      first (second_holds p) l e = eqb-false _ 48 (true_not_false (eqb (byte_at line 2) 48) p) e

  test_is_good : Good → good_test ≡ true
  unfolding good_test line_shaped
  test_is_good g =
      let b = g.begun in
      rw (le-leb 4 (length line) g.long, b.letter, eq-eqb _ 32 b.blank, eq-eqb _ 10 g.newline, all_ever (digit_count line) (λ k. is_digit (byte_at line (2 + k))) b.digits, le-leb _ 4294967295 b.fits)
      (go (eqb (digit_count line) 1) refl)
    where
      go : (t : Bool) → eqb (digit_count line) 1 ≡ t → ((t || not (eqb (byte_at line 2) 48)) && true) ≡ true
      go true e = refl
      go false e = rw (ne_eqb (byte_at line 2) 48 (g.begun.first (omega (arith, g.begun.some, eqb-false (digit_count line) 1 e))))

  -- What is known of a line after its first n bytes.
  data Known (n : ℕ) : Reading → Type 0 where
    at_nothing : n ≡ 0 → Known n Nothing
    at_letter : (letter : ALetter) → n ≡ 1 → byte_of letter ≡ byte_at line 0 → Known n (Letter letter)
    at_blank : (letter : ALetter) → n ≡ 2 → byte_of letter ≡ byte_at line 0 → byte_at line 1 ≡ 32 → Known n (Blank letter)
    at_number : (letter : ALetter) (k : ℕ) → n ≡ 2 + k → byte_of letter ≡ byte_at line 0 → Begun k → Known n (Number (record { letter = letter; number = spelled line k }))
    at_whole : (letter : ALetter) (k : ℕ) → n ≡ 3 + k → byte_of letter ≡ byte_at line 0 → Begun k → byte_at line (2 + k) ≡ 10 → Known n (Whole (record { letter = letter; number = spelled line k }))
    at_wrong : (Good → ⊥) → Known n Wrong

  is_letter_of : (letter : ALetter) → byte_of letter ≡ byte_at line 0 → line_letter (byte_at line 0) ≡ true
  is_letter_of letter same = rw (← same) (byte_is_letter letter)

  -- a byte of a step line after the blank and before the newline
  before_newline : (k : ℕ) → Good → 2 + k < length line → (byte_at line (2 + k) ≡ 10 → ⊥) → k < digit_count line
  before_newline k g h other = go (ℕ_discrete (2 + k) (length line - 1))
    where
      go : Dec (2 + k ≡ length line - 1) → k < digit_count line
      go (yes q) = absurd (other (rw q g.newline))
      go (no q) = omega arith

  begun_one : line_letter (byte_at line 0) ≡ true → byte_at line 1 ≡ 32 → is_digit (byte_at line 2) ≡ true → Begun 1
  unfolding spelled
  begun_one letter blank t = record {
    letter = letter;
    blank = blank;
    some = omega arith;
    digits = λ j l. let q : 2 + j ≡ 2 = omega arith in rw q t;
    first = λ l. omega arith;
    fits = omega (arith, digit_high (byte_at line 2) t);
  }

  begun_more : (k : ℕ) → Begun k → may_follow (spelled line k) (byte_at line (2 + k)) ≡ true → Begun (suc k)
  unfolding spelled
  begun_more k b t =
      let some : 1 ≤ suc k = omega arith in
      let two = and_parts _ _ t in
      let one = and_parts _ _ two.0 in
      record {
        letter = b.letter;
        blank = b.blank;
        some = some;
        digits = λ j l. digits one.0 j l (ℕ_discrete j k);
        first = λ l e. first (true_not_false _ one.1) e (ℕ_discrete k 1);
        fits = leb-true _ _ two.1;
      }
    where
      digits : is_digit (byte_at line (2 + k)) ≡ true → (j : ℕ) → j < suc k → Dec (j ≡ k) → is_digit (byte_at line (2 + j)) ≡ true
      digits h j l (yes q) = rw q h
      digits h j l (no q) = b.digits j (omega arith)

      first : eqb (spelled line k) 0 ≡ false → byte_at line 2 ≡ 48 → Dec (k ≡ 1) → ⊥
      first f e (yes q) = eqb-false (spelled line k) 0 f (rw q (omega arith))
      first f e (no q) = b.first (omega (arith, b.some)) e

  -- a digit of a step line has its place after those before it
  digit_good : (k : ℕ) → Begun k → Good → k < digit_count line → may_follow (spelled line k) (byte_at line (2 + k)) ≡ true
  unfolding spelled
  digit_good k b g l =
      rw (g.begun.digits k l, ne_eqb (spelled line k) 0 (λ e. g.begun.first (omega (arith, b.some)) (spelled_none k b e)))
      (le-leb (with_digit (spelled line k) (byte_at line (2 + k))) 4294967295 (omega (arith, spelled_grows (suc k) (digit_count line) (omega arith), g.begun.fits)))

  known_more : (n : ℕ) (r : Reading) → Known n r → n < length line → Known (suc n) (reading_after r (byte_at line n))
  unfolding reading_after spelled
  known_more n r (at_nothing e) h = rw e (go (letter_of (byte_at line 0)) refl)
    where
      go : (read : Result ALetter NoLetter) → letter_of (byte_at line 0) ≡ read → Known 1 (begun_by read)
      go (Ok letter) t = at_letter letter refl (letter_byte (byte_at line 0) t)
      go (Err none) f = at_wrong (λ g. clash (line_letter (byte_at line 0)) g.begun.letter (no_letter (byte_at line 0) f))
  known_more n r (at_letter letter e same) h =
      rw e (cond_by (Known 2) (eqb (byte_at line 1) 32) (Blank letter) Wrong
      (λ t. at_blank letter refl same (eqb-true _ 32 t))
      (λ f. at_wrong (λ g. eqb-false _ 32 f g.begun.blank)))
  known_more n r (at_blank letter e same blank) h =
      let one : byte_at line 2 - 48 ≡ spelled line 1 = omega arith in
      rw (e, one) (cond_by (Known 3) (is_digit (byte_at line 2)) (Number (record { letter = letter; number = spelled line 1 })) Wrong
      (λ t. at_number letter 1 refl same (begun_one (is_letter_of letter same) blank t))
      (λ f. at_wrong (λ g. clash (is_digit (byte_at line 2)) (g.begun.digits 0 (omega (arith, g.long))) f)))
  known_more n r (at_number letter k e same b) h =
      let v = spelled line k in
      let byte = byte_at line (2 + k) in
      rw e (cond_by (Known (suc (2 + k))) (eqb byte 10) (Whole (record { letter = letter; number = v })) (cond (may_follow v byte) (Number (record { letter = letter; number = with_digit v byte })) Wrong)
      (λ t. at_whole letter k (omega arith) same b (eqb-true _ 10 t))
      (λ other. cond_by (Known (suc (2 + k))) (may_follow v byte) (Number (record { letter = letter; number = with_digit v byte })) Wrong
      (λ t. at_number letter (suc k) (omega arith) same (begun_more k b t))
      (λ f. at_wrong (λ g. clash _ (digit_good k b g (before_newline k g (omega arith) (eqb-false byte 10 other))) f))))
  known_more n r (at_whole letter k e same b newline) h =
      at_wrong (λ g. clash (is_digit (byte_at line (2 + k))) (g.begun.digits k (omega arith)) (ap is_digit newline))
  known_more n r (at_wrong never) h = at_wrong never

  -- a line that is no step line, and one that is
  not_good_refused : (Good → ⊥) → line_of line ≡ Err LineWrong
  unfolding good_test line_of
  not_good_refused never = go (good_test) refl
    where
      go : (t : Bool) → good_test ≡ t → line_of line ≡ Err LineWrong
      go true e = absurd (never (test_good e))
      go false e = rw e

  good_asked : Good → line_of line ≡ Ok (step_by (byte_at line 0) (spelled line (digit_count line)))
  unfolding good_test line_of
  good_asked g = rw (test_is_good g)

  -- what is known of the line after all its bytes
  known_end : (r : Reading) → Known (length line) r → line_of line ≡ line_read r
  unfolding line_read
  known_end r (at_nothing e) = not_good_refused (λ g. omega (arith, g.long))
  known_end r (at_letter letter e same) = not_good_refused (λ g. omega (arith, g.long))
  known_end r (at_blank letter e same blank) = not_good_refused (λ g. omega (arith, g.long))
  known_end r (at_number letter k e same b) =
      let last : 2 + (k - 1) ≡ length line - 1 = omega (arith, b.some) in
      not_good_refused (λ g. clash (is_digit (byte_at line (2 + (k - 1)))) (b.digits (k - 1) (omega (arith, b.some))) (rw (last, g.newline)))
  known_end r (at_whole letter k e same b newline) =
      let count : digit_count line ≡ k = omega arith in
      let last : length line - 1 ≡ 2 + k = omega arith in
      good_asked (record { long = omega (arith, b.some); begun = rw count b; newline = rw last newline }) ∙ rw (count, same)
  known_end r (at_wrong never) = not_good_refused never

  known_on : (left n : ℕ) (r : Reading) → n + left ≡ length line → Known n r → Known (length line) (fold reading_after r (drop n line))
  known_on zero n r e known = let q : n ≡ length line = omega arith in rw (q, drop-length) (rw q at known)
  known_on (suc left) n r e known = rw (drop-cons line n 0 (omega arith)) (known_on left (suc n) (reading_after r (byte_at line n)) (omega arith) (known_more n r known (omega arith)))

  -- reading a line byte by byte is reading it whole
  pub by_bytes : line_of line ≡ line_read (reading_of line)
  by_bytes = known_end (reading_of line) (known_on (length line) 0 Nothing (omega arith) (at_nothing refl))
