-- The format of a plan file, over the list of its bytes, and what the reader answers.
use Rattle.std.specs.Prelude.{ℕ, ◌+◌, ◌*◌, Bool, cond, not, ◌||◌, List, [], ◌∷◌, length, replicate, Option, None, Some, Ok, Err, eqb, ltb}
use Rattle.std.specs.Option.{option_or}
use Rattle.laws.specs.Bytes.{byte_at}
use Rattle.laws.specs.Row.{Row, given, first_given}
use Rattle.laws.specs.Over.{over}
use Rattle.plan.specs.declared.Plan.{Plan}
use Rattle.plan.specs.declared.Slot.{Slot}
use Rattle.plan.specs.declared.refusal.Refusal.{Refusal}
use Rattle.plan.specs.declared.refusal.Refusal.TheVariants.{NotAPlanFile, VersionUnknown, LengthWrong}
use Rattle.plan.specs.Tested.{plan_refusal}
use Rattle.plan_file.specs.declared.PlanRead.{PlanRead}

-- Numbers of 16 and 32 bits, big-endian.
unfoldable pub be16_of : List ℕ → ℕ → ℕ
be16_of file k = byte_at file k * 256 + byte_at file (k + 1)

unfoldable pub be32_of : List ℕ → ℕ → ℕ
be32_of file k = byte_at file k * 16777216 + byte_at file (k + 1) * 65536 + byte_at file (k + 2) * 256 + byte_at file (k + 3)

-- Fewer than 5 bytes, or the first three are not the letters C, S, P.
unfoldable pub mark_wrong : List ℕ → Bool
mark_wrong file =
    ltb (length file) 5 || not (eqb (byte_at file 0) 67) || not (eqb (byte_at file 1) 83) || not (eqb (byte_at file 2) 80)

-- N stands in byte 5.
abbrev pub nodes_in : List ℕ → ℕ
nodes_in file = byte_at file 5

-- The length of a file with N nodes: 21 + 2 × N.
abbrev pub file_length : ℕ → ℕ
file_length N = 21 + 2 * N

-- Fewer than 21 bytes, or another length than N asks for.
unfoldable pub is_length_wrong : List ℕ → Bool
is_length_wrong file = ltb (length file) 21 || not (eqb (length file) (file_length (nodes_in file)))

-- Refusals 20 to 22, in the order of the tests; the version stands in bytes 3 and 4.
abbrev pub file_rows : List ℕ → List (Row Refusal)
file_rows file =
    given NotAPlanFile (mark_wrong file)
    ∷ given VersionUnknown (not (eqb (be16_of file 3) 1))
    ∷ given LengthWrong (is_length_wrong file)
    ∷ []

-- The first of refusals 20 to 22 that speaks against a file; none where they let it through.
unfoldable pub file_refusal : List ℕ → Option Refusal
file_refusal file = first_given (file_rows file)

-- The sending slot at a place: two bytes each from byte 21 on; 0 for places from N on.
unfoldable pub slot_at : List ℕ → (k : ℕ) → ℕ
slot_at file k = cond (ltb k (nodes_in file)) (be16_of file (21 + 2 * k)) 0

-- All 32 places.
unfoldable pub slots_of : List ℕ → List Slot
slots_of file = over 32 (λ k x. record { 0 = slot_at file k }) (replicate 32 (record { 0 = 0 }))

-- The plan in a file: N, C, n, k0, g, t, min, max, then the slots.
unfoldable pub plan_of : List ℕ → Plan
plan_of file =
    record {
      nodes = record { 0 = nodes_in file };
      frame = record { 0 = be16_of file 6 };
      active = record { 0 = be16_of file 8 };
      ticks = record { 0 = byte_at file 10 };
      guard = record { 0 = byte_at file 11 };
      tail = record { 0 = byte_at file 12 };
      min = record { 0 = be32_of file 13 };
      max = record { 0 = be32_of file 17 };
      slots = slots_of file;
    }

-- What stands beside a refusal: a plan of zeros.
unfoldable pub no_plan : Plan
no_plan =
    record {
      nodes = record { 0 = 0 };
      frame = record { 0 = 0 };
      active = record { 0 = 0 };
      ticks = record { 0 = 0 };
      guard = record { 0 = 0 };
      tail = record { 0 = 0 };
      min = record { 0 = 0 };
      max = record { 0 = 0 };
      slots = replicate 32 (record { 0 = 0 });
    }

-- A file that is read: the refusal, and no plan; or the plan.
abbrev pub read_by : Option Refusal → Plan → PlanRead
read_by (Some refusal) P = record { answer = Err refusal; plan = no_plan }
read_by None P = record { answer = Ok tt; plan = P }

-- What the reader answers: 20 to 22, then 1 to 9, then the plan.
unfoldable pub read_of : List ℕ → PlanRead
read_of file = read_by (option_or (file_refusal file) (plan_refusal (plan_of file))) (plan_of file)
