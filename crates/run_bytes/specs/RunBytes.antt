-- The byte form of a run: 9 bytes for each of 32 places, then 3 for the last message; 291 in all.
-- Of the places only the first N count: from N on bytes are neither tested nor read nor written.
use Rattle.std.specs.Prelude.{ℕ, zero, suc, ◌+◌, ◌*◌, Bool, true, false, cond, not, ◌||◌, List, [], ◌∷◌, ◌++◌, Option, None, Some, replicate, eqb, ltb}
use Rattle.std.proofs.lemmas.List.Edits.{sets}
use Rattle.laws.specs.Below.{any_below}
use Rattle.laws.specs.Over.{over}
use Rattle.laws.specs.Bytes.{byte_at}
use Rattle.plan_file.specs.File.{be16_of, be32_of}
use Rattle.run.specs.declared.Mode.{Mode}
use Rattle.run.specs.declared.Mode.TheVariants.{Waiting, AboutToSend, Sending}
use Rattle.plan.specs.declared.Slot.{Slot}
use Rattle.run.specs.declared.NodeState.{NodeState}
use Rattle.run.specs.declared.Run.{Run}
use Rattle.run.specs.State.{fresh_node, node}
use Rattle.run_bytes.specs.Numbers.{be16_bytes, be32_bytes}

-- A mode: 0 waiting, 1 about to send, 2 sending.
abbrev pub mode_byte : Mode → ℕ
mode_byte Waiting = 0
mode_byte AboutToSend = 1
mode_byte Sending = 2

unfoldable pub mode_in : ℕ → Mode
mode_in b = cond (eqb b 0) Waiting (cond (eqb b 1) AboutToSend Sending)

-- A mark: 1 where it is set, else 0.
abbrev pub flag_byte : Bool → ℕ
flag_byte true = 1
flag_byte false = 0

-- A node: clock (1), slot (2), time since tick (4), mode (1), pending (1).
unfoldable pub node_bytes : NodeState → List ℕ
node_bytes a =
    a.clock.0 ∷ be16_bytes a.slot.0 ++ be32_bytes a.time.0 ++ mode_byte a.mode ∷ flag_byte a.pending ∷ []

-- The last message: 0 0 0 for none, or 1 and its slot (2).
unfoldable pub last_bytes : Option Slot → List ℕ
last_bytes None = 0 ∷ 0 ∷ 0 ∷ []
last_bytes (Some s) = 1 ∷ be16_bytes s.0

-- The node and the last message that stand at a place of the bytes.
unfoldable pub node_in : List ℕ → ℕ → NodeState
node_in bytes at =
    record {
      clock = record { 0 = byte_at bytes at };
      slot = record { 0 = be16_of bytes (at + 1) };
      time = record { 0 = be32_of bytes (at + 3) };
      mode = mode_in (byte_at bytes (at + 7));
      pending = not (eqb (byte_at bytes (at + 8)) 0);
    }

unfoldable pub last_in : List ℕ → Option Slot
last_in bytes = cond (eqb (byte_at bytes 288) 0) None (Some (record { 0 = be16_of bytes 289 }))

-- The run that bytes spell: places from N on are fresh.
unfoldable pub run_in : ℕ → List ℕ → Run
run_in N bytes = record { nodes = over N (λ k a. node_in bytes (9 * k)) (replicate 32 fresh_node); last = last_in bytes }

-- The first n places of a run put into bytes.
unfoldable pub nodes_bytes : ℕ → Run → List ℕ → List ℕ
nodes_bytes zero r bytes = bytes
nodes_bytes (suc n) r bytes = sets (nodes_bytes n r bytes) (9 * n) (node_bytes (node r n))

-- A run put into bytes: its first N places and the last message; every other byte is as it was.
unfoldable pub run_bytes : ℕ → Run → List ℕ → List ℕ
run_bytes N r bytes = sets (nodes_bytes N r bytes) 288 (last_bytes r.last)

-- No mode, or no mark, stands where a node's should.
unfoldable pub node_wrong : List ℕ → ℕ → Bool
node_wrong bytes at = ltb 2 (byte_at bytes (at + 7)) || ltb 1 (byte_at bytes (at + 8))

-- The same of the first N places, and of the last message's mark.
unfoldable pub spells_no_run : ℕ → List ℕ → Bool
spells_no_run N bytes = any_below N (λ k. node_wrong bytes (9 * k)) || ltb 1 (byte_at bytes 288)
