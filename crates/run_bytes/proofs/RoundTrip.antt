-- Reading what was written gives the same run: each node and the last message is read from bytes of its own, where it was written.
use Prim.Native.Nat.{ℕ, zero, suc, ◌+◌, ◌*◌, ◌≤◌, ◌<◌}
use mathlib.Core.Path.{◌≡◌, refl, sym, ◌∙◌}
use mathlib.Core.Bool.{Bool, true, false, not}
use mathlib.Core.List.{List}
use native.Mathlib.Omega.{arith}
use native.Mathlib.Decide.{ℕ_discrete, dec_lt}
use lib.ListN.{length, get_or, replicate, length-replicate, get_or-replicate}
use lib.Seq.{sets, length-sets, ext_get_or}
use lib.Dec.{eqb}
use Rattle.laws.specs.Bytes.{byte_at}
use Rattle.plan_file.specs.File.{be16_of, be32_of}
use Rattle.run.specs.declared.Mode.{Mode}
use Rattle.run.specs.declared.Mode.TheVariants.{Waiting, AboutToSend, Sending}
use Rattle.plan.specs.declared.Slot.{Slot}
use Rattle.std.specs.Prelude.{Option, None, Some}
use Rattle.run.specs.declared.NodeState.{NodeState}
use Rattle.run.specs.declared.Run.{Run}
use Rattle.run.specs.State.{fresh_node, fresh_run, node}
use Rattle.laws.proofs.Overs.{get_or_over, get_or_past, length_over}
use Rattle.run_bytes.specs.RunBytes.{mode_byte, mode_in, flag_byte, node_bytes, last_bytes, node_in, last_in, run_in, nodes_bytes, run_bytes}
use Rattle.run_bytes.proofs.Sets.{get_or_sets_before, get_or_sets_in}

-- The numbers of a node fit their types.
pub record NodeFits (a : NodeState) : Type 0 where
  pub clock_fits : a.clock.0 < 256
  pub slot_fits : a.slot.0 < 65536
  pub time_fits : a.time.0 < 4294967296

abbrev pub LastFits : Option Slot → Type 0
LastFits None = Unit {0}
LastFits (Some s) = s.0 < 65536

-- A run that bytes can hold for N nodes: numbers that fit their types, and fresh places from N on.
pub record Holdable (N : ℕ) (r : Run) : Type 0 where
  pub places : length r.nodes ≡ 32
  pub nodes_fit : (i : ℕ) → i < N → NodeFits (node r i)
  pub rest_fresh : (i : ℕ) → N ≤ i → i < 32 → node r i ≡ fresh_node
  pub last_fits : LastFits r.last

pub fresh_places : length fresh_run.nodes ≡ 32
unfolding fresh_run
fresh_places = length-replicate 32 fresh_node

mode_back : (m : Mode) → mode_in (mode_byte m) ≡ m
unfolding mode_in
mode_back Waiting = refl
mode_back AboutToSend = refl
mode_back Sending = refl

flag_back : (b : Bool) → not (eqb (flag_byte b) 0) ≡ b
flag_back true = refl
flag_back false = refl

-- node i is what its 9 bytes spell
pub node_read : (N : ℕ) (l : List ℕ) → N ≤ 32 → (i : ℕ) → i < N → node (run_in N l) i ≡ node_in l (9 * i)
unfolding run_in
node_read N l few i h = get_or_over N (λ k a. node_in l (9 * k)) (replicate 32 fresh_node) i fresh_node h (omega (arith, length-replicate 32 fresh_node))

-- places from N on are read as fresh
pub fresh_read : (N : ℕ) (l : List ℕ) (i : ℕ) → N ≤ i → i < 32 → node (run_in N l) i ≡ fresh_node
unfolding run_in
fresh_read N l i past h = get_or_past N (λ k a. node_in l (9 * k)) (replicate 32 fresh_node) i fresh_node past ∙ get_or-replicate 32 i fresh_node fresh_node h

pub length_read : (N : ℕ) (l : List ℕ) → length (run_in N l).nodes ≡ 32
unfolding run_in
length_read N l = length_over N (λ k a. node_in l (9 * k)) (replicate 32 fresh_node) ∙ length-replicate 32 fresh_node

-- two runs with the same 32 places and the same last message are one
same_run : (r s : Run) → length r.nodes ≡ 32 → length s.nodes ≡ 32 → ((i : ℕ) → i < 32 → node r i ≡ node s i) → r.last ≡ s.last → r ≡ s
same_run r s m n nodes last =
    let all = ext_get_or fresh_node r.nodes s.nodes (m ∙ sym n) (λ i h. nodes i (omega arith)) in
    λ j. record { nodes = all j; last = last j }

-- a node read where it was written
node_back : (l : List ℕ) (at : ℕ) (a : NodeState) → at + 9 ≤ length l → NodeFits a → node_in (sets l at (node_bytes a)) at ≡ a
unfolding node_in node_bytes be16_of be32_of
node_back l at a h f =
    let B : List ℕ = sets l at (node_bytes a) in
    let byte : (j k : ℕ) → j ≡ at + k → k < 9 → byte_at B j ≡ get_or (node_bytes a) k 0 = λ j k e b. get_or_sets_in l at j k (node_bytes a) 0 e b h in
    let clock : byte_at B at ≡ a.clock.0 = byte at 0 (omega arith) (omega arith) in
    let slot : be16_of B (at + 1) ≡ a.slot.0 = rw (byte (at + 1) 1 (omega arith) (omega arith), byte (at + 1 + 1) 2 (omega arith) (omega arith)) (omega arith) in
    let time : be32_of B (at + 3) ≡ a.time.0 = rw (byte (at + 3) 3 (omega arith) (omega arith), byte (at + 3 + 1) 4 (omega arith) (omega arith), byte (at + 3 + 2) 5 (omega arith) (omega arith), byte (at + 3 + 3) 6 (omega arith) (omega arith)) (omega arith) in
    let mode : mode_in (byte_at B (at + 7)) ≡ a.mode = rw (byte (at + 7) 7 (omega arith) (omega arith)) (mode_back a.mode) in
    let pending : not (eqb (byte_at B (at + 8)) 0) ≡ a.pending = rw (byte (at + 8) 8 (omega arith) (omega arith)) (flag_back a.pending) in
    λ j. record { clock = record { 0 = clock j }; slot = record { 0 = slot j }; time = record { 0 = time j }; mode = mode j; pending = pending j }

-- a node is read from its own 9 bytes
node_same : (l m : List ℕ) (at : ℕ) → ((j : ℕ) → at ≤ j → j < at + 9 → byte_at l j ≡ byte_at m j) → node_in l at ≡ node_in m at
unfolding node_in be16_of be32_of
node_same l m at h =
    rw (h at (omega arith) (omega arith), h (at + 1) (omega arith) (omega arith), h (at + 1 + 1) (omega arith) (omega arith), h (at + 3) (omega arith) (omega arith), h (at + 3 + 1) (omega arith) (omega arith), h (at + 3 + 2) (omega arith) (omega arith), h (at + 3 + 3) (omega arith) (omega arith), h (at + 7) (omega arith) (omega arith), h (at + 8) (omega arith) (omega arith))

last_same : (N : ℕ) (l m : List ℕ) → ((j : ℕ) → j < 291 → byte_at l j ≡ byte_at m j) → (run_in N l).last ≡ (run_in N m).last
unfolding run_in last_in be16_of
last_same N l m h = rw (h 288 (omega arith), h 289 (omega arith), h 290 (omega arith))

-- A run is read from its own 291 bytes.
pub run_same : (N : ℕ) (l m : List ℕ) → N ≤ 32 → ((j : ℕ) → j < 291 → byte_at l j ≡ byte_at m j) → run_in N l ≡ run_in N m
run_same N l m few h = same_run (run_in N l) (run_in N m) (length_read N l) (length_read N m) (λ i b. place i b (dec_lt i N)) (last_same N l m h)
  where
    place : (i : ℕ) → i < 32 → Dec (i < N) → node (run_in N l) i ≡ node (run_in N m) i
    place i b (yes k) = node_read N l few i k ∙ node_same l m (9 * i) (λ j low high. h j (omega arith)) ∙ sym (node_read N m few i k)
    place i b (no k) = fresh_read N l i (omega arith) b ∙ sym (fresh_read N m i (omega arith) b)

length_nodes : (n : ℕ) (r : Run) (bytes : List ℕ) → length (nodes_bytes n r bytes) ≡ length bytes
unfolding nodes_bytes
length_nodes zero r bytes = refl
length_nodes (suc n) r bytes = length-sets (nodes_bytes n r bytes) (9 * n) (node_bytes (node r n)) ∙ length_nodes n r bytes

pub length_run : (N : ℕ) (r : Run) (bytes : List ℕ) → length (run_bytes N r bytes) ≡ length bytes
unfolding run_bytes
length_run N r bytes = length-sets (nodes_bytes N r bytes) 288 (last_bytes r.last) ∙ length_nodes N r bytes

-- each of the first n nodes is read where it was written
nodes_back : (n : ℕ) (r : Run) (bytes : List ℕ) → 9 * n ≤ length bytes → ((i : ℕ) → i < n → NodeFits (node r i)) → (i : ℕ) → i < n → node_in (nodes_bytes n r bytes) (9 * i) ≡ node r i
unfolding nodes_bytes
nodes_back zero r bytes w f i h = absurd (omega arith)
nodes_back (suc n) r bytes w f i h = go (ℕ_discrete i n) (nodes_back n r bytes (omega arith) (λ k b. f k (omega arith)) i)
  where
    go : Dec (i ≡ n) → (i < n → node_in (nodes_bytes n r bytes) (9 * i) ≡ node r i) → node_in (nodes_bytes (suc n) r bytes) (9 * i) ≡ node r i
    go (yes e) before = rw (nodes_bytes, e) (node_back (nodes_bytes n r bytes) (9 * n) (node r n) (omega (arith, length_nodes n r bytes)) (f n (omega arith)))
    go (no e) before =
        node_same (nodes_bytes (suc n) r bytes) (nodes_bytes n r bytes) (9 * i) (λ j low high. get_or_sets_before (nodes_bytes n r bytes) (9 * n) j (node_bytes (node r n)) 0 (omega arith))
        ∙ before (omega arith)

last_back : (l : List ℕ) (x : Option Slot) → 291 ≤ length l → LastFits x → last_in (sets l 288 (last_bytes x)) ≡ x
unfolding last_in last_bytes be16_of
last_back l None w f = rw (get_or_sets_in l 288 288 0 (last_bytes None) 0 refl (omega arith) w)
last_back l (Some s) w f =
    let slot : be16_of (sets l 288 (last_bytes (Some s))) 289 ≡ s.0 =
    rw (get_or_sets_in l 288 289 1 (last_bytes (Some s)) 0 refl (omega arith) w, get_or_sets_in l 288 290 2 (last_bytes (Some s)) 0 refl (omega arith) w) (omega arith) in
    rw (get_or_sets_in l 288 288 0 (last_bytes (Some s)) 0 refl (omega arith) w, slot)

module _ (N : ℕ) (r : Run) (bytes : List ℕ) (few : N ≤ 32) (long : 291 ≤ length bytes) where
  -- Reading what was written gives the same first N places..
  pub read_written_node : ((i : ℕ) → i < N → NodeFits (node r i)) → (i : ℕ) → i < N → node (run_in N (run_bytes N r bytes)) i ≡ node r i
  unfolding run_bytes
  read_written_node f i h =
      let B : List ℕ = run_bytes N r bytes in
      node_read N B few i h
      ∙ node_same B (nodes_bytes N r bytes) (9 * i) (λ j low high. get_or_sets_before (nodes_bytes N r bytes) 288 j (last_bytes r.last) 0 (omega arith))
      ∙ nodes_back N r bytes (omega arith) f i h

  -- .. and the same last message.
  pub read_written_last : LastFits r.last → (run_in N (run_bytes N r bytes)).last ≡ r.last
  unfolding run_in run_bytes
  read_written_last f = last_back (nodes_bytes N r bytes) r.last (omega (arith, length_nodes N r bytes)) f

  -- A run that bytes can hold is read back whole.
  pub read_written_run : Holdable N r → run_in N (run_bytes N r bytes) ≡ r
  read_written_run w =
      same_run (run_in N (run_bytes N r bytes)) r (length_read N (run_bytes N r bytes)) w.places (λ i b. place i b (dec_lt i N)) (read_written_last w.last_fits)
    where
      place : (i : ℕ) → i < 32 → Dec (i < N) → node (run_in N (run_bytes N r bytes)) i ≡ node r i
      place i b (yes k) = read_written_node w.nodes_fit i k
      place i b (no k) = fresh_read N (run_bytes N r bytes) i (omega arith) b ∙ sym (w.rest_fresh i (omega arith) b)
