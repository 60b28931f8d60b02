-- Nodes written one after the other.
use Prim.Native.Nat.{ℕ, ◌+◌, ◌*◌}
use mathlib.Core.Path.{◌≡◌, refl}
use mathlib.Core.List.{List}
use native.Mathlib.Numerals.{add-one}
use lib.Seq.{sets}
use Rattle.run.specs.declared.Run.{Run}
use Rattle.run.specs.State.{node}
use Rattle.run_bytes.specs.RunBytes.{node_bytes, nodes_bytes}

pub nodes_none : (r : Run) (bytes : List ℕ) → bytes ≡ nodes_bytes 0 r bytes
unfolding nodes_bytes
nodes_none r bytes = refl

pub nodes_more : (n : ℕ) (r : Run) (bytes : List ℕ) → sets (nodes_bytes n r bytes) (9 * n) (node_bytes (node r n)) ≡ nodes_bytes (n + 1) r bytes
unfolding nodes_bytes
nodes_more n r bytes = rw (add-one, nodes_bytes)
