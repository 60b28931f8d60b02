-- Four parts, one after the other, are the nine bytes.
use native.Mathlib.Numerals.{towards_suc}
use Rattle.std.proofs.Common.{◌≡◌, ◌∙◌, arith}
use Rattle.run_bytes.specs.Numbers.{be16_bytes, be32_bytes}
use Rattle.run_bytes.specs.RunBytes.{node_bytes, flag_byte}
use Rattle.run_bytes.proofs.Numbers.{form16, form32, byte_of_flag}
use Rattle.run_bytes.proofs.write_node.Goals as goal

pub returns : goal.returns
unfolding node_bytes
returns c =
    let slot : c.to_be_bytes.result ≡ be16_bytes c.args.node.slot.0 = c.to_be_bytes.ensures ∙ form16 _ (omega arith) in
    let time : c.to_be_bytes-2.result ≡ be32_bytes c.args.node.time.0 = c.to_be_bytes-2.ensures ∙ form32 _ (omega arith) in
    let flag : c.from.result ≡ flag_byte c.args.node.pending = c.from.ensures ∙ byte_of_flag _ in
    rw (c.put-4.ensures, c.put-3.ensures, c.put-2.ensures, c.put.ensures, slot, time, flag, c.mode_byte.ensures) (simp towards_suc)
