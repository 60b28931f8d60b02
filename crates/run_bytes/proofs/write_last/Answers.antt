-- Either form of the last message, mark and slot.
use Rattle.std.proofs.Common.{◌≡◌, ◌∙◌, arith}
use Rattle.run_bytes.specs.Numbers.{be16_bytes}
use Rattle.run_bytes.specs.RunBytes.{last_bytes}
use Rattle.run_bytes.proofs.Numbers.{form16}
use Rattle.run_bytes.proofs.write_last.Goals as goal

pub returns-in-Some : goal.returns-in-Some
unfolding last_bytes
returns-in-Some c =
    let slot : c.to_be_bytes.result ≡ be16_bytes c.in-Some.slot.0 = c.to_be_bytes.ensures ∙ form16 _ (omega arith) in
    rw (c.put-in-Some.ensures, c.put.ensures, slot, c.in-Some.is)

pub returns-in-None : goal.returns-in-None
unfolding last_bytes
returns-in-None c = rw (c.put-in-None.ensures, c.in-None.is)
