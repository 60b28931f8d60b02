-- Steps by their letters, for worked runs and samples: D with a time, T and S with a node.
use Prim.Native.Nat.{ℕ}
use Rattle.run.specs.declared.Step.{Step}
use Rattle.run.specs.declared.Step.TheVariants.{Delay, TickOf, SendOf}

abbrev pub D : ℕ → Step
D d = Delay (record { 0 = d })

abbrev pub T : ℕ → Step
T i = TickOf (record { 0 = i })

abbrev pub S : ℕ → Step
S i = SendOf (record { 0 = i })
