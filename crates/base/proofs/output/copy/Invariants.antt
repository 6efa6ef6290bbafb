-- `base::output::copy` meets its contract: the bytes passed are in place, and the rest of the output is as it was.
-- Assumes nothing.
use Prim.Native.Nat.{◌≤◌}
use mathlib.Core.Path.{◌≡◌}
use lib.ListN.{length}
use lib.Seq.{paste}
use Rattle.base.proofs.output.copy.Given as goal

abbrev pub invariant-loop-j : goal.invariant-loop-j
invariant-loop-j l = (l.j ≤ length l.src) × (l.out ≡ paste l.initial.out l.at l.src l.j) × (length l.out ≡ length l.initial.out)
