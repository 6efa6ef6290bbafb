-- `keys::is_key` meets its contract: the flag tells of the bytes passed, and of all at the end. Assumes nothing.
use Prim.Native.Nat.{◌-◌}
use mathlib.Core.Bool.{◌&&◌}
use mathlib.Core.Path.{◌≡◌}
use lib.ListN.{get_or, drop}
use Rattle.keys.proofs.KeyLaws.{clean}
use Rattle.keys.proofs.is_key.Given as goal

abbrev pub invariant-loop-i : goal.invariant-loop-i
invariant-loop-i l = clean (get_or l.s 0 0) (drop 1 l.s) ≡ (l.good && clean (get_or l.s (l.i - 1) 0) (drop l.i l.s))
