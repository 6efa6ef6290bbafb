-- `server_snapshot::snapshot::snapshot_length` meets its contract: the total is that of the rows from the place reached
-- on. Assumes nothing.
use Prim.Native.Nat.{min}
use mathlib.Core.Path.{◌≡◌}
use lib.ListN.{drop}
use Rattle.base.specs.Output.{largest}
use Rattle.server_calls.specs.Snapshots.{snapshot_length}
use Rattle.server_snapshot.specs.Requests.{length_rows}
use Rattle.server_snapshot.proofs.snapshot.snapshot_length.Given as goal

abbrev pub invariant-loop-i : goal.invariant-loop-i
invariant-loop-i l = l.total ≡ min (snapshot_length l.identity l.subtree (drop l.i (length_rows l.count l.bytes l.lengths))) largest
