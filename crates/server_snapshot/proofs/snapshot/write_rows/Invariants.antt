-- `server_snapshot::snapshot::write_rows` meets its contract: the rows before the place reached are written. Assumes
-- nothing.
use lib.ListN.{take}
use Rattle.base.specs.Output.{Written}
use Rattle.server_calls.specs.Snapshots.{syncs}
use Rattle.server_state.specs.Views.{lent, row_list}
use Rattle.server_snapshot.proofs.snapshot.write_rows.Given as goal

abbrev pub invariant-loop-i : goal.invariant-loop-i
invariant-loop-i l =
    Written l.initial.out 0 (syncs l.identity l.subtree (take l.i (row_list (lent l.bytes l.lengths l.stamps l.fn.header)))) l.at l.out
