-- `server_snapshot::snapshot::write_snapshot` meets its contract: the rows, and KTHXBAI after them. Assumes nothing.
use Rattle.server_calls.proofs.SnapshotLaws.{rows_fit, snapshot-written}
use Rattle.server_state.specs.Views.{lent, row_list}
use Rattle.server_state.specs.declared.Server.{Server}
use Rattle.server_snapshot.proofs.snapshot.write_snapshot.Goals as goal
use Rattle.server_snapshot.proofs.snapshot.write_snapshot.Goals.{Start}

abbrev state : (c : Start) → Server
state s = lent s.args.bytes.now s.args.lengths.now s.args.stamps.now s.args.header

pub write_rows-rows-requires : goal.write_rows-rows-requires
write_rows-rows-requires c =
    let s = (goal.at.write_rows-rows-requires c).Start in
    (s.requires.0, rows_fit s.args.identity.now s.args.subtree.now s.args.out.now s.args.header.number.0 (row_list (state s)) s.requires.1)

pub returns : goal.returns
returns c =
    let s = (goal.at.returns c).Start in
    snapshot-written s.args.identity.now s.args.subtree.now s.args.out.now s.args.header.number.0 (row_list (state s)) s.requires.1 c.write_rows-rows.ensures c.write_identity-next.ensures c.write_kthxbai.ensures
