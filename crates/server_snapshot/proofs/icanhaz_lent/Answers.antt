-- `server_snapshot::icanhaz_lent` meets its contract: it is refused, or the snapshot is written. Assumes nothing.
use mathlib.Core.Path.{◌≡◌}
use lib.ListN.{length}
use borrow.Author.Rules.{rules}
use Rattle.row_cells.specs.Sizes.{byte_count}
use Rattle.server_snapshot.proofs.RequestLaws.{snapshot-refused, snapshot-fits, snapshot-answered}
use Rattle.server_state.specs.Views.{lent}
use Rattle.server_state.specs.declared.Server.{Server}
use Rattle.server_snapshot.proofs.icanhaz_lent.Goals as goal
use Rattle.server_snapshot.proofs.icanhaz_lent.Goals.{After-check_request, Start}

abbrev state : (c : Start) → Server
state s = lent s.args.bytes.now s.args.lengths.now s.args.stamps.now s.args.header

-- how long the array of bytes is
sized : (c : After-check_request) → length c.args.bytes.now ≡ byte_count
sized c = search rules

pub write_snapshot-written-requires : goal.write_snapshot-written-requires
write_snapshot-written-requires c = snapshot-fits (state ((goal.at.write_snapshot-written-requires c).Start)) (sized ((goal.at.write_snapshot-written-requires c).After-check_request)) c.args.msg.now c.split_message-split.result c.split_message-split.ensures c.args.out.now c.check_request.ensures c.in-Ok.is c.body-identity.ensures c.body-subtree.ensures

pub returns-in-Err : goal.returns-in-Err
returns-in-Err c = snapshot-refused (state ((goal.at.returns-in-Err c).Start)) (sized ((goal.at.returns-in-Err c).After-check_request)) c.args.msg.now c.split_message-split.result c.split_message-split.ensures c.args.out.now c.check_request.ensures c.in-Err.is c.without_output.ensures

pub returns-in-Ok : goal.returns-in-Ok
returns-in-Ok c =
    snapshot-answered (state ((goal.at.returns-in-Ok c).Start)) (sized ((goal.at.returns-in-Ok c).After-check_request)) c.args.msg.now c.split_message-split.result c.split_message-split.ensures c.args.out.now c.check_request.ensures c.in-Ok.is c.body-identity.ensures c.body-subtree.ensures c.write_snapshot-written.ensures c.with_output.ensures
