-- `server_snapshot::plan::check_room` meets its contract: the length of the snapshot is held against the output. Assumes
-- nothing.
use lib.ListN.{length}
use Rattle.framing.specs.Splits.{body_in}
use Rattle.server_snapshot.proofs.RequestLaws.{too_long, has_room}
use Rattle.server_snapshot.proofs.RowLaws.{snapshot-short}
use Rattle.server_snapshot.specs.Requests.{length_rows}
use Rattle.server_snapshot.proofs.plan.check_room.Goals as goal

pub snapshot_length-requires : goal.snapshot_length-requires
snapshot_length-requires c = c.requires.0

pub returns-then-room-snapshot_length : goal.returns-then-room-snapshot_length
returns-then-room-snapshot_length c = too_long (length_rows c.args.count c.args.bytes.now c.args.lengths.now) c.args.room c.body-identity.ensures c.body-subtree.ensures c.snapshot_length.ensures c.if-room-snapshot_length.true

pub returns : goal.returns
returns c =
    let a = c.args in
    has_room (length_rows c.args.count c.args.bytes.now c.args.lengths.now) c.args.room c.body-identity.ensures c.body-subtree.ensures c.snapshot_length.ensures
    (snapshot-short (length (body_in a.msg.now a.places 0)) (body_in a.msg.now a.places 2) a.count a.bytes.now a.lengths.now c.requires.0 c.requires.1.0 c.requires.1.1) c.if-room-snapshot_length.false
